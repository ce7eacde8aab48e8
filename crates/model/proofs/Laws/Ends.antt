-- The ends of old layers that a walk passes at an edge: they are the edges at which a layer ends. So a column's pairs are 2K less those of any tracer's walk.
-- Assumes air in every layer, and edges that rise strictly from 0 to the layers' end or before it.
use Prim.Native.Nat.{ℕ, zero, suc, ◌+◌, ◌-◌, ◌≤◌, ◌<◌}
use Rattle.std.specs.Prelude.{List, Bool, ◌≢◌, ◌≡◌}
use Rattle.std.proofs.Math.Logic.{⊎_elim}
use Rattle.std.proofs.Math.Path.{refl}
use Rattle.std.proofs.Common.{sym, ◌∙◌, ap, eq-or-lt_of_le, arith}
use Rattle.model.specs.Basic.{at, sum}
use Rattle.model.specs.Scheme.{Rule}
use Rattle.model.specs.Remap.{ColumnLayer, air_above, edge, column_count}
use Rattle.model.specs.Walk.{Walk, walk_step, walk, ends_passed, layer_of, column_walk, budget}
use Rattle.model.proofs.Laws.Basic.{le_or_lt, sum_zero, sum_changed, sum_fewer}
use Rattle.model.proofs.Laws.Above.{air_of}
use Rattle.model.proofs.Laws.Count.{same, column_count_by_ends}
use Rattle.model.proofs.Laws.Walk.{Stands, stands, step_edge, step_layer, step_none, ends_none, ends_more, ends_same, ends_over}

-- ---- a walk: the ends that it passes are those that edges passed lie at
module _
    (f : ℕ → ColumnLayer) (n : ℕ) (some : 1 ≤ n) (has : (k : ℕ) → k < n → 1 ≤ (f k).air)
    (e : ℕ → ℕ) (m : ℕ) (first : e 0 ≡ 0) (rises : (j : ℕ) → j < m → e j < e (suc j)) (last : e m ≤ air_of f n) where
  rises_le : (j : ℕ) → j < m → e j ≤ e (suc j)
  rises_le j h = omega (arith, rises j h)

  standing : (s : ℕ) → Stands f n e m s (walk f e m s)
  standing = stands f n some has e m first rises_le last

  air_steps : (k : ℕ) → k < n → air_of f k < air_of f (suc k)
  unfolding sum
  air_steps k h = omega (arith, has k h)

  -- the edge due lies past the layers passed
  ahead : (s : ℕ) → (walk f e m s).edges < m → (walk f e m s).above < e (suc (walk f e m s).edges)
  unfolding walk
  ahead zero h = omega (arith, first, rises 0 (omega arith))
  ahead (suc s) h = go h
    where
      w : Walk
      w = walk f e m s

      go : (walk_step f e m w).edges < m → (walk_step f e m w).above < e (suc (walk_step f e m w).edges)
      go =
          ⊎_elim
          (λ (over : m ≤ w.edges). rw (step_none f e m w over) (λ (q : w.edges < m). absurd (omega arith)))
          (λ (more : w.edges < m).
          ⊎_elim
          (λ (le : e (suc w.edges) ≤ w.above + (f w.layers).air).
          rw (step_edge f e m w more le) (λ (q : suc w.edges < m). omega (arith, (standing s).ahead more, rises (suc w.edges) q)))
          (λ (lt : w.above + (f w.layers).air < e (suc w.edges)). rw (step_layer f e m w more lt) (λ (q : w.edges < m). lt))
          (le_or_lt _ _))
          (le_or_lt _ _)

  -- how many layers end at edge j + 1
  abbrev ends_at : ℕ → ℕ
  ends_at j = sum n (λ k. same (air_of f (suc k)) (e (suc j)))

  -- a place in layer L is the end of that layer or of none
  one_end : (L x : ℕ) → L < n → air_of f L < x → x ≤ air_of f (suc L) → sum n (λ k. same (air_of f (suc k)) x) ≡ same (air_of f (suc L)) x
  one_end L x h low high =
      omega (arith, sum_changed n (λ k. 0) (λ k. same (air_of f (suc k)) x) L h elsewhere, sum_zero n)
    where
      elsewhere : (k : ℕ) → k < n → k ≢ L → same (air_of f (suc k)) x ≡ 0
      elsewhere k p other =
          ⊎_elim
          (λ (q : k ≤ L). omega (arith, low, sum_fewer (λ k. (f k).air) (suc k) L (before_it q)))
          (λ (q : L < k). omega (arith, high, air_steps k p, sum_fewer (λ k. (f k).air) (suc L) k q))
          (le_or_lt k L)
        where
          before_it : k ≤ L → suc k ≤ L
          before_it q = ⊎_elim (λ (same : k ≡ L). absurd (other same)) (λ (lt : k < L). lt) (eq-or-lt_of_le q)

  ends_next : (s : ℕ) → ends_passed f e m s ≡ sum (walk f e m s).edges ends_at → ends_passed f e m (suc s) ≡ sum (walk_step f e m (walk f e m s)).edges ends_at
  unfolding sum
  ends_next s before =
      ⊎_elim
      (λ (over : m ≤ w.edges). rw (step_none f e m w over) (ends_over f e m s refl over ∙ before))
      (λ (more : w.edges < m).
      ⊎_elim
      (λ (le : e (suc w.edges) ≤ end).
      rw (step_edge f e m w more le)
      (⊎_elim
      (λ (past : end ≤ e (suc w.edges)). ends_more f e m s refl more (omega arith) ∙ omega (arith, before, one more le))
      (λ (inside : e (suc w.edges) < end).
      ends_same f e m s refl (λ (q : e (suc w.edges) ≡ end). omega arith) ∙ omega (arith, before, one more le))
      (le_or_lt end (e (suc w.edges)))))
      (λ (lt : end < e (suc w.edges)). rw (step_layer f e m w more lt) (ends_same f e m s refl (λ (q : e (suc w.edges) ≡ end). omega arith) ∙ before))
      (le_or_lt _ _))
      (le_or_lt _ _)
    where
      w : Walk
      w = walk f e m s

      end : ℕ
      end = w.above + (f w.layers).air

      end_is : end ≡ air_of f (suc w.layers)
      end_is = omega (arith, (standing s).above)

      one : w.edges < m → e (suc w.edges) ≤ end → ends_at w.edges ≡ same end (e (suc w.edges))
      one more le =
          one_end w.layers (e (suc w.edges)) (standing s).layer (omega (arith, (standing s).above, ahead s more)) (omega (arith, end_is)) ∙
          ap (λ (x : ℕ). same x (e (suc w.edges))) (sym end_is)

  pub ends_are : (s : ℕ) → ends_passed f e m s ≡ sum (walk f e m s).edges ends_at
  unfolding walk sum
  ends_are zero = ends_none f e m
  ends_are (suc s) = ends_next s (ends_are s)

-- ---- a column: its pairs, and the ends that a tracer's walk passes, are 2K
pub column_pairs_by_walk :
    (rule : Rule) (cap : Bool) (K : ℕ) (table air gas : List ℕ) → 1 ≤ K → ((k : ℕ) → k < K → 1 ≤ at air k) →
    edge table (air_above air K) 0 ≡ 0 → edge table (air_above air K) K ≡ air_above air K →
    ((j : ℕ) → j < K → edge table (air_above air K) j < edge table (air_above air K) (suc j)) →
    (s : ℕ) → (column_walk rule cap K table air gas s).edges ≡ K →
    column_count K table air + ends_passed (layer_of rule cap K air gas) (edge table (air_above air K)) K s ≡ budget K
column_pairs_by_walk rule cap K table air gas some has first last rises s done =
    omega (
      arith,
      ends_are (layer_of rule cap K air gas) K some has (edge table (air_above air K)) K first rises (omega (arith, last)) s,
      ap (λ (n : ℕ). sum n (λ j. sum K (λ k. same (air_above air (suc k)) (edge table (air_above air K) (suc j))))) done,
      column_count_by_ends K table air has first last rises some,
    )
