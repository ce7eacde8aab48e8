-- The walk in steps: where it stands, that its marks are G at the edges, and how many steps it takes; then a column's walk within 2K steps.
-- Assumes air in every layer, edges that never fall from 0 on, and layers that reach the last edge.
use Prim.Native.Nat.{ℕ, zero, suc, ◌+◌, ◌-◌, ◌≤◌, ◌<◌}
use Rattle.std.specs.Prelude.{List, Bool, ◌&&◌, ◌≡◌, leb, eqb}
use Rattle.std.proofs.Math.Bool.{true, false, and-false}
use Rattle.std.proofs.Math.Logic.{⊎_elim}
use Rattle.std.proofs.Math.Path.{refl, ap}
use Rattle.std.proofs.Common.{sym, ◌∙◌, ap₂, le_trans, arith}
use borrow.Author.Tests.{le-leb, lt-leb, lt-ltb, le-ltb, ltb-true, eq-eqb, ne_eqb}
use Rattle.std.proofs.Math.Dec.{ltb}
use Rattle.model.specs.Basic.{at, sum, tab}
use Rattle.model.specs.Scheme.{Rule}
use Rattle.model.specs.Remap.{ColumnLayer, air_above, edge, layers, amount_above}
use Rattle.model.specs.Walk.{Walk, at_top, pass_layer, pass_edge, walk_step, walk, passes_end, ends_passed, layer_of, column_walk, budget, InBudget}
use Rattle.model.proofs.Laws.Basic.{le_or_lt, how_many_none, how_many_more, how_many_most, how_many_ext, sum_fewer, steps_rise}
use Rattle.model.proofs.Laws.Above.{air_of, tracer_of, amount_none, amount_at_lem}
use Rattle.model.proofs.Laws.Column.{Edges, layers_are_lem}

-- after s steps: in layer w .layers of n, having passed edge w .edges of m
pub record Stands (f : ℕ → ColumnLayer) (n : ℕ) (e : ℕ → ℕ) (m s : ℕ) (w : Walk) : Type 0 where
  pub layer : w.layers < n
  pub edge : w.edges ≤ m
  pub above : w.above ≡ air_of f w.layers
  pub amount : w.amount ≡ tracer_of f w.layers
  pub mark : w.mark ≡ amount_above (tab n f) (e w.edges)
  pub ahead : w.edges < m → w.above ≤ e (suc w.edges)
  pub reached : e w.edges ≤ air_of f (suc w.layers)
  pub few : w.layers + w.edges ≤ s
  pub each : w.edges < m → w.layers + w.edges ≡ s

-- no step, and one more
module _ (f : ℕ → ColumnLayer) (e : ℕ → ℕ) (m : ℕ) where
  pub walk_start : walk f e m 0 ≡ at_top
  unfolding walk
  walk_start = refl

  pub walk_more : (s : ℕ) → walk f e m (suc s) ≡ walk_step f e m (walk f e m s)
  unfolding walk
  walk_more s = refl

-- a step by its three cases
module _ (f : ℕ → ColumnLayer) (e : ℕ → ℕ) (m : ℕ) (w : Walk) where
  pub step_edge : w.edges < m → e (suc w.edges) ≤ w.above + (f w.layers).air → walk_step f e m w ≡ pass_edge (f w.layers) (e (suc w.edges)) w
  unfolding walk_step
  step_edge h le = rw (lt-ltb _ _ h, le-leb _ _ le, walk_step)

  pub step_layer : w.edges < m → w.above + (f w.layers).air < e (suc w.edges) → walk_step f e m w ≡ pass_layer (f w.layers) w
  unfolding walk_step
  step_layer h lt = rw (lt-ltb _ _ h, lt-leb _ _ lt, walk_step)

  pub step_none : m ≤ w.edges → walk_step f e m w ≡ w
  unfolding walk_step
  step_none h = rw (le-ltb _ _ h, walk_step)

-- the ends passed by no step, and by one more: an end, or none
module _ (f : ℕ → ColumnLayer) (e : ℕ → ℕ) (m : ℕ) where
  pub ends_none : ends_passed f e m 0 ≡ 0
  ends_none = how_many_none _

  pub ends_most : (s : ℕ) → ends_passed f e m s ≤ s
  ends_most s = how_many_most s _

  module _ (s : ℕ) {w : Walk} (is : walk f e m s ≡ w) where
    here : (b : Bool) → passes_end f e m w ≡ b → passes_end f e m (walk f e m s) ≡ b
    here b test = ap (passes_end f e m) is ∙ test

    pub ends_more : w.edges < m → e (suc w.edges) ≡ w.above + (f w.layers).air → ends_passed f e m (suc s) ≡ suc (ends_passed f e m s)
    ends_more h ends = how_many_more s _ true (here true (ap₂ ◌&&◌ (lt-ltb _ _ h) (eq-eqb _ _ ends)))

    pub ends_same : (e (suc w.edges) ≡ w.above + (f w.layers).air → ⊥) → ends_passed f e m (suc s) ≡ ends_passed f e m s
    ends_same other = how_many_more s _ false (here false (ap (λ (b : Bool). ltb w.edges m && b) (ne_eqb _ _ other) ∙ and-false (ltb w.edges m)))

    pub ends_over : m ≤ w.edges → ends_passed f e m (suc s) ≡ ends_passed f e m s
    ends_over h = how_many_more s _ false (here false (ap (λ (b : Bool). b && eqb (e (suc w.edges)) (w.above + (f w.layers).air)) (le-ltb _ _ h)))

module _
    (f : ℕ → ColumnLayer) (n : ℕ) (some : 1 ≤ n) (has : (k : ℕ) → k < n → 1 ≤ (f k).air)
    (e : ℕ → ℕ) (m : ℕ) (first : e 0 ≡ 0) (rises : (j : ℕ) → j < m → e j ≤ e (suc j)) (last : e m ≤ air_of f n) where
  edge_le : (j : ℕ) → j ≤ m → e j ≤ air_of f n
  edge_le j h = le_trans (steps_rise m e rises j h) last

  module _ (s : ℕ) (w : Walk) (at_s : Stands f n e m s w) (h : w.edges < m) where
    abbrev l : ColumnLayer
    l = f w.layers

    end_is : w.above + l.air ≡ air_of f (suc w.layers)
    unfolding sum
    end_is = omega (arith, at_s.above)

    stands_edge : e (suc w.edges) ≤ w.above + l.air → Stands f n e m (suc s) (pass_edge l (e (suc w.edges)) w)
    stands_edge le =
        let low : air_of f w.layers ≤ e (suc w.edges) = rw (← at_s.above) (at_s.ahead h) in
        let high : e (suc w.edges) ≤ air_of f (suc w.layers) = omega (arith, end_is) in
        record {
          layer = at_s.layer;
          edge = omega arith;
          above = at_s.above;
          amount = at_s.amount;
          mark =
              rw (at_s.above, at_s.amount)
              (sym (amount_at_lem f n has w.layers (e (suc w.edges)) at_s.layer low high));
          ahead = λ q. omega (arith, at_s.ahead h, rises (suc w.edges) q);
          reached = high;
          few = omega (arith, at_s.few);
          each = λ q. omega (arith, at_s.each h);
        }

    stands_layer : w.above + l.air < e (suc w.edges) → Stands f n e m (suc s) (pass_layer l w)
    unfolding sum
    stands_layer lt =
        record {
          layer =
              ⊎_elim
              (λ (q : n ≤ suc w.layers). absurd (not_last q))
              (λ (q : suc w.layers < n). q)
              (le_or_lt n (suc w.layers));
          edge = at_s.edge;
          above = omega (arith, end_is);
          amount = omega (arith, at_s.amount);
          mark = at_s.mark;
          ahead = λ q. omega arith;
          reached = omega (arith, at_s.reached);
          few = omega (arith, at_s.few);
          each = λ q. omega (arith, at_s.each h);
        }
      where
        not_last : n ≤ suc w.layers → ⊥
        not_last q =
            omega (arith, lt, end_is, edge_le (suc w.edges) h, sum_fewer (λ k. (f k).air) n (suc w.layers) q)

  stands_next : (s : ℕ) (w : Walk) → Stands f n e m s w → Stands f n e m (suc s) (walk_step f e m w)
  stands_next s w at_s =
      ⊎_elim
      (λ (h : m ≤ w.edges). rw (step_none f e m w h) (still h))
      (λ (h : w.edges < m).
      ⊎_elim
      (λ (le : e (suc w.edges) ≤ w.above + (f w.layers).air). rw (step_edge f e m w h le) (stands_edge s w at_s h le))
      (λ (lt : w.above + (f w.layers).air < e (suc w.edges)). rw (step_layer f e m w h lt) (stands_layer s w at_s h lt))
      (le_or_lt _ _))
      (le_or_lt _ _)
    where
      still : m ≤ w.edges → Stands f n e m (suc s) w
      still h =
          record {
            layer = at_s.layer;
            edge = at_s.edge;
            above = at_s.above;
            amount = at_s.amount;
            mark = at_s.mark;
            ahead = at_s.ahead;
            reached = at_s.reached;
            few = omega (arith, at_s.few);
            each = λ q. absurd (omega arith);
          }

  pub stands : (s : ℕ) → Stands f n e m s (walk f e m s)
  unfolding walk sum
  stands zero =
      record {
        layer = some;
        edge = omega arith;
        above = refl;
        amount = refl;
        mark = rw first (sym (amount_none f n has));
        ahead = λ q. omega arith;
        reached = omega (arith, first);
        few = omega arith;
        each = λ q. refl;
      }
  stands (suc s) = stands_next s (walk f e m s) (stands s)

  -- layers and edges that are the same as far as the walk goes
  module _ (g : ℕ → ColumnLayer) (d : ℕ → ℕ) (layers_are : (k : ℕ) → k < n → f k ≡ g k) (edges_are : (j : ℕ) → j ≤ m → e j ≡ d j) where
    step_same : (w : Walk) → w.layers < n → walk_step f e m w ≡ walk_step g d m w
    unfolding walk_step
    step_same w h = go (ltb w.edges m) refl
      where
        go : (b : Bool) → ltb w.edges m ≡ b → walk_step f e m w ≡ walk_step g d m w
        go true q =
            rw (q, walk_step)
            (ap₂ (λ (l : ColumnLayer) (x : ℕ). elim (leb x (w.above + l.air)) [ true ↦ pass_edge l x w | false ↦ pass_layer l w ])
            (layers_are w.layers h) (edges_are (suc w.edges) (ltb-true _ _ q)))
        go false q = rw (q, walk_step)

    pub walk_same : (s : ℕ) → walk f e m s ≡ walk g d m s
    unfolding walk
    walk_same zero = refl
    walk_same (suc s) = step_same (walk f e m s) (stands s).layer ∙ ap (walk_step g d m) (walk_same s)

    pub ends_alike : (s : ℕ) → ends_passed f e m s ≡ ends_passed g d m s
    ends_alike s =
        how_many_ext s _ _ (λ t h. go t (ltb (walk f e m t).edges m) refl ∙ ap (passes_end g d m) (walk_same t))
      where
        go : (t : ℕ) (b : Bool) → ltb (walk f e m t).edges m ≡ b → passes_end f e m (walk f e m t) ≡ passes_end g d m (walk f e m t)
        go t true q =
            ap₂ (λ (l : ColumnLayer) (x : ℕ). ltb (walk f e m t).edges m && eqb x ((walk f e m t).above + l.air))
            (layers_are (walk f e m t).layers (stands t).layer) (edges_are (suc (walk f e m t).edges) (ltb-true _ _ q))
        go t false q =
            ap (λ (b : Bool). b && eqb (e (suc (walk f e m t).edges)) ((walk f e m t).above + (f (walk f e m t).layers).air)) q ∙
            sym (ap (λ (b : Bool). b && eqb (d (suc (walk f e m t).edges)) ((walk f e m t).above + (g (walk f e m t).layers).air)) q)

  -- from n + m − 1 steps on the last edge is passed; before them it is not, if the last layer ends there
  pub walk_reaches : (s : ℕ) → n + m ≤ suc s → (walk f e m s).edges ≡ m
  walk_reaches s h =
      let at_s = stands s in
      ⊎_elim
      (λ (q : m ≤ (walk f e m s).edges). omega (arith, at_s.edge))
      (λ (q : (walk f e m s).edges < m). absurd (omega (arith, at_s.layer, at_s.each q)))
      (le_or_lt m (walk f e m s).edges)

  at_bottom : e m ≡ air_of f n → (s : ℕ) → (walk f e m s).edges ≡ m → n ≤ suc (walk f e m s).layers
  unfolding sum
  at_bottom ends s done =
      let at_s = stands s in
      let passed : ℕ = suc (walk f e m s).layers in
      ⊎_elim
      (λ (q : n ≤ passed). q)
      (λ (q : passed < n). absurd (omega (arith, at_s.reached, ap e done, ends, has passed q, sum_fewer (λ k. (f k).air) (suc passed) n q)))
      (le_or_lt n passed)

  pub walk_not_before : e m ≡ air_of f n → (s : ℕ) → suc s < n + m → (walk f e m s).edges < m
  walk_not_before ends s h =
      let at_s = stands s in
      ⊎_elim
      (λ (q : m ≤ (walk f e m s).edges). absurd (omega (arith, at_s.few, at_bottom ends s (omega (arith, at_s.edge)))))
      (λ (q : (walk f e m s).edges < m). q)
      (le_or_lt m (walk f e m s).edges)

  -- until then each step passes one edge or one layer
  pub walk_passes : e m ≡ air_of f n → (s : ℕ) → s < n + m → (walk f e m s).layers + (walk f e m s).edges ≡ s
  walk_passes ends s h =
      let at_s = stands s in
      ⊎_elim
      (λ (q : m ≤ (walk f e m s).edges). omega (arith, at_s.few, at_s.edge, at_bottom ends s (omega (arith, at_s.edge))))
      (λ (q : (walk f e m s).edges < m). at_s.each q)
      (le_or_lt m (walk f e m s).edges)

-- a step passes one edge at most, so each edge is passed by some step
edge_steps : (f : ℕ → ColumnLayer) (e : ℕ → ℕ) (m : ℕ) (w : Walk) → (walk_step f e m w).edges ≤ suc w.edges
edge_steps f e m w =
    ⊎_elim
    (λ (h : m ≤ w.edges). rw (step_none f e m w h) (omega arith))
    (λ (h : w.edges < m).
    ⊎_elim
    (λ (le : e (suc w.edges) ≤ w.above + (f w.layers).air). rw (step_edge f e m w h le) (omega arith))
    (λ (lt : w.above + (f w.layers).air < e (suc w.edges)). rw (step_layer f e m w h lt) (omega arith))
    (le_or_lt _ _))
    (le_or_lt _ _)

edge_passed :
    (f : ℕ → ColumnLayer) (e : ℕ → ℕ) (m s j : ℕ) → j < (walk f e m s).edges →
    (t : ℕ) × (t < s) × ((walk f e m t).edges ≡ j) × ((walk f e m (suc t)).edges ≡ suc j)
unfolding walk
edge_passed f e m zero j h = absurd (omega arith)
edge_passed f e m (suc s) j h =
    ⊎_elim
    (λ (q : (walk f e m s).edges ≤ j).
    let one = edge_steps f e m (walk f e m s) in
    (s, omega arith, omega (arith, one), omega (arith, one)))
    (λ (q : j < (walk f e m s).edges).
    let r = edge_passed f e m s j q in
    (r.0, omega (arith, r.1), r.2, r.3))
    (le_or_lt _ _)

-- ---- a column
pub column_in_budget :
    (rule : Rule) (cap : Bool) (K : ℕ) (table air gas : List ℕ) → 1 ≤ K → ((k : ℕ) → k < K → 1 ≤ at air k) →
    Edges K table (air_above air K) →
    InBudget (column_walk rule cap K table air gas) K (layers rule cap K air gas) (edge table (air_above air K))
column_in_budget rule cap K table air gas some has edges =
    record {
      reaches = reach (budget K) (omega arith);
      each = λ s h. walk_passes f K some has e K edges.first rises last edges.last s (omega arith);
      marks = marks;
      results =
          λ j h.
          let r = edge_passed f e K (budget K) j (omega (arith, reach (budget K) (omega arith))) in (
            r.0,
            r.1,
            record {
              before = r.2;
              after = r.3;
              gained =
                  ap₂ (λ (x y : ℕ). amount_above (layers rule cap K air gas) (e y) - amount_above (layers rule cap K air gas) (e x)) (sym r.2) (sym r.3) ∙
                  ap₂ ◌-◌ (sym (marks (suc r.0))) (sym (marks r.0));
            },
          );
      from = λ s h. reach s (omega arith);
      not_before = λ s h. walk_not_before f K some has e K edges.first rises last edges.last s (omega arith);
    }
  where
    f : ℕ → ColumnLayer
    f = layer_of rule cap K air gas

    e : ℕ → ℕ
    e = edge table (air_above air K)

    rises : (j : ℕ) → j < K → e j ≤ e (suc j)
    rises j h = omega (arith, edges.rises j h)

    last : e K ≤ air_of f K
    last = omega (arith, edges.last)

    reach : (s : ℕ) → K + K ≤ suc s → (walk f e K s).edges ≡ K
    reach = walk_reaches f K some has e K edges.first rises last

    marks : (s : ℕ) → (walk f e K s).mark ≡ amount_above (layers rule cap K air gas) (e (walk f e K s).edges)
    marks s =
        (stands f K some has e K edges.first rises last s).mark ∙
        ap (λ (ls : List ColumnLayer). amount_above ls (e (walk f e K s).edges)) (sym (layers_are_lem rule cap K air gas))
