-- A column as a line of cells, whose low end is the column's top: what a tracer's walk needs of it, and what it gives.
-- Assumes what `Spans` and `ColumnGasNeed` say of the lists.
use Rattle.std.specs.Prelude.{ℕ, suc, ◌+◌, ◌-◌, ◌≤◌, ◌<◌, List, Bool, ◌≡◌}
use Rattle.std.proofs.Common.{⊎_elim, sym, ap, ap₂, ◌∙◌, mod-eq_of_lt, arith}
use Rattle.units.specs.declared.Mismatch as code
use Rattle.model.specs.Basic.{at, sum}
use Rattle.model.specs.Limiters.{Limiter, rule_for}
use Rattle.model.specs.Remap.{air_above, edge, amount_above, column_count}
use Rattle.model.specs.Walk.{ends_passed, layer_of, column_walk, budget}
use Rattle.model.proofs.Laws.Basic.{le_or_lt, sum_ext, sum_tab, at_tab}
use Rattle.model.specs.Long.{line_air}
use Rattle.model.proofs.Laws.Walk.{walk_same, ends_alike, walk_not_before}
use Rattle.model.proofs.Laws.Ends.{column_pairs_by_walk}
use Rattle.line.specs.Line.{cell_at, LineNeed, line_walk, line_ends, IsWalk}
use Rattle.line.specs.Tracer.{between_is}
use Rattle.column.specs.Column.{firsts, AreEdges}
use Rattle.column.specs.Gas.{AreSlopes, Spans, ColumnGasNeed, IsRemapped}
use Rattle.column.specs.Slopes.{layer_is, layers_are_lem, slope_small}

module _ {k : ℕ} {air e : List ℕ} (spans : Spans k air e) where
  pub last_is : at e k ≡ sum k (at air)
  last_is = spans.last ∙ sum_tab k (at air)

-- ---- a tracer's walk
module _
    {l : Limiter} {cap : Bool} {k : ℕ} {air gas q : List ℕ} {slopes₀ slopes : List code.Mismatch} {e newgas : List ℕ}
    (need : ColumnGasNeed k air gas q slopes₀ e newgas) (filled : AreSlopes l cap k q slopes) where
  pub line_need : LineNeed k air gas slopes e k newgas
  line_need =
      let spans = need.spans in
      record {
        some = spans.some;
        fit = omega (arith, spans.fit);
        room_air = spans.room_air;
        room_gas = need.room_gas;
        room_slopes = filled.room_slopes;
        least = spans.least;
        most = spans.most;
        total = need.total;
        small = slope_small need.ratios filled;
        few = omega (arith, spans.fit);
        room_edges = spans.room_edges;
        first = spans.first;
        rises = λ j h. omega (arith, spans.rises j h);
        last = omega (arith, last_is spans);
        room = need.room;
      }

  -- the walk is the column's, and the amounts between the edges are the model's
  line_air_lem : line_air k air k ≡ sum k (at air)
  line_air_lem = sum_ext k _ _ (λ i h. ap (at air) (mod-eq_of_lt h))

  reach : at e k ≤ line_air k air k
  reach = omega (arith, last_is need.spans, line_air_lem)

  walk_is :
      (table : List ℕ) → AreEdges table (air_above (firsts k air) k) k e →
      line_walk k air gas slopes e k ≡ column_walk (rule_for l) cap k table (firsts k air) (firsts k gas)
  walk_is table are =
      let line = line_need in
      let same =
      walk_same (cell_at k air gas slopes) k line.some (λ i h. rw (mod-eq_of_lt h) (line.least i h)) (at e) k line.first line.rises reach
      (layer_of (rule_for l) cap k (firsts k air) (firsts k gas)) (edge table (air_above (firsts k air) k)) (layer_is need.ratios filled) are.is in
      λ z s. same s z

  -- no fewer steps reach the last edge, at which the last layer ends
  not_before_lem : (s : ℕ) → s + 1 < budget k → (line_walk k air gas slopes e k s).edges < k
  not_before_lem s h =
      let line = line_need in
      walk_not_before (cell_at k air gas slopes) k line.some (λ i h. rw (mod-eq_of_lt h) (line.least i h)) (at e) k line.first line.rises reach
      (last_is need.spans ∙ sym line_air_lem) s (omega arith)

  -- the ends passed are the column's, and by them its pairs
  ends_are :
      (table : List ℕ) → AreEdges table (air_above (firsts k air) k) k e → (s : ℕ) →
      line_ends k air gas slopes e k s ≡ ends_passed (layer_of (rule_for l) cap k (firsts k air) (firsts k gas)) (edge table (air_above (firsts k air) k)) k s
  ends_are table are =
      let line = line_need in
      ends_alike (cell_at k air gas slopes) k line.some (λ i h. rw (mod-eq_of_lt h) (line.least i h)) (at e) k line.first line.rises reach
      (layer_of (rule_for l) cap k (firsts k air) (firsts k gas)) (edge table (air_above (firsts k air) k)) (layer_is need.ratios filled) are.is

  pairs_are :
      (table : List ℕ) → AreEdges table (air_above (firsts k air) k) k e → (s : ℕ) → (line_walk k air gas slopes e k s).edges ≡ k →
      column_count k table (firsts k air) + line_ends k air gas slopes e k s ≡ budget k
  pairs_are table are s done =
      let spans = need.spans in
      ap (λ (n : ℕ). column_count k table (firsts k air) + n) (ends_are table are s) ∙
      column_pairs_by_walk (rule_for l) cap k table (firsts k air) (firsts k gas) spans.some
      (λ i h. rw (at_tab k (at air) i h) (spans.least i h))
      (sym (are.is 0 (omega arith)) ∙ spans.first)
      (sym (are.is k (omega arith)) ∙ spans.last)
      (λ j h. rw (← are.is j (omega arith), ← are.is (suc j) h) (spans.rises j h))
      s
      (rw (walk_is table are) at done)

  pub remapped_is : {r : List ℕ} {steps ends : ℕ} → IsWalk k air gas slopes e k r steps ends → IsRemapped l cap k air gas e r steps ends
  remapped_is {r} {steps} {ends} made =
      let same = layers_are_lem need.ratios filled in
      record {
        most = omega (arith, made.few k line_need.some reach);
        exact =
            ⊎_elim
            (λ (all : budget k ≤ steps + 1). omega (arith, made.few k line_need.some reach))
            (λ (fewer : steps + 1 < budget k). absurd (omega (arith, made.reaches, not_before_lem steps fewer)))
            (le_or_lt (budget k) (steps + 1));
        reaches = λ table are. rw (walk_is table are) at made.reaches;
        walked = λ table are j h. rw (walk_is table are) at (made.is j h);
        is =
            λ table are j h.
            (between_is line_need made).is k reach j h ∙
            ap₂ ◌-◌ (ap₂ amount_above same (are.is (suc j) h)) (ap₂ amount_above same (are.is j (omega arith)));
        counted =
            record { is = λ table are. ap (λ (n : ℕ). column_count k table (firsts k air) + n) made.ended ∙ pairs_are table are steps made.reaches };
      }
