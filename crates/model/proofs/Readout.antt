-- Document 02, Slip 4, of every accepted remap: its count, exactly; the same in closed form; document 01's bounds, which follow; and that no tracer has a part in it.
-- Assumes nothing.
use Rattle.std.specs.Prelude.{ℕ, ◌+◌, ◌*◌, ◌-◌, ◌≤◌, ◌<◌, List, ◌≡◌}
use Rattle.std.proofs.Common.{sym, ◌∙◌}
use Rattle.std.proofs.Math.Path.{ap}
use Rattle.model.specs.Basic.{at, sum, tab}
use Rattle.model.specs.World.{World, layer_cells}
use Rattle.model.specs.Remap.{column, column_count, common_edges, remap_count}
use Rattle.model.specs.Step.{Result, remap, accepted, refusal, step}
use Rattle.model.proofs.Laws.Basic.{sum_ext, sum_add, sum_le, sum_same}
use Rattle.model.proofs.Laws.Grid.{in_range_lem}
use Rattle.model.proofs.Laws.Step.{Fits, answer_is, step_accepted, accepted_passed}
use Rattle.model.proofs.Laws.Count.{column_count_is, column_count_lem}
use Rattle.model.proofs.Laws.Remap.{remap_edges, column_has}

module _ (w : World) (table : List ℕ) where
  -- of the column at place c: its pairs, and the inner edges that its old and new layers have in common
  abbrev pub pairs_at : ℕ → ℕ
  pairs_at c = column_count w.grid.K table (column w.grid w.air c)

  abbrev pub common_at : ℕ → ℕ
  common_at c = common_edges w.grid.K table (column w.grid w.air c)

  module _ (served : (step w (remap table)).answer ≡ 0) where
    not_refused : refusal w (remap table) ≡ 0
    not_refused = sym (answer_is w (remap table)) ∙ served

    fits : Fits w
    fits = (accepted_passed w (remap table) not_refused).0

    -- "exactly the number of pairs of an old and a new layer that share some air, summed over columns", the caps' two included
    pub readout_exact : (step w (remap table)).count ≡ sum (layer_cells w.grid) pairs_at
    unfolding accepted remap_count
    readout_exact = ap (λ (r : Result). r.count) (step_accepted w (remap table) not_refused)

    -- in closed form: for each column 2K − 1 less the inner edges in common, and so for all C columns together
    pub readout_closed : (c : ℕ) → c < layer_cells w.grid → pairs_at c + common_at c ≡ 2 * w.grid.K - 1
    readout_closed c h =
        let edges = remap_edges table w not_refused in
        column_count_is w.grid.K table _ (column_has w.grid table w.air fits.air edges c h) (edges c h).first (edges c h).last (edges c h).rises
        (in_range_lem w.grid fits.grid).low_k

    pub readout_all : (step w (remap table)).count + sum (layer_cells w.grid) common_at ≡ layer_cells w.grid * (2 * w.grid.K - 1)
    readout_all =
        ap (λ (n : ℕ). n + sum (layer_cells w.grid) common_at) readout_exact ∙
        sym (sum_add (layer_cells w.grid) pairs_at common_at) ∙
        sum_ext (layer_cells w.grid) _ _ readout_closed ∙
        sum_same (layer_cells w.grid) (2 * w.grid.K - 1)

    -- "The old bounds then follow from it." (document 01: "between K and 2K − 1 for each column, summed over columns")
    pub readout_bounds :
        ((c : ℕ) → c < layer_cells w.grid → (w.grid.K ≤ pairs_at c) × (pairs_at c ≤ 2 * w.grid.K - 1))
        × (layer_cells w.grid * w.grid.K ≤ (step w (remap table)).count)
        × ((step w (remap table)).count ≤ layer_cells w.grid * (2 * w.grid.K - 1))
    readout_bounds =
        let places = layer_cells w.grid in
        let K = w.grid.K in (
          each,
          rw (← sum_same places K, readout_exact) (sum_le places (λ c. K) _ (λ c h. (each c h).0)),
          rw (← sum_same places (2 * K - 1), readout_exact) (sum_le places _ (λ c. 2 * K - 1) (λ c h. (each c h).1)),
        )
      where
        each : (c : ℕ) → c < layer_cells w.grid → (w.grid.K ≤ pairs_at c) × (pairs_at c ≤ 2 * w.grid.K - 1)
        each c h =
            let edges = remap_edges table w not_refused in
            column_count_lem w.grid.K table _ (column_has w.grid table w.air fits.air edges c h) (edges c h).first (edges c h).last (edges c h).rises
            (in_range_lem w.grid fits.grid).low_k

-- in two worlds with as many places and layers and the same air, a remap by one table that both accept has the same count, whatever tracers they have and however many
pub readout_by_air :
    (w v : World) (table : List ℕ) → layer_cells w.grid ≡ layer_cells v.grid → w.grid.K ≡ v.grid.K → w.air ≡ v.air →
    (step w (remap table)).answer ≡ 0 → (step v (remap table)).answer ≡ 0 → (step w (remap table)).count ≡ (step v (remap table)).count
unfolding column
readout_by_air w v table same_places sameLayers same_air served served' =
    readout_exact w table served ∙
    (λ z. sum (same_places z) (λ c. column_count (sameLayers z) table (tab (sameLayers z) (λ k. at (same_air z) (k * same_places z + c))))) ∙
    sym (readout_exact v table served')
