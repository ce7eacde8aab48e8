-- Document 02, Slip 3, as one theorem: wherever a remap is accepted, each column's walk with each tracer reaches the last edge within 2K steps.
-- Assumes nothing.
use Rattle.std.specs.Prelude.{ℕ, ◌<◌, List, ◌≡◌}
use Rattle.std.proofs.Common.{sym, ◌∙◌}
use Rattle.model.specs.World.{World, layer_cells, gas}
use Rattle.model.specs.Limiters.{rule_of}
use Rattle.model.specs.Remap.{column, air_above, edge, layers, is_cap}
use Rattle.model.specs.Walk.{column_walk, InBudget}
use Rattle.model.specs.Step.{remap, step}
use Rattle.model.proofs.Laws.Grid.{in_range_lem}
use Rattle.model.proofs.Laws.Step.{answer_is, accepted_passed}
use Rattle.model.proofs.Laws.Remap.{remap_edges, column_has}
use Rattle.model.proofs.Laws.Walk.{column_in_budget}

-- "Proved for each column and tracer": place c of any world, a cap's too, and tracer t
pub remap_in_budget :
    (w : World) (table : List ℕ) → (step w (remap table)).answer ≡ 0 → (c t : ℕ) → c < layer_cells w.grid →
    let K = w.grid.K in
    let cap = is_cap w.grid c in
    let air = column w.grid w.air c in
    let had = column w.grid (gas w t) c in
    InBudget (column_walk (rule_of w t) cap K table air had) K (layers (rule_of w t) cap K air had) (edge table (air_above air K))
remap_in_budget w table accepted c t h =
    let e = sym (answer_is w (remap table)) ∙ accepted in
    let fits = (accepted_passed w (remap table) e).0 in
    let edges = remap_edges table w e in
    column_in_budget (rule_of w t) (is_cap w.grid c) w.grid.K table _ _ (in_range_lem w.grid fits.grid).low_k
    (column_has w.grid table w.air fits.air edges c h) (edges c h)
