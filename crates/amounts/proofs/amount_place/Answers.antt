-- `amounts::amount_place` meets its contract: each answer from the tests that led there.
use Rattle.std.proofs.Common.{ℕ, ◌<◌, List, [], ◌∷◌, refl}
use Rattle.model.specs.World.{World, world_cells}
use Rattle.model.specs.Step.{absent, cell}
use Rattle.places.specs.declared.Lent.TheVariants.{Nothing}
use Rattle.places.specs.Walk.{Left, Like, next, stop, there, missing}
use Rattle.places.specs.Tested.{Passed, own_left}
use Rattle.amounts.specs.Amount.{cell_found}
use Rattle.amounts.proofs.amount_place.Goals as goal

-- the tracer is there
past_tracer : {w : World} {totals : List ℕ} (t i : ℕ) → Passed w Nothing totals → t < w.grid.N → Left w (Like w (cell t i)) (absent i world_cells ∷ [])
past_tracer t i passed inside = next (own_left passed refl refl refl) (there inside)

pub returns-then-tracer-w : goal.returns-then-tracer-w
returns-then-tracer-w c = stop (own_left c.in_ok-totals.ensures refl refl refl) (missing c.if-tracer-w.true) refl

pub returns-then-cell-cells : goal.returns-then-cell-cells
returns-then-cell-cells c =
    stop (past_tracer c.args.tracer c.args.cell c.in_ok-totals.ensures c.if-tracer-w.false) (missing (rw c.world_cells-cells.ensures.0 at c.if-cell-cells.true)) refl

-- and so is the cell
pub returns : goal.returns
returns c =
    let passed = c.in_ok-totals.ensures in
    let same = c.world_cells-cells.ensures.0 in
    let left = next (past_tracer c.args.tracer c.args.cell passed c.if-tracer-w.false) (there (rw same at c.if-cell-cells.false)) in
    cell_found passed.fits c.if-tracer-w.false c.if-cell-cells.false same left refl (passed.total c.args.tracer c.if-tracer-w.false)
