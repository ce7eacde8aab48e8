-- `emitters::emitter_place` meets its contract: each answer from the tests that led there.
use Rattle.std.proofs.Common.{ℕ, ◌<◌, List, [], ◌∷◌, refl, sym, ◌∙◌}
use Rattle.model.specs.World.{World}
use Rattle.model.specs.Step.{broken_record}
use Rattle.units.specs.Grid.{world_in}
use Rattle.places.specs.declared.Lent.TheVariants.{Nothing}
use Rattle.places.specs.Walk.{Left, next, stop, there, missing, fits, fails}
use Rattle.places.specs.Tested.{Passed}
use Rattle.emitters.specs.Place.{Names, names_left, records_test, emitters_found}
use Rattle.emitters.proofs.emitter_place.Goals as goal

-- the tracer is there
past_tracer : {w : World} {totals : List ℕ} (t : ℕ) → Passed w Nothing totals → t < w.grid.N → Left w (Names w t) (broken_record ∷ [])
past_tracer t passed inside = next (names_left passed) (there inside)

pub returns-then-tracer-w : goal.returns-then-tracer-w
returns-then-tracer-w c = stop (names_left c.in_ok-totals.ensures) (missing c.if-tracer-w.true) refl

pub returns-then-not-records_fit : goal.returns-then-not-records_fit
returns-then-not-records_fit c =
    let is = records_test (world_in c.args.w) c.world_cells-cells.ensures.0 c.records_fit.ensures in
    stop (past_tracer c.args.tracer c.in_ok-totals.ensures c.if-tracer-w.false) (fails is c.if-not-records_fit.true) refl

pub returns : goal.returns
returns c =
    let passed = c.in_ok-totals.ensures in
    let is = records_test (world_in c.args.w) c.world_cells-cells.ensures.0 c.records_fit.ensures in
    emitters_found (next (past_tracer c.args.tracer passed c.if-tracer-w.false) (fits is c.if-not-records_fit.false)) passed.fits c.if-tracer-w.false
    (sym is ∙ c.if-not-records_fit.false) (passed.total c.args.tracer c.if-tracer-w.false)
