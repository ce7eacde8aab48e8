-- `meridional::layer_place` meets its contract: each answer from the tests that led there.
use Rattle.std.proofs.Common.{ℕ, ◌<◌, ℤ, List, length, ◌≡◌, refl, sym, eqb-true}
use Rattle.std.proofs.lemmas.Result.{err_from_is_err_and}
use Rattle.model.specs.World.{World}
use Rattle.model.specs.Sweep.{layer, serves}
use Rattle.model.specs.Step.{meridional, layer_air}
use Rattle.units.specs.Grid.{world_in}
use Rattle.places.specs.declared.Lent.TheVariants.{LayerFluxes}
use Rattle.places.specs.Walk.{Left, Like, next, stop, there, missing, fits, fails}
use Rattle.places.specs.Tested.{Passed, own_left, common_refused}
use Rattle.meridional.specs.LayerPlace.{from_fluxes}
use Rattle.meridional.proofs.layer_place.Goals as goal
use Rattle.meridional.proofs.layer_place.Goals.{After-layer_permits}

-- the layer is there
past_layer :
    (w : World) (k : ℕ) (fluxes : List ℤ) {totals : List ℕ} → Passed w (LayerFluxes (length fluxes)) totals → k < w.grid.K →
    Left w (Like w (meridional k fluxes)) (from_fluxes k fluxes)
past_layer w k fluxes common h = next (own_left common refl refl refl) (there h)

-- what is tested is the layer's air
serving : (c : After-layer_permits) →
    let w : World = world_in c.args.w in
    c.layer_permits.result ≡ serves (layer w.grid.W w.grid.R) c.args.fluxes.now (layer_air w c.args.layer) 1
serving c = sym (rw c.layer_start-first.ensures.0 at c.layer_permits.ensures.serving)

pub returns-in_err-common_places : goal.returns-in_err-common_places
returns-in_err-common_places c =
    let p = err_from_is_err_and c.from_residual.result c.from_residual.ensures.1 in
    rw (p.1, p.2) (common_refused c.in_err-common_places.ensures refl refl refl)

pub returns-then-layer-w : goal.returns-then-layer-w
returns-then-layer-w c =
    stop (own_left c.in_ok-common_places.ensures refl refl refl) (missing c.if-layer-w.true) refl

pub returns-then-not-fluxes_fit : goal.returns-then-not-fluxes_fit
returns-then-not-fluxes_fit c =
    let left = past_layer _ c.args.layer c.args.fluxes.now c.in_ok-common_places.ensures c.if-layer-w.false in
    stop left (fails (rw c.new.ensures at c.fluxes_fit.ensures) c.if-not-fluxes_fit.true) refl

pub returns-then-not-layer_permits : goal.returns-then-not-layer_permits
returns-then-not-layer_permits c =
    let at_end = goal.at.returns-then-not-layer_permits c in
    let left = past_layer _ c.args.layer c.args.fluxes.now c.in_ok-common_places.ensures c.if-layer-w.false in
    stop (next left (fits (rw c.new.ensures at c.fluxes_fit.ensures) c.if-not-fluxes_fit.false)) (fails (serving at_end.After-layer_permits) c.if-not-layer_permits.true) refl

pub returns : goal.returns
returns c =
    let at_end = goal.at.returns c in
    let common = c.in_ok-common_places.ensures in
    let left = past_layer _ c.args.layer c.args.fluxes.now common c.if-layer-w.false in
    record {
      left = next (next left (fits (rw c.new.ensures at c.fluxes_fit.ensures) c.if-not-fluxes_fit.false)) (fits (serving at_end.After-layer_permits) c.if-not-layer_permits.false);
      fits = common.fits;
      long = eqb-true _ _ common.lent_fit;
      start = c.layer_start-first.ensures.0;
      passes = c.layer_permits.ensures.passes;
    }
