-- `places::world_places` meets its contract: each answer from the tests that led there.
use Rattle.std.proofs.Common.{◌≡◌, Bool, true, sym, refl, ◌∙◌}
use Rattle.model.specs.World.{World}
use Rattle.model.specs.Step.{grid_fits}
use Rattle.units.specs.Grid.{world_in}
use Rattle.places.specs.declared.Lent.{Lent}
use Rattle.places.specs.Walk.{Left, next, stop, fits, fails}
use Rattle.places.specs.Tested.{LendsList, lengths_serve, air_test, from_lengths, from_air, from_totals, all_left, lengths_true, passed_fits, gas_totals, totals_test_lem}
use Rattle.places.proofs.world_places.Goals as goal

-- places 1, 2 and 3 are passed
module _ (w : World) (lent : Lent) where
  past_grid : {grid : Bool} → grid ≡ grid_fits w.grid → grid ≡ true → Left w (LendsList w lent) (from_lengths lent)
  past_grid e is = next (all_left w lent) (fits e is)

  past_lengths : {grid lengths : Bool} → grid ≡ grid_fits w.grid → grid ≡ true → lengths ≡ lengths_serve w lent → lengths ≡ true →
      Left w (LendsList w lent) (from_air lent)
  past_lengths e is f so = next (past_grid e is) (fits f so)

  past_air : {grid lengths air : Bool} → grid ≡ grid_fits w.grid → grid ≡ true → lengths ≡ lengths_serve w lent → lengths ≡ true → air ≡ air_test w → air ≡ true →
      Left w (LendsList w lent) (from_totals lent)
  past_air e is f so h in_range = next (past_lengths e is f so) (fits h in_range)

pub returns-then-not-grid_fits : goal.returns-then-not-grid_fits
returns-then-not-grid_fits c = stop (all_left _ _) (fails c.grid_fits.ensures c.if-not-grid_fits.true) refl

pub returns-then-not-lengths_fit : goal.returns-then-not-lengths_fit
returns-then-not-lengths_fit c = stop (past_grid _ _ c.grid_fits.ensures c.if-not-grid_fits.false) (fails c.lengths_fit.ensures c.if-not-lengths_fit.true) refl

pub returns-then-not-air_fits : goal.returns-then-not-air_fits
returns-then-not-air_fits c =
    stop (past_lengths _ _ c.grid_fits.ensures c.if-not-grid_fits.false c.lengths_fit.ensures c.if-not-lengths_fit.false) (fails c.air_fits.ensures c.if-not-air_fits.true) refl

pub returns-then-not-totals_fit : goal.returns-then-not-totals_fit
returns-then-not-totals_fit c =
    let w : World = world_in c.args.w in
    let past =
    past_air w c.args.lent c.grid_fits.ensures c.if-not-grid_fits.false c.lengths_fit.ensures c.if-not-lengths_fit.false c.air_fits.ensures c.if-not-air_fits.false in
    let test = totals_test_lem w _ c.world_cells.ensures.0 _ c.totals-sums.ensures in
    stop past (fails (c.totals_fit.ensures ∙ test) c.if-not-totals_fit.true) refl

pub returns : goal.returns
returns c =
    let w : World = world_in c.args.w in
    let past =
    past_air w c.args.lent c.grid_fits.ensures c.if-not-grid_fits.false c.lengths_fit.ensures c.if-not-lengths_fit.false c.air_fits.ensures c.if-not-air_fits.false in
    let test = c.totals_fit.ensures ∙ totals_test_lem w _ c.world_cells.ensures.0 _ c.totals-sums.ensures in
    let served : lengths_serve w c.args.lent ≡ true = sym c.lengths_fit.ensures ∙ c.if-not-lengths_fit.false in
    record {
      left = next past (fits test c.if-not-totals_fit.false);
      fits =
          passed_fits w c.args.lent served (sym c.grid_fits.ensures ∙ c.if-not-grid_fits.false) (sym c.air_fits.ensures ∙ c.if-not-air_fits.false)
          (sym test ∙ c.if-not-totals_fit.false);
      lent_fit = (lengths_true w c.args.lent served).other;
      total = gas_totals w _ c.world_cells.ensures.0 _ c.totals-sums.ensures;
    }
