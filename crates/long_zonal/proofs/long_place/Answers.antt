-- `long_zonal::long_place` meets its contract: the places of both sweeps, then 16 and 17.
use Rattle.std.proofs.Common.{◌≡◌, ℕ, List, Bool, true, ℤ, length, refl, sym, ◌∙◌}
use Rattle.model.specs.World.{World}
use Rattle.model.specs.Remap.{air_above}
use Rattle.model.specs.Step.{long_zonal, fluxes_within, row_air}
use Rattle.places.specs.Walk.{Left, Like, next, stop, fits, fails}
use Rattle.row_place.specs.RowPlace.{RowFound, row_left, lent_row}
use Rattle.long_zonal.specs.LongPlace.{from_air, from_turn, long_sweeps_row, turn_is, long_need, fits_is}
use Rattle.long_zonal.proofs.long_place.Goals as goal

module _ {w : World} {k r : ℕ} {fluxes : List ℤ} {first : ℕ} (row : RowFound w k r fluxes first) where
  -- the places of both sweeps are passed
  own : Left w (Like w (long_zonal k r fluxes)) (from_turn k r fluxes)
  own = row_left long_sweeps_row row.left

  -- the test of the fluxes, with the row's air `all`, is that of place 16
  module _ {all : ℕ} (is : all ≡ air_above (lent_row w first) (length (lent_row w first))) {b : Bool} (tested : b ≡ fluxes_within fluxes all) where
    turn_tested : b ≡ fluxes_within fluxes (air_above (row_air w k r) w.grid.W)
    turn_tested = tested ∙ turn_is row.row k r row.start is

    -- no flux is above the row's air
    past_turn : b ≡ true → Left w (Like w (long_zonal k r fluxes)) (from_air k r fluxes)
    past_turn took = next own (fits turn_tested took)

    within : b ≡ true → fluxes_within fluxes (air_above (row_air w k r) w.grid.W) ≡ true
    within took = sym turn_tested ∙ took

pub returns-then-not-fluxes_fit : goal.returns-then-not-fluxes_fit
returns-then-not-fluxes_fit c =
    let row = c.in_ok-first.ensures in
    stop (own row) (fails (turn_tested row c.row_air.ensures c.fluxes_fit.ensures) c.if-not-fluxes_fit.true) refl

pub air_serves-requires : goal.air_serves-requires
air_serves-requires c =
    let row = c.in_ok-first.ensures in
    long_need row.row c.args.layer c.args.row row.start (within row c.row_air.ensures c.fluxes_fit.ensures c.if-not-fluxes_fit.false)

pub returns-then-not-air_serves : goal.returns-then-not-air_serves
returns-then-not-air_serves c =
    let row = c.in_ok-first.ensures in
    let tested = c.air_serves.ensures ∙ fits_is row.row c.args.layer c.args.row row.start in
    stop (past_turn row c.row_air.ensures c.fluxes_fit.ensures c.if-not-fluxes_fit.false) (fails tested c.if-not-air_serves.true) refl

pub returns : goal.returns
returns c =
    let row = c.in_ok-first.ensures in
    let tested = c.air_serves.ensures ∙ fits_is row.row c.args.layer c.args.row row.start in
    record {
      left = next (past_turn row c.row_air.ensures c.fluxes_fit.ensures c.if-not-fluxes_fit.false) (fits tested c.if-not-air_serves.false);
      row = row.row;
      start = row.start;
      within = within row c.row_air.ensures c.fluxes_fit.ensures c.if-not-fluxes_fit.false;
    }
