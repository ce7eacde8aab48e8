-- `remap::remap_place` meets its contract: each answer from the tests that led there.
use Rattle.std.proofs.Common.{◌+◌, ◌*◌, ◌≡◌, List, ℕ, Bool, true, length, refl, sym, ◌∙◌}
use Rattle.std.proofs.lemmas.Result.{err_from_is_err_and}
use borrow.Author.Tests.{eqb-true}
use Rattle.model.specs.World.{World}
use Rattle.model.specs.Step.{remap, table_fits}
use Rattle.units.specs.Grid.{world_in}
use Rattle.places.specs.declared.Lent.TheVariants.{Table}
use Rattle.places.specs.Walk.{Left, Like, next, stop, fits, fails}
use Rattle.places.specs.Tested.{Passed, own_left, common_refused}
use Rattle.remap.specs.RemapPlace.{from_serving, columns_need, serves_is}
use Rattle.remap.proofs.remap_place.Goals as goal

-- places 1 to 4 and 21 are passed
module _ {w : World} (table : List ℕ) {totals : List ℕ} (passed : Passed w (Table (length table)) totals) where
  pairs : length table ≡ 2 * (w.grid.K + 1)
  pairs = eqb-true _ _ passed.lent_fit

  past_table : {r : Bool} → r ≡ table_fits w.grid.K table → r ≡ true → Left w (Like w (remap table)) (from_serving table)
  past_table tested fit = next (own_left passed refl refl refl) (fits tested fit)

pub returns-in_err-common_places : goal.returns-in_err-common_places
returns-in_err-common_places c =
    let p = err_from_is_err_and c.from_residual.result c.from_residual.ensures.1 in
    rw (p.1, p.2) (common_refused c.in_err-common_places.ensures refl refl refl)

pub returns-then-not-table_fits : goal.returns-then-not-table_fits
returns-then-not-table_fits c =
    stop (own_left c.in_ok-common_places.ensures refl refl refl) (fails c.table_fits.ensures c.if-not-table_fits.true) refl

pub columns_serve-requires : goal.columns_serve-requires
columns_serve-requires c =
    let a = c.args in
    let passed = c.in_ok-common_places.ensures in
    columns_need (world_in a.w) c.layer_cells-cells.ensures.0 passed.fits (pairs a.table.now passed) (sym c.table_fits.ensures ∙ c.if-not-table_fits.false)

pub returns-then-not-columns_serve : goal.returns-then-not-columns_serve
returns-then-not-columns_serve c =
    let a = c.args in
    let serving = serves_is (world_in a.w) c.layer_cells-cells.ensures.0 a.table.now c.columns_serve.ensures in
    stop (past_table a.table.now c.in_ok-common_places.ensures c.table_fits.ensures c.if-not-table_fits.false) (fails serving c.if-not-columns_serve.true) refl

pub returns : goal.returns
returns c =
    let a = c.args in
    let passed = c.in_ok-common_places.ensures in
    let serving = serves_is (world_in a.w) c.layer_cells-cells.ensures.0 a.table.now c.columns_serve.ensures in
    record {
      left = next (past_table a.table.now passed c.table_fits.ensures c.if-not-table_fits.false) (fits serving c.if-not-columns_serve.false);
      fits = passed.fits;
      pairs = pairs a.table.now passed;
      table_fit = sym c.table_fits.ensures ∙ c.if-not-table_fits.false;
    }
