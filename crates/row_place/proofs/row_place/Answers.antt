-- `row_place::row_place` meets its contract: each answer from the tests that led there.
use Rattle.std.proofs.Common.{length, refl, eqb-true}
use Rattle.places.specs.Walk.{next, stop, there, missing, fits, fails}
use Rattle.row_place.specs.RowPlace.{row_begins}
use Rattle.row_place.proofs.row_place.Goals as goal
use Rattle.row_place.proofs.row_place.Goals.{then-layer-w-via-then-layer-w, then-layer-w-via-else-layer-w+then-row-w}

pub returns-then-layer-w : goal.returns-then-layer-w
returns-then-layer-w c =
    let begun = row_begins c.in_ok-common_places.ensures in
    elim c.then-layer-w.branch [
      | then-layer-w-via-then-layer-w w ↦ stop begun (missing w.if-layer-w.true) refl
      | then-layer-w-via-else-layer-w+then-row-w w ↦ stop (next begun (there w.if-layer-w.false)) (missing w.if-row-w.true) refl
    ]

pub returns-then-not-fluxes_fit : goal.returns-then-not-fluxes_fit
returns-then-not-fluxes_fit c =
    let behind = next (next (row_begins c.in_ok-common_places.ensures) (there c.if-layer-w.false)) (there c.if-row-w.false) in
    stop behind (fails (rw c.new.ensures at c.fluxes_fit.ensures) c.if-not-fluxes_fit.true) refl

pub returns : goal.returns
returns c =
    let common = c.in_ok-common_places.ensures in
    let behind = next (next (row_begins common) (there c.if-layer-w.false)) (there c.if-row-w.false) in
    record {
      left = next behind (fits (rw c.new.ensures at c.fluxes_fit.ensures) c.if-not-fluxes_fit.false);
      row =
          record {
            fits = common.fits;
            long = eqb-true (length c.args.fluxes.now) c.args.w.grid.w common.lent_fit;
            inside = c.row_start.ensures.1;
          };
      start = c.row_start.ensures.0;
    }
