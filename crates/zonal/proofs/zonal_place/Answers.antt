-- `zonal::zonal_place` meets its contract: the places of both sweeps, then the count.
use Rattle.std.proofs.Common.{refl, arith, eq-eqb, ne_eqb}
use Rattle.std.proofs.lemmas.Result.{err_from_is_err_and}
use Rattle.places.specs.Walk.{next, stop}
use Rattle.row_place.specs.RowPlace.{row_left}
use Rattle.zonal.specs.ZonalPlace.{zonal_sweeps_row, counted}
use Rattle.zonal.proofs.zonal_place.Goals as goal

pub returns-in_err-substeps : goal.returns-in_err-substeps
returns-in_err-substeps c =
    let found = c.in_ok-first.ensures in
    let none = counted found.row c.args.layer c.args.row found.start _ _ c.in_err-substeps.ensures.value c.count.ensures in
    let p = err_from_is_err_and c.from_residual-in_err-substeps.result c.from_residual-in_err-substeps.ensures.1 in
    rw (p.1, p.2, none.0) (stop (row_left zonal_sweeps_row found.left) (eq-eqb _ _ none.1) refl)

pub returns : goal.returns
returns c =
    let found = c.in_ok-first.ensures in
    let count = counted found.row c.args.layer c.args.row found.start _ _ c.in_ok-substeps.ensures.value c.count.ensures in
    record {
      left = next (row_left zonal_sweeps_row found.left) (ne_eqb _ _ (λ none. omega (arith, count.0, count.1, none)));
      row = found.row;
      start = found.start;
      count = count.0;
      most = count.2;
    }
