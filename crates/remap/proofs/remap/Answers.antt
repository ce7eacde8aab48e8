-- `remap::remap` meets its contract: its places, then all columns.
use Rattle.std.proofs.lemmas.Result.{err_from_is_err_and}
use Rattle.places.specs.Walk.{itself}
use Rattle.remap.specs.RemapPlace.{tracers_need, remap_agrees}
use Rattle.remap.proofs.remap.Goals as goal

pub returns-in_err-remap_place : goal.returns-in_err-remap_place
returns-in_err-remap_place c =
    let p = err_from_is_err_and c.from_residual.result c.from_residual.ensures.1 in
    rw (p.1, p.2) (c.in_err-remap_place.ensures _ _ itself)

pub move_columns-moved-requires : goal.move_columns-moved-requires
move_columns-moved-requires c = tracers_need c.in_ok-remap_place.ensures c.layer_cells-cells.ensures.0

pub returns : goal.returns
returns c = remap_agrees c.in_ok-remap_place.ensures c.layer_cells-cells.ensures.0 c.move_columns-moved.ensures
