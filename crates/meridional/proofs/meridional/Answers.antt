-- `meridional::meridional` meets its contract: the layer found by `layer_place`, swept in all tracers and in the air.
use Rattle.std.proofs.Common.{sym, rules}
use Rattle.std.proofs.lemmas.Result.{err_from_is_err_and}
use Rattle.places.specs.Walk.{itself}
use Rattle.meridional.specs.LayerPlace.{Rooms}
use Rattle.meridional.specs.LayerSwept.{layer_in_air, tracers_need, air_need, meridional_agrees}
use Rattle.meridional.proofs.meridional.Goals as goal

pub returns-in_err-a : goal.returns-in_err-a
returns-in_err-a c =
    let p = err_from_is_err_and c.from_residual.result c.from_residual.ensures.1 in
    rw (p.1, p.2) (c.in_err-a.ensures _ _ itself)

pub slice_bounds-sweep_tracers-end : goal.slice_bounds-sweep_tracers-end
slice_bounds-sweep_tracers-end c = layer_in_air c.in_ok-a.ensures c.layer_cells.ensures.0

pub sweep_tracers-requires : goal.sweep_tracers-requires
sweep_tracers-requires c =
    (search rules, rw (c.lent-passes.ensures.0, c.lent-passes.ensures.1) (tracers_need c.in_ok-a.ensures c.layer_cells.ensures.0))

pub pass_layer-requires : goal.pass_layer-requires
pass_layer-requires c =
    let rooms : Rooms c.layer_place.new.flow.up c.layer_place.new.flow.down = rw (sym c.lent-passes.ensures.0, sym c.lent-passes.ensures.1) (search rules) in
    rw (c.lent-passes.ensures.0, c.lent-passes.ensures.1, c.of.ensures.0, c.of.ensures.1) (air_need c.in_ok-a.ensures c.layer_cells.ensures.0 rooms)

pub returns : goal.returns
returns c =
    meridional_agrees c.in_ok-a.ensures c.layer_cells.ensures.0 (rw (c.lent-passes.ensures.0, c.lent-passes.ensures.1, c.of.ensures.0, c.of.ensures.1) at c.pass_layer.ensures)
    (rw (c.lent-passes.ensures.0, c.lent-passes.ensures.1) at c.sweep_tracers.ensures)
