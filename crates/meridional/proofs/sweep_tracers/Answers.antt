-- `meridional::sweep_tracers` meets its contract.
use Rattle.std.proofs.Common.{rules}
use Rattle.units.specs.EachTracer.{changed_none}
use Rattle.meridional.specs.LayerTracers.{swept_changes, swept_more, lent_inside, lent_need, step_need}
use Rattle.meridional.proofs.sweep_tracers.Goals as goal

pub loop-t-init : goal.loop-t-init
loop-t-init c = (changed_none (swept_changes c.requires.1), search rules)

pub slice_bounds-step_layer_gas-end : goal.slice_bounds-step_layer_gas-end
slice_bounds-step_layer_gas-end c =
    lent_inside c.requires.1 c.loop-t-test.true c.loop-t.invariant.0 c.world_cells-cells.ensures.0 c.layer_cells-wide.ensures.0

pub step_layer_gas-requires : goal.step_layer_gas-requires
step_layer_gas-requires c =
    let inv = c.loop-t.invariant in
    let gas = lent_need c.requires.1 c.loop-t-test.true inv.0 c.world_cells-cells.ensures.0 c.layer_cells-wide.ensures.0 in
    rw (c.of-shape.ensures.0, c.of-shape.ensures.1) (step_need c.requires.1.range c.requires.0 inv.1 (search rules) (search rules) gas)

pub loop-t-preserved : goal.loop-t-preserved
loop-t-preserved c =
    let more = swept_more c.requires.1 c.loop-t-test.true c.loop-t.invariant.0 c.world_cells-cells.ensures.0 c.layer_cells-wide.ensures.0
    c.limiter_at-l.ensures (rw (c.of-shape.ensures.0, c.of-shape.ensures.1) at c.step_layer_gas.ensures) in
    (more, search rules)
