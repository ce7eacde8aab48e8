-- `meridional::sweep_tracers`: the layers of the tracers passed are swept, the others are as lent; the room is as long as declared.
use Rattle.std.proofs.Common.{length, ◌≡◌}
use Rattle.model.specs.Limits.{most_layer_cells}
use Rattle.units.specs.Grid.{grid_of}
use Rattle.substep.specs.Faces.{flow_of}
use Rattle.meridional.specs.LayerTracers.{swept_up_to}
use Rattle.meridional.proofs.sweep_tracers.Given as goal

abbrev pub invariant-loop-t : goal.invariant-loop-t
invariant-loop-t l =
    (l.tracers ≡ swept_up_to (grid_of l.fn.g) l.fn.tracers l.ledger l.air (flow_of l.flow.up.now l.flow.down.now) l.first l.t)
    × (length l.q ≡ most_layer_cells)
