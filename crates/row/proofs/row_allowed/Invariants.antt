-- `row::row_allowed`: every column passed allows the substep.
use Rattle.std.proofs.Common.{length, ◌≡◌, true}
use Rattle.model.specs.Basic.{every}
use Rattle.model.specs.Sweep.{ring}
use Rattle.substep.specs.Faces.{flow_of}
use Rattle.substep.specs.Cells.{cell_allowed}
use Rattle.row.proofs.row_allowed.Given as goal

abbrev pub invariant-loop-i : goal.invariant-loop-i
invariant-loop-i l = every l.i (cell_allowed (ring (length l.air)) (flow_of l.flow.up.now l.flow.down.now) l.air) ≡ true
