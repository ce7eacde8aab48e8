-- `layer::rows_allow`: `ok` is the test of the cells passed.
use Rattle.std.proofs.Common.{◌+◌, ◌≡◌}
use Rattle.model.specs.Basic.{every}
use Rattle.model.specs.Sweep.{layer}
use Rattle.substep.specs.Faces.{flow_of}
use Rattle.substep.specs.Cells.{cell_allowed}
use Rattle.layer.proofs.rows_allow.Given as goal

abbrev pub invariant-loop-j : goal.invariant-loop-j
invariant-loop-j l =
    l.ok ≡ every l.j (λ k. cell_allowed (layer l.shape.w l.shape.rows) (flow_of l.flow.up.now l.flow.down.now) l.air (1 + k))
