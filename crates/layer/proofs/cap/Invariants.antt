-- `layer::cap`: `total` is the sum of the entries passed.
use Rattle.layer.specs.Cells.{SumTo}
use Rattle.layer.proofs.cap.Given as goal

abbrev pub invariant-loop-x : goal.invariant-loop-x
invariant-loop-x g l = SumTo l.side l.first l.w l.x-index l.total.0
