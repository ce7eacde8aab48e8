-- `layer::pass_rows`: the south cap and the cells passed have their amount afterwards, the others what they had.
use Rattle.layer.specs.Passing.{RowsMoved}
use Rattle.layer.proofs.pass_rows.Given as goal

abbrev pub invariant-loop-j : goal.invariant-loop-j
invariant-loop-j g l = RowsMoved l.shape.w l.shape.rows l.fn.amounts l.flow.up.now l.flow.down.now l.amounts l.j
