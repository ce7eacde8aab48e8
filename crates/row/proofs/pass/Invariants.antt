-- `row::pass`: the row is passed on up to column i.
use Rattle.row.specs.Columns.{PassedTo}
use Rattle.row.proofs.pass.Given as goal

abbrev pub invariant-loop-i : goal.invariant-loop-i
invariant-loop-i g l = PassedTo l.fn.amounts l.flow.up.now l.flow.down.now l.amounts l.i
