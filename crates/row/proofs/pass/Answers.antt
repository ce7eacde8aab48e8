-- `row::pass` meets its contract.
use Rattle.std.proofs.Common.{arith, rules}
use Rattle.row.specs.Columns.{column_passes, passed_more, passed_all}
use Rattle.row.proofs.pass.Goals as goal

pub after-requires : goal.after-requires
after-requires g c = (search rules, (search rules, rw c.new.ensures (column_passes c.requires.moves c.loop-i.invariant c.exchange.ensures.cell)))

pub loop-i-preserved : goal.loop-i-preserved
loop-i-preserved g c = passed_more c.requires.moves c.loop-i.invariant c.exchange.ensures.cell (rw c.new.ensures at c.after.ensures)

pub returns : goal.returns
returns g c = passed_all c.requires.moves c.loop-i.invariant (omega arith)
