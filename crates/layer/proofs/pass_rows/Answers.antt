-- `layer::pass_rows` meets its contract.
use Rattle.std.proofs.Common.{rules}
use Rattle.layer.specs.Passing.{row_exchange, row_more}
use Rattle.layer.proofs.pass_rows.Goals as goal

pub after-requires : goal.after-requires
after-requires g c =
    (search rules, (search rules, rw c.new.ensures (row_exchange c.loop-j.invariant c.loop-j-test.true c.across-enters.ensures.0 c.across-leaves.ensures.0 c.requires.1)))

pub loop-j-preserved : goal.loop-j-preserved
loop-j-preserved g c =
    row_more c.loop-j.invariant c.loop-j-test.true c.across-enters.ensures.0 c.across-leaves.ensures.0 (rw c.new.ensures at c.after.ensures)
