-- `ledger::remove` meets its contract: one of the emitters has at most their sum.
use Rattle.std.proofs.Common.{arith}
use Rattle.ledger.specs.Block.{units_kept}
use Rattle.ledger.proofs.remove.Goals as goal

pub overflow_sub-sum : goal.overflow_sub-sum
overflow_sub-sum c = grind (arith, units_kept c.requires.0 c.requires.1)
