-- `ledger::add` meets its contract: the sum of at most 16 units is below 2^36, so that one more fits.
use Rattle.std.proofs.Common.{arith, rules}
use Rattle.ledger.specs.Block.{kept_most}
use Rattle.ledger.proofs.add.Goals as goal

pub overflow_add-sum : goal.overflow_add-sum
overflow_add-sum c = omega (arith, kept_most c.requires.0 (λ k. search rules), c.kept_units.ensures)
