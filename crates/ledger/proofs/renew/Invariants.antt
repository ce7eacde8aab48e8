-- `ledger::renew`: the blocks passed are as a load leaves them, the others as lent.
use Rattle.std.proofs.Common.{◌≡◌}
use Rattle.model.specs.Limits.{block_numbers}
use Rattle.model.specs.Basic.{at}
use Rattle.model.specs.Books.{fresh_block}
use Rattle.units.specs.EachTracer.{changed_up_to}
use Rattle.ledger.proofs.renew.Given as goal

abbrev pub invariant-loop-t : goal.invariant-loop-t
invariant-loop-t l = l.ledger ≡ changed_up_to l.initial.ledger block_numbers (λ k. fresh_block (at l.totals k)) l.t
