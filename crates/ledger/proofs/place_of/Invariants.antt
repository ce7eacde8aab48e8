-- `ledger::place_of`: `place` is what the search among the emitters passed gives.
use Rattle.ledger.specs.Block.{Searched}
use Rattle.ledger.proofs.place_of.Given as goal

abbrev pub invariant-loop-i : goal.invariant-loop-i
invariant-loop-i l = Searched l.block l.id l.i l.place
