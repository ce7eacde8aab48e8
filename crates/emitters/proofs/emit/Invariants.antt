-- `emitters::emit`: the amounts after the first i emitters.
use Rattle.std.proofs.Common.{◌≡◌}
use Rattle.model.specs.Emitters.{ticked}
use Rattle.emitters.proofs.emit.Given as goal

abbrev pub invariant-loop-i : goal.invariant-loop-i
invariant-loop-i l = l.gas ≡ ticked l.block l.i l.initial.gas
