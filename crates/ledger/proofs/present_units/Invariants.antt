-- `ledger::present_units`: `units` is the sum of the emitters passed, each below 2^32.
use Rattle.std.proofs.Common.{◌≡◌, ◌*◌, ◌≤◌}
use Rattle.model.specs.Basic.{sum}
use Rattle.model.specs.Emitters.{emitter_units}
use Rattle.ledger.proofs.present_units.Given as goal

abbrev pub invariant-loop-i : goal.invariant-loop-i
invariant-loop-i l = record { sum : l.units ≡ sum l.i (emitter_units l.block); fits : l.units ≤ l.i * 4294967295 }
