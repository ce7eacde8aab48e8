-- `console::run` keeps the room for a record.
use Rattle.std.proofs.Common.{◌≡◌, ◌+◌, length}
use Rattle.stages.specs.Limits.{program_body}
use Rattle.console.proofs.run.Given as goal

abbrev pub invariant-loop : goal.invariant-loop
invariant-loop g l = length l.bytes ≡ program_body + 1
