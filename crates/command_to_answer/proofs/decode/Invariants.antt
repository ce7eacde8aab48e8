-- `command_to_answer::decode` fills the first i entries with the numbers of their own four bytes.
use Rattle.std.proofs.Common.{◌≡◌, take}
use Rattle.command_to_answer.specs.Fill.{decoded}
use Rattle.command_to_answer.proofs.decode.Given as goal

abbrev pub invariant-loop-i : goal.invariant-loop-i
invariant-loop-i g l = take l.i l.out ≡ decoded g.N.Number.of_bits l.bytes l.i
