-- The loop's invariant: the digits of `rest`, put before what stands at `at`, give those of `n` before what stood at `end`.
use Rattle.std.proofs.Common.{◌≡◌, ◌+◌, ◌≤◌, ◌++◌, length, drop}
use Rattle.program.specs.Bytes.{decimal}
use Rattle.lines.proofs.put_decimal.Given as goal

abbrev pub invariant-loop-rest : goal.invariant-loop-rest
invariant-loop-rest l =
    record {
      before : l.at ≤ l.end;
      places : l.at + length (decimal l.n) ≡ l.end + length (decimal l.rest);
      digits : decimal l.rest ++ drop l.at l.out ≡ decimal l.n ++ drop l.end l.initial.out;
    }

abbrev pub decreases-loop-rest : goal.decreases-loop-rest
decreases-loop-rest l = l.rest
