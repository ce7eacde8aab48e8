-- The slopes of the columns passed.
use Rattle.units.specs.Limiter.{limiter_of}
use Rattle.line.specs.Slopes.{SlopesTo}
use Rattle.long_row.specs.Gas.{ring_slope}
use Rattle.long_row.proofs.fill_slopes.Given as goal

abbrev pub invariant-loop-c : goal.invariant-loop-c
invariant-loop-c l = SlopesTo (ring_slope (limiter_of l.l) l.w l.q) l.c l.slopes
