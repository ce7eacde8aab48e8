-- The list holds the mismatches of the layers passed.
use Rattle.std.proofs.Common.{◌-◌, ◌≡◌}
use Rattle.units.specs.Limiter.{limiter_of}
use Rattle.model.specs.Basic.{at}
use Rattle.line.specs.Slopes.{SlopesTo}
use Rattle.column.specs.Gas.{slope_at}
use Rattle.column.proofs.fill_slopes_by.Given as goal

abbrev pub invariant-loop-i : goal.invariant-loop-i
invariant-loop-i l = record {
  above : l.above ≡ at l.q (l.i - 1);
  own : l.own ≡ at l.q l.i;
  slopes : SlopesTo (slope_at (limiter_of l.fn.l) l.cap l.k l.q) l.i l.slopes;
}
