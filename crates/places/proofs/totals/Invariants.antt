-- `places::totals`: the totals of the tracers passed.
use Rattle.std.proofs.Common.{◌≡◌, length}
use Rattle.places.specs.Totals.{AreTotals}
use Rattle.places.proofs.totals.Given as goal

abbrev pub invariant-loop-t : goal.invariant-loop-t
invariant-loop-t l = (length l.sums ≡ 8) × AreTotals l.tracers l.cells l.t l.sums
