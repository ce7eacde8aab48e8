-- `places::block_total`: where no amount passed has a bit above the last 20, each half's sum is that of its amounts passed.
use Rattle.std.proofs.Common.{◌+◌, ◌<◌}
use Rattle.model.specs.Basic.{at, sum}
use Rattle.places.specs.Totals.{BlockSum}
use Rattle.places.proofs.block_total.Given as goal

abbrev pub invariant-loop-i : goal.invariant-loop-i
invariant-loop-i l = l.all < 1048576 → BlockSum l.first (sum l.i (at l.gas)) l.i × BlockSum l.second (sum l.i (λ k. at l.gas (l.half + k))) l.i
