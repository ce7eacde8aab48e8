-- `places::wide_total`: `sum` is the sum of the cells passed, each below 2^32.
use Rattle.std.proofs.Common.{◌≡◌, ◌*◌, ◌≤◌}
use Rattle.model.specs.Basic.{at, sum}
use Rattle.places.proofs.wide_total.Given as goal

abbrev pub invariant-loop-x : goal.invariant-loop-x
invariant-loop-x l = (l.sum ≡ sum l.x-index (at l.gas)) × (l.sum ≤ l.x-index * 4294967295)
