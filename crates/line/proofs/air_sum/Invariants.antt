-- The sum is that of the cells passed, each at most 65,535.
use Rattle.std.proofs.Common.{◌*◌, ◌≡◌, ◌≤◌}
use Rattle.model.specs.Limits.{air_limit}
use Rattle.model.specs.Basic as model
use Rattle.line.proofs.air_sum.Given as goal

abbrev pub invariant-loop-i : goal.invariant-loop-i
invariant-loop-i l = (l.sum.0 ≡ model.sum l.i (model.at l.air)) × (l.sum.0 ≤ air_limit * l.i)
