-- `places::totals_fit`: `ok` is the test of every total passed.
use Rattle.std.proofs.Common.{◌≡◌, leb}
use Rattle.model.specs.Limits.{total_limit}
use Rattle.model.specs.Basic.{at, every}
use Rattle.places.proofs.totals_fit.Given as goal

abbrev pub invariant-loop-t : goal.invariant-loop-t
invariant-loop-t l = l.ok ≡ every l.t (λ k. leb (at l.sums k) total_limit)
