-- `places::fluxes_fit`: `ok` is the test of every flux passed.
use Rattle.std.proofs.Common.{◌≡◌, leb, nat_abs}
use Rattle.model.specs.Basic.{every}
use Rattle.model.specs.Sweep.{flux}
use Rattle.places.proofs.fluxes_fit.Given as goal

abbrev pub invariant-loop-f : goal.invariant-loop-f
invariant-loop-f l = l.ok ≡ every l.f-index (λ k. leb (nat_abs (flux l.fluxes k)) l.limit.0)
