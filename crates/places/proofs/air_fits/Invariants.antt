-- `places::air_fits`: `some` is that no cell passed has none, `all` the bits of all of them.
use Rattle.std.proofs.Common.{◌≡◌, leb}
use Rattle.model.specs.Limits.{air_limit}
use Rattle.model.specs.Basic.{at, every}
use Rattle.places.proofs.air_fits.Given as goal

abbrev pub invariant-loop-m : goal.invariant-loop-m
invariant-loop-m l = (l.some ≡ every l.m-index (λ k. leb 1 (at l.air k))) × (leb l.all air_limit ≡ every l.m-index (λ k. leb (at l.air k) air_limit))
