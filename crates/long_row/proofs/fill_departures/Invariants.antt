-- The air before the next face, and the departures of those passed.
use Rattle.std.proofs.Common.{◌+◌, ◌≡◌, length}
use Rattle.model.specs.Remap.{air_above}
use Rattle.long_row.specs.Air.{EdgesTo}
use Rattle.long_row.proofs.fill_departures.Given as goal

abbrev pub invariant-loop-j : goal.invariant-loop-j
invariant-loop-j l = record {
  before : l.x.0 ≡ air_above l.air (length l.air) + air_above l.air l.j;
  edges : EdgesTo l.air l.fluxes l.e (l.j + 2);
}
