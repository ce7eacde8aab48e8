-- `row::serves`: every substep made was allowed, and the air is what they leave.
use Rattle.std.proofs.Common.{◌≡◌, true}
use Rattle.model.specs.Basic.{every}
use Rattle.row.specs.Substeps.{chain, may}
use Rattle.row.proofs.serves.Given as goal

abbrev pub invariant-loop-s : goal.invariant-loop-s
invariant-loop-s l =
    (l.air ≡ chain l.fluxes l.n l.fn.air l.s)
    × (every l.s (may l.fluxes l.n l.fn.air) ≡ true)
