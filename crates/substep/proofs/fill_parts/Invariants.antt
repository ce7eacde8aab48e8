-- `substep::fill_parts`: the faces passed have their parts.
use Rattle.std.proofs.Common.{length, ◌≡◌}
use Rattle.model.specs.Sweep.{parts}
use Rattle.substep.specs.Faces.{flow_of, Same}
use Rattle.substep.proofs.fill_parts.Given as goal

abbrev pub invariant-loop-i : goal.invariant-loop-i
invariant-loop-i l =
    (length l.up ≡ length l.initial.up)
    × (length l.down ≡ length l.initial.down)
    × Same l.i (flow_of l.up l.down) (parts l.fluxes l.n l.s)
