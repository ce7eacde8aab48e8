-- `rows::fill_pieces`: the faces passed have their two pieces.
use Rattle.std.proofs.Common.{length, ◌≡◌}
use Rattle.model.specs.Limiters.{rule_for}
use Rattle.model.specs.Sweep.{ring, pieces}
use Rattle.units.specs.Limiter.{limiter_of}
use Rattle.substep.specs.Faces.{flow_of, Same}
use Rattle.rows.proofs.fill_pieces.Given as goal

abbrev pub invariant-loop-i : goal.invariant-loop-i
invariant-loop-i l =
    (length l.up ≡ length l.initial.up)
    × (length l.down ≡ length l.initial.down)
    × Same l.i (flow_of l.up l.down) (pieces (rule_for (limiter_of l.l)) (ring (length l.air)) (flow_of l.flow.up.now l.flow.down.now) l.air l.gas)
