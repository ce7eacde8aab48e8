-- `layer_gas::fill_pieces`: the faces passed have their two pieces.
use Rattle.std.proofs.Common.{length, ◌≡◌}
use Rattle.model.specs.Limiters.{rule_for}
use Rattle.model.specs.Sweep.{layer, pieces}
use Rattle.units.specs.Limiter.{limiter_of}
use Rattle.substep.specs.Faces.{flow_of, Same}
use Rattle.layer_gas.proofs.fill_pieces.Given as goal

abbrev pub invariant-loop-i : goal.invariant-loop-i
invariant-loop-i l =
    (length l.gas_up ≡ length l.initial.gas_up)
    × (length l.gas_down ≡ length l.initial.gas_down)
    × Same l.i (flow_of l.gas_up l.gas_down) (pieces (rule_for (limiter_of l.l)) (layer l.shape.w l.shape.rows) (flow_of l.flow.up.now l.flow.down.now) l.air l.gas)
