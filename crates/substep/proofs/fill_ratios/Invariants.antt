-- `substep::fill_ratios`: the cells passed have their ratio.
use Rattle.std.proofs.Common.{length, ◌≡◌}
use Rattle.substep.specs.Pieces.{AreRatios}
use Rattle.substep.proofs.fill_ratios.Given as goal

abbrev pub invariant-loop-c : goal.invariant-loop-c
invariant-loop-c l = (length l.q ≡ length l.initial.q) × AreRatios l.c l.air l.gas l.q
