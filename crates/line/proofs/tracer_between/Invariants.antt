-- The definition's walk stands where the code's does, past whole turns unless it is at its end.
-- The measure is what is left of three turns and of the new cells.
use Rattle.std.proofs.Common.{◌+◌, ◌*◌, ◌-◌, ◌%◌, ◌≡◌, ◌<◌}
use Rattle.model.specs.Long.{turns}
use Rattle.line.specs.Tracer.{Walking}
use Rattle.line.proofs.tracer_between.Given as goal

abbrev pub invariant-loop-place : goal.invariant-loop-place
invariant-loop-place l =
    Walking l.n l.air l.gas l.slopes l.e l.m l.newgas l.place × (l.place.j < l.m → l.place.i % l.n ≡ 0)

abbrev pub decreases-loop-place : goal.decreases-loop-place
decreases-loop-place l = (turns * l.n - l.place.i) + (l.m - l.place.j)
