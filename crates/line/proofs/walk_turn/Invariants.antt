-- The definition's walk stands where the code's does, in cell c of the turn, a step has passed each new cell up to there, and the ends passed are counted.
-- The measure is what is left of the cells and of the new cells.
use Rattle.std.proofs.Common.{◌+◌, ◌-◌, ◌≡◌, ◌≤◌, ◌<◌}
use Rattle.line.specs.Tracer.{Walking}
use Rattle.line.proofs.walk_turn.Given as goal

abbrev pub invariant-loop-place : goal.invariant-loop-place
invariant-loop-place l = record {
  walking : Walking l.n l.air l.gas l.slopes l.e l.m l.newgas l.place;
  cell : l.place.i ≡ l.fn.start.i + l.c;
  inside : l.c < l.n;
  onward : l.fn.start.j ≤ l.place.j;
}

abbrev pub decreases-loop-place : goal.decreases-loop-place
decreases-loop-place l = (l.n - l.c) + (l.m - l.place.j)
