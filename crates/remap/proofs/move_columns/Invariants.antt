-- The columns passed are remapped, the others as lent.
use Rattle.remap.specs.Moved.{MovedUpto}
use Rattle.remap.proofs.move_columns.Given as goal

abbrev pub invariant-loop-c : goal.invariant-loop-c
invariant-loop-c l = MovedUpto l.fn.tracers l.ledger l.fn.air l.table l.cells l.k l.n l.c l.tracers l.air l.moved.steps l.moved.count
