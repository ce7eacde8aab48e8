-- The column is remapped in the tracers passed, the others are as lent.
use Rattle.remap.specs.Tracers.{TracersUpto}
use Rattle.remap.proofs.move_column.Given as goal

abbrev pub invariant-loop-t : goal.invariant-loop-t
invariant-loop-t l = TracersUpto l.fn.tracers l.ledger l.column.air l.column.e l.p.c l.p.cells l.p.k l.n l.t l.tracers l.all.steps l.all.ends
