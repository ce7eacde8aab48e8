-- The columns passed serve.
use Rattle.remap.specs.Served.{ServedUpto}
use Rattle.remap.proofs.columns_serve.Given as goal

abbrev pub invariant-loop-c : goal.invariant-loop-c
invariant-loop-c l = ServedUpto l.air l.table l.cells l.k l.c
