-- `rows::sweep_rows`: the air and every tracer after s substeps.
use Rattle.rows.specs.Swept.{SweptSoFar}
use Rattle.rows.proofs.sweep_rows.Given as goal

abbrev pub invariant-loop-s : goal.invariant-loop-s
invariant-loop-s l = SweptSoFar l.fn.rows l.ledger l.fn.air l.fluxes l.n l.tracers l.s l.air l.rows
