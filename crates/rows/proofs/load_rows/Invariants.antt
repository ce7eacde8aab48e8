-- `rows::load_rows`: the rows of the tracers passed.
use Rattle.rows.specs.Rows.{Loading}
use Rattle.rows.proofs.load_rows.Given as goal

abbrev pub invariant-loop-t : goal.invariant-loop-t
invariant-loop-t l = Loading l.tracers l.part.first l.part.cells l.part.w l.t l.rows
