-- `rows::store_rows`: the rows of the tracers passed are written, the others are as lent.
use Rattle.std.proofs.Common.{◌≡◌}
use Rattle.rows.specs.Rows.{stored_up_to}
use Rattle.rows.proofs.store_rows.Given as goal

abbrev pub invariant-loop-t : goal.invariant-loop-t
invariant-loop-t l = l.tracers ≡ stored_up_to l.fn.tracers l.part.first l.part.cells l.part.w l.t l.rows
