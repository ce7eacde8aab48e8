-- `rows::step_rows`: the tracers passed are stepped, the others as they were.
use Rattle.rows.specs.Gas.{Stepping}
use Rattle.rows.proofs.step_rows.Given as goal

abbrev pub invariant-loop-t : goal.invariant-loop-t
invariant-loop-t l = Stepping l.tracers l.fn.rows l.ledger l.air l.flow.up.now l.flow.down.now l.rows l.t
