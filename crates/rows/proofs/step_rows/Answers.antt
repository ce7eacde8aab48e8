-- `rows::step_rows` meets its contract.
use Rattle.std.proofs.Common.{◌∙◌, arith}
use Rattle.rows.specs.Gas.{step_need, stepping_more, row_lent, lent_stepped}
use Rattle.rows.proofs.step_rows.Goals as goal

pub step_gas-requires : goal.step_gas-requires
step_gas-requires c =
    let l = c.loop-t in
    rw (row_lent l.invariant) (step_need c.requires l.t (omega arith))

pub loop-t-preserved : goal.loop-t-preserved
loop-t-preserved c =
    let l = c.loop-t in
    stepping_more l.invariant c.requires.few c.requires.wide (omega arith) (c.step_gas.ensures ∙ lent_stepped l.invariant c.limiter_at-l.ensures)
