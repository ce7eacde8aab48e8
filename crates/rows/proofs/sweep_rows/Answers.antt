-- `rows::sweep_rows` meets its contract.
use Rattle.std.proofs.Common.{◌+◌, length, rules, arith}
use Rattle.substep.specs.Faces.{AreParts}
use Rattle.row.specs.Columns.{FaceRoom}
use Rattle.rows.specs.Swept.{after_none, rows_may_step, air_may_pass, after_more}
use Rattle.rows.proofs.sweep_rows.Goals as goal
use Rattle.rows.proofs.sweep_rows.Goals.{After-lent-passes}

-- what is lent on has room for each face
room : (c : After-lent-passes) → FaceRoom (length c.args.fluxes.now) c.lent-passes.result.up.now c.lent-passes.result.down.now
room c = search rules

pub loop-s-init : goal.loop-s-init
loop-s-init c = after_none c.requires

pub step_rows-requires : goal.step_rows-requires
step_rows-requires c =
    let lent = (goal.at.step_rows-requires c).After-lent-passes in
    rows_may_step c.requires c.loop-s.invariant (omega arith) _ _ (rw (c.lent-passes.ensures.0, c.lent-passes.ensures.1) c.fill_parts.ensures) (room lent)

pub pass-requires : goal.pass-requires
pass-requires c =
    let lent = (goal.at.pass-requires c).After-lent-passes in
    air_may_pass c.requires c.loop-s.invariant (omega arith) _ _ (rw (c.lent-passes.ensures.0, c.lent-passes.ensures.1) c.fill_parts.ensures) (room lent)

pub loop-s-preserved : goal.loop-s-preserved
loop-s-preserved c =
    let are : AreParts c.args.fluxes.now c.args.n (c.loop-s.s + 1) c.lent-passes.result.up.now c.lent-passes.result.down.now =
    rw (c.lent-passes.ensures.0, c.lent-passes.ensures.1) c.fill_parts.ensures in
    after_more c.requires c.loop-s.invariant (omega arith) _ _ are c.pass.ensures c.step_rows.ensures
