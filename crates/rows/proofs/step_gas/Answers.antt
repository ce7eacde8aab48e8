-- `rows::step_gas` meets its contract.
use Rattle.std.proofs.Common.{◌∙◌, rules}
use Rattle.units.specs.Limiter.{limiter_of}
use Rattle.substep.specs.Faces.{flow_of}
use Rattle.rows.specs.Gas.{ArePieces, pieces_pass, pieces_passed}
use Rattle.rows.proofs.step_gas.Goals as goal
use Rattle.rows.proofs.step_gas.Goals.{After-lent}

-- what is lent on has the pieces
are_pieces :
    (c : After-lent) →
    ArePieces (limiter_of c.args.l) c.args.air.now c.args.gas.now (flow_of c.args.flow.up.now c.args.flow.down.now) (flow_of c.lent.result.up.now c.lent.result.down.now)
are_pieces c = rw (c.lent.ensures.0, c.lent.ensures.1) c.fill_pieces.ensures

pub pass-requires : goal.pass-requires
pass-requires c = pieces_pass c.args.flow.up.now c.args.flow.down.now c.requires.need (limiter_of c.args.l) _ _ (are_pieces (goal.at.pass-requires c).After-lent) (search rules)

pub returns : goal.returns
returns c =
    let lent = c.lent.result in
    c.pass.ensures ∙ pieces_passed c.args.flow.up.now c.args.flow.down.now c.requires.need (limiter_of c.args.l) lent.up.now lent.down.now (are_pieces (goal.at.returns c).After-lent)
