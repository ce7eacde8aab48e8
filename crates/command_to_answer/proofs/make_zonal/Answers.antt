-- `command_to_answer::make_zonal` meets its contract: the fluxes decoded from the body are those that the call is made with.
use Rattle.std.proofs.Common.{ap, arith}
use Rattle.model.specs.Step.{zonal}
use Rattle.program.specs.Bytes.{signed}
use Rattle.command_to_answer.specs.Room.{filled_from, agrees_same}
use Rattle.command_to_answer.proofs.make_zonal.Goals as goal

pub returns : goal.returns
returns c =
    let fluxes = filled_from signed _ c.args.body.now 2 (omega (arith, c.requires.0.high_w)) c.decode.ensures in
    agrees_same _ _ _ _ _ (ap (zonal c.args.layer c.args.row) fluxes) c.zonal.ensures
