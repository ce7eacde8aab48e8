-- `command_to_answer::make_meridional` meets its contract: the fluxes decoded from the body are those that the call is made with.
use Rattle.std.proofs.Common.{ap, arith}
use Rattle.model.specs.Step.{meridional}
use Rattle.stages.specs.Laws.{few_faces}
use Rattle.program.specs.Bytes.{signed}
use Rattle.command_to_answer.specs.Room.{filled_from, agrees_same}
use Rattle.command_to_answer.proofs.make_meridional.Goals as goal

pub returns : goal.returns
returns c =
    let few = few_faces c.args.g c.requires.0 c.requires.1 in
    let fluxes = filled_from signed _ c.args.body.now 1 (omega (arith, few)) c.decode.ensures in
    agrees_same _ _ _ _ _ (ap (meridional c.args.layer) fluxes) c.meridional.ensures
