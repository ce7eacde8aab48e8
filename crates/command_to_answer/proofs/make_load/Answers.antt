-- `command_to_answer::make_load` meets its contract: air and tracers are the body's numbers, one after the other, and the ledger is zeros.
use Rattle.std.proofs.Common.{ℕ, ◌*◌, ◌∙◌, ap, length}
use Rattle.model.proofs.Laws.Basic.{length_tab}
use Rattle.units.specs.Grid.{world_of}
use Rattle.ledger.specs.Block.{replicate_zeros}
use Rattle.program.specs.Bytes.{numbers_at}
use Rattle.command_to_answer.specs.Room.{decoded_from, agrees_in}
use Rattle.command_to_answer.proofs.make_load.Goals as goal

pub returns : goal.returns
returns c =
    let first = c.decode.ensures in
    let third = c.fill.ensures.after (λ y e. e) ∙ replicate_zeros _ in
    let body = c.args.body.now in
    let amounts = length c.args.tracers.now in
    let tracers = c.decode-2.ensures ∙ decoded_from (λ x. x) body _ amounts ∙ ap (λ (n : ℕ). numbers_at body (4 * n) amounts) (ap length first ∙ length_tab _ _) in
    record { made = agrees_in (λ i. world_of c.args.g (first i) (tracers i) (third i)) c.load.ensures }
