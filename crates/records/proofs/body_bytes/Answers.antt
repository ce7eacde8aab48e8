-- `records::body_bytes` meets its contract: in place and its length, or none.
use Rattle.stages.specs.Laws.{stage_small}
use Rattle.records.specs.Laws.{needs_none, needs_body}
use Rattle.records.proofs.body_bytes.Goals as goal

pub body_length-requires : goal.body_length-requires
body_length-requires c = stage_small c.settled-sound.result _ c.grid.ensures c.settled-sound.ensures.taken

pub returns-in-Ok : goal.returns-in-Ok
returns-in-Ok c =
    needs_body c.settled-sound.ensures c.args.kind c.in-Ok.known (rw c.in-Ok.is at c.placed.ensures) c.grid.ensures c.body_length.ensures.0 c.body_length.ensures.1

pub returns-in-Err : goal.returns-in-Err
returns-in-Err c = needs_none c.settled-sound.ensures c.args.kind (rw c.in-Err.is at c.placed.ensures)
