-- `record_to_line::take_call` meets its contract: the call made in the world at the start of the buffers.
use Rattle.record_to_line.specs.Leaves.{call_leaves}
use Rattle.record_to_line.proofs.take_call.Goals as goal

pub returns : goal.returns
returns c = call_leaves c.requires.taken c.line_of.ensures c.call_in-answer.ensures
