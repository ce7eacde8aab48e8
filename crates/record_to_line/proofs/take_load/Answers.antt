-- `record_to_line::take_load` meets its contract: a refused load leaves the buffers, an accepted one is made in them.
use Rattle.std.proofs.Common.{rules}
use Rattle.units.specs.Agrees.{refusal_nonzero}
use Rattle.record_to_line.specs.Leaves.{load_leaves, load_refused}
use Rattle.record_to_line.proofs.take_load.Goals as goal

pub returns-in_default : goal.returns-in_default
returns-in_default c =
    load_refused c.requires.taken c.line_of-line.ensures c.answer_to_load-answer.ensures (rw c.in_default.is (refusal_nonzero c.in_default.field-0)) _

pub returns : goal.returns
returns c = load_leaves c.requires.taken c.line_of-line.ensures c.answer_to_load-answer.ensures (search rules) c.load_in.ensures
