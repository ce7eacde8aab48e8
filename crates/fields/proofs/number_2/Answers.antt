-- `fields::number_2` meets its contract: the low byte first.
use Rattle.std.proofs.Common.{arith}
use Rattle.fields.specs.Laws.{number_two}
use Rattle.fields.proofs.number_2.Goals as goal

pub returns : goal.returns
returns c =
    let is = number_two c.args.bytes.now c.args.at c.requires in
    (omega arith, omega arith)
