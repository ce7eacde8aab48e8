-- `fields::number_4` meets its contract: the low half first, and the low byte of each.
use Rattle.std.proofs.Common.{◌≡◌, ◌+◌, ap, arith}
use Rattle.model.specs.Basic.{at}
use Rattle.fields.specs.Laws.{number_two, number_four}
use Rattle.fields.proofs.number_4.Goals as goal

pub returns : goal.returns
returns c =
    let a = c.args.at in
    let bytes = c.args.bytes.now in
    let last : a + 2 + 1 ≡ a + 3 = omega arith in
    omega (arith, number_four bytes a c.requires, number_two bytes a (omega arith), number_two bytes (a + 2) (omega arith), ap (at bytes) last)
