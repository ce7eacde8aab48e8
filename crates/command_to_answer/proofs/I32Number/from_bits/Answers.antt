-- `command_to_answer::I32Number::from_bits` meets its contract: the library's cast is the document's signed number.
use Rattle.std.proofs.Common.{◌≡◌, ◌∙◌, arith, rules}
use Rattle.std.specs.Int.{w32, cast_signed, cast_unsigned}
use Rattle.command_to_answer.specs.Signed.{cast_is_signed}
use Rattle.command_to_answer.proofs.I32Number.from_bits.Goals as goal

pub returns : goal.returns
returns c =
    let read : cast_signed w32 (cast_unsigned w32 c.cast_signed.result) ≡ c.cast_signed.result = search rules in
    read ∙ c.cast_signed.ensures ∙ cast_is_signed c.args.bits (omega arith)
