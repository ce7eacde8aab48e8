-- `lines::line_text` meets its contract: each part stands before the next one, and nothing after the line's end.
use Rattle.std.proofs.Common.{◌≡◌, ◌∙◌, [], arith, drop, drop_of_length-le}
use Rattle.lines.specs.Laws.{put_on, text_parts}
use Rattle.lines.proofs.line_text.Goals as goal

pub returns : goal.returns
returns c =
    let out = c.args.out.now in
    let nothing : drop 33 out ≡ [] = drop_of_length-le out {i = 33} (omega arith) in
    let one = put_on c.put_decimal-count.ensures (put_on c.put_byte-newline.ensures nothing) in
    let two = put_on c.put_decimal-answer.ensures (put_on c.put_byte-space.ensures one) in
    let three = put_on c.put_decimal.ensures (put_on c.put_byte-first_space.ensures two) in
    record { is = three ∙ text_parts _; fits = omega arith; size = omega arith }
