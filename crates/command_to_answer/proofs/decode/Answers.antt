-- `command_to_answer::decode` meets its contract: each entry is the number of its own four bytes.
use Rattle.std.proofs.Common.{ℕ, ◌+◌, ◌*◌, sym, ◌∙◌, ap, zero-add, arith}
use Rattle.program.specs.Bytes.{number_at}
use Rattle.command_to_answer.specs.Fill.{filled_none, filled_more}
use Rattle.command_to_answer.proofs.decode.Goals as goal

pub loop-i-init : goal.loop-i-init
loop-i-init g c = filled_none c.args.out.now (λ (j : ℕ). g.N.Number.of_bits (number_at c.args.bytes.now (0 + 4 * j) 4))

pub loop-i-preserved : goal.loop-i-preserved
loop-i-preserved g c =
    let of = g.N.Number.of_bits in
    let bytes = c.args.bytes.now in
    let l = c.loop-i in
    let four = c.number_4.ensures ∙ sym (ap (λ (a : ℕ). number_at bytes a 4) (zero-add (4 * l.i))) in
    filled_more l.out (λ (j : ℕ). of (number_at bytes (0 + 4 * j) 4)) l.i _ (c.from_bits.ensures ∙ ap of four) (omega arith) l.invariant
