-- `lines::put_decimal` meets its contract: there is room for the digits of `rest`, of which there is one at least, and each stands before what stood at `at`.
use Rattle.std.proofs.Common.{◌≤◌, ◌<◌, ◌∙◌, ap, arith, length}
use Rattle.lines.specs.Laws.{decimal_small, length_pos, length_large, length_u32, put_digit, put_first}
use Rattle.lines.proofs.put_decimal.Goals as goal

pub overflow_sub-at : goal.overflow_sub-at
overflow_sub-at c = omega (arith, length_pos c.loop-rest.rest, length_u32 c.args.n (omega arith))

pub loop-rest-preserved : goal.loop-rest-preserved
loop-rest-preserved c =
    let l = c.loop-rest in
    let some : 1 ≤ l.at = overflow_sub-at c in
    record {
      before = omega arith;
      places = omega (arith, length_large l.rest (omega arith));
      digits = put_digit l.out l.at some (omega arith) l.rest (omega arith) ∙ l.invariant.digits;
    }

pub overflow_sub-at-2 : goal.overflow_sub-at-2
overflow_sub-at-2 c = omega (arith, length_pos c.loop-rest.rest, length_u32 c.args.n (omega arith))

pub returns : goal.returns
returns c =
    let l = c.loop-rest in
    let some : 1 ≤ l.at = overflow_sub-at-2 c in
    let small : l.rest < 10 = omega arith in
    record {
      put = put_first l.out l.at some (omega arith) l.rest small ∙ l.invariant.digits;
      above = omega arith;
      below = omega (arith, ap length (decimal_small l.rest small), length_u32 c.args.n (omega arith));
    }
