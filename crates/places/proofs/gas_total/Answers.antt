-- `places::gas_total` meets its contract: the sum one block further, of the blocks into which `chunks` cuts the amounts.
use Rattle.std.proofs.Common.{ℕ, List, ◌++◌, ◌≡◌, ◌+◌, ◌∙◌, length, ap, arith, length-append, get_or-append-add}
use Rattle.std.proofs.Math.ListN.{get_or-append}
use Rattle.std.specs.Slice.Iter.{chunks_rest}
use Rattle.model.specs.Basic.{at, sum}
use Rattle.model.proofs.Laws.Basic.{sum_ext, sum_split, sum_none}
use Rattle.places.proofs.gas_total.Goals as goal

abbrev all : List ℕ → ℕ
all l = sum (length l) (at l)

all_append : (xs ys : List ℕ) → all (xs ++ ys) ≡ all xs + all ys
all_append xs ys =
    let first = sum_ext (length xs) (at (xs ++ ys)) (at xs) (λ i h. get_or-append xs ys 0 i h) in
    let second = sum_ext (length ys) (λ i. at (xs ++ ys) (length xs + i)) (at ys) (λ i h. get_or-append-add xs ys i 0) in
    ap (λ (n : ℕ). sum n (at (xs ++ ys))) (length-append xs ys) ∙ sum_split (length xs) (length ys) (at (xs ++ ys)) ∙ omega (arith, first, second)

pub loop-block-preserved : goal.loop-block-preserved
loop-block-preserved c =
    let steps = c.in-Some.ensures.steps in
    let l = c.loop-block.invariant in
    let is = c.block_total-sum.ensures in
    let rest = chunks_rest c.next.new.self in
    let more = ap all steps.1.0 ∙ all_append c.in-Some.block.now rest in
    let long = ap length steps.1.0 ∙ length-append c.in-Some.block.now rest in
    (omega (arith, l.0, more, is.is), omega (arith, l.1, long, is.small), steps.0 ∙ l.2)

pub returns : goal.returns
returns c =
    let none = c.in-None.ensures.steps.1.0 in
    let l = c.loop-block.invariant in
    let left : all (chunks_rest c.loop-block.block-iterator) ≡ 0 = ap (λ (n : ℕ). sum n (at (chunks_rest c.loop-block.block-iterator))) none ∙ sum_none _ in
    (omega (arith, l.0, left), omega (arith, l.1, c.requires))
