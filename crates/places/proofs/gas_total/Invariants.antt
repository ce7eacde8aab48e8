-- `places::gas_total`: the sum of the blocks passed, with what is left, is that of all amounts.
use Rattle.std.proofs.Common.{ℕ, List, ◌≡◌, ◌+◌, ◌*◌, ◌≤◌, length}
use Rattle.std.specs.Slice.Iter.{chunks_rest, chunks_size}
use Rattle.model.specs.Basic.{at, sum}
use Rattle.places.proofs.gas_total.Given as goal

abbrev pub invariant-loop-block : goal.invariant-loop-block
invariant-loop-block l =
    let rest : List ℕ = chunks_rest l.block-iterator in
    (l.sum + sum (length rest) (at rest) ≡ sum (length l.gas) (at l.gas))
    × (l.sum + length rest * 4294967295 ≤ length l.gas * 4294967295)
    × (chunks_size l.block-iterator ≡ 8192)
