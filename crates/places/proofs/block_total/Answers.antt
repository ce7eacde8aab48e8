-- `places::block_total` meets its contract: each half's sum one amount further, and the halves with what is left behind them.
use Rattle.std.proofs.Common.{◌≡◌, ℕ, ◌+◌, ◌/◌, ◌<◌, length, refl, arith}
use Rattle.model.specs.Basic.{at}
use Rattle.places.specs.Totals.{block_none, block_more, bits_below, halves_total}
use Rattle.places.proofs.block_total.Goals as goal

pub loop-i-init : goal.loop-i-init
loop-i-init c h = (block_none _, block_none _)

pub loop-i-preserved : goal.loop-i-preserved
loop-i-preserved c h =
    let l = c.loop-i in
    let gas = c.args.gas.now in
    let half : ℕ = length gas / 2 in
    let few : l.i < 4096 = omega (arith, c.requires) in
    let below = bits_below l.all (at gas l.i) (at gas (half + l.i)) h in
    let old = l.invariant below.0 in (
      block_more (at gas) few old.0 refl below.1,
      block_more (λ k. at gas (half + k)) few old.1 refl below.2,
    )

pub returns : goal.returns
returns c =
    let gas = c.args.gas.now in
    let end : c.loop-i.i ≡ length gas / 2 = omega arith in
    let done = rw end at (c.loop-i.invariant c.if-all-ge1048576.false) in
    halves_total gas (length gas / 2) (omega arith) done.0 done.1 c.wide_total-rest.ensures
