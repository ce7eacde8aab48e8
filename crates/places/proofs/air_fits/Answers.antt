-- `places::air_fits` meets its contract: the two tests, each one cell further, and both together at the end.
use Rattle.std.proofs.Common.{ℕ, Bool, ◌&&◌, leb, sym, ap, ◌∙◌, ap₂, arith}
use Rattle.model.specs.Limits.{air_limit}
use Rattle.model.specs.Basic.{at, every}
use Rattle.model.specs.World.{air_fits}
use Rattle.model.proofs.Laws.Basic.{every_none, every_more}
use Rattle.places.specs.Bits.{or_within, every_both}
use Rattle.places.proofs.air_fits.Goals as goal

pub loop-m-init : goal.loop-m-init
loop-m-init c = (sym (every_none _), sym (every_none _))

pub loop-m-preserved : goal.loop-m-preserved
loop-m-preserved c =
    let l = c.loop-m in
    let m = at c.args.air.now l.m-index in (
      ap (λ (b : Bool). b && leb 1 m) l.invariant.0 ∙ sym (every_more l.m-index _),
      or_within l.all m ∙ ap (λ (b : Bool). b && leb m air_limit) l.invariant.1 ∙ sym (every_more l.m-index _),
    )

pub returns : goal.returns
returns c =
    let l = c.loop-m in
    let air = c.args.air.now in
    ap₂ ◌&&◌ l.invariant.0 l.invariant.1 ∙ every_both l.m-index (λ k. leb 1 (at air k)) (λ k. leb (at air k) air_limit) ∙
    ap (λ (n : ℕ). every n (λ k. air_fits (at air k))) (omega arith)
