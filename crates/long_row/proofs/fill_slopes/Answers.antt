-- `long_row::fill_slopes` meets its contract.
use Rattle.std.proofs.Common.{ℕ, ap₂, ◌∙◌, arith}
use Rattle.units.specs.Limiter.{limiter_of}
use Rattle.substep.specs.Pieces.{mismatch_in}
use Rattle.line.specs.Slopes.{slopes_none, slopes_more}
use Rattle.long_row.proofs.fill_slopes.Goals as goal

pub loop-c-init : goal.loop-c-init
loop-c-init c = slopes_none

pub loop-c-preserved : goal.loop-c-preserved
loop-c-preserved c =
    let turn = c.loop-c in
    let read = ap₂ (λ (x y : ℕ). mismatch_in (limiter_of c.args.l) c.args.q.now x turn.c y) c.west_of-west.ensures.0 c.east_of-east.ensures.0 in
    slopes_more turn.c turn.invariant (omega arith) _ (c.mismatch.ensures.is ∙ read)
