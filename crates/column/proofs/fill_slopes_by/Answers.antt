-- `column::fill_slopes_by` meets its contract.
use Rattle.std.proofs.Common.{ℕ, ◌+◌, ◌-◌, ◌≡◌, ◌||◌, true, refl, ap, ap₂, ◌∙◌, length-set, arith}
use Rattle.std.proofs.Math.Dec.{eqb}
use Rattle.units.specs.Limiter.{limiter_of}
use Rattle.units.specs.declared.Mismatch as code
use Rattle.model.specs.Basic.{at}
use Rattle.line.specs.Slopes.{slopes_more}
use Rattle.column.specs.Gas.{mismatch_unless}
use Rattle.column.specs.Slopes.{slope_above, slope_last}
use Rattle.column.proofs.fill_slopes_by.Goals as goal

pub loop-i-preserved : goal.loop-i-preserved
loop-i-preserved c =
    let a = c.args in
    let turn = c.loop-i in
    let here : turn.i ≡ turn.i + 1 - 1 = omega arith in
    let read = ap₂ (λ (x y : ℕ). mismatch_unless (limiter_of a.l) (a.cap || eqb turn.i 0) x y (at a.q.now (turn.i + 1))) turn.invariant.above turn.invariant.own in
    record {
      above = turn.invariant.own ∙ ap (at a.q.now) here;
      own = refl;
      slopes = slopes_more turn.i turn.invariant.slopes (omega arith) _ (c.layer_mismatch.ensures ∙ read ∙ slope_above (limiter_of a.l) a.cap a.k a.q.now turn.i (omega arith));
    }

pub returns : goal.returns
returns c =
    let end = c.loop-i in
    let a = c.args in
    let last : end.i ≡ a.k - 1 = omega arith in
    let whole : a.k - 1 + 1 ≡ a.k = omega arith in
    let none : code.Mismatch = record { size = 0; positive = true } in
    let bottom = slope_last (limiter_of a.l) a.cap a.k a.q.now (a.k - 1) (omega arith) in
    record {
      room_slopes = omega (arith, length-set end.slopes (a.k - 1) none, end.auto.slopes, c.requires.room_slopes);
      all = rw whole at (slopes_more (a.k - 1) (rw last at end.invariant.slopes) (omega arith) none bottom);
    }
