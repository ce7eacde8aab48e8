-- `column::fill_slopes` meets its contract: a limiter numbered 1 has the rule of the first one, whatever its bounds.
use Rattle.std.proofs.Common.{refl, sym, ◌∙◌}
use Rattle.model.specs.Limiters.{first_limiter}
use Rattle.model.proofs.Laws.Limiters.{rule_first}
use Rattle.units.specs.Limiter.{limiter_of}
use Rattle.column.specs.Slopes.{slopes_same}
use Rattle.column.proofs.fill_slopes.Goals as goal

pub returns-then-l-eq-PRESENT_LIMITER : goal.returns-then-l-eq-PRESENT_LIMITER
returns-then-l-eq-PRESENT_LIMITER c =
    let a = c.args in
    let l = limiter_of a.l in
    let same = rule_first first_limiter refl ∙ sym (rule_first l c.if-l-eq-PRESENT_LIMITER.true) in
    slopes_same first_limiter l same a.cap a.k a.q.now c.fill_slopes_by.ensures
