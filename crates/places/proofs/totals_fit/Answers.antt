-- `places::totals_fit` meets its contract: the test one total further.
use Rattle.std.proofs.Common.{Bool, ◌&&◌, leb, sym, ap, ◌∙◌}
use Rattle.model.specs.Limits.{total_limit}
use Rattle.model.specs.Basic.{at}
use Rattle.model.proofs.Laws.Basic.{every_none, every_more}
use Rattle.places.proofs.totals_fit.Goals as goal

pub loop-t-init : goal.loop-t-init
loop-t-init c = sym (every_none _)

pub loop-t-preserved : goal.loop-t-preserved
loop-t-preserved c =
    let l = c.loop-t in
    ap (λ (b : Bool). b && leb (at c.args.sums l.t) total_limit) l.invariant ∙ sym (every_more l.t (λ k. leb (at c.args.sums k) total_limit))
