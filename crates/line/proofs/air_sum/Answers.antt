-- `line::air_sum` meets its contract.
use Rattle.std.proofs.Common.{sym, ◌∙◌, arith}
use Rattle.model.specs.Basic as model
use Rattle.model.proofs.Laws.Basic.{sum_none, sum_more}
use Rattle.line.proofs.air_sum.Goals as goal

pub loop-i-init : goal.loop-i-init
loop-i-init c = (c.new-sum.ensures ∙ sym (sum_none _), omega (arith, c.new-sum.ensures))

pub loop-i-preserved : goal.loop-i-preserved
loop-i-preserved c =
    let l = c.loop-i in (
      omega (arith, c.plus-sum.ensures, c.new.ensures, l.invariant, sum_more l.i (model.at c.args.air.now)),
      omega (arith, c.plus-sum.ensures, c.new.ensures, l.invariant, c.requires.most l.i c.loop-i-test.true),
    )
