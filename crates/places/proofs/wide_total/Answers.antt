-- `places::wide_total` meets its contract: the sum one cell further.
use Rattle.std.proofs.Common.{sym, arith}
use Rattle.model.specs.Basic.{at}
use Rattle.model.proofs.Laws.Basic.{sum_none, sum_more}
use Rattle.places.proofs.wide_total.Goals as goal

pub loop-x-init : goal.loop-x-init
loop-x-init c = (sym (sum_none _), omega arith)

pub loop-x-preserved : goal.loop-x-preserved
loop-x-preserved c = (omega (arith, sum_more c.loop-x.x-index (at c.args.gas.now)), omega (arith, c.type_inv.gas c.loop-x.x-index))
