-- `layer::cap` meets its contract.
use Rattle.std.proofs.Common.{rules}
use Rattle.layer.specs.Cells.{cap_none, cap_more}
use Rattle.layer.proofs.cap.Goals as goal

pub loop-x-init : goal.loop-x-init
loop-x-init g c = cap_none c.new-total.ensures

pub loop-x-preserved : goal.loop-x-preserved
loop-x-preserved g c = cap_more c.loop-x.invariant (search rules) c.type_inv.side c.new-face.ensures c.plus-total.ensures
