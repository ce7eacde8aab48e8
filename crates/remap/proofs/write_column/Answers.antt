-- `remap::write_column` meets its contract.
use Rattle.std.proofs.Common.{sym}
use Rattle.model.specs.Basic.{at}
use Rattle.remap.specs.Columns.{set_none, set_more}
use Rattle.remap.proofs.write_column.Goals as goal

pub loop-i-init : goal.loop-i-init
loop-i-init c = sym (set_none _ _ _ _)

pub loop-i-preserved : goal.loop-i-preserved
loop-i-preserved c =
    let a = c.args in
    let l = c.loop-i in
    set_more a.p.cells a.list.now a.p.c (at a.column.now) l.i l.list l.invariant
