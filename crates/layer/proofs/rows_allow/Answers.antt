-- `layer::rows_allow` meets its contract.
use Rattle.std.proofs.Common.{◌&&◌, sym, ◌∙◌, ap₂}
use Rattle.model.proofs.Laws.Basic.{every_none, every_more}
use Rattle.substep.specs.Cells.{cell_allows}
use Rattle.layer.specs.Cells.{row_cell_lem}
use Rattle.layer.proofs.rows_allow.Goals as goal

pub loop-j-init : goal.loop-j-init
loop-j-init c = sym (every_none _)

pub loop-j-preserved : goal.loop-j-preserved
loop-j-preserved c =
    let a = c.args in
    let l = c.loop-j in
    let cell = row_cell_lem a.shape.w a.shape.rows a.flow.up.now a.flow.down.now l.j c.loop-j-test.true c.across-enters.ensures.0 c.across-leaves.ensures.0 in
    let test = rw c.new.ensures at c.cell_allows-ok.ensures in
    ap₂ ◌&&◌ l.invariant (test ∙ cell_allows cell a.air.now) ∙ sym (every_more l.j _)
