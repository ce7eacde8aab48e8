-- `column::table_fits` meets its contract.
use Rattle.std.proofs.Common.{◌&&◌, sym, ap₂, ◌∙◌}
use Rattle.model.proofs.Laws.Basic.{every_none, every_more}
use Rattle.column.specs.Laws.{pair_fits}
use Rattle.column.proofs.table_fits.Goals as goal

pub loop-j-init : goal.loop-j-init
loop-j-init c = sym (every_none _)

pub loop-j-preserved : goal.loop-j-preserved
loop-j-preserved c =
    let l = c.loop-j in
    ap₂ ◌&&◌ l.invariant c.pair_fits-ok.ensures ∙ sym (every_more l.j (pair_fits c.args.table.now))
