-- `line::edges_serve` meets its contract.
use Rattle.std.proofs.Common.{◌&&◌, sym, ap₂, ◌∙◌, add-one}
use Rattle.model.proofs.Laws.Basic.{every_none, every_more}
use Rattle.line.specs.Line.{serves_at}
use Rattle.line.proofs.edges_serve.Goals as goal

pub loop-j-init : goal.loop-j-init
loop-j-init c = sym (every_none _)

pub loop-j-preserved : goal.loop-j-preserved
loop-j-preserved c =
    let l = c.loop-j in
    ap₂ ◌&&◌ l.invariant (rw add-one at c.cell_serves-ok.ensures) ∙ sym (every_more l.j (serves_at c.args.e.now))
