-- `column::fill_edges` meets its contract.
use Rattle.std.proofs.Common.{◌≡◌, arith}
use Rattle.model.specs.Remap.{edge}
use Rattle.model.proofs.Laws.Entries.{entries_more}
use Rattle.column.proofs.fill_edges.Goals as goal

pub loop-j-preserved : goal.loop-j-preserved
unfolding edge
loop-j-preserved c =
    let l = c.loop-j in
    let a = c.args in
    entries_more 0 l.e l.j _ (λ t x. x ≡ edge a.table.now a.p.0 t) (omega arith) l.invariant c.edge_of.ensures
