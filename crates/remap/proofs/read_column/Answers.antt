-- `remap::read_column` meets its contract.
use Rattle.std.proofs.Common.{◌+◌, ◌*◌, arith}
use Rattle.model.specs.Basic.{at}
use Rattle.model.proofs.Laws.Basic.{tab_ext}
use Rattle.remap.proofs.read_column.Goals as goal

pub returns : goal.returns
returns c =
    let a = c.args in
    tab_ext a.p.k (at c.loop-i.column) (λ i. at a.list.now (i * a.p.cells + a.p.c)) (λ n h. c.loop-i.invariant n (omega arith))
