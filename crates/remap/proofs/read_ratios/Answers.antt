-- `remap::read_ratios` meets its contract.
use Rattle.std.proofs.Common.{◌+◌, ◌*◌, sym, ap, ◌∙◌, arith}
use Rattle.model.specs.Basic.{at}
use Rattle.model.specs.Scheme.{ratio}
use Rattle.model.proofs.Laws.Basic.{tab_ext}
use Rattle.remap.proofs.read_ratios.Goals as goal

pub returns : goal.returns
returns c =
    let a = c.args in
    let all = c.loop-i.invariant in (
      tab_ext a.p.k (at c.loop-i.column) (λ i. at a.gas.now (i * a.p.cells + a.p.c)) (λ n h. all.amounts n (omega arith)),
      record { is = λ n h. all.ratios n (omega arith) ∙ ap (ratio (at a.air.now n)) (sym (all.amounts n (omega arith))) },
    )
