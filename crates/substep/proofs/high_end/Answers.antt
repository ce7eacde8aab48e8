-- `substep::high_end` meets its contract: no air carries nothing.
use Rattle.std.proofs.Common.{sym, ◌∙◌, ap}
use Rattle.model.specs.Basic.{at}
use Rattle.model.specs.Scheme.{high_piece}
use Rattle.model.proofs.Laws.Scheme.{piece_none}
use Rattle.units.specs.Limiter.{limiter_of}
use Rattle.substep.specs.Pieces.{mismatch_in}
use Rattle.substep.proofs.high_end.Goals as goal

pub returns-then-m-eq0 : goal.returns-then-m-eq0
returns-then-m-eq0 c =
    let a = c.args in
    let D = mismatch_in (limiter_of a.l) a.q.now a.a a.c a.b in
    let have = at a.air.now a.c in
    let amount = at a.gas.now a.c in
    c.new.ensures ∙ sym (ap (high_piece D have amount) c.if-m-eq0.true ∙ piece_none D have amount c.requires.some)
