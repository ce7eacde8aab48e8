-- `places::totals` meets its contract: the totals of one tracer more.
use Rattle.std.proofs.Common.{◌*◌, rules}
use Rattle.places.specs.Totals.{totals_more, tracer_room, part_total}
use Rattle.places.proofs.totals.Goals as goal

pub loop-t-preserved : goal.loop-t-preserved
loop-t-preserved c =
    let a = c.args in
    let l = c.loop-t in
    let room = tracer_room c.requires l.t (search rules) in
    (search rules, totals_more (search rules) l.invariant.1 (part_total a.tracers.now (l.t * a.cells) a.cells room.0 c.gas_total.ensures.0) c.gas_total.ensures.1)
