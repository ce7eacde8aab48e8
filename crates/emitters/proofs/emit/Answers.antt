-- `emitters::emit` meets its contract: the next emitter's cell has room for its units.
use Rattle.std.proofs.Common.{sym, arith}
use Rattle.emitters.specs.Tick.{ticked_none, ticked_more, next_fits}
use Rattle.emitters.proofs.emit.Goals as goal

pub loop-i-init : goal.loop-i-init
loop-i-init c = sym (ticked_none _ _)

pub overflow_add-gas : goal.overflow_add-gas
overflow_add-gas c =
    let e = c.emitter_at-emitter.ensures in
    omega (arith, (next_fits c.requires {i = c.loop-i.i} (omega arith) c.loop-i.invariant e.cell e.units).1)

pub loop-i-preserved : goal.loop-i-preserved
loop-i-preserved c =
    let e = c.emitter_at-emitter.ensures in
    ticked_more c.args.block.now c.args.gas.now c.loop-i.i c.loop-i.invariant e.cell e.units
