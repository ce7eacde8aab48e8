-- `emitters::tick` meets its contract: place 6 from the total, the sum emitted and the kept units, then the emission of all that stand, and its entry.
use Rattle.std.proofs.Common.{◌*◌}
use Rattle.model.specs.Limits.{block_numbers}
use Rattle.units.specs.Lent.{part_lent, put_back}
use Rattle.places.specs.Walk.{hands_on}
use Rattle.emitters.specs.Place.{tick_names}
use Rattle.emitters.specs.Tick.{gas_inside, tick_refused, emit_need, enter_need, tick_agrees}
use Rattle.emitters.proofs.tick.Goals as goal

pub returns-in_err-total : goal.returns-in_err-total
returns-in_err-total c = hands_on c.from_residual.ensures.1 c.in_err-total.ensures tick_names

pub returns-then-not-emission_fits : goal.returns-then-not-emission_fits
returns-then-not-emission_fits c = tick_refused c.in_ok-total.ensures (rw c.block_at-block.ensures at c.kept_units-kept.ensures) (rw c.block_at-block.ensures at c.emission_fits.ensures) c.if-not-emission_fits.true

pub slice_bounds-emit-end : goal.slice_bounds-emit-end
slice_bounds-emit-end c = (gas_inside c.in_ok-total.ensures c.world_cells-cells.ensures.0).0

pub emit-requires : goal.emit-requires
emit-requires c =
    rw c.block_at-block.ensures
    (emit_need c.in_ok-total.ensures (rw c.block_at-block.ensures at c.kept_units-kept.ensures) (rw c.block_at-block.ensures at c.emission_fits.ensures) c.if-not-emission_fits.false c.world_cells-cells.ensures.0)

pub enter_emitted_in-requires : goal.enter_emitted_in-requires
enter_emitted_in-requires c =
    enter_need c.in_ok-total.ensures (rw c.block_at-block.ensures at c.kept_units-kept.ensures) (rw c.block_at-block.ensures at c.emission_fits.ensures)
    c.if-not-emission_fits.false

pub returns : goal.returns
returns c =
    rw (put_back c.args.ledger.now _ (c.args.tracer * block_numbers) block_numbers c.enter_emitted_in.ensures.1, c.enter_emitted_in.ensures.0, part_lent c.args.ledger.now (c.args.tracer * block_numbers) block_numbers)
    (tick_agrees c.in_ok-total.ensures (rw c.block_at-block.ensures at c.kept_units-kept.ensures) (rw c.block_at-block.ensures at c.emission_fits.ensures) c.if-not-emission_fits.false c.world_cells-cells.ensures.0 (rw c.block_at-block.ensures at c.emit.ensures))
