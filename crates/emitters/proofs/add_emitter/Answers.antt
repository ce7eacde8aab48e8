-- `emitters::add_emitter` meets its contract: one more emitter in the block that `emitter_place` found.
use Rattle.std.proofs.Common.{◌*◌}
use Rattle.model.specs.Limits.{block_numbers}
use Rattle.units.specs.Lent.{part_lent, put_back}
use Rattle.places.specs.Walk.{hands_on}
use Rattle.emitters.specs.Place.{add_names}
use Rattle.emitters.specs.Entered.{add_no_cell, add_refused, add_need, add_agrees}
use Rattle.emitters.proofs.add_emitter.Goals as goal

pub returns-in_err-emitter_place : goal.returns-in_err-emitter_place
returns-in_err-emitter_place c = hands_on c.from_residual.ensures.1 c.in_err-emitter_place.ensures add_names

pub returns-then-cell-world_cells : goal.returns-then-cell-world_cells
returns-then-cell-world_cells c = add_no_cell c.in_ok-emitter_place.ensures (rw c.world_cells.ensures.0 at c.if-cell-world_cells.true)

pub returns-then-not-takes : goal.returns-then-not-takes
returns-then-not-takes c =
    add_refused c.in_ok-emitter_place.ensures (rw c.world_cells.ensures.0 at c.if-cell-world_cells.false) (rw c.block_at.ensures at c.takes.ensures) c.if-not-takes.true

pub add_in-requires : goal.add_in-requires
add_in-requires c = add_need c.in_ok-emitter_place.ensures c.args.id (rw c.block_at.ensures at c.takes.ensures) c.if-not-takes.false

pub returns : goal.returns
returns c =
    rw (put_back c.args.ledger.now _ (c.args.tracer * block_numbers) block_numbers c.add_in.ensures.1, c.add_in.ensures.0, part_lent c.args.ledger.now (c.args.tracer * block_numbers) block_numbers)
    (add_agrees c.in_ok-emitter_place.ensures (rw c.world_cells.ensures.0 at c.if-cell-world_cells.false) (rw c.block_at.ensures at c.takes.ensures) c.if-not-takes.false)
