-- `emitters::remove_emitter` meets its contract: one emitter fewer in the block that `emitter_place` found.
use Rattle.std.proofs.Common.{◌*◌}
use Rattle.model.specs.Limits.{block_numbers}
use Rattle.units.specs.Lent.{part_lent, put_back}
use Rattle.places.specs.Walk.{hands_on}
use Rattle.emitters.specs.Place.{remove_names}
use Rattle.emitters.specs.Entered.{remove_refused, remove_need, remove_agrees}
use Rattle.emitters.proofs.remove_emitter.Goals as goal

pub returns-in_err-emitter_place : goal.returns-in_err-emitter_place
returns-in_err-emitter_place c = hands_on c.from_residual.ensures.1 c.in_err-emitter_place.ensures remove_names

pub returns-in_default : goal.returns-in_default
returns-in_default c = remove_refused c.in_ok-emitter_place.ensures (rw c.block_at.ensures at c.in_default.ensures)

pub remove_in-requires : goal.remove_in-requires
remove_in-requires c = remove_need c.in_ok-emitter_place.ensures {id = c.args.id} (rw c.block_at.ensures at c.in-Some.ensures)

pub returns : goal.returns
returns c = rw (put_back c.args.ledger.now _ (c.args.tracer * block_numbers) block_numbers c.remove_in.ensures.1, c.remove_in.ensures.0, part_lent c.args.ledger.now (c.args.tracer * block_numbers) block_numbers) (remove_agrees c.in_ok-emitter_place.ensures (rw c.block_at.ensures at c.in-Some.ensures))
