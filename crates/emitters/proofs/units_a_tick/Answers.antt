-- `emitters::units_a_tick` meets its contract: the kept units of the block that `emitter_place` found.
use Rattle.places.specs.Walk.{hands_on}
use Rattle.emitters.specs.Place.{units_names}
use Rattle.emitters.specs.Reading.{units_agree}
use Rattle.emitters.proofs.units_a_tick.Goals as goal

pub returns-in_err-emitter_place : goal.returns-in_err-emitter_place
returns-in_err-emitter_place c = hands_on c.from_residual.ensures.1 c.in_err-emitter_place.ensures units_names

pub returns : goal.returns
returns c = units_agree c.in_ok-emitter_place.ensures (rw c.block_at.ensures at c.kept_units.ensures)
