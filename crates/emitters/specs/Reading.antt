-- The reading, from what `emitter_place` found.
use Rattle.std.specs.Prelude.{ℕ, ◌≡◌, refl, Ok}
use Rattle.std.proofs.Common.{ap, ◌∙◌}
use Rattle.model.specs.World.{World, block}
use Rattle.model.specs.Emitters.{kept_units}
use Rattle.model.specs.Step.{first_of, units_a_tick}
use Rattle.units.specs.Answer.{Agrees}
use Rattle.units.specs.Agrees.{accepted_agrees}
use Rattle.emitters.specs.Place.{EmittersFound, units_names, places_left}

pub units_agree : {w : World} {t total : ℕ} → EmittersFound w t total → {kept : ℕ} → kept ≡ kept_units (block w t) → Agrees w (units_a_tick t) (Ok kept) w
unfolding first_of
units_agree found is = accepted_agrees (places_left found units_names) refl is refl
