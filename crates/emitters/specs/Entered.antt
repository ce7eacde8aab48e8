-- What the calls that add and remove an emitter answer and leave, from what `emitter_place` found.
use Rattle.std.specs.Prelude.{ℕ, ◌≤◌, ◌<◌, [], ◌∷◌, Bool, true, false, not, ◌||◌, ◌≡◌, refl, leb, length, Ok, Err}
use Rattle.std.proofs.Common.{sym, ap, ◌∙◌, leb-false}
use Rattle.std.proofs.lemmas.Bool.{not-true, not-false}
use Rattle.model.specs.Limits.{most_emitters, block_numbers}
use Rattle.model.specs.World.{World, world_cells, block, with_block}
use Rattle.model.specs.Emitters.{standing, has_id, emitter_added, removed_at}
use Rattle.model.specs.Step.{absent, first_of, add_emitter, remove_emitter}
use Rattle.model.proofs.Laws.Step.{passes, stops}
use Rattle.units.specs.declared.Refusal.TheVariants.{Index, EmitterAdded, EmitterAbsent}
use Rattle.units.specs.Answer.{Agrees}
use Rattle.units.specs.Agrees.{accepted_agrees, refused_agrees}
use Rattle.ledger.specs.Block.{Kept, FoundAt, removed_is}
use Rattle.places.specs.Walk.{there, missing}
use Rattle.emitters.specs.Place.{EmittersFound, lent_block, block_lent, lent_long, no_place, no_such, add_names, remove_names, places_left}

module _ {w : World} {t total : ℕ} (found : EmittersFound w t total) where
  -- ---- add: what `takes` gives
  abbrev pub Takes : ℕ → Bool → Type 0
  Takes id takes = takes ≡ not (leb most_emitters (standing (block w t)) || has_id (block w t) id)

  pub add_need : (id : ℕ) {takes : Bool} → Takes id takes → takes ≡ true →
      (length (lent_block w t) ≡ block_numbers) × Kept (lent_block w t) × (standing (lent_block w t) < most_emitters)
  add_need id is taken =
      let few = leb-false most_emitters (standing (block w t)) (first _ _ (not-true _ (sym is ∙ taken))) in
      (lent_long found, rw (block_lent w t) found.kept, rw (block_lent w t) few)
    where
      first : (a b : Bool) → a || b ≡ false → a ≡ false
      first true b e = e
      first false b e = refl

  module _ {c id units : ℕ} where
    pub add_no_cell : world_cells w.grid ≤ c → Agrees w (add_emitter t c id units) (Err Index) w
    add_no_cell outside = refused_agrees (places_left found add_names ∙ stops (absent c world_cells) _ w (missing outside))

    pub add_refused : {takes : Bool} → c < world_cells w.grid → Takes id takes → takes ≡ false →
        Agrees w (add_emitter t c id units) (Err EmitterAdded) w
    add_refused inside is left =
        refused_agrees
        (places_left found add_names ∙ passes (absent c world_cells) _ w (there inside) ∙
        stops (no_place t id) [] w (not-false _ (sym is ∙ left)))

    pub add_agrees : {takes : Bool} → c < world_cells w.grid → Takes id takes → takes ≡ true →
        Agrees w (add_emitter t c id units) (Ok 0) (with_block w t (emitter_added (block w t) id c units))
    unfolding first_of
    add_agrees inside is taken =
        accepted_agrees
        (places_left found add_names ∙ passes (absent c world_cells) (no_place t id ∷ []) w (there inside) ∙
        passes (no_place t id) [] w (not-true _ (sym is ∙ taken)))
        refl refl refl

  -- ---- remove: the search finds none, or one
  module _ {id : ℕ} where
    pub remove_refused : has_id (block w t) id ≡ false → Agrees w (remove_emitter t id) (Err EmitterAbsent) w
    remove_refused none =
        refused_agrees (places_left found remove_names ∙ stops (no_such t id) [] w (ap not none))

    pub remove_need : {i : ℕ} → FoundAt (block w t) id (standing (block w t)) i →
        (length (lent_block w t) ≡ block_numbers) × Kept (lent_block w t) × (i < standing (lent_block w t))
    remove_need one = (lent_long found, rw (block_lent w t) found.kept, rw (block_lent w t) one.inside)

    pub remove_agrees : {i : ℕ} → FoundAt (block w t) id (standing (block w t)) i → Agrees w (remove_emitter t id) (Ok 0) (with_block w t (removed_at (block w t) i))
    unfolding first_of
    remove_agrees {i} one =
        accepted_agrees
        (places_left found remove_names ∙ passes (no_such t id) [] w (ap not one.has))
        refl refl
        (ap (with_block w t) (removed_is (block w t) id i one.is))
