-- A tick's emission, one emitter after the other, and what the call that ticks answers and leaves.
use Rattle.std.specs.Prelude.{ℕ, suc, ◌+◌, ◌*◌, ◌-◌, ◌≤◌, ◌<◌, Bool, true, false, not, ◌&&◌, ◌||◌, ◌≡◌, leb, ltb, eqb, set, Ok, Err}
use mathlib.Core.List.{List, []}
use Rattle.std.proofs.Math.Path.{refl, sym, ap, ap₂}
use Rattle.std.proofs.Common.{◌∙◌, le_refl, mul-le-mul_right, add-one, arith}
use Rattle.std.proofs.lemmas.Bool.{not-true, not-false}
use borrow.Rule.Slice.PartMut.{put_mid}
use Rattle.std.proofs.Math.ListN.{length}
use Rattle.model.specs.Limits.{total_limit, sum_limit, most_emitters, most_amounts, block_numbers}
use Rattle.model.specs.Basic.{at, part, written, sum}
use Rattle.model.specs.World.{World, world_cells, with_amounts, gas, block, with_block, gas_total}
use Rattle.model.specs.Books.{emitted_sum, entered}
use Rattle.model.specs.Emitters.{standing, emitter_cell, emitter_units, kept_units, present_units, ticked}
use Rattle.model.specs.Step.{first_of, tick}
use Rattle.model.proofs.Laws.Basic.{sum_le, sum_more, sum_fewer, term_le_sum}
use Rattle.model.proofs.Laws.Emitters.{length_ticked, ticked_at}
use Rattle.model.proofs.Laws.Grid.{in_range_lem, amounts_most}
use Rattle.model.proofs.Laws.Step.{passes, stops}
use Rattle.model.proofs.Laws.World.{length_gas}
use Rattle.units.specs.declared.Refusal.TheVariants.{Emission}
use Rattle.units.specs.Answer.{Agrees}
use Rattle.units.specs.Agrees.{accepted_agrees, refused_agrees}
use Rattle.units.specs.Lent.{part_lent, put_back}
use Rattle.books.specs.Lent.{both_within, both_fit}
use Rattle.emitters.specs.Place.{EmittersFound, lent_block, block_lent, lent_long, over_limit, tick_names, places_left}

-- a block whose emitters name cells that are there, and amounts that leave room for all of their units
pub record EmitNeed (b had : List ℕ) : Type 0 where
  pub few : standing b ≤ most_emitters
  pub there : (i : ℕ) → i < standing b → emitter_cell b i < length had
  pub room : (c : ℕ) → c < length had → at had c + present_units b ≤ 4294967295

-- none yet; one more
pub ticked_none : (b had : List ℕ) → ticked b 0 had ≡ had
unfolding ticked
ticked_none b had = refl

pub ticked_more : (b had : List ℕ) (i : ℕ) {gas : List ℕ} {cell units : ℕ} → gas ≡ ticked b i had → cell ≡ emitter_cell b i → units ≡ emitter_units b i →
    set gas cell (at gas cell + units) ≡ ticked b (i + 1) had
unfolding ticked
ticked_more b had i so_far c u = rw (so_far, c, u, add-one i)

-- of the units of each emitter a cell gets all or none
some_units : (x : Bool) (units : ℕ) → elim x [ true ↦ units | false ↦ 0 ] ≤ units
some_units true units = le_refl units
some_units false units = omega arith

-- the next emitter's cell has room for its units
pub next_fits : {b had gas : List ℕ} → EmitNeed b had → {i cell units : ℕ} → i < standing b → gas ≡ ticked b i had → cell ≡ emitter_cell b i → units ≡ emitter_units b i →
    (cell < length had) × (at gas cell + units ≤ 4294967295)
next_fits {b} {had} need {i} h e cell units =
    let c : ℕ = emitter_cell b i in
    let so_far = ticked_at b had i (λ j k. need.there j (omega arith)) c in
    let most = sum_le i (λ j. elim (eqb (emitter_cell b j) c) [ true ↦ emitter_units b j | false ↦ 0 ]) (emitter_units b) (λ j k. some_units (eqb (emitter_cell b j) c) (emitter_units b j)) in
    let all : sum (i + 1) (emitter_units b) ≤ present_units b = sum_fewer (emitter_units b) (i + 1) (standing b) (omega arith) in
    (rw cell (need.there i h), rw (e, cell, units) (omega (arith, so_far, most, all, sum_more i (emitter_units b), need.room c (need.there i h))))

-- ---- the tick, from what `emitter_place` found: the lent part of the tracers, and the tracers with that part changed
module _ {w : World} {t total : ℕ} (found : EmittersFound w t total) where
  abbrev lent_gas : ℕ → List ℕ
  lent_gas cells = part w.tracers (t * cells) (t * cells + cells - t * cells)

  gas_long_lem : length (gas w t) ≡ world_cells w.grid
  gas_long_lem = length_gas w t found.fits.tracers_length found.there

  gas_lent : {cells : ℕ} → cells ≡ world_cells w.grid → lent_gas cells ≡ gas w t
  gas_lent {cells} same =
      part_lent w.tracers (t * cells) cells ∙ ap (λ (n : ℕ). part w.tracers (t * n) n) same

  pub gas_inside : {cells : ℕ} → cells ≡ world_cells w.grid → (t * cells + cells ≤ length w.tracers) × (t * cells + cells ≤ most_amounts)
  gas_inside {cells} same =
      let below : suc t * cells ≤ w.grid.N * cells = mul-le-mul_right cells found.there in
      let all : w.grid.N * cells ≡ w.grid.N * world_cells w.grid = ap (λ (n : ℕ). w.grid.N * n) same in
      (omega (arith, found.fits.tracers_length), omega (arith, amounts_most (in_range_lem w.grid found.fits.grid)))

  module _ {kept : ℕ} (is : kept ≡ kept_units (block w t)) {fit : Bool} (tested : fit ≡ leb (total + kept) total_limit && leb (emitted_sum (block w t) + kept) sum_limit) where
    room_is : fit ≡ not (ltb total_limit (gas_total w t + kept_units (block w t)) || ltb sum_limit (emitted_sum (block w t) + kept_units (block w t)))
    room_is =
        (rw (is, found.is) at tested) ∙
        both_within (gas_total w t + kept_units (block w t)) total_limit (emitted_sum (block w t) + kept_units (block w t)) sum_limit

    pub tick_refused : fit ≡ false → Agrees w (tick t) (Err Emission) w
    tick_refused left = refused_agrees (places_left found tick_names ∙ stops (over_limit t) [] w (not-false _ (sym room_is ∙ left)))

    pub tick_room : fit ≡ true → (total + kept ≤ total_limit) × (emitted_sum (block w t) + kept ≤ sum_limit)
    tick_room taken = both_fit (total + kept) total_limit (emitted_sum (block w t) + kept) sum_limit (sym tested ∙ taken)

    pub enter_need : fit ≡ true → (length (lent_block w t) ≡ block_numbers) × (emitted_sum (lent_block w t) + kept ≤ sum_limit)
    enter_need taken = (lent_long found, rw (block_lent w t) (tick_room taken).1)

    module _ (taken : fit ≡ true) {cells : ℕ} (same : cells ≡ world_cells w.grid) where
      within_limit : gas_total w t + present_units (block w t) ≤ total_limit
      within_limit = omega (arith, found.is, is, (tick_room taken).0, found.kept.sum)

      pub emit_need : EmitNeed (block w t) (lent_gas cells)
      emit_need =
          rw (gas_lent same)
          (record {
            few = found.kept.few;
            there = λ i h. rw gas_long_lem (found.cells i h);
            room = λ c h. omega (arith, within_limit, term_le_sum (world_cells w.grid) (at (gas w t)) c (rw gas_long_lem at h));
          })

      pub tick_agrees : {new : List ℕ} → new ≡ ticked (block w t) (standing (block w t)) (lent_gas cells) →
          Agrees w (tick t) (Ok 0)
          (with_block (with_amounts w w.air (put_mid (t * cells) (t * cells + cells - t * cells) w.tracers new)) t (entered (block w t) kept 0))
      unfolding first_of
      tick_agrees {new} e =
          let here : new ≡ ticked (block w t) (standing (block w t)) (gas w t) = rw (gas_lent same) at e in
          let long : length new ≡ cells = ap length here ∙ length_ticked (block w t) (standing (block w t)) (gas w t) ∙ gas_long_lem ∙ sym same in
          rw is
          (accepted_agrees
          (places_left found tick_names ∙ passes (over_limit t) [] w (not-true _ (sym room_is ∙ taken)))
          refl refl
          (ap (λ (tracers : List ℕ). with_block (with_amounts w w.air tracers) t (entered (block w t) (kept_units (block w t)) 0))
          (put_back w.tracers new (t * cells) cells long ∙ ap₂ (λ (n : ℕ) (l : List ℕ). written w.tracers (t * n) l) same here)))
