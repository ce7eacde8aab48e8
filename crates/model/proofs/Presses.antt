-- Document 02, Slip 5, of every world and all arguments, refused calls included: the count before the sweep and the sweep with that count beside the single sweep, and what an operator asks next.
-- Assumes nothing; of calls between the two presses, that an accepted load began the list.
use Prim.Native.Nat.{ℕ, zero, suc, ◌≤◌, ◌<◌}
use mathlib.Core.List.{List, [], ◌∷◌, ◌++◌}
use Rattle.std.specs.Prelude.{Bool, true, false, ◌&&◌, ◌≡◌, ◌≢◌, eqb, ℤ, pos, take, replicate}
use Rattle.std.proofs.Math.Bool.{not, and-eq-true_iff}
use Rattle.std.proofs.lemmas.Bool.{false≢true}
use Rattle.std.proofs.Math.Path.{refl, sym, ap}
use Rattle.std.proofs.Common.{◌∙◌, ap₂, arith, eq-eqb, ne_eqb}
use Rattle.std.proofs.Math.Decide.{ℕ_discrete}
use Rattle.model.specs.Basic.{part}
use Rattle.model.specs.World.{Grid, World, row_start}
use Rattle.model.specs.Sweep.{ring}
use Rattle.model.specs.Step.{Call, load, emission, withdrawal, zonal, long_zonal, meridional, remap, total, cell, add_emitter, remove_emitter, tick, units_a_tick, count_zonal, zonal_with_count, set_limiter, Place, first_of, absent, other_count, Result, meaning, common_places, limiter_places, book_places, own_places, accepted, refused, refusal, step, row_air, zonal_count}
use Rattle.model.specs.Lists.{Loaded, loaded_world, listed, after, point, history, SameReply}
use Rattle.model.proofs.Laws.Basic.{Apart}
use Rattle.model.proofs.Laws.Grid.{layer_apart, rows_apart}
use Rattle.model.proofs.Laws.Chain.{IsCount, count_smallest}
use Rattle.model.proofs.Laws.Step.{passes, stops, found, numbered, behind_passed, behind_stopped, step_accepted, step_refused, answer_is, refused_changes_nothing, accepted_passed, limiters_sound, books_sound, loaded_reached}
use Rattle.model.proofs.Laws.Keeps.{Kept}
use Rattle.model.proofs.Laws.Part.{ChangesOnly, air_apart}
use Rattle.model.proofs.Laws.Zonal.{zonal_sweeps, zonal_changes_only, reply_row}
use Rattle.model.proofs.Laws.LongZonal.{long_changes_only}
use Rattle.model.proofs.Laws.Meridional.{meridional_changes_only}
use Rattle.model.proofs.Laws.Standing.{no_place_lem}
use Rattle.model.proofs.Laws.Lists.{listed_take, calls_between, calls_between_lem, after_append}
use Rattle.model.proofs.Demand3.{calls_keep}
use Rattle.model.proofs.Cases.{computes}
use Rattle.model.proofs.Cases.Marked.{peak}

zero≢suc : {n : ℕ} → 0 ≡ suc n → ⊥
zero≢suc e = omega arith

-- a call whose places begin with a layer and a row names a row of the grid, where it is accepted
row_named : (l s : ℕ) (ps : List Place) (w : World) → first_of (absent l (λ g. g.K) ∷ absent s (λ g. g.R) ∷ ps) w ≡ 0 → s < w.grid.R
row_named l s ps w e = (found s (λ g. g.R) ps w (found l (λ g. g.K) _ w e).1).0

module _ (w : World) (k r : ℕ) (fluxes : List ℤ) where
  -- the first press, the second with the count n, and the single sweep
  abbrev pub counted : Result
  counted = step w (count_zonal k r fluxes)

  abbrev pub pressed : ℕ → Result
  pressed n = step w (zonal_with_count k r n fluxes)

  abbrev pub single : Result
  single = step w (zonal k r fluxes)

  -- ---- their refusals
  count_refusal : refusal w (count_zonal k r fluxes) ≡ refusal w (zonal k r fluxes)
  unfolding refusal common_places limiter_places book_places own_places
  count_refusal = refl

  given_passed : (n : ℕ) → refusal w (zonal k r fluxes) ≡ 0 → refusal w (zonal_with_count k r n fluxes) ≡ first_of (other_count k r n fluxes ∷ []) w
  unfolding refusal common_places limiter_places book_places own_places numbered
  given_passed n e = behind_passed (common_places (zonal k r fluxes) ++ (limiter_places (zonal k r fluxes) ++ (book_places (zonal k r fluxes) ++ own_places (zonal k r fluxes)))) (other_count k r n fluxes ∷ []) w refl e

  given_stopped : (n m : ℕ) → refusal w (zonal k r fluxes) ≡ suc m → refusal w (zonal_with_count k r n fluxes) ≡ suc m
  unfolding refusal common_places limiter_places book_places own_places
  given_stopped n m e = behind_stopped (common_places (zonal k r fluxes) ++ (limiter_places (zonal k r fluxes) ++ (book_places (zonal k r fluxes) ++ own_places (zonal k r fluxes)))) (other_count k r n fluxes ∷ []) w m e

  -- ---- the first press gives the single sweep's answer and count, and writes nothing
  pub first_press : (counted.answer ≡ single.answer) × (counted.count ≡ single.count) × (counted.next ≡ w)
  unfolding accepted refused
  first_press = go (refusal w (zonal k r fluxes)) refl
    where
      go : (n : ℕ) → refusal w (zonal k r fluxes) ≡ n → (counted.answer ≡ single.answer) × (counted.count ≡ single.count) × (counted.next ≡ w)
      go zero e = rw (step_accepted w (count_zonal k r fluxes) (count_refusal ∙ e), step_accepted w (zonal k r fluxes) e) (refl, refl, refl)
      go (suc n) e = rw (step_refused w (count_zonal k r fluxes) n (count_refusal ∙ e), step_refused w (zonal k r fluxes) n e) (refl, refl, refl)

  single_refusal : counted.answer ≡ refusal w (zonal k r fluxes)
  single_refusal = answer_is w (count_zonal k r fluxes) ∙ count_refusal

  count_is : counted.answer ≡ 0 → counted.count ≡ zonal_count w k r fluxes
  unfolding accepted
  count_is e = ap (λ (x : Result). x.count) (step_accepted w (count_zonal k r fluxes) (sym (answer_is w (count_zonal k r fluxes)) ∙ e))

  -- where it is accepted, the count that it shows is the smallest from 1 to 16 that serves
  pub count_shown : counted.answer ≡ 0 → IsCount (ring w.grid.W) fluxes (row_air w k r) counted.count
  count_shown e =
      let positive = (zonal_sweeps k r fluxes w (sym single_refusal ∙ e)).positive in
      rw (count_is e) (count_smallest (ring w.grid.W) fluxes (row_air w k r) (λ z. omega arith))

  -- and the sweep with a given count is accepted for that number alone: with it, it is the single sweep, answer, count and world, and with any other it is refused with 20
  pub accepted_for_one : counted.answer ≡ 0 → (pressed counted.count ≡ single) × ((n : ℕ) → n ≢ counted.count → pressed n ≡ refused w 20)
  unfolding accepted
  accepted_for_one e =
      let passed = sym single_refusal ∙ e in
      let same = count_is e in
      let go_on = given_passed counted.count passed ∙ passes (other_count k r counted.count fluxes) [] w (ap not (eq-eqb _ _ same)) ∙ no_place_lem w in (
        step_accepted w (zonal_with_count k r counted.count fluxes) go_on ∙
            ap (λ (n : ℕ). accepted w (zonal_with_count k r n fluxes)) same ∙
            sym (step_accepted w (zonal k r fluxes) passed),
        λ n other.
            step_refused w (zonal_with_count k r n fluxes) 19
            (given_passed n passed ∙ stops (other_count k r n fluxes) [] w (ap not (ne_eqb _ _ (λ q. other (q ∙ sym same))))),
      )

  -- where the first press is refused, the sweep is refused alike for every number: the same refusal, which is the single sweep's
  pub accepted_for_none : counted.answer ≢ 0 → (counted ≡ single) × ((n : ℕ) → pressed n ≡ single)
  accepted_for_none closed = go (refusal w (zonal k r fluxes)) refl
    where
      go : (m : ℕ) → refusal w (zonal k r fluxes) ≡ m → (counted ≡ single) × ((n : ℕ) → pressed n ≡ single)
      go zero e = absurd (closed (single_refusal ∙ e))
      go (suc m) e =
          let is = sym (step_refused w (zonal k r fluxes) m e) in (
            step_refused w (count_zonal k r fluxes) m (count_refusal ∙ e) ∙ is,
            λ n. step_refused w (zonal_with_count k r n fluxes) m (given_stopped n m e) ∙ is,
          )

  -- so an accepted one had the count that the first press shows, and is the single sweep
  pub accepted_press : (n : ℕ) → (pressed n).answer ≡ 0 → (n ≡ counted.count) × (pressed n ≡ single)
  unfolding refused
  accepted_press n served = go counted.answer refl (ℕ_discrete n counted.count)
    where
      go : (m : ℕ) → counted.answer ≡ m → Dec (n ≡ counted.count) → (n ≡ counted.count) × (pressed n ≡ single)
      go zero e (yes same) = (same, ap pressed same ∙ (accepted_for_one e).0)
      go zero e (no other) = absurd (zero≢suc (sym served ∙ ap (λ (x : Result). x.answer) ((accepted_for_one e).1 n other)))
      go (suc m) e other =
          let none = accepted_for_none (λ z. omega arith) in
          absurd (zero≢suc (sym served ∙ ap (λ (x : Result). x.answer) (none.1 n ∙ sym none.0) ∙ e))

  first_count : pressed counted.count ≡ single
  first_count = go counted.answer refl
    where
      go : (m : ℕ) → counted.answer ≡ m → pressed counted.count ≡ single
      go zero e = (accepted_for_one e).0
      go (suc m) e = (accepted_for_none (λ z. omega arith)).1 counted.count

  -- "Made one after the other with the same layer, row and fluxes, the first's count given to the second and no call between, they leave what the single sweep leaves, and both give its answer and count."
  pub two_presses :
      (counted.answer ≡ single.answer) × (counted.count ≡ single.count)
      × (step counted.next (zonal_with_count k r counted.count fluxes) ≡ single)
  two_presses = (first_press.0, first_press.1, ap (λ (v : World). step v (zonal_with_count k r counted.count fluxes)) first_press.2 ∙ first_count)

  -- a refused second press changes nothing, so that the operator may press again, or do anything else
  pub press_again : (n : ℕ) → (pressed n).answer ≢ 0 → ((pressed n).count ≡ 0) × ((pressed n).next ≡ w) × ((call : Call) → step (pressed n).next call ≡ step w call)
  press_again n closed = let is = refused_changes_nothing w (zonal_with_count k r n fluxes) closed in (is.0, is.1, λ call. ap (λ (v : World). step v call) is.1)

-- ---- calls between the two presses
-- calls that leave the air of row r in layer k alone: all but remaps, meridional sweeps of the layer, and zonal and long sweeps of the row
abbrev pub leaves_row_air : ℕ → ℕ → Call → Bool
leaves_row_air k r load = true
leaves_row_air k r (emission t c amount) = true
leaves_row_air k r (withdrawal t c amount) = true
leaves_row_air k r (zonal l s fluxes) = not (eqb l k && eqb s r)
leaves_row_air k r (long_zonal l s fluxes) = not (eqb l k && eqb s r)
leaves_row_air k r (meridional l fluxes) = not (eqb l k)
leaves_row_air k r (remap table) = false
leaves_row_air k r (total t) = true
leaves_row_air k r (cell t c) = true
leaves_row_air k r (add_emitter t c id units) = true
leaves_row_air k r (remove_emitter t id) = true
leaves_row_air k r (tick t) = true
leaves_row_air k r (units_a_tick t) = true
leaves_row_air k r (count_zonal l s fluxes) = true
leaves_row_air k r (zonal_with_count l s n fluxes) = not (eqb l k && eqb s r)
leaves_row_air k r (set_limiter t number lo hi) = true

unfoldable pub leave_row_air : ℕ → ℕ → List Call → Bool
leave_row_air k r [] = true
leave_row_air k r (call ∷ calls) = leaves_row_air k r call && leave_row_air k r calls

-- the grid and the row's air are as they were
record RowStays (k r : ℕ) (w next : World) : Type 0 where
  same_grid : next.grid ≡ w.grid
  same_air : row_air next k r ≡ row_air w k r

stays_trans : {k r : ℕ} {w v u : World} → RowStays k r w v → RowStays k r v u → RowStays k r w u
stays_trans a b = record { same_grid = b.same_grid ∙ a.same_grid; same_air = b.same_air ∙ a.same_air }

-- whatever a refused call is; an accepted one if it leaves them
step_stays : (k r : ℕ) (call : Call) (w : World) → (refusal w call ≡ 0 → RowStays k r w (step w call).next) → RowStays k r w (step w call).next
unfolding refused
step_stays k r call w when = go (refusal w call) refl
  where
    go : (n : ℕ) → refusal w call ≡ n → RowStays k r w (step w call).next
    go zero e = when e
    go (suc n) e = rw (step_refused w call n e) (record { same_grid = refl; same_air = refl })

-- a call that moves no air
air_stays :
    (k r : ℕ) (call : Call) (w : World) → ((meaning call).next w).grid ≡ w.grid → ((meaning call).next w).air ≡ w.air →
    RowStays k r w (step w call).next
unfolding accepted
air_stays k r call w same_grid same_air =
    step_stays k r call w
    (λ e. rw (step_accepted w call e) (record { same_grid = same_grid; same_air = ap₂ (λ (g : Grid) (air : List ℕ). part air (row_start g k r) g.W) same_grid same_air }))

module _ (k r : ℕ) (w : World) (there : r < w.grid.R) where
  -- one that writes only cells apart from the row
  apart_stays : {next : World} {a m : ℕ} → ChangesOnly w next a m → Apart a m (row_start w.grid k r) w.grid.W → RowStays k r w next
  apart_stays only apart = record { same_grid = only.same_grid; same_air = rw only.same_grid (air_apart only _ _ apart) }

  -- one that sweeps another row
  row_stays :
      (l s : ℕ) (call : Call) → not (eqb l k && eqb s r) ≡ true → (refusal w call ≡ 0 → s < w.grid.R) →
      (refusal w call ≡ 0 → ChangesOnly w (step w call).next (row_start w.grid l s) w.grid.W) → RowStays k r w (step w call).next
  row_stays l s call other named only =
      step_stays k r call w
      (λ e. apart_stays (only e) (rows_apart w.grid l s k r (named e) there
      (λ p q. false≢true (sym (ap₂ (λ (a b : Bool). not (a && b)) (eq-eqb l k p) (eq-eqb s r q)) ∙ other))))

one_leaves : (k r : ℕ) (call : Call) → leaves_row_air k r call ≡ true → (w : World) → r < w.grid.R → RowStays k r w (step w call).next
unfolding own_places
one_leaves k r load e w there = air_stays k r load w refl refl
one_leaves k r (emission t c amount) e w there = air_stays k r (emission t c amount) w refl refl
one_leaves k r (withdrawal t c amount) e w there = air_stays k r (withdrawal t c amount) w refl refl
one_leaves k r (zonal l s fluxes) e w there =
    row_stays k r w there l s (zonal l s fluxes) e
    (λ served. row_named l s _ w (accepted_passed w (zonal l s fluxes) served).2)
    (λ served. zonal_changes_only l s fluxes w)
one_leaves k r (long_zonal l s fluxes) e w there =
    row_stays k r w there l s (long_zonal l s fluxes) e
    (λ served. row_named l s _ w (accepted_passed w (long_zonal l s fluxes) served).2)
    (λ served. long_changes_only l s fluxes w)
one_leaves k r (meridional l fluxes) e w there =
    apart_stays k r w there (meridional_changes_only l fluxes w)
    (layer_apart w.grid l k r there (λ p. false≢true (ap not (sym (eq-eqb l k p)) ∙ e)))
one_leaves k r (remap table) e w there = absurd (false≢true e)
one_leaves k r (total t) e w there = air_stays k r (total t) w refl refl
one_leaves k r (cell t c) e w there = air_stays k r (cell t c) w refl refl
one_leaves k r (add_emitter t c id units) e w there = air_stays k r (add_emitter t c id units) w refl refl
one_leaves k r (remove_emitter t id) e w there = air_stays k r (remove_emitter t id) w refl refl
one_leaves k r (tick t) e w there = air_stays k r (tick t) w refl refl
one_leaves k r (units_a_tick t) e w there = air_stays k r (units_a_tick t) w refl refl
one_leaves k r (count_zonal l s fluxes) e w there = air_stays k r (count_zonal l s fluxes) w refl refl
one_leaves k r (zonal_with_count l s n fluxes) e w there =
    row_stays k r w there l s (zonal_with_count l s n fluxes) e
    (λ served. row_named l s _ w (accepted_passed w (zonal_with_count l s n fluxes) served).2)
    (λ served. rw (accepted_press w l s fluxes n (answer_is w (zonal_with_count l s n fluxes) ∙ served)).1 (zonal_changes_only l s fluxes w))
one_leaves k r (set_limiter t number lo hi) e w there = air_stays k r (set_limiter t number lo hi) w refl refl

all_leave : (k r : ℕ) (calls : List Call) → leave_row_air k r calls ≡ true → (w : World) → r < w.grid.R → RowStays k r w (after w calls)
unfolding leave_row_air after
all_leave k r [] e w there = record { same_grid = refl; same_air = refl }
all_leave k r (call ∷ calls) e w there =
    let p = (and-eq-true_iff (leaves_row_air k r call) (leave_row_air k r calls)).0 e in
    let one = one_leaves k r call p.0 w there in
    stays_trans one (all_leave k r calls p.1 (step w call).next (rw one.same_grid there))

-- In a list after an accepted load, with the first press made at point i and the second at point j
module _ (w : World) (calls : List Call) (loaded : Loaded w) (no_loads : listed calls ≡ true) (k r : ℕ) where
  abbrev at_point : ℕ → World
  at_point i = point (loaded_world w) calls i

  kept : (i : ℕ) → Kept (loaded_world w) (at_point i) (λ t. history (loaded_world w) t (take i calls))
  kept i = calls_keep (loaded_world w) (take i calls) (listed_take i calls no_loads) (loaded_reached w loaded)

  -- where the row's air is the same at both, the first press has the same answer and count at both, and the second press with that count is the single sweep
  pub count_stands :
      (fluxes : List ℤ) (i j : ℕ) → row_air (at_point i) k r ≡ row_air (at_point j) k r →
      SameReply (at_point i) (at_point j) (count_zonal k r fluxes)
      × (pressed (at_point j) k r fluxes (counted (at_point i) k r fluxes).count ≡ single (at_point j) k r fluxes)
  count_stands fluxes i j same_air =
      let same = reply_row k r fluxes (at_point i) (at_point j) ((kept i).same_grid ∙ sym (kept j).same_grid) same_air (limiters_sound (kept i).reached ∙ sym (limiters_sound (kept j).reached)) (books_sound (kept i).reached ∙ sym (books_sound (kept j).reached)) (kept i).reached.fits (kept j).reached.fits in
      let first = first_press (at_point i) k r fluxes in
      let later = first_press (at_point j) k r fluxes in
      let count = first.1 ∙ same.1 ∙ sym later.1 in (
        (first.0 ∙ same.0 ∙ sym later.0, count),
        ap (pressed (at_point j) k r fluxes) count ∙ first_count (at_point j) k r fluxes,
      )

  -- calls between them that leave the row's air alone: emissions, withdrawals, ticks, readings, changes of emitters and limiters, and sweeps of other rows and layers
  pub row_air_stays :
      (i j : ℕ) → i ≤ j → r < (loaded_world w).grid.R → leave_row_air k r (calls_between calls i j) ≡ true →
      row_air (at_point i) k r ≡ row_air (at_point j) k r
  row_air_stays i j le there beside =
      let later : at_point j ≡ after (at_point i) (calls_between calls i j) = ap (after (loaded_world w)) (calls_between_lem calls le) ∙ after_append (loaded_world w) (take i calls) (calls_between calls i j) in
      sym (ap (λ (v : World). row_air v k r) later ∙ (all_leave k r (calls_between calls i j) beside (at_point i) (rw (kept i).same_grid there)).same_air)

  -- so calls of these kinds between the two presses change neither answer nor count of the first, and the second with that count is the single sweep
  pub calls_between_presses :
      (fluxes : List ℤ) (i j : ℕ) → i ≤ j → r < (loaded_world w).grid.R → leave_row_air k r (calls_between calls i j) ≡ true →
      SameReply (at_point i) (at_point j) (count_zonal k r fluxes)
      × (pressed (at_point j) k r fluxes (counted (at_point i) k r fluxes).count ≡ single (at_point j) k r fluxes)
  calls_between_presses fluxes i j le there leave = count_stands fluxes i j (row_air_stays i j le there leave)

-- Such calls, for row 0 of layer 0: one of each kind but a remap, the sweeps of other layers
pub some_leave :
    leave_row_air 0 0
    (emission 0 1 5 ∷ withdrawal 0 1 5 ∷ zonal 1 0 (replicate 4 (pos 50)) ∷ long_zonal 2 0 (replicate 4 (pos 50)) ∷ meridional 1 (replicate 8 (pos 1)) ∷
    add_emitter 0 3 7 40 ∷ tick 0 ∷ units_a_tick 0 ∷ remove_emitter 0 7 ∷ count_zonal 0 0 (replicate 4 (pos 50)) ∷ zonal_with_count 1 0 1 (replicate 4 (pos 50)) ∷
    set_limiter 0 2 0 0 ∷ total 0 ∷ cell 0 3 ∷ []) ≡
    true
unfolding leave_row_air
some_leave = refl

-- m7's row (y5-5, y5-6): 16 is its count, so every other number is refused with 20: 0, 1, 15, 17, 2^32 − 1 and all the rest
pub m7_count : step peak (count_zonal 0 0 (replicate 4 (pos 1600))) ≡ record { answer = 0; count = 16; next = peak }
unfolding computes
m7_count = refl

pub m7_others : (n : ℕ) → n ≢ 16 → step peak (zonal_with_count 0 0 n (replicate 4 (pos 1600))) ≡ refused peak 20
m7_others n other =
    (accepted_for_one peak 0 0 (replicate 4 (pos 1600)) (ap (λ (x : Result). x.answer) m7_count)).1 n
    (λ same. other (same ∙ ap (λ (x : Result). x.count) m7_count))
