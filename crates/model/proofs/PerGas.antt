-- Document 02, Slip 7, in the words of a user: no piece above what a cell has under any limiter, what limiters never change, when 21 is given, and what a list without the setting call gives.
-- Assumes nothing; of worlds reached by calls, that an accepted load began the list.
use Prim.Native.Nat.{ℕ, zero, suc, ◌+◌, ◌*◌, ◌≤◌, ◌<◌}
use mathlib.Core.List.{List, [], ◌∷◌, ◌++◌}
use Rattle.std.proofs.Math.Bool.{Bool, true, false, not, and-eq-true_iff}
use Rattle.std.specs.Prelude.{◌&&◌, ◌≡◌, ◌≢◌, ℤ, length}
use Rattle.std.proofs.lemmas.Bool.{false≢true, eqb-false, not-true, not-false}
use Rattle.std.proofs.Common.{true≢false, ◌∙◌, arith}
use Rattle.std.proofs.Math.Path.{refl, sym, ap}
use Rattle.std.proofs.Math.Dec.{leb, eqb}
use Rattle.model.specs.Limits.{total_limit, block_numbers}
use Rattle.model.specs.Basic.{at, part, written, joined, every}
use Rattle.model.specs.World.{World, world_cells, layer_start, row_start, with_amounts, with_ledger, gas, gas_total, air_fits, moved, moved_part}
use Rattle.model.specs.Scheme.{ratio, Mismatch, Rule, mismatch, high_piece, low_piece}
use Rattle.model.specs.Sweep.{Mesh, ring, layer, air_after, gas_after, swept}
use Rattle.model.specs.Remap.{remapped_air, remapped_gas, remap_count, remap_serves, remapped}
use Rattle.model.specs.Long.{long_air, long_gas, long_swept}
use Rattle.model.specs.Limiters.{Limiter, rule_for, limiter_fits, limiter_in, first_limiter, limiter_of, rule_of}
use Rattle.model.specs.Step.{Call, load, emission, withdrawal, zonal, long_zonal, meridional, remap, total, cell, add_emitter, remove_emitter, tick, units_a_tick, count_zonal, zonal_with_count, set_limiter, Result, Place, first_of, broken_limiter, broken_book, grid_fits, lengths_fit, meaning, lent_fits, common_places, place_if, limiter_places, book_places, own_places, accepted, refused, refusal, step, zonal_count}
use Rattle.model.specs.Lists.{Loaded, loaded_world, listed, after, point}
use Rattle.model.proofs.Laws.Basic.{tab_ext, every_true}
use Rattle.model.proofs.Laws.Scheme.{ratio_safe, piece_le, pieces_le}
use Rattle.model.proofs.Laws.Limiters.{limiter_limited, rule_first}
use Rattle.model.proofs.Laws.Emitters.{fresh_limiter}
use Rattle.model.proofs.Laws.Lists.{listed_split}
use Rattle.model.proofs.Laws.Step.{Reached, first_of_same, found, passes, step_accepted, step_refused, answer_is, own_refusal, lent_refusal, accepted_passed, behind_limiters, loaded_is, loaded_block, loaded_reached}
use Rattle.model.proofs.Laws.Standing.{beside, names_not, added_limiter, removed_limiter, booked_limiter}
use Rattle.model.proofs.Demand3.{any_keeps, reached}

-- ---- "no piece above what the cell has", from one end and from both, under each limiter
module _ (l : Limiter) (qa qb M T : ℕ) (h_m : 0 < M) where
  abbrev D : Mismatch
  D = rule_for l qa (ratio M T) qb

  pub limited_piece : (m : ℕ) → m ≤ M → high_piece D M T m ≤ T
  limited_piece = piece_le D M T (ratio_safe D M T ((limiter_limited l).at_most_twice qa (ratio M T) qb)) h_m

  pub limited_pieces :
      (m₁ m₂ : ℕ) → m₁ + m₂ ≤ M →
      high_piece D M T m₁ + low_piece D M T m₂ ≤ T
  limited_pieces = pieces_le D M T (ratio_safe D M T ((limiter_limited l).at_most_twice qa (ratio M T) qb)) h_m

-- ---- two worlds that differ only in limiters, of which none is broken, with books that both balance or both do not: every call that moves air, and the count before a sweep, gives the same answer and count in both, and leaves the same air
module _ (w : World) (other : List ℕ) (many : length other ≡ length w.ledger) (sound : broken_limiter.applies w ≡ false) where
  abbrev v : World
  v = with_ledger w other

  module _ (alright : broken_limiter.applies v ≡ false) (same_books : broken_book.applies w ≡ broken_book.applies v) where
    -- the places before a call's own
    same_refusal : (call : Call) → first_of (own_places call) w ≡ first_of (own_places call) v → refusal w call ≡ refusal v call
    unfolding refusal common_places limiter_places book_places
    same_refusal call own =
        first_of_same _ _ w v refl
        (λ grid. first_of_same _ _ w v (ap fitting (sym many))
        (λ lengths. first_of_same _ _ w v refl
        (λ air. first_of_same _ _ w v refl
        (λ totals. behind (meaning call).limiters))))
      where
        fitting : ℕ → Bool
        fitting m =
            not
            (eqb (length w.air) (world_cells w.grid) && eqb (length w.tracers) (w.grid.N * world_cells w.grid) &&
            eqb m (w.grid.N * block_numbers) && lent_fits w.grid call)

        books : (tests : Bool) → first_of (place_if tests broken_book ++ own_places call) w ≡ first_of (place_if tests broken_book ++ own_places call) v
        books true = first_of_same broken_book (own_places call) w v same_books (λ balanced. own)
        books false = own

        rest : List Place
        rest = book_places call ++ own_places call

        behind : (tests : Bool) → first_of (place_if tests broken_limiter ++ rest) w ≡ first_of (place_if tests broken_limiter ++ rest) v
        behind true = passes broken_limiter rest w sound ∙ books (meaning call).books ∙ sym (passes broken_limiter rest v alright)
        behind false = books (meaning call).books

    record Same (call : Call) : Type 0 where
      places : first_of (own_places call) w ≡ first_of (own_places call) v
      count : (meaning call).count w ≡ (meaning call).count v
      air : ((meaning call).next w).air ≡ ((meaning call).next v).air

    same_call : (call : Call) → (meaning call).limiters ≡ true → Same call
    unfolding own_places first_of swept long_swept remapped remap_serves remap_count
    same_call load tests = absurd (false≢true tests)
    same_call (emission t c amount) tests = absurd (false≢true tests)
    same_call (withdrawal t c amount) tests = absurd (false≢true tests)
    same_call (zonal k r fluxes) tests = record { places = refl; count = refl; air = refl }
    same_call (long_zonal k r fluxes) tests = record { places = refl; count = refl; air = refl }
    same_call (meridional k fluxes) tests = record { places = refl; count = refl; air = refl }
    same_call (remap table) tests = record { places = refl; count = refl; air = refl }
    same_call (total t) tests = absurd (false≢true tests)
    same_call (cell t c) tests = absurd (false≢true tests)
    same_call (add_emitter t c id units) tests = absurd (false≢true tests)
    same_call (remove_emitter t id) tests = absurd (false≢true tests)
    same_call (tick t) tests = absurd (false≢true tests)
    same_call (units_a_tick t) tests = absurd (false≢true tests)
    same_call (count_zonal k r fluxes) tests = record { places = refl; count = refl; air = refl }
    same_call (zonal_with_count k r n fluxes) tests = record { places = refl; count = refl; air = refl }
    same_call (set_limiter t number lo hi) tests = absurd (false≢true tests)

    pub limiters_keep_air :
        (call : Call) → (meaning call).limiters ≡ true →
        ((step w call).answer ≡ (step v call).answer) × ((step w call).count ≡ (step v call).count) × ((step w call).next.air ≡ (step v call).next.air)
    unfolding accepted refused
    limiters_keep_air call tests = go (refusal w call) refl
      where
        same : Same call
        same = same_call call tests

        go :
            (n : ℕ) → refusal w call ≡ n →
            ((step w call).answer ≡ (step v call).answer) × ((step w call).count ≡ (step v call).count) × ((step w call).next.air ≡ (step v call).next.air)
        go zero e =
            rw (step_accepted w call e, step_accepted v call (sym (same_refusal call same.places) ∙ e)) (refl, same.count, same.air)
        go (suc n) e =
            rw (step_refused w call n e, step_refused v call n (sym (same_refusal call same.places) ∙ e)) (refl, refl, refl)

-- ---- when 21 is given: in a world that calls reach from an accepted load, by the setting call alone
abbrev pub sets : Call → Bool
sets (set_limiter t number lo hi) = true
sets load = false
sets (emission t c amount) = false
sets (withdrawal t c amount) = false
sets (zonal k r fluxes) = false
sets (long_zonal k r fluxes) = false
sets (meridional k fluxes) = false
sets (remap table) = false
sets (total t) = false
sets (cell t c) = false
sets (add_emitter t c id units) = false
sets (remove_emitter t id) = false
sets (tick t) = false
sets (units_a_tick t) = false
sets (count_zonal k r fluxes) = false
sets (zonal_with_count k r n fluxes) = false

-- places of which none has the number n
unfoldable pub without : ℕ → List Place → Bool
without n [] = true
without n (p ∷ ps) = not (eqb p.number n) && without n ps

pub not_given : (n : ℕ) (ps : List Place) (w : World) → 0 < n → without n ps ≡ true → first_of ps w ≢ n
unfolding without first_of
not_given n [] w positive none = λ e. omega arith
not_given n (p ∷ ps) w positive none =
    let parts = (and-eq-true_iff (not (eqb p.number n)) (without n ps)).0 none in
    go (p.applies w) parts.0 (not_given n ps w positive parts.1)
  where
    go : (b : Bool) → not (eqb p.number n) ≡ true → first_of ps w ≢ n → elim b [ true ↦ p.number | false ↦ first_of ps w ] ≢ n
    go true differs rest e = eqb-false p.number n (not-true _ differs) e
    go false differs rest e = rest e

own_without : (call : Call) → sets call ≡ false → without 21 (own_places call) ≡ true
unfolding without own_places
own_without load e = refl
own_without (emission t c amount) e = refl
own_without (withdrawal t c amount) e = refl
own_without (zonal k r fluxes) e = refl
own_without (long_zonal k r fluxes) e = refl
own_without (meridional k fluxes) e = refl
own_without (remap table) e = refl
own_without (total t) e = refl
own_without (cell t c) e = refl
own_without (add_emitter t c id units) e = refl
own_without (remove_emitter t id) e = refl
own_without (tick t) e = refl
own_without (units_a_tick t) e = refl
own_without (count_zonal k r fluxes) e = refl
own_without (zonal_with_count k r n fluxes) e = refl
own_without (set_limiter t number lo hi) e = absurd (true≢false e)

reached_refusal : (w : World) (call : Call) → Reached w → sets call ≡ false → refusal w call ≢ 21
reached_refusal w call so other e = go (lent_fits w.grid call) refl
  where
    go : (b : Bool) → lent_fits w.grid call ≡ b → ⊥
    go true lent = not_given 21 (own_places call) w (omega arith) (own_without call other) (sym (own_refusal w call so lent) ∙ e)
    go false lent = omega (arith, lent_refusal w call so.fits lent)

pub given_by_setting_alone :
    (w : World) (calls : List Call) → Loaded w → listed calls ≡ true → (i : ℕ) (call : Call) → sets call ≡ false →
    (step (point (loaded_world w) calls i) call).answer ≢ 21
given_by_setting_alone w calls loaded no_loads i call other e =
    reached_refusal _ call (reached w calls loaded no_loads i).0 other (sym (answer_is _ call) ∙ e)

-- ---- what a tracer's limiter is: that of the last accepted load or setting call, since no other call changes it
abbrev pub sets_for : ℕ → Call → Bool
sets_for t call = elim (sets call) [ true ↦ not (names_not t (meaning call).names) | false ↦ false ]

-- a call that does not set it
limiter_kept :
    (t : ℕ) (call : Call) → (meaning call).listed ≡ true → sets_for t call ≡ false → (w : World) → Reached w → t < w.grid.N →
    first_of (meaning call).places w ≡ 0 → limiter_of ((meaning call).next w) t ≡ limiter_of w t
unfolding swept long_swept remapped
limiter_kept t load held other w so h e = absurd (false≢true held)
limiter_kept t (emission u c amount) held other w so h e = booked_limiter w so t u (found u (λ g. g.N) _ w e).0 _
limiter_kept t (withdrawal u c amount) held other w so h e = booked_limiter w so t u (found u (λ g. g.N) _ w e).0 _
limiter_kept t (zonal k r fluxes) held other w so h e = refl
limiter_kept t (long_zonal k r fluxes) held other w so h e = refl
limiter_kept t (meridional k fluxes) held other w so h e = refl
limiter_kept t (remap table) held other w so h e = refl
limiter_kept t (total u) held other w so h e = refl
limiter_kept t (cell u c) held other w so h e = refl
limiter_kept t (add_emitter u c id units) held other w so h e = added_limiter w so t u c id units e
limiter_kept t (remove_emitter u id) held other w so h e = removed_limiter w so t u id e
limiter_kept t (tick u) held other w so h e = booked_limiter w so t u (found u (λ g. g.N) _ w e).0 _
limiter_kept t (units_a_tick u) held other w so h e = refl
limiter_kept t (count_zonal k r fluxes) held other w so h e = refl
limiter_kept t (zonal_with_count k r n fluxes) held other w so h e = refl
limiter_kept t (set_limiter u number lo hi) held other w so h e =
    ap limiter_in (beside t (set_limiter u number lo hi) refl (not-false _ other) w so e).0

pub limiter_stays :
    (t : ℕ) (call : Call) → (meaning call).listed ≡ true → sets_for t call ≡ false → (w : World) → Reached w → t < w.grid.N →
    limiter_of (step w call).next t ≡ limiter_of w t
unfolding accepted refused own_places
limiter_stays t call held other w so h = go (refusal w call) refl
  where
    go : (n : ℕ) → refusal w call ≡ n → limiter_of (step w call).next t ≡ limiter_of w t
    go zero e = rw (step_accepted w call e) (limiter_kept t call held other w so h (accepted_passed w call e).2)
    go (suc n) e = rw (step_refused w call n e) refl

-- (after an accepted setting call it is what was given: `limiter_given`, Laws/Standing)

-- ---- a list without the setting call gives what it gave without limiters
-- the world after a sweep, a long sweep and a remap without limiters: every tracer by document 01's rule
abbrev swept_before : World → Mesh → ℕ → List ℤ → ℕ → World
swept_before w mesh a fluxes n =
    let old : List ℕ = part w.air a mesh.cells in
    moved_part w a mesh.cells (air_after mesh fluxes n old n) (λ t had. gas_after mismatch mesh fluxes n old had n)

abbrev long_before : World → ℕ → List ℤ → World
long_before w a fluxes =
    let W : ℕ = w.grid.W in
    let old : List ℕ = part w.air a W in
    moved_part w a W (long_air W fluxes old) (λ t. long_gas mismatch W fluxes old)

abbrev remapped_before : World → List ℕ → World
remapped_before w table =
    moved w (remapped_air w.grid table w.air) (λ t. remapped_gas mismatch w.grid table w.air)

abbrev pub next_before : Call → World → World
next_before (zonal k r fluxes) w = swept_before w (ring w.grid.W) (row_start w.grid k r) fluxes (zonal_count w k r fluxes)
next_before (zonal_with_count k r n fluxes) w = swept_before w (ring w.grid.W) (row_start w.grid k r) fluxes n
next_before (meridional k fluxes) w = swept_before w (layer w.grid.W w.grid.R) (layer_start w.grid k) fluxes 1
next_before (long_zonal k r fluxes) w = long_before w (row_start w.grid k r) fluxes
next_before (remap table) w = remapped_before w table
next_before load w = (meaning load).next w
next_before (emission t c amount) w = (meaning (emission t c amount)).next w
next_before (withdrawal t c amount) w = (meaning (withdrawal t c amount)).next w
next_before (total t) w = (meaning (total t)).next w
next_before (cell t c) w = (meaning (cell t c)).next w
next_before (add_emitter t c id units) w = (meaning (add_emitter t c id units)).next w
next_before (remove_emitter t id) w = (meaning (remove_emitter t id)).next w
next_before (tick t) w = (meaning (tick t)).next w
next_before (units_a_tick t) w = (meaning (units_a_tick t)).next w
next_before (count_zonal k r fluxes) w = (meaning (count_zonal k r fluxes)).next w
next_before (set_limiter t number lo hi) w = w

-- `step` without limiters: no place 21, and document 01's rule
unfoldable pub step_before : World → Call → Result
step_before w call =
    elim (first_of (common_places call ++ (book_places call ++ own_places call)) w) [
      | zero ↦ record { answer = 0; count = (meaning call).count w; next = next_before call w }
      | suc n ↦ refused w (suc n)
    ]

unfoldable pub after_before : World → List Call → World
after_before w [] = w
after_before w (call ∷ calls) = after_before (step_before w call).next calls

-- lists without the setting call
unfoldable pub unset : List Call → Bool
unset [] = true
unset (call ∷ calls) = not (sets call) && unset calls

-- where every tracer has the first limiter, every other call does what it did
abbrev AllFirst : World → Type 0
AllFirst w = (t : ℕ) → t < w.grid.N → limiter_of w t ≡ first_limiter

moved_same : (w : World) (air : List ℕ) (change other : ℕ → List ℕ → List ℕ) →
    ((t : ℕ) → t < w.grid.N → change t (gas w t) ≡ other t (gas w t)) → moved w air change ≡ moved w air other
moved_same w air change other same =
    ap (λ (parts : List (List ℕ)). with_amounts w air (joined parts)) (tab_ext w.grid.N _ _ same)

part_same :
    (w : World) (a n : ℕ) (air : List ℕ) (change other : ℕ → List ℕ → List ℕ) →
    ((t : ℕ) → t < w.grid.N → (had : List ℕ) → change t had ≡ other t had) → moved_part w a n air change ≡ moved_part w a n air other
part_same w a n air change other same =
    moved_same w (written w.air a air) (λ t l. written l a (change t (part l a n))) (λ t l. written l a (other t (part l a n)))
    (λ t h. ap (written (gas w t) a) (same t h (part (gas w t) a n)))

module _ (w : World) (first : AllFirst w) where
  rule_is : (t : ℕ) → t < w.grid.N → rule_of w t ≡ mismatch
  rule_is t h = rule_first (limiter_of w t) (ap (λ (l : Limiter). l.number) (first t h))

  none_broken : broken_limiter.applies w ≡ false
  none_broken = ap not (every_true _ _ (λ t h. ap limiter_fits (first t h)))

  swept_before_lem : (mesh : Mesh) (a : ℕ) (fluxes : List ℤ) (n : ℕ) → swept w mesh a fluxes n ≡ swept_before w mesh a fluxes n
  unfolding swept
  swept_before_lem mesh a fluxes n =
      let old : List ℕ = part w.air a mesh.cells in
      part_same w a mesh.cells (air_after mesh fluxes n old n) (λ t had. gas_after (rule_of w t) mesh fluxes n old had n) (λ t had. gas_after mismatch mesh fluxes n old had n)
      (λ t h had. ap (λ (rule : Rule). gas_after rule mesh fluxes n old had n) (rule_is t h))

  long_before_lem : (a : ℕ) (fluxes : List ℤ) → long_swept w a fluxes ≡ long_before w a fluxes
  unfolding long_swept
  long_before_lem a fluxes =
      let W : ℕ = w.grid.W in
      let old : List ℕ = part w.air a W in
      part_same w a W (long_air W fluxes old) (λ t. long_gas (rule_of w t) W fluxes old) (λ t. long_gas mismatch W fluxes old)
      (λ t h had. ap (λ (rule : Rule). long_gas rule W fluxes old had) (rule_is t h))

  remapped_before_lem : (table : List ℕ) → remapped w table ≡ remapped_before w table
  unfolding remapped
  remapped_before_lem table =
      moved_same w (remapped_air w.grid table w.air) (λ t. remapped_gas (rule_of w t) w.grid table w.air) (λ t. remapped_gas mismatch w.grid table w.air)
      (λ t h. ap (λ (rule : Rule). remapped_gas rule w.grid table w.air (gas w t)) (rule_is t h))

  next_before_lem : (call : Call) → sets call ≡ false → (meaning call).next w ≡ next_before call w
  next_before_lem load e = refl
  next_before_lem (emission t c amount) e = refl
  next_before_lem (withdrawal t c amount) e = refl
  next_before_lem (zonal k r fluxes) e = swept_before_lem (ring w.grid.W) (row_start w.grid k r) fluxes (zonal_count w k r fluxes)
  next_before_lem (long_zonal k r fluxes) e = long_before_lem (row_start w.grid k r) fluxes
  next_before_lem (meridional k fluxes) e = swept_before_lem (layer w.grid.W w.grid.R) (layer_start w.grid k) fluxes 1
  next_before_lem (remap table) e = remapped_before_lem table
  next_before_lem (total t) e = refl
  next_before_lem (cell t c) e = refl
  next_before_lem (add_emitter t c id units) e = refl
  next_before_lem (remove_emitter t id) e = refl
  next_before_lem (tick t) e = refl
  next_before_lem (units_a_tick t) e = refl
  next_before_lem (count_zonal k r fluxes) e = refl
  next_before_lem (zonal_with_count k r n fluxes) e = swept_before_lem (ring w.grid.W) (row_start w.grid k r) fluxes n
  next_before_lem (set_limiter t number lo hi) e = absurd (true≢false e)

  refusal_before_lem : (call : Call) → refusal w call ≡ first_of (common_places call ++ (book_places call ++ own_places call)) w
  unfolding refusal common_places first_of
  refusal_before_lem call =
      ap
      (λ (own : ℕ).
      elim (not (grid_fits w.grid)) [
        | true ↦ 1
        | false ↦
            elim (not (lengths_fit w call)) [
              | true ↦ 2
              | false ↦
                  elim (not (every (length w.air) (λ i. air_fits (at w.air i)))) [
                    | true ↦ 3
                    | false ↦ elim (not (every w.grid.N (λ t. leb (gas_total w t) total_limit))) [ true ↦ 4 | false ↦ own ]
                  ]
            ]
      ])
      (behind_limiters w call (book_places call ++ own_places call) none_broken)

  -- so `step` is that one
  pub step_before_lem : (call : Call) → sets call ≡ false → step w call ≡ step_before w call
  unfolding step_before accepted
  step_before_lem call other = go (refusal w call) refl
    where
      go : (n : ℕ) → refusal w call ≡ n → step w call ≡ step_before w call
      go zero e =
          rw (step_accepted w call e, step_before, sym (refusal_before_lem call) ∙ e) (λ i. record { answer = 0; count = (meaning call).count w; next = next_before_lem call other i })
      go (suc n) e = rw (step_refused w call n e, step_before, sym (refusal_before_lem call) ∙ e) refl

-- an accepted load gives every tracer the first limiter, and each call of such a list leaves it
loaded_first : (w : World) → Loaded w → AllFirst (loaded_world w)
loaded_first w start t h = ap limiter_in (loaded_block w start t (rw (loaded_is w start) at h)) ∙ fresh_limiter (gas_total w t)

stays_first : (w : World) → Reached w → AllFirst w → (call : Call) → (meaning call).listed ≡ true → sets call ≡ false → AllFirst (step w call).next
stays_first w so first call held other t h =
    let kept = (any_keeps call held w so).kept in
    let here : t < w.grid.N = rw kept.same_grid at h in
    limiter_stays t call held (rw (sets_for, other)) w so here ∙ first t here

list_before :
    (w : World) → Reached w → AllFirst w → (calls : List Call) → listed calls ≡ true → unset calls ≡ true →
    (after w calls ≡ after_before w calls) × AllFirst (after w calls)
unfolding after after_before unset
list_before w so first [] held other = (refl, first)
list_before w so first (call ∷ calls) held other =
    let p = listed_split call calls held in
    let q = (and-eq-true_iff (not (sets call)) (unset calls)).0 other in
    let apart = not-true _ q.0 in
    let one = (any_keeps call p.0 w so).kept in
    let rest = list_before (step w call).next one.reached (stays_first w so first call p.0 apart) calls p.1 q.1 in
    (rest.0 ∙ ap (λ (r : Result). after_before r.next calls) (step_before_lem w first call apart), rest.1)

-- so a list without the setting call gives what it gave before Slip 7: the world after it, and what each call answers in the world after any part of it
pub list_as_before :
    (w : World) (calls : List Call) → Loaded w → listed calls ≡ true → unset calls ≡ true →
    (after (loaded_world w) calls ≡ after_before (loaded_world w) calls) × ((call : Call) → sets call ≡ false → step (after (loaded_world w) calls) call ≡ step_before (after (loaded_world w) calls) call)
list_as_before w calls loaded held other =
    let all = list_before (loaded_world w) (loaded_reached w loaded) (loaded_first w loaded) calls held other in
    (all.0, λ call apart. step_before_lem _ all.1 call apart)
