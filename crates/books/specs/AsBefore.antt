-- Document 02, Slip 8: "6 and 7 are also given when a sum would pass 4,294,967,295". Where none would, every call, and every list of calls, gives what it gave before the books.
-- Assumes that an accepted load began the list; of one call, a world that calls reach from there.
use Prim.Native.Nat.{ℕ, zero, suc, ◌+◌, ◌*◌, ◌-◌, ◌≤◌, ◌<◌}
use mathlib.Core.List.{List, [], ◌∷◌, ◌++◌}
use Rattle.std.proofs.Math.Bool.{Bool, true, false, not}
use Rattle.std.specs.Prelude.{◌||◌, ◌≡◌, leb, length, take}
use Rattle.std.proofs.lemmas.Bool.{false≢true}
use Rattle.std.proofs.Math.Path.{refl, ap}
use Rattle.std.proofs.Common.{sym, ◌∙◌, arith, lit<, length-set, get_or-take}
use Rattle.std.proofs.Math.Decide.{ℕ_discrete}
use borrow.Author.Tests.{ltb-true, le-ltb, eq-eqb, not-false}
use Rattle.std.proofs.Math.Dec.{ltb, eqb}
use Rattle.std.proofs.Math.ListN.{set}
use Rattle.std.proofs.Math.Seq.{take-nil, take-set-lt}
use Rattle.std.proofs.lemmas.List.{take-set-le}
use Rattle.model.specs.Limits.{total_limit, sum_limit, most_emitters, numbers_before_book, block_numbers}
use Rattle.model.specs.Basic.{at, written, some}
use Rattle.model.specs.World.{World, world_cells, tracer_start, with_amounts, with_ledger, gas, with_gas, block, with_block, gas_total}
use Rattle.model.specs.Sweep.{swept}
use Rattle.model.specs.Remap.{remap_serves, remap_count, remapped}
use Rattle.model.specs.Long.{long_swept}
use Rattle.model.specs.Emitters.{half, standing, emitter_id, emitter_cell, emitter_units, kept_units, has_id, with_head, with_emitter, emitter_added, place_of, emitter_removed, ticked}
use Rattle.model.specs.Limiters.{Limiter, limiter_fits, limiter_in, with_limiter, rule_for, rule_of}
use Rattle.model.specs.Books.{emitted_sum, withdrawn_sum, entered}
use Rattle.model.specs.Step.{Call, load, emission, withdrawal, zonal, long_zonal, meridional, remap, total, cell, add_emitter, remove_emitter, tick, units_a_tick, count_zonal, zonal_with_count, set_limiter, Result, Place, place, first_of, absent, broken_record, broken_limiter, amount_at, with_amount, Exchange, no_exchange, booked, Meaning, meaning, common_places, limiter_places, book_places, own_places, accepted, refused, refusal, step}
use Rattle.model.specs.Lists.{Loaded, loaded_world, listed, call_at, after, point, exchanged, added}
use Rattle.model.proofs.Laws.Basic.{every_true}
use Rattle.model.proofs.Laws.Emitters.{Sound, place_is, same_sound, sound_fits, fresh_emitted, fresh_withdrawn}
use Rattle.model.proofs.Laws.World.{length_block, length_with_block, block_changed, block_unchanged}
use Rattle.model.proofs.Laws.Step.{Reached, first_of_same, passed, found, numbered, behind_passed, behind_stopped, behind_limiters, behind_books, limiters_sound, books_sound, step_accepted, step_refused, accepted_passed, loaded_is, loaded_block, loaded_reached}
use Rattle.model.proofs.Laws.Keeps.{Entered}
use Rattle.model.proofs.Laws.Lists.{listed_split}
use Rattle.model.proofs.Laws.OneTracer.{booked_own, booked_other}
use Rattle.model.proofs.Laws.Standing.{record_sound, no_place_lem}
use Rattle.model.proofs.Demand3.{any_keeps}

-- ---- `step` as it was before the books, but for the three numbers more of a block, which it neither reads nor writes, a load apart: no place 22, no limit of a sum in 6 and 7, and nothing entered
pub record Before : Type 0 where
  pub places : List Place
  pub next : World → World

abbrev changes_before : ℕ → ℕ → Place → (ℕ → ℕ) → Before
changes_before t c refusing new =
    record { places = absent t (λ g. g.N) ∷ absent c world_cells ∷ refusing ∷ []; next = λ w. with_amount w t c (new (amount_at w t c)) }

abbrev unchanged : Meaning → Before
unchanged m = record { places = m.places; next = m.next }

abbrev pub before : Call → Before
before (emission t c amount) = changes_before t c (place 6 (λ w. ltb total_limit (gas_total w t + amount))) (λ T. T + amount)
before (withdrawal t c amount) = changes_before t c (place 7 (λ w. ltb (amount_at w t c) amount)) (λ T. T - amount)
before (tick t) =
    record {
      places = absent t (λ g. g.N) ∷ broken_record ∷ place 6 (λ w. ltb total_limit (gas_total w t + kept_units (block w t))) ∷ [];
      next = λ w. with_gas w t (ticked (block w t) (standing (block w t)) (gas w t));
    }
before load = unchanged (meaning load)
before (zonal k r fluxes) = unchanged (meaning (zonal k r fluxes))
before (long_zonal k r fluxes) = unchanged (meaning (long_zonal k r fluxes))
before (meridional k fluxes) = unchanged (meaning (meridional k fluxes))
before (remap table) = unchanged (meaning (remap table))
before (total t) = unchanged (meaning (total t))
before (cell t c) = unchanged (meaning (cell t c))
before (add_emitter t c id units) = unchanged (meaning (add_emitter t c id units))
before (remove_emitter t id) = unchanged (meaning (remove_emitter t id))
before (units_a_tick t) = unchanged (meaning (units_a_tick t))
before (count_zonal k r fluxes) = unchanged (meaning (count_zonal k r fluxes))
before (zonal_with_count k r n fluxes) = unchanged (meaning (zonal_with_count k r n fluxes))
before (set_limiter t number lo hi) = unchanged (meaning (set_limiter t number lo hi))

unfoldable pub refusal_before : World → Call → ℕ
refusal_before w call = first_of (common_places call ++ (limiter_places call ++ (before call).places)) w

unfoldable pub step_before : World → Call → Result
step_before w call =
    elim (refusal_before w call) [
      | zero ↦ record { answer = 0; count = (meaning call).count w; next = (before call).next w }
      | suc n ↦ refused w (suc n)
    ]

-- the world after a list of calls, point i of it, what a call exchanged of tracer t, and the history of a list
unfoldable pub after_before : World → List Call → World
after_before w [] = w
after_before w (call ∷ calls) = after_before (step_before w call).next calls

abbrev pub point_before : World → List Call → ℕ → World
point_before start calls i = after_before start (take i calls)

abbrev pub exchanged_before : World → ℕ → Call → Exchange
exchanged_before w t call = elim (step_before w call).answer [ zero ↦ (meaning call).exchange w t | suc n ↦ no_exchange ]

unfoldable pub history_before : World → ℕ → List Call → Exchange
history_before w t [] = no_exchange
history_before w t (call ∷ calls) = added (exchanged_before w t call) (history_before (step_before w call).next t calls)

-- ---- two blocks that differ in the book alone: the numbers before it are the same
pub record ButBook (b d : List ℕ) : Type 0 where
  pub numbers : take numbers_before_book b ≡ take numbers_before_book d

-- .. and stay the same as numbers before the book are written in both, and as some are entered in the book of one
set_but : {b d : List ℕ} → ButBook b d → (i x : ℕ) → i < numbers_before_book → ButBook (set b i x) (set d i x)
set_but {b} {d} same i x h =
    record { numbers = take-set-lt _ b i x h ∙ ap (λ (l : List ℕ). set l i x) same.numbers ∙ sym (take-set-lt _ d i x h) }

head_but : {b d : List ℕ} → ButBook b d → (n units : ℕ) → ButBook (with_head b n units) (with_head d n units)
head_but same n units = set_but (set_but (set_but same 0 _ (lit< tt)) 1 _ (lit< tt)) 2 _ (lit< tt)

emitter_but : {b d : List ℕ} → ButBook b d → (i id c units : ℕ) → i ≤ most_emitters → ButBook (with_emitter b i id c units) (with_emitter d i id c units)
emitter_but same i id c units few = set_but (set_but (set_but same _ id (omega arith)) _ c (omega arith)) _ units (omega arith)

limiter_but : {b d : List ℕ} → ButBook b d → (l : Limiter) → ButBook (with_limiter b l) (with_limiter d l)
limiter_but same l = set_but (set_but (set_but (set_but (set_but same 51 _ (lit< tt)) 52 _ (lit< tt)) 53 _ (lit< tt)) 54 _ (lit< tt)) 55 _ (lit< tt)

entered_but : {b d : List ℕ} → ButBook b d → (x y : ℕ) → ButBook (entered b x y) d
entered_but {b} same x y =
    record { numbers = take-set-le numbers_before_book (set b 57 _) 58 _ (omega arith) ∙ take-set-le numbers_before_book b 57 _ (omega arith) ∙ same.numbers }

-- what calls read of them, and write
module _ {b d : List ℕ} (same : ButBook b d) where
  number : (k : ℕ) → k < numbers_before_book → at b k ≡ at d k
  number k h = sym (get_or-take _ b k 0 h) ∙ ap (λ (l : List ℕ). at l k) same.numbers ∙ get_or-take _ d k 0 h

  same_standing : standing b ≡ standing d
  same_standing = number 0 (lit< tt)

  same_kept : kept_units b ≡ kept_units d
  same_kept = λ i. number 1 (lit< tt) i + half * number 2 (lit< tt) i

  same_limiter : limiter_in b ≡ limiter_in d
  same_limiter =
      λ i. record { number = number 51 (lit< tt) i; lo = number 52 (lit< tt) i + half * number 53 (lit< tt) i; hi = number 54 (lit< tt) i + half * number 55 (lit< tt) i }

  -- of the first n emitters: whether one has that id, which, and what a tick of them does
  upto :
      (id : ℕ) (had : List ℕ) (n : ℕ) → n ≤ most_emitters →
      (some n (λ i. eqb (emitter_id b i) id) ≡ some n (λ i. eqb (emitter_id d i) id)) × (place_of b id n ≡ place_of d id n) × (ticked b n had ≡ ticked d n had)
  unfolding some place_of ticked
  upto id had zero few = (refl, refl, refl)
  upto id had (suc n) few =
      let rest = upto id had n (omega arith) in
      let ids : emitter_id b n ≡ emitter_id d n = number _ (omega arith) in
      let cells : emitter_cell b n ≡ emitter_cell d n = number _ (omega arith) in
      let units : emitter_units b n ≡ emitter_units d n = number _ (omega arith) in (
        λ i. rest.0 i || eqb (ids i) id,
        λ i. elim (eqb (ids i) id) [ true ↦ n | false ↦ rest.1 i ],
        λ i. set (rest.2 i) (cells i) (at (rest.2 i) (cells i) + units i),
      )

  module _ (few : standing b ≤ most_emitters) where
    same_has : (id : ℕ) → has_id b id ≡ has_id d id
    same_has id = (upto id [] (standing b) few).0 ∙ ap (λ (n : ℕ). some n (λ i. eqb (emitter_id d i) id)) same_standing

    same_ticked : (had : List ℕ) → ticked b (standing b) had ≡ ticked d (standing d) had
    same_ticked had = (upto 0 had (standing b) few).2 ∙ ap (λ (n : ℕ). ticked d n had) same_standing

    added_but : (id c units : ℕ) → ButBook (emitter_added b id c units) (emitter_added d id c units)
    added_but id c units = rw (← same_standing, ← same_kept) (emitter_but (head_but same _ _) (standing b) id c units few)

    removed_but : (id : ℕ) → has_id b id ≡ true → ButBook (emitter_removed b id) (emitter_removed d id)
    removed_but id has =
        let gone : ℕ = place_of b id (standing b) in
        let last : ℕ = 3 * (standing b - 1) in
        let inside = (place_is b id (standing b) has).0 in
        rw (← same_standing, ← same_kept, ← (upto id [] (standing b) few).1, ← (number (5 + 3 * gone) (omega arith)), ← (number (3 + last) (omega arith)), ← (number (4 + last) (omega arith)), ← (number (5 + last) (omega arith)))
        (emitter_but (emitter_but (head_but same _ _) gone _ _ _ (omega arith)) (standing b - 1) 0 0 0 (omega arith))

-- ---- two worlds that differ in the books alone
pub record ButBooks (w v : World) : Type 0 where
  pub same_grid : w.grid ≡ v.grid
  pub same_air : w.air ≡ v.air
  pub same_tracers : w.tracers ≡ v.tracers
  pub same_blocks : (t : ℕ) → ButBook (block w t) (block v t)
  pub long : length v.ledger ≡ v.grid.N * block_numbers

-- two results: the same answer and count, and two such worlds
pub record SameResult (new old : Result) : Type 0 where
  pub answer : new.answer ≡ old.answer
  pub count : new.count ≡ old.count
  pub next : ButBooks new.next old.next

-- room in the book of a block for an exchange: "when a sum would pass 4,294,967,295", and neither would
pub record Within (b : List ℕ) (x : Exchange) : Type 0 where
  pub emitted : emitted_sum b + x.emitted ≤ sum_limit
  pub withdrawn : withdrawn_sum b + x.withdrawn ≤ sum_limit

module _ (w : World) (so : Reached w) (other : List ℕ) (same : ButBooks w (with_ledger w other)) where
  abbrev v : World
  v = with_ledger w other

  -- no limiter and no record of emitters is broken in the other world either
  sound : (t : ℕ) → t < w.grid.N → Sound (world_cells w.grid) (block v t)
  sound t h =
      same_sound (so.blocks t h) (block v t) (length_block v t same.long h) (λ k low. sym (number (same.same_blocks t) k (omega arith)))
      (ap limiter_fits (sym (same_limiter (same.same_blocks t))) ∙ (so.blocks t h).limiter)

  limiters : broken_limiter.applies v ≡ false
  limiters = ap not (every_true _ _ (λ t h. (sound t h).limiter))

  records : broken_record.applies w ≡ broken_record.applies v
  records = record_sound so ∙ sym (ap not (every_true _ _ (λ t h. sound_fits (sound t h))))

  rules : (t : ℕ) → rule_of w t ≡ rule_of v t
  rules t = ap rule_for (same_limiter (same.same_blocks t))

  -- air and amounts moved
  moved_but : (air new old : List ℕ) → new ≡ old → ButBooks (with_amounts w air new) (with_amounts v air old)
  moved_but air new old e = record { same_grid = refl; same_air = refl; same_tracers = e; same_blocks = same.same_blocks; long = same.long }

  -- ---- a call, by what it exchanges, its places now and before, its count, and what it leaves now and before: in both worlds it exchanges, counts and leaves the same, and where there is room for the exchange it is refused the same
  record Same (exchanges : World → ℕ → Exchange) (now old : List Place) (counts : World → ℕ) (leaves left : World → World) : Type 0 where
    exchange : (t : ℕ) → exchanges w t ≡ exchanges v t
    places : (first_of old v ≡ 0 → (t : ℕ) → t < w.grid.N → Within (block w t) (exchanges w t)) → first_of now w ≡ first_of old v
    count : counts w ≡ counts v
    next : first_of now w ≡ 0 → ButBooks (leaves w) (left v)

  -- a call that exchanges x of tracer t: its last place has one test more, which fails where the others are passed, and it enters x in the book
  same_exchange :
      (t n : ℕ) (q : Place) (a b : World → Bool) (x : World → Exchange) (tracers : World → List ℕ) → q.applies w ≡ q.applies v → a w ≡ a v → x w ≡ x v →
      (t < w.grid.N → tracers w ≡ tracers v) → (Within (block w t) (x w) → b w ≡ false) →
      Same (λ y u. elim (eqb t u) [ true ↦ x y | false ↦ no_exchange ]) (absent t (λ g. g.N) ∷ q ∷ place n (λ y. a y || b y) ∷ []) (absent t (λ g. g.N) ∷ q ∷ place n a ∷ [])
      (λ y. 0) (λ y. booked (with_amounts y y.air (tracers y)) t (x y)) (λ y. with_amounts y y.air (tracers y))
  unfolding first_of
  same_exchange t n q a b x tracers qq aa xx moves fails =
      record {
        exchange = λ u i. elim (eqb t u) [ true ↦ xx i | false ↦ no_exchange ];
        places =
            λ room.
            (λ i. third (not (ltb t w.grid.N)) (qq i) (aa i || b w)) ∙
            skip (not (ltb t w.grid.N)) (q.applies v) (a v) (λ e. fails (rw (eq-eqb t t refl) at (room e t (found t (λ g. g.N) (q ∷ place n a ∷ []) v e).0)));
        count = refl;
        next =
            λ e.
            let there = (found t (λ g. g.N) (q ∷ place n (λ y. a y || b y) ∷ []) w e).0 in
            record { same_grid = refl; same_air = refl; same_tracers = moves there; same_blocks = λ u. blocks there u (ℕ_discrete u t); long = same.long };
      }
    where
      third : Bool → Bool → Bool → ℕ
      third p y z = elim p [ true ↦ 5 | false ↦ elim y [ true ↦ q.number | false ↦ elim z [ true ↦ n | false ↦ 0 ] ] ]

      skip : (p y z : Bool) → (third p y z ≡ 0 → b w ≡ false) → third p y (z || b w) ≡ third p y z
      skip true y z f = refl
      skip false true z f = refl
      skip false false true f = refl
      skip false false false f = ap (third false false) (f refl)

      blocks : t < w.grid.N → (u : ℕ) → Dec (u ≡ t) → ButBook (block (booked w t (x w)) u) (block v u)
      blocks there u (yes e) = rw (e, booked_own w so.fits.ledger_length t there (x w)) (entered_but (same.same_blocks t) _ _)
      blocks there u (no e) = rw (booked_other w so.fits.ledger_length t there (x w) u e) (same.same_blocks u)

  -- one that writes in the block of tracer t
  same_enter :
      (t : ℕ) (ps : List Place) (new : List ℕ → List ℕ) → (t < w.grid.N → first_of ps w ≡ first_of ps v) → ((b : List ℕ) → length (new b) ≡ length b) →
      (t < w.grid.N → first_of ps w ≡ 0 → ButBook (new (block w t)) (new (block v t))) →
      Same (λ y u. no_exchange) (absent t (λ g. g.N) ∷ ps) (absent t (λ g. g.N) ∷ ps) (λ y. 0) (λ y. with_block y t (new (block y t))) (λ y. with_block y t (new (block y t)))
  same_enter t ps new places keeps but =
      record {
        exchange = λ u. refl;
        places = λ room. first_of_same (absent t (λ g. g.N)) ps w v refl (λ p. places (ltb-true _ _ (not-false _ p)));
        count = refl;
        next =
            λ e.
            let p = found t (λ g. g.N) ps w e in
            let bb = keeps (block w t) ∙ (so.blocks t p.0).many in
            let dd = keeps (block v t) ∙ (sound t p.0).many in
            record { same_grid = refl; same_air = refl; same_tracers = refl; same_blocks = λ u. blocks p.0 bb dd (but p.0 p.1) u (ℕ_discrete u t); long = length_with_block v same.long t p.0 _ dd };
      }
    where
      blocks :
          t < w.grid.N → {b d : List ℕ} → length b ≡ block_numbers → length d ≡ block_numbers → ButBook b d → (u : ℕ) → Dec (u ≡ t) →
          ButBook (block (with_block w t b) u) (block (with_block v t d) u)
      blocks there {b} {d} bb dd same_new u (yes e) = rw (e, block_changed w so.fits.ledger_length t there b bb, block_changed v same.long t there d dd) same_new
      blocks there {b} {d} bb dd same_new u (no e) = rw (block_unchanged w so.fits.ledger_length t there b bb u e, block_unchanged v same.long t there d dd u e) (same.same_blocks u)

  same_call : (call : Call) → (meaning call).listed ≡ true → Same (meaning call).exchange (meaning call).places (before call).places (meaning call).count (meaning call).next (before call).next
  unfolding first_of swept long_swept remapped remap_serves remap_count
  same_call load held = absurd (false≢true held)
  same_call (emission t c amount) held = same_exchange t 6 _ _ _ _ _ refl refl refl (λ h. refl) (λ r. le-ltb _ _ r.emitted)
  same_call (withdrawal t c amount) held = same_exchange t 7 _ _ _ _ _ refl refl refl (λ h. refl) (λ r. le-ltb _ _ r.withdrawn)
  same_call (tick t) held =
      let kept = same_kept (same.same_blocks t) in
      same_exchange t 6 _ _ _ _ _ records (λ i. ltb total_limit (gas_total w t + kept i)) (λ i. record { emitted = kept i; withdrawn = 0 })
      (λ h. ap (written w.tracers (tracer_start w.grid t)) (same_ticked (same.same_blocks t) (so.blocks t h).few (gas w t))) (λ r. le-ltb _ _ r.emitted)
  same_call (zonal k r fluxes) held = record { exchange = λ u. refl; places = λ room. refl; count = refl; next = λ e. moved_but _ _ _ (simp rules) }
  same_call (long_zonal k r fluxes) held = record { exchange = λ u. refl; places = λ room. refl; count = refl; next = λ e. moved_but _ _ _ (simp rules) }
  same_call (meridional k fluxes) held = record { exchange = λ u. refl; places = λ room. refl; count = refl; next = λ e. moved_but _ _ _ (simp rules) }
  same_call (remap table) held = record { exchange = λ u. refl; places = λ room. refl; count = refl; next = λ e. moved_but _ _ _ (simp rules) }
  same_call (total t) held = record { exchange = λ u. refl; places = λ room. refl; count = refl; next = λ e. same }
  same_call (cell t c) held = record { exchange = λ u. refl; places = λ room. refl; count = refl; next = λ e. same }
  same_call (add_emitter t c id units) held =
      let blocks = same.same_blocks t in
      same_enter t _ (λ b. emitter_added b id c units)
      (λ h i.
      elim (not (ltb c (world_cells w.grid))) [
        | true ↦ 5
        | false ↦ elim (records i) [ true ↦ 5 | false ↦ elim (leb most_emitters (same_standing blocks i) || same_has blocks (so.blocks t h).few id i) [ true ↦ 18 | false ↦ 0 ] ]
      ])
      (λ b. simp length-set) (λ h e. added_but blocks (so.blocks t h).few id c units)
  same_call (remove_emitter t id) held =
      let blocks = same.same_blocks t in
      let last = place 19 (λ y. not (has_id (block y t) id)) in
      same_enter t _ (λ b. emitter_removed b id) (λ h i. elim (records i) [ true ↦ 5 | false ↦ elim (not (same_has blocks (so.blocks t h).few id i)) [ true ↦ 19 | false ↦ 0 ] ])
      (λ b. simp length-set)
      (λ h e. removed_but blocks (so.blocks t h).few id (not-false _ (passed last [] w (lit< tt) (passed broken_record (last ∷ []) w (lit< tt) e).1).0))
  same_call (units_a_tick t) held =
      record {
        exchange = λ u. refl;
        places = λ room i. elim (not (ltb t w.grid.N)) [ true ↦ 5 | false ↦ elim (records i) [ true ↦ 5 | false ↦ 0 ] ];
        count = same_kept (same.same_blocks t);
        next = λ e. same;
      }
  same_call (count_zonal k r fluxes) held = record { exchange = λ u. refl; places = λ room. refl; count = refl; next = λ e. same }
  same_call (zonal_with_count k r n fluxes) held = record { exchange = λ u. refl; places = λ room. refl; count = refl; next = λ e. moved_but _ _ _ (simp rules) }
  same_call (set_limiter t limiter lo hi) held =
      same_enter t _ (λ b. with_limiter b (record { number = limiter; lo = lo; hi = hi })) (λ h. refl) (λ b. simp length-set) (λ h e. limiter_but (same.same_blocks t) _)

  -- the places before a call's own are passed in both or in neither, and so `step` gives the same
  step_same :
      (call : Call) → (meaning call).listed ≡ true → ((t : ℕ) → t < w.grid.N → Within (block w t) (exchanged_before v t call)) → SameResult (step w call) (step_before v call)
  unfolding refusal refusal_before step_before common_places own_places numbered accepted refused
  step_same call held room = result (refusal w call) refl
    where
      all : Same (meaning call).exchange (meaning call).places (before call).places (meaning call).count (meaning call).next (before call).next
      all = same_call call held

      common : first_of (common_places call) w ≡ first_of (common_places call) v
      common =
          first_of_same _ _ w v refl
          (λ grid. first_of_same _ _ w v (rw (same.long ∙ sym so.fits.ledger_length))
          (λ lengths. first_of_same _ _ w v refl (λ air. first_of_same _ _ w v refl (λ totals. no_place_lem w ∙ sym (no_place_lem v)))))

      refusals : (n : ℕ) → first_of (common_places call) w ≡ n → refusal w call ≡ refusal_before v call
      refusals zero e =
          let old = behind_passed (common_places call) _ v refl (sym common ∙ e) ∙ behind_limiters v call (before call).places limiters in
          behind_passed (common_places call) _ w refl e ∙ behind_limiters w call (book_places call ++ own_places call) (limiters_sound so) ∙ behind_books w call (own_places call) (books_sound so) ∙
          all.places (λ q t h. rw (all.exchange t) (rw (exchanged_before, step_before, old ∙ q) at (room t h))) ∙ sym old
      refusals (suc n) e = behind_stopped (common_places call) _ w n e ∙ sym (behind_stopped (common_places call) _ v n (sym common ∙ e))

      result : (n : ℕ) → refusal w call ≡ n → SameResult (step w call) (step_before v call)
      result zero e =
          rw (step_accepted w call e, step_before, sym (refusals _ refl) ∙ e) (record { answer = refl; count = all.count; next = all.next (accepted_passed w call e).2 })
      result (suc n) e = rw (step_refused w call n e, step_before, sym (refusals _ refl) ∙ e) (record { answer = refl; count = refl; next = same })

-- ---- so a call gives what it gave, and exchanges what it exchanged, where there is room for that
pub step_as_before :
    (w v : World) → Reached w → ButBooks w v → (call : Call) → (meaning call).listed ≡ true → ((t : ℕ) → t < w.grid.N → Within (block w t) (exchanged_before v t call)) →
    SameResult (step w call) (step_before v call) × ((t : ℕ) → exchanged w t call ≡ exchanged_before v t call)
step_as_before w v so same call held room =
    let is : v ≡ with_ledger w v.ledger = λ i. record { grid = sym same.same_grid i; air = sym same.same_air i; tracers = sym same.same_tracers i; ledger = v.ledger } in
    let here : ButBooks w (with_ledger w v.ledger) = rw is at same in
    let given = step_same w so v.ledger here call held (rw is at room) in
    rw is (given, λ t i. elim (given.answer i) [ zero ↦ (same_call w so v.ledger here call held).exchange t i | suc n ↦ no_exchange ])

-- ---- room for two exchanges is room for the first, and after its entry for the second
within_first : (b : List ℕ) (x y : Exchange) → Within b (added x y) → Within b x
within_first b x y room = record { emitted = omega arith; withdrawn = omega arith }

within_rest : (b d : List ℕ) (x y : Exchange) → Within b (added x y) → Entered b d x → Within d y
within_rest b d x y room book = record { emitted = omega arith; withdrawn = omega arith }

-- so at each point of a list the worlds differ in the books alone, and each of its calls gives what it gave, where there is room for the history of the list
list_as_before :
    (w v : World) → Reached w → ButBooks w v → (calls : List Call) → listed calls ≡ true → ((t : ℕ) → t < w.grid.N → Within (block w t) (history_before v t calls)) → (i : ℕ) →
    ButBooks (point w calls i) (point_before v calls i)
    × (i < length calls → SameResult (step (point w calls i) (call_at calls i)) (step_before (point_before v calls i) (call_at calls i)))
unfolding after after_before history_before
list_as_before w v so same [] held room i = rw take-nil (same, λ h. absurd (omega arith))
list_as_before w v so same (call ∷ calls) held room zero =
    (same, λ h. (step_as_before w v so same call (listed_split call calls held).0 (λ t there. within_first _ _ _ (room t there))).0)
list_as_before w v so same (call ∷ calls) held room (suc i) =
    let p = listed_split call calls held in
    let one = step_as_before w v so same call p.0 (λ t there. within_first _ _ _ (room t there)) in
    let kept = (any_keeps call p.0 w so).kept in
    let rest =
    list_as_before (step w call).next (step_before v call).next kept.reached one.0.next calls p.1
    (λ t h. let there : t < w.grid.N = rw kept.same_grid at h in within_rest (block w t) _ _ _ (room t there) (rw (one.1 t) at (kept.booked t there))) i in
    (rest.0, λ h. rest.1 (omega arith))

-- Where no sum would pass its limit every run gives what it gave: after an accepted load, if all that the list exchanged of each tracer before the books is within 4,294,967,295, then at each point the two worlds differ in the books alone, and call i of the list gets the same answer and count in both
pub as_before :
    (w : World) (calls : List Call) → Loaded w → listed calls ≡ true →
    ((t : ℕ) → t < w.grid.N → ((history_before (loaded_world w) t calls).emitted ≤ sum_limit) × ((history_before (loaded_world w) t calls).withdrawn ≤ sum_limit)) → (i : ℕ) →
    ButBooks (point (loaded_world w) calls i) (point_before (loaded_world w) calls i)
    × (i < length calls → SameResult (step (point (loaded_world w) calls i) (call_at calls i)) (step_before (point_before (loaded_world w) calls i) (call_at calls i)))
as_before w calls loaded held room i =
    let so = loaded_reached w loaded in
    list_as_before (loaded_world w) (loaded_world w) so
    (record { same_grid = refl; same_air = refl; same_tracers = refl; same_blocks = λ t. record { numbers = refl }; long = so.fits.ledger_length }) calls held
    (λ t h.
    let there : t < w.grid.N = rw (loaded_is w loaded) at h in
    let r = room t there in
    rw (loaded_block w loaded t there) (record { emitted = omega (arith, fresh_emitted (gas_total w t)); withdrawn = omega (arith, fresh_withdrawn (gas_total w t)) })) i
