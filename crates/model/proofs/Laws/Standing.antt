-- What adding and removing an emitter, setting the limiter, a tick and the reading of the units a tick keep when they are accepted, and what each does.
-- Assumes a world that calls reach; what a tick adds to each cell, and what the reading gives, holds in every world in which it is accepted.
use Rattle.std.specs.Prelude.{ℕ, zero, suc, ◌+◌, ◌*◌, ◌≤◌, ◌<◌, List, [], ◌∷◌, Bool, true, false, not, ◌||◌, ◌≡◌, refl, ◌≢◌, ◌⊎◌, ltb, eqb, leb, length}
use Rattle.std.proofs.Common.{true≢false, sym, ◌∙◌, ap, ap₂, inl, inr, mul-le-mul_right, arith, ltb-false, lt-ltb, leb-false, eq-eqb, ne_eqb, lit<, ext_get_or}
use Rattle.std.proofs.lemmas.Bool.{false≢true, lt-leb, not-false}
use Rattle.std.proofs.Math.Decide.{ℕ_discrete}
use Rattle.model.specs.Limits.{total_limit, most_emitters, sum_limit, emitter_numbers, block_numbers}
use Rattle.model.specs.Basic.{at, part, written, sum}
use Rattle.model.specs.World.{World, world_cells, tracer_start, gas, with_gas, block, with_block, with_ledger, gas_total}
use Rattle.model.specs.Sweep.{swept}
use Rattle.model.specs.Remap.{remapped}
use Rattle.model.specs.Long.{long_swept}
use Rattle.model.specs.Emitters.{standing, kept_units, present_units, has_id, record_fits, emitter_added, emitter_removed, ticked}
use Rattle.model.specs.Limiters.{Limiter, limiter_fits, limiter_in, with_limiter, limiter_of}
use Rattle.model.specs.Books.{emitted_sum}
use Rattle.model.specs.Step.{Call, load, emission, withdrawal, zonal, long_zonal, meridional, remap, total, cell, Result, Place, first_of, absent, broken_record, add_emitter, remove_emitter, tick, units_a_tick, count_zonal, zonal_with_count, set_limiter, Exchange, no_exchange, booked, Named, nobody, tracer, meaning, enters, own_places, accepted, refused, refusal, step}
use Rattle.model.specs.Lists.{exchanged, Alike, names_own}
use Rattle.model.proofs.Laws.Basic.{neither, every_at, every_true, length_part, at_part, InPart, Outside, part_or_outside, length_written, at_written_within, at_written_outside, length_rewritten, part_rewritten, part_not_rewritten}
use Rattle.model.proofs.Laws.Emitters.{Sound, record_fitting, sound_fits, limiter_sound, added_behind, added_sound, added_keeps_limiter, removed_behind, removed_sound, removed_keeps_limiter, length_added, length_removed, length_entered, entered_limiter, added_has, add_remove, length_ticked, ticked_sum, ticked_none, units_in, ticked_at}
use Rattle.model.proofs.Laws.Limiters.{length_limiter, limiter_behind, limiter_read}
use Rattle.model.proofs.Laws.World.{length_gas, length_block, block_changed, block_unchanged}
use Rattle.model.proofs.Laws.Step.{Fits, Reached, passes, passed, found, step_accepted, step_refused, answer_is, own_refusal, accepted_passed}
use Rattle.model.proofs.Laws.OneTracer.{Blocks, block_keeps, block_alike, block_apart, booked_other, exchange_keeps, exchange_alike, exchange_apart}
use Rattle.model.proofs.Laws.Keeps.{Entered, kept_from, names_present, named_alike, named_total_alike, named_block_alike, absent_alike, none_alike, last_alike, MeaningKeeps, reads_keep}

-- ---- the record's place
-- in a world that calls reach no record is broken
pub record_sound : {w : World} → Reached w → broken_record.applies w ≡ false
record_sound reached = ap not (every_true _ _ (λ t h. sound_fits (reached.blocks t h)))

-- so the place does not tell two such worlds apart
record_alike :
    (w v : World) → Reached w → Reached v → (ps : List Place) → first_of ps w ≡ first_of ps v →
    first_of (broken_record ∷ ps) w ≡ first_of (broken_record ∷ ps) v
record_alike w v ww vv ps rest =
    passes broken_record ps w (record_sound ww) ∙ rest ∙ sym (passes broken_record ps v (record_sound vv))

-- and of a call on a tracer that is there only the places behind it are left
pub record_left : (w : World) → Reached w → (t : ℕ) → t < w.grid.N → (ps : List Place) → first_of (absent t (λ g. g.N) ∷ broken_record ∷ ps) w ≡ first_of ps w
record_left w reached t there ps =
    passes (absent t (λ g. g.N)) (broken_record ∷ ps) w (ap not (lt-ltb _ _ there)) ∙ passes broken_record ps w (record_sound reached)

pub no_place_lem : (w : World) → first_of [] w ≡ 0
unfolding first_of
no_place_lem w = refl

-- where it is passed, each tracer's record fits
record Passed (w : World) (t : ℕ) (ps : List Place) : Type 0 where
  there : t < w.grid.N
  fits : record_fits (world_cells w.grid) (block w t) ≡ true
  left : first_of ps w ≡ 0

record_passed : (t : ℕ) (ps : List Place) (w : World) → first_of (absent t (λ g. g.N) ∷ broken_record ∷ ps) w ≡ 0 → Passed w t ps
record_passed t ps w e =
    let p = found t (λ g. g.N) (broken_record ∷ ps) w e in
    let q = passed broken_record ps w (lit< tt) p.1 in
    record { there = p.0; fits = every_at _ _ (not-false _ q.0) t p.0; left = q.1 }

-- ---- a call that changes the block of a tracer
-- what it leaves of the block b: its length, its book, and a sound one sound
record Rewrites (cells : ℕ) (b new : List ℕ) : Type 0 where
  many : length new ≡ block_numbers
  book : Entered b new no_exchange
  still : Sound cells b → Sound cells new

-- where its places read no other gas's
enters_keep :
    (t : ℕ) (ps : List Place) (new : List ℕ → List ℕ) →
    ((own : ℕ → Bool) (w v : World) → Reached w → Reached v → Alike own w v → names_own own w (tracer t) ≡ true → first_of ps w ≡ first_of ps v) →
    ((w : World) → Fits w → first_of ps w ≡ 0 → (t < w.grid.N) × Rewrites (world_cells w.grid) (block w t) (new (block w t))) →
    MeaningKeeps (enters t ps new)
enters_keep t ps new places rewrites =
    record {
      same_places = places;
      accepts =
          λ w fits e.
          let there = (rewrites w fits e).0 in
          let so = (rewrites w fits e).1 in
          record {
            keeps = block_keeps w fits t there (new (block w t)) so.many so.book so.still;
            in_range = λ u h first. tt;
            alike =
                λ own v fv a named.
                let same : new (block w t) ≡ new (block v t) = ap new (named_block_alike own w v a t named there) in
                (rw (← same) (block_alike own w v fits.ledger_length fv.ledger_length a t there (new (block w t)) so.many), refl);
            apart = λ own other. block_apart w fits.ledger_length t there (new (block w t)) so.many own (names_present own w t there ∙ other);
          };
    }

-- a call on emitters leaves the book, which stands behind them
same_book : (b new : List ℕ) → ((k : ℕ) → emitter_numbers ≤ k → at new k ≡ at b k) → Entered b new no_exchange
same_book b new same =
    record {
      loaded = same 56 (omega arith);
      emitted = omega (arith, same 57 (omega arith));
      withdrawn = omega (arith, same 58 (omega arith));
    }

-- what its places tell of an emitter that can be added
record CanAdd (w : World) (t c id : ℕ) : Type 0 where
  there : t < w.grid.N
  inside : c < world_cells w.grid
  room : standing (block w t) < most_emitters
  new : has_id (block w t) id ≡ false

can_add : (w : World) (t c id units : ℕ) → first_of (meaning (add_emitter t c id units)).places w ≡ 0 → CanAdd w t c id
can_add w t c id units e =
    let p = found t (λ g. g.N) _ w e in
    let q = found c world_cells _ w p.1 in
    let r = passed broken_record _ w (lit< tt) q.1 in
    let s = neither _ _ (passed _ [] w (lit< tt) r.1).0 in
    record { there = p.0; inside = q.0; room = leb-false _ _ s.0; new = s.1 }

pub add_keeps : (t c id units : ℕ) → MeaningKeeps (meaning (add_emitter t c id units))
add_keeps t c id units =
    enters_keep t _ (λ b. emitter_added b id c units)
    (λ own w v ww vv a named.
    absent_alike own w v a t (λ g. g.N) _
    (λ there. absent_alike own w v a c world_cells _
    (λ inside. record_alike w v ww vv _
    (last_alike own w v a _ (ap (λ (b : List ℕ). leb most_emitters (standing b) || has_id b id) (named_block_alike own w v a t named there))))))
    (λ w fits e.
    let can = can_add w t c id units e in
    let many = length_block w t fits.ledger_length can.there in (
      can.there,
      record {
        many = length_added (block w t) many id c units;
        book = same_book _ _ (added_behind (block w t) many id c units can.room);
        still = λ sound. added_sound (block w t) many id c units can.room sound can.inside can.new;
      },
    ))

pub remove_keeps : (t id : ℕ) → MeaningKeeps (meaning (remove_emitter t id))
remove_keeps t id =
    enters_keep t _ (λ b. emitter_removed b id)
    (λ own w v ww vv a named.
    absent_alike own w v a t (λ g. g.N) _
    (λ there. record_alike w v ww vv _
    (last_alike own w v a _ (ap (λ (b : List ℕ). not (has_id b id)) (named_block_alike own w v a t named there)))))
    (λ w fits e.
    let p = record_passed t _ w e in
    let has = not-false _ (passed _ [] w (lit< tt) p.left).0 in
    let many = length_block w t fits.ledger_length p.there in
    let few = (record_fitting _ (block w t) p.fits).few in (
      p.there,
      record {
        many = length_removed (block w t) many few id has;
        book = same_book _ _ (removed_behind (block w t) many few id has);
        still = removed_sound (block w t) many few id has;
      },
    ))

-- what its places tell of a limiter that can be set
limiter_set :
    (t number lo hi : ℕ) (w : World) → first_of (meaning (set_limiter t number lo hi)).places w ≡ 0 →
    (t < w.grid.N) × (limiter_fits (record { number = number; lo = lo; hi = hi }) ≡ true)
limiter_set t number lo hi w e =
    let p = found t (λ g. g.N) _ w e in
    (p.0, not-false _ (passed _ [] w (lit< tt) p.1).0)

pub limiter_keeps : (t number lo hi : ℕ) → MeaningKeeps (meaning (set_limiter t number lo hi))
limiter_keeps t number lo hi =
    enters_keep t _ (λ b. with_limiter b (record { number = number; lo = lo; hi = hi }))
    (λ own w v ww vv a named. absent_alike own w v a t (λ g. g.N) _ (λ there. last_alike own w v a _ refl))
    (λ w fits e.
    let p = limiter_set t number lo hi w e in
    let l : Limiter = record { number = number; lo = lo; hi = hi } in
    let many = length_block w t fits.ledger_length p.0 in (
      p.0,
      record {
        many = length_limiter (block w t) l many;
        book =
            record {
              loaded = limiter_behind (block w t) l 56 (omega arith);
              emitted = omega (arith, limiter_behind (block w t) l 57 (omega arith));
              withdrawn = omega (arith, limiter_behind (block w t) l 58 (omega arith));
            };
        still = λ sound. limiter_sound sound l p.1;
      },
    ))

pub units_keeps : (t : ℕ) → MeaningKeeps (meaning (units_a_tick t))
units_keeps t =
    reads_keep (tracer t) _ _
    (λ own w v ww vv a named.
    absent_alike own w v a t (λ g. g.N) _ (λ there. record_alike w v ww vv [] (none_alike own w v a)))
    (λ own w v a named e. ap kept_units (named_block_alike own w v a t named (found t (λ g. g.N) _ w e).0))

-- ---- the world with other amounts of tracer t
module _ (w : World) (long : length w.tracers ≡ w.grid.N * world_cells w.grid) (t : ℕ) (there : t < w.grid.N) (new : List ℕ) (many : length new ≡ world_cells w.grid) where
  abbrev after : World
  after = with_gas w t new

  gas_changed : gas after t ≡ new
  gas_changed = part_rewritten w.tracers new w.grid.N (world_cells w.grid) t long many there

  gas_unchanged : (u : ℕ) → u ≢ t → gas after u ≡ gas w u
  gas_unchanged = part_not_rewritten w.tracers new w.grid.N (world_cells w.grid) t long many there

  gas_apart : (own : ℕ → Bool) → own t ≡ false → Alike own w after
  gas_apart own other =
      record {
        same_grid = refl;
        same_air = refl;
        same_gas = λ u o. sym (gas_unchanged u (λ q. true≢false (sym o ∙ ap own q ∙ other)));
        same_block = λ u o. refl;
      }

gas_alike :
    (own : ℕ → Bool) (w v : World) → length w.tracers ≡ w.grid.N * world_cells w.grid →
    length v.tracers ≡ v.grid.N * world_cells v.grid → Alike own w v → (t : ℕ) → t < w.grid.N → (new : List ℕ) →
    length new ≡ world_cells w.grid → Alike own (with_gas w t new) (with_gas v t new)
gas_alike own w v ww vv a t there new many =
    record {
      same_grid = a.same_grid;
      same_air = a.same_air;
      same_gas = λ u o. same u o (ℕ_discrete u t);
      same_block = a.same_block;
    }
  where
    there_v : t < v.grid.N
    there_v = rw (← a.same_grid) there

    many_v : length new ≡ world_cells v.grid
    many_v = many ∙ ap world_cells a.same_grid

    same : (u : ℕ) → own u ≡ true → Dec (u ≡ t) → gas (with_gas w t new) u ≡ gas (with_gas v t new) u
    same u o (yes e) = rw (e, gas_changed w ww t there new many, gas_changed v vv t there_v new many_v)
    same u o (no e) =
        gas_unchanged w ww t there new many u e ∙ a.same_gas u o ∙ sym (gas_unchanged v vv t there_v new many_v u e)

-- ---- a tick
-- the amounts of a tracer after a tick of the emitters of a block
abbrev ticked_all : List ℕ → List ℕ → List ℕ
ticked_all b had = ticked b (standing b) had

module _ (w : World) (fits : Fits w) (t : ℕ) (there : t < w.grid.N) (so : record_fits (world_cells w.grid) (block w t) ≡ true) where
  abbrev b : List ℕ
  b = block w t

  gas_many : length (gas w t) ≡ world_cells w.grid
  gas_many = length_gas w t fits.tracers_length there

  ticked_many : length (ticked_all b (gas w t)) ≡ world_cells w.grid
  ticked_many = length_ticked b (standing b) (gas w t) ∙ gas_many

  ticked_total : sum (world_cells w.grid) (at (ticked_all b (gas w t))) ≡ gas_total w t + kept_units b
  ticked_total =
      ticked_sum b (world_cells w.grid) (gas w t) gas_many (standing b) (record_fitting _ b so).there ∙
      ap (λ (x : ℕ). gas_total w t + x) (sym (record_fitting _ b so).sum)

-- what a tick exchanges, by the block of its tracer
abbrev emits_of : List ℕ → Exchange
emits_of b = record { emitted = kept_units b; withdrawn = 0 }

pub tick_keeps : (t : ℕ) → MeaningKeeps (meaning (tick t))
tick_keeps t =
    record {
      same_places =
          λ own w v ww vv a named.
          absent_alike own w v a t (λ g. g.N) _
          (λ there. record_alike w v ww vv _
          (last_alike own w v a _
          (ap₂ (λ (x : ℕ) (b : List ℕ). ltb total_limit (x + kept_units b) || ltb sum_limit (emitted_sum b + kept_units b)) (named_total_alike own w v a t named there) (named_block_alike own w v a t named there))));
      accepts =
          λ w fits e.
          let p = record_passed t _ w e in
          let b = block w t in
          let new = ticked_all b (gas w t) in
          let list = written w.tracers (tracer_start w.grid t) new in
          let many = ticked_many w fits t p.there p.fits in
          let is = gas_changed w fits.tracers_length t p.there new many in
          let total : gas_total (with_gas w t new) t ≡ gas_total w t + kept_units b = rw is (ticked_total w fits t p.there p.fits) in
          let room = ltb-false total_limit (gas_total w t + kept_units b) (neither _ _ (passed _ [] w (lit< tt) p.left).0).0 in
          record {
            keeps =
                exchange_keeps w fits t p.there list (emits_of b)
                (length_rewritten w.tracers new w.grid.N (world_cells w.grid) t fits.tracers_length many p.there)
                (gas_unchanged w fits.tracers_length t p.there new many) (omega (arith, total)) (omega (arith, total, room))
                (λ no-in no-out. is ∙ ticked_none b (gas w t) (standing b) (sym (record_fitting _ b p.fits).sum ∙ no-in));
            in_range = λ u h first. tt;
            alike =
                λ own v fv a named.
                let blocks = named_block_alike own w v a t named p.there in
                let same : new ≡ ticked_all (block v t) (gas v t) = ap₂ ticked_all blocks (named_alike own w v a t named p.there) in (
                  exchange_alike w fits t p.there list (emits_of b) own _ fv.ledger_length
                      (rw (← same) (gas_alike own w v fits.tracers_length fv.tracers_length a t p.there new many)) blocks (emits_of (block v t))
                      (ap emits_of blocks),
                  refl,
                );
            apart =
                λ own other.
                let else = names_present own w t p.there ∙ other in
                exchange_apart w fits t p.there list (emits_of b) own else (gas_apart w fits.tracers_length t p.there new many own else);
          };
    }

-- ---- what each of them does, in every world in which it is accepted
pub step_next : (w : World) (call : Call) → (step w call).answer ≡ 0 → ((step w call).next ≡ (meaning call).next w) × ((step w call).count ≡ (meaning call).count w)
unfolding accepted
step_next w call e =
    let is = step_accepted w call (sym (answer_is w call) ∙ e) in
    (ap (λ (r : Result). r.next) is, ap (λ (r : Result). r.count) is)

-- what its places tell of the world and of the tracer's record
own_passed : (w : World) (call : Call) → (step w call).answer ≡ 0 → Fits w × (first_of (own_places call) w ≡ 0)
own_passed w call e = let p = accepted_passed w call (sym (answer_is w call) ∙ e) in (p.0, p.2)

-- "A reading gives the tracer's units a tick .., and it always equals the sum over the emitters present"
pub reading_is_sum : (w : World) (t : ℕ) → (step w (units_a_tick t)).answer ≡ 0 → (step w (units_a_tick t)).count ≡ present_units (block w t)
unfolding own_places
reading_is_sum w t e =
    let p = record_passed t [] w (own_passed w (units_a_tick t) e).1 in
    (step_next w (units_a_tick t) e).1 ∙ (record_fitting (world_cells w.grid) (block w t) p.fits).sum

-- A tick adds to each cell the units of the emitters that name it and to no other cell, of no other gas, enters their sum in the gas's book, and changes nothing else
pub record Ticks (w next : World) (t : ℕ) : Type 0 where
  pub same_grid : next.grid ≡ w.grid
  pub same_air : next.air ≡ w.air
  pub enters_all : next.ledger ≡ (booked w t (record { emitted = kept_units (block w t); withdrawn = 0 })).ledger
  pub adds : (c : ℕ) → at (gas next t) c ≡ at (gas w t) c + units_in (block w t) (standing (block w t)) c
  pub others : (u : ℕ) → u ≢ t → gas next u ≡ gas w u

pub tick_adds : (w : World) (t : ℕ) → (step w (tick t)).answer ≡ 0 → Ticks w (step w (tick t)).next t
unfolding own_places
tick_adds w t e =
    let q = own_passed w (tick t) e in
    let p = record_passed t _ w q.1 in
    let b = block w t in
    let had = gas w t in
    let cells = world_cells w.grid in
    let long = length_gas w t q.0.tracers_length p.there in
    let many : length (ticked_all b had) ≡ cells = length_ticked b (standing b) had ∙ long in
    rw (step_next w (tick t) e).0
    (record {
      same_grid = refl;
      same_air = refl;
      enters_all = refl;
      adds =
          λ c.
          ap (λ (l : List ℕ). at l c) (part_rewritten w.tracers (ticked_all b had) w.grid.N cells t q.0.tracers_length many p.there) ∙
          ticked_at b had (standing b) (λ i h. rw long ((record_fitting cells b p.fits).there i h)) c;
      others = part_not_rewritten w.tracers (ticked_all b had) w.grid.N cells t q.0.tracers_length many p.there;
    })

-- ---- in a world that calls reach an emitter that was added can be removed, and the world is then as it was, to every number of the ledger
written_back : (l new : List ℕ) (a m : ℕ) → a + m ≤ length l → length new ≡ m → written (written l a new) a (part l a m) ≡ l
written_back l new a m fits size =
    ext_get_or 0 (written (written l a new) a (part l a m)) l
    (length_written (written l a new) (part l a m) a m (length l) same old fits)
    (λ k h. go k (part_or_outside a m k))
  where
    same : length (written l a new) ≡ length l
    same = length_written l new a m (length l) refl size fits

    old : length (part l a m) ≡ m
    old = length_part l a m fits

    go : (k : ℕ) → InPart a m k ⊎ Outside a m k → at (written (written l a new) a (part l a m)) k ≡ at l k
    go k (inl (i, h, e)) =
        rw (← e) (at_written_within (written l a new) (part l a m) a m (length l) same old fits i h ∙ at_part l a m i h)
    go k (inr out) =
        at_written_outside (written l a new) (part l a m) a m (length l) same old fits k out ∙
        at_written_outside l new a m (length l) refl size fits k out

-- an emitter that stands can be removed
pub can_remove : (w : World) → Reached w → (t id : ℕ) → t < w.grid.N → has_id (block w t) id ≡ true → refusal w (remove_emitter t id) ≡ 0
unfolding own_places
can_remove w reached t id there has =
    own_refusal w (remove_emitter t id) reached refl ∙ record_left w reached t there _ ∙ passes _ [] w (ap not has) ∙ no_place_lem w

-- .. and one can be added
pub can_be_added :
    (w : World) → Reached w → (t c id units : ℕ) → t < w.grid.N → c < world_cells w.grid → standing (block w t) < most_emitters →
    has_id (block w t) id ≡ false → refusal w (add_emitter t c id units) ≡ 0
unfolding own_places
can_be_added w reached t c id units there inside room new =
    own_refusal w (add_emitter t c id units) reached refl ∙
    passes (absent t (λ g. g.N)) _ w (ap not (lt-ltb _ _ there)) ∙
    passes (absent c world_cells) _ w (ap not (lt-ltb _ _ inside)) ∙
    passes broken_record _ w (record_sound reached) ∙
    passes _ [] w (rw (lt-leb most_emitters _ room) new) ∙
    no_place_lem w

pub added_then_removed :
    (w : World) → Reached w → (t c id units : ℕ) → (step w (add_emitter t c id units)).answer ≡ 0 →
    let with_it = (step w (add_emitter t c id units)).next in
    ((step with_it (remove_emitter t id)).answer ≡ 0) × ((step with_it (remove_emitter t id)).next ≡ w)
unfolding own_places
added_then_removed w reached t c id units e =
    rw (step_next w (add_emitter t c id units) e).0 (gone, (step_next v (remove_emitter t id) gone).0 ∙ back)
  where
    can : CanAdd w t c id
    can = can_add w t c id units (own_passed w (add_emitter t c id units) e).1

    b : List ℕ
    b = block w t

    new : List ℕ
    new = emitter_added b id c units

    v : World
    v = with_block w t new

    sound : Sound (world_cells w.grid) b
    sound = reached.blocks t can.there

    still : Sound (world_cells w.grid) new
    still = added_sound b sound.many id c units can.room sound can.inside can.new

    is_new : block v t ≡ new
    is_new = block_changed w reached.fits.ledger_length t can.there new still.many

    reached_v : Reached v
    reached_v = (kept_from reached (λ u. refl) ((add_keeps t c id units).accepts w reached.fits (own_passed w (add_emitter t c id units) e).1).keeps).reached

    gone : (step v (remove_emitter t id)).answer ≡ 0
    gone =
        answer_is v (remove_emitter t id) ∙
        can_remove v reached_v t id can.there (rw is_new (added_has sound id c units can.room can.inside can.new))

    back : with_block v t (emitter_removed (block v t) id) ≡ w
    back =
        ap (λ (l : List ℕ). with_block v t (emitter_removed l id)) is_new ∙
        ap (with_block v t) (add_remove sound id c units can.room can.inside can.new) ∙
        ap (with_ledger w)
        (written_back w.ledger new (t * block_numbers) block_numbers (omega (arith, reached.fits.ledger_length, mul-le-mul_right block_numbers can.there)) still.many)

-- ---- a call that names another tracer, or none, leaves a tracer's block alone, and exchanges nothing of it
abbrev pub names_not : ℕ → Named → Bool
names_not t nobody = true
names_not t (tracer u) = not (eqb u t)

not_exchanged : (u t : ℕ) (x : Exchange) → not (eqb u t) ≡ true → elim (eqb u t) [ true ↦ x | false ↦ no_exchange ] ≡ no_exchange
not_exchanged u t x other = go (eqb u t) other
  where
    go : (b : Bool) → not b ≡ true → elim b [ true ↦ x | false ↦ no_exchange ] ≡ no_exchange
    go true e = absurd (false≢true e)
    go false e = refl

differs : (u t : ℕ) → not (eqb u t) ≡ true → t ≢ u
differs u t other e = false≢true (ap not (sym (eq-eqb u t (sym e))) ∙ other)

beside_booked : (w : World) → Reached w → (t u : ℕ) → u < w.grid.N → (x : Exchange) → not (eqb u t) ≡ true → block (booked w u x) t ≡ block w t
beside_booked w reached t u there x other = booked_other w reached.fits.ledger_length u there x t (differs u t other)

pub beside :
    (t : ℕ) (call : Call) → (meaning call).listed ≡ true → names_not t (meaning call).names ≡ true → (w : World) → Reached w →
    first_of (meaning call).places w ≡ 0 → (block ((meaning call).next w) t ≡ block w t) × ((meaning call).exchange w t ≡ no_exchange)
unfolding swept long_swept remapped
beside t load held other w reached e = absurd (false≢true held)
beside t (emission u c amount) held other w reached e = (beside_booked w reached t u (found u (λ g. g.N) _ w e).0 _ other, not_exchanged u t _ other)
beside t (withdrawal u c amount) held other w reached e = (beside_booked w reached t u (found u (λ g. g.N) _ w e).0 _ other, not_exchanged u t _ other)
beside t (zonal k r fluxes) held other w reached e = (refl, refl)
beside t (long_zonal k r fluxes) held other w reached e = (refl, refl)
beside t (meridional k fluxes) held other w reached e = (refl, refl)
beside t (remap table) held other w reached e = (refl, refl)
beside t (total u) held other w reached e = (refl, refl)
beside t (cell u c) held other w reached e = (refl, refl)
beside t (add_emitter u c id units) held other w reached e =
    let can = can_add w u c id units e in
    (block_unchanged w reached.fits.ledger_length u can.there _ (length_added (block w u) (reached.blocks u can.there).many id c units) t (differs u t other), refl)
beside t (remove_emitter u id) held other w reached e =
    let p = record_passed u _ w e in
    let has = not-false _ (passed _ [] w (lit< tt) p.left).0 in
    (block_unchanged w reached.fits.ledger_length u p.there _ (length_removed (block w u) (reached.blocks u p.there).many (reached.blocks u p.there).few id has) t (differs u t other), refl)
beside t (tick u) held other w reached e = (beside_booked w reached t u (record_passed u _ w e).there _ other, not_exchanged u t _ other)
beside t (units_a_tick u) held other w reached e = (refl, refl)
beside t (count_zonal k r fluxes) held other w reached e = (refl, refl)
beside t (zonal_with_count k r n fluxes) held other w reached e = (refl, refl)
beside t (set_limiter u number lo hi) held other w reached e =
    let p = limiter_set u number lo hi w e in
    (block_unchanged w reached.fits.ledger_length u p.0 _ (limiter_sound (reached.blocks u p.0) _ p.1).many t (differs u t other), refl)

-- .. whether it is accepted or not
pub step_beside :
    (t : ℕ) (call : Call) → (meaning call).listed ≡ true → names_not t (meaning call).names ≡ true → (w : World) → Reached w →
    (block (step w call).next t ≡ block w t) × (exchanged w t call ≡ no_exchange)
unfolding own_places refused
step_beside t call held other w reached = go (refusal w call) refl
  where
    go : (n : ℕ) → refusal w call ≡ n → (block (step w call).next t ≡ block w t) × (exchanged w t call ≡ no_exchange)
    go zero e =
        let zero_answer = answer_is w call ∙ e in
        let p = beside t call held other w reached (accepted_passed w call e).2 in
        (ap (λ (v : World). block v t) (step_next w call zero_answer).0 ∙ p.0, rw (zero_answer, exchanged) p.1)
    go (suc n) e =
        (ap (λ (r : Result). block r.next t) (step_refused w call n e), rw (answer_is w call ∙ e, exchanged))

-- ---- limiters: adding and removing an emitter and an entry in a book leave every tracer's, and the setting call gives its tracer's
module _ (w : World) (long : Blocks w) (u : ℕ) (there : u < w.grid.N) (new : List ℕ) (many : length new ≡ block_numbers) where
  pub block_limiter : (t : ℕ) → limiter_in new ≡ limiter_of w u → limiter_of (with_block w u new) t ≡ limiter_of w t
  block_limiter t same = go (ℕ_discrete t u)
    where
      go : Dec (t ≡ u) → limiter_of (with_block w u new) t ≡ limiter_of w t
      go (yes e) = rw e (ap limiter_in (block_changed w long u there new many) ∙ same)
      go (no e) = ap limiter_in (block_unchanged w long u there new many t e)

pub added_limiter :
    (w : World) → Reached w → (t u c id units : ℕ) → first_of (meaning (add_emitter u c id units)).places w ≡ 0 →
    limiter_of ((meaning (add_emitter u c id units)).next w) t ≡ limiter_of w t
added_limiter w reached t u c id units e =
    let can = can_add w u c id units e in
    let sound = reached.blocks u can.there in
    block_limiter w reached.fits.ledger_length u can.there _ (length_added (block w u) sound.many id c units) t (added_keeps_limiter (block w u) sound.many id c units can.room)

pub removed_limiter :
    (w : World) → Reached w → (t u id : ℕ) → first_of (meaning (remove_emitter u id)).places w ≡ 0 →
    limiter_of ((meaning (remove_emitter u id)).next w) t ≡ limiter_of w t
removed_limiter w reached t u id e =
    let p = record_passed u _ w e in
    let has = not-false _ (passed _ [] w (lit< tt) p.left).0 in
    let sound = reached.blocks u p.there in
    block_limiter w reached.fits.ledger_length u p.there _ (length_removed (block w u) sound.many sound.few id has) t (removed_keeps_limiter (block w u) sound.many sound.few id has)

pub booked_limiter : (w : World) → Reached w → (t u : ℕ) → u < w.grid.N → (x : Exchange) → limiter_of (booked w u x) t ≡ limiter_of w t
booked_limiter w reached t u there x =
    let long = reached.fits.ledger_length in
    block_limiter w long u there _ (length_entered (block w u) _ _ ∙ length_block w u long there) t (entered_limiter (block w u) _ _)

-- in every world, also in one whose limiters were broken
pub limiter_given :
    (w : World) (t number lo hi : ℕ) → (step w (set_limiter t number lo hi)).answer ≡ 0 →
    limiter_of (step w (set_limiter t number lo hi)).next t ≡ record { number = number; lo = lo; hi = hi }
unfolding own_places
limiter_given w t number lo hi e =
    let q = own_passed w (set_limiter t number lo hi) e in
    let p = limiter_set t number lo hi w q.1 in
    let long = q.0.ledger_length in
    let many = length_block w t long p.0 in
    ap (λ (v : World). limiter_of v t) (step_next w (set_limiter t number lo hi) e).0 ∙
    ap limiter_in (part_rewritten w.ledger _ w.grid.N block_numbers t long (length_limiter (block w t) _ many) p.0) ∙
    limiter_read (block w t) _ many
