-- Document 02, Slip 8, as the buyer uses it: the books balance in every world that calls reach, and equal the history's sums; demand 3's first part read off the record; and in any world, a broken book cannot hide.
-- Of lists it assumes that an accepted load began them; of raw worlds nothing but what each statement says.
use Rattle.std.specs.Prelude.{ℕ, zero, suc, ◌+◌, ◌≤◌, ◌<◌, List, [], ◌∷◌, ◌++◌, Bool, true, false, ◌≡◌, refl, ◌≢◌, take, set}
use Rattle.std.proofs.Common.{true≢false, sym, ◌∙◌, ap, arith, length-set, get_or-set_same, get_or-set_other}
use Rattle.model.specs.Basic.{at}
use Rattle.model.specs.World.{World, world_cells, block, with_block, gas_total}
use Rattle.model.specs.Books.{loaded_sum, emitted_sum, withdrawn_sum}
use Rattle.model.specs.Step.{Call, load, emission, withdrawal, zonal, long_zonal, meridional, remap, total, cell, add_emitter, remove_emitter, tick, units_a_tick, count_zonal, zonal_with_count, set_limiter, Exchange, no_exchange, with_amount, amount_at, meaning, lent_fits, own_places, accepted, refused, refusal, step}
use Rattle.model.specs.Lists.{Loaded, loaded_world, listed, after, point, history}
use Rattle.model.proofs.Laws.World.{length_gas, length_block, total_changed, block_changed}
use Rattle.model.proofs.Laws.Emitters.{fresh_loaded, fresh_emitted, fresh_withdrawn}
use Rattle.model.proofs.Laws.Step.{Fits, Balanced, Reached, step_accepted, step_refused, answer_is, own_refusal, lent_refusal, all_passed, sound_balanced, loaded_is, loaded_block, loaded_reached}
use Rattle.model.proofs.Laws.Keeps.{accepts, still_balanced}
use Rattle.model.proofs.Laws.Lists.{listed_take, after_append, calls_between, calls_between_lem, history_append}
use Rattle.model.proofs.Demand3.{call_keeps, any_keeps, calls_keep, demand_3}
use Rattle.model.proofs.PerGas.{without, not_given}

-- ---- "The sums equal the history's"
-- tracer t's book in the world `now`, where x came and went since `start`
pub record OnRecord (start now : World) (t : ℕ) (x : Exchange) : Type 0 where
  pub loaded : loaded_sum (block now t) ≡ gas_total start t
  pub emitted : emitted_sum (block now t) ≡ x.emitted
  pub withdrawn : withdrawn_sum (block now t) ≡ x.withdrawn

-- where a book begins with the total and nothing else, it has after any calls what they exchanged
pub kept_on_record :
    (start : World) (calls : List Call) → Reached start → listed calls ≡ true → (t : ℕ) → t < start.grid.N →
    OnRecord start start t no_exchange → OnRecord start (after start calls) t (history start t calls)
kept_on_record start calls reached no_loads t h first =
    let book = (calls_keep start calls no_loads reached).booked t h in
    record {
      loaded = book.loaded ∙ first.loaded;
      emitted = omega (arith, book.emitted, first.emitted);
      withdrawn = omega (arith, book.withdrawn, first.withdrawn);
    }

-- as it begins with an accepted load
pub loaded_on_record : (w : World) → Loaded w → (t : ℕ) → t < (loaded_world w).grid.N → OnRecord (loaded_world w) (loaded_world w) t no_exchange
loaded_on_record w start t h =
    let fresh = loaded_block w start t (rw (loaded_is w start) at h) in
    let n = gas_total w t in
    record {
      loaded = ap loaded_sum fresh ∙ fresh_loaded n ∙ sym (ap (λ (v : World). gas_total v t) (loaded_is w start));
      emitted = ap emitted_sum fresh ∙ fresh_emitted n;
      withdrawn = ap withdrawn_sum fresh ∙ fresh_withdrawn n;
    }

-- loaded is the total at the last accepted load, emitted the sum over the accepted emissions and ticks since it, withdrawn over the accepted withdrawals
pub books_are_history :
    (w : World) (calls : List Call) → Loaded w → listed calls ≡ true → (i t : ℕ) → t < (loaded_world w).grid.N →
    OnRecord (loaded_world w) (point (loaded_world w) calls i) t (history (loaded_world w) t (take i calls))
books_are_history w calls start no_loads i t h =
    kept_on_record (loaded_world w) (take i calls) (loaded_reached w start) (listed_take i calls no_loads) t h (loaded_on_record w start t h)

-- An accepted load inside a list begins the history anew: what stands behind it is a list that starts at the world that it left, of which all of the above is said again
pub begins_anew :
    (start : World) (calls more : List Call) → after start (calls ++ load ∷ more) ≡ after (loaded_world (after start calls)) more
unfolding after
begins_anew start calls more = after_append start calls (load ∷ more)

-- ---- "for a world reached by calls that always holds": loads among them
not_listed : (call : Call) → (meaning call).listed ≡ false → call ≡ load
not_listed load e = refl
not_listed (emission t c amount) e = absurd (true≢false e)
not_listed (withdrawal t c amount) e = absurd (true≢false e)
not_listed (zonal k r fluxes) e = absurd (true≢false e)
not_listed (long_zonal k r fluxes) e = absurd (true≢false e)
not_listed (meridional k fluxes) e = absurd (true≢false e)
not_listed (remap table) e = absurd (true≢false e)
not_listed (total t) e = absurd (true≢false e)
not_listed (cell t c) e = absurd (true≢false e)
not_listed (add_emitter t c id units) e = absurd (true≢false e)
not_listed (remove_emitter t id) e = absurd (true≢false e)
not_listed (tick t) e = absurd (true≢false e)
not_listed (units_a_tick t) e = absurd (true≢false e)
not_listed (count_zonal k r fluxes) e = absurd (true≢false e)
not_listed (zonal_with_count k r n fluxes) e = absurd (true≢false e)
not_listed (set_limiter t number lo hi) e = absurd (true≢false e)

load_reached : (w : World) → Reached w → Reached (step w load).next
unfolding refused
load_reached w reached = go (refusal w load) refl
  where
    go : (n : ℕ) → refusal w load ≡ n → Reached (step w load).next
    go zero e = loaded_reached w (answer_is w load ∙ e)
    go (suc n) e = rw (step_refused w load n e) reached

one_reached : (call : Call) (w : World) → Reached w → Reached (step w call).next
one_reached call w reached = go (meaning call).listed refl
  where
    go : (b : Bool) → (meaning call).listed ≡ b → Reached (step w call).next
    go true e = (any_keeps call e w reached).kept.reached
    go false e = rw (not_listed call e) (load_reached w reached)

pub always_reached : (w : World) (calls : List Call) → Reached w → Reached (after w calls)
unfolding after
always_reached w [] reached = reached
always_reached w (call ∷ calls) reached = always_reached (step w call).next calls (one_reached call w reached)

own_not_22 : (call : Call) → without 22 (own_places call) ≡ true
unfolding without own_places
own_not_22 load = refl
own_not_22 (emission t c amount) = refl
own_not_22 (withdrawal t c amount) = refl
own_not_22 (zonal k r fluxes) = refl
own_not_22 (long_zonal k r fluxes) = refl
own_not_22 (meridional k fluxes) = refl
own_not_22 (remap table) = refl
own_not_22 (total t) = refl
own_not_22 (cell t c) = refl
own_not_22 (add_emitter t c id units) = refl
own_not_22 (remove_emitter t id) = refl
own_not_22 (tick t) = refl
own_not_22 (units_a_tick t) = refl
own_not_22 (count_zonal k r fluxes) = refl
own_not_22 (zonal_with_count k r n fluxes) = refl
own_not_22 (set_limiter t number lo hi) = refl

-- so after any calls from an accepted load the books balance, and 22 is given to no call
pub balanced_always :
    (w : World) (calls : List Call) → Loaded w →
    Balanced (after (loaded_world w) calls) × ((call : Call) → (step (after (loaded_world w) calls) call).answer ≢ 22)
balanced_always w calls start =
    let so = always_reached (loaded_world w) calls (loaded_reached w start) in
    let now = after (loaded_world w) calls in (
      so.balanced,
      λ call e.
          let given : refusal now call ≡ 22 = sym (answer_is now call) ∙ e in
          never now so call given (lent_fits now.grid call) refl,
    )
  where
    never : (now : World) → Reached now → (call : Call) → refusal now call ≡ 22 → (b : Bool) → lent_fits now.grid call ≡ b → ⊥
    never now so call e true lent = not_given 22 (own_places call) now (omega arith) (own_not_22 call) (sym (own_refusal now call so lent) ∙ e)
    never now so call e false lent = omega (arith, lent_refusal now call so.fits lent)

-- ---- demand 3's first part as it reads off the record, for two points of a list with no accepted load between: what was loaded is the same, the sums do not fall, and the difference of the totals is that of the sums
pub record Difference (a b : World) (t : ℕ) : Type 0 where
  pub same_loaded : loaded_sum (block b t) ≡ loaded_sum (block a t)
  pub emitted_rises : emitted_sum (block a t) ≤ emitted_sum (block b t)
  pub withdrawn_rises : withdrawn_sum (block a t) ≤ withdrawn_sum (block b t)
  pub difference :
      gas_total b t + withdrawn_sum (block b t) + emitted_sum (block a t) ≡ gas_total a t + withdrawn_sum (block a t) + emitted_sum (block b t)

pub difference_on_record :
    (w : World) (calls : List Call) → Loaded w → listed calls ≡ true → (t i j : ℕ) → t < (loaded_world w).grid.N → i ≤ j →
    Difference (point (loaded_world w) calls i) (point (loaded_world w) calls j) t
difference_on_record w calls start no_loads t i j h le =
    let first = loaded_world w in
    let p = books_are_history w calls start no_loads i t h in
    let q = books_are_history w calls start no_loads j t h in
    let parted = history_append first t (take i calls) (calls_between calls i j) in
    let all = calls_between_lem calls le in
    let came = ap (λ (l : List Call). (history first t l).emitted) all in
    let went = ap (λ (l : List Call). (history first t l).withdrawn) all in
    record {
      same_loaded = q.loaded ∙ sym p.loaded;
      emitted_rises = omega (arith, p.emitted, q.emitted, parted.came, came);
      withdrawn_rises = omega (arith, p.withdrawn, q.withdrawn, parted.went, went);
      difference =
          omega (
            arith,
            p.emitted,
            q.emitted,
            p.withdrawn,
            q.withdrawn,
            (demand_3 w calls start no_loads i).gas_kept t h,
            (demand_3 w calls start no_loads j).gas_kept t h,
          );
    }

-- ---- a broken book cannot hide, in any world: a call that has place 22 is accepted only where the books balance, and they balance after it; so they do after an accepted load
pub accepted_balances :
    (w : World) (call : Call) → (meaning call).books ≡ true → (step w call).answer ≡ 0 → Balanced w × Balanced (step w call).next
unfolding accepted
accepted_balances w call tests e = go (meaning call).listed refl
  where
    none : refusal w call ≡ 0
    none = sym (answer_is w call) ∙ e

    before : Balanced w
    before = sound_balanced w ((all_passed w call none).books tests)

    go : (b : Bool) → (meaning call).listed ≡ b → Balanced w × Balanced (step w call).next
    go true held = (before, rw (step_accepted w call none) (still_balanced before (accepts call (call_keeps call held) w none).keeps))
    go false held = absurd (true≢false (sym tests ∙ ap (λ (c : Call). (meaning c).books) (not_listed call held)))

pub load_balances : (w : World) → Loaded w → Balanced (loaded_world w)
load_balances w start = (loaded_reached w start).balanced

-- .. and one broken number is always seen: where the books balance, any one amount of a tracer, or any one of the three sums, changed to another number makes every such call refused
module _ (w : World) (fits : Fits w) (all : Balanced w) (t : ℕ) (there : t < w.grid.N) (call : Call) (tests : (meaning call).books ≡ true) where
  pub amount_seen : (c x : ℕ) → c < world_cells w.grid → x ≢ amount_at w t c → (step (with_amount w t c x) call).answer ≢ 0
  amount_seen c x inside other e =
      let still = (accepted_balances (with_amount w t c x) call tests e).0 t there in
      let moved = total_changed w t c x inside (length_gas w t fits.tracers_length there) in
      other (omega (arith, still, moved, all t there))

  -- with another number k of its block
  abbrev with : ℕ → ℕ → World
  with k x = with_block w t (set (block w t) k x)

  now : (k x : ℕ) → block (with k x) t ≡ set (block w t) k x
  now k x =
      block_changed w fits.ledger_length t there (set (block w t) k x) (length-set (block w t) k x ∙ length_block w t fits.ledger_length there)

  own : (k x : ℕ) → k < 59 → at (block (with k x) t) k ≡ x
  own k x h = ap (λ (b : List ℕ). at b k) (now k x) ∙ get_or-set_same (block w t) k x 0 (omega (arith, length_block w t fits.ledger_length there))

  rest : (k j x : ℕ) → j ≢ k → at (block (with k x) t) j ≡ at (block w t) j
  rest k j x ne = ap (λ (b : List ℕ). at b j) (now k x) ∙ get_or-set_other (block w t) k j x 0 ne

  pub loaded_seen : (x : ℕ) → x ≢ loaded_sum (block w t) → (step (with 56 x) call).answer ≢ 0
  loaded_seen x other e =
      other (omega (arith, (accepted_balances (with 56 x) call tests e).0 t there, all t there, own 56 x (omega arith), rest 56 57 x (omega arith), rest 56 58 x (omega arith)))

  pub emitted_seen : (x : ℕ) → x ≢ emitted_sum (block w t) → (step (with 57 x) call).answer ≢ 0
  emitted_seen x other e =
      other (omega (arith, (accepted_balances (with 57 x) call tests e).0 t there, all t there, own 57 x (omega arith), rest 57 56 x (omega arith), rest 57 58 x (omega arith)))

  pub withdrawn_seen : (x : ℕ) → x ≢ withdrawn_sum (block w t) → (step (with 58 x) call).answer ≢ 0
  withdrawn_seen x other e =
      other (omega (arith, (accepted_balances (with 58 x) call tests e).0 t there, all t there, own 58 x (omega arith), rest 58 56 x (omega arith), rest 58 57 x (omega arith)))
