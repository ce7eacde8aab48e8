-- Laws of `step`: the first place that applies, an accepted and a refused call, and what an accepted load tells of a world: none of the refusals 1 to 4, nor 22, nor 21 for what stands, is met there but for a call's own lent list.
use Rattle.std.specs.Prelude.{ℕ, zero, suc, ◌+◌, ◌*◌, ◌≤◌, ◌<◌, List, [], ◌∷◌, ◌++◌, Bool, true, false, not, ◌&&◌, ◌≡◌, refl, ◌≢◌, ltb, length}
use Rattle.std.proofs.Math.Bool.{and-eq-true_iff}
use Rattle.std.proofs.lemmas.Bool.{false≢true, not-false}
use Rattle.std.proofs.Common.{sym, ◌∙◌, ap, ap₂, arith, ltb-true, ltb-false, leb-true, le-leb, eqb-true, eq-eqb, lit<}
use Rattle.model.specs.Limits.{total_limit, block_numbers}
use Rattle.model.specs.Basic.{at, sum}
use Rattle.model.specs.World.{Grid, World, world_cells, block, gas, gas_total, air_fits}
use Rattle.model.specs.Books.{loaded_sum, emitted_sum, withdrawn_sum, fresh_block}
use Rattle.model.specs.Step.{Call, load, Result, cleared, Place, first_of, absent, broken_limiter, broken_book, grid_fits, meaning, lent_fits, lengths_fit, common_places, place_if, limiter_places, book_places, own_places, accepted, refused, refusal, step}
use Rattle.model.specs.Lists.{Loaded, loaded_world, LoadedAlike, Alike}
use Rattle.model.proofs.Laws.Basic.{every_at, every_true}
use Rattle.model.proofs.Laws.World.{block_absent, length_blocks, part_blocks}
use Rattle.model.proofs.Laws.Emitters.{Sound, none_sound, fresh_loaded, fresh_emitted, fresh_withdrawn}

-- ---- the first place that applies
pub passes : (p : Place) (ps : List Place) (w : World) → p.applies w ≡ false → first_of (p ∷ ps) w ≡ first_of ps w
unfolding first_of
passes p ps w e = rw (e, first_of)

pub stops : (p : Place) (ps : List Place) (w : World) → p.applies w ≡ true → first_of (p ∷ ps) w ≡ p.number
unfolding first_of
stops p ps w e = rw (e, first_of)

-- where the answer is 0, no place applies
pub passed : (p : Place) (ps : List Place) (w : World) → 0 < p.number → first_of (p ∷ ps) w ≡ 0 → (p.applies w ≡ false) × (first_of ps w ≡ 0)
passed p ps w positive e = go (p.applies w) refl
  where
    go : (b : Bool) → p.applies w ≡ b → (p.applies w ≡ false) × (first_of ps w ≡ 0)
    go true q = absurd (omega (arith, stops p ps w q))
    go false q = (q, sym (passes p ps w q) ∙ e)

-- .. and what is named is there
pub found : (i : ℕ) (many : Grid → ℕ) (ps : List Place) (w : World) → first_of (absent i many ∷ ps) w ≡ 0 → (i < many w.grid) × (first_of ps w ≡ 0)
found i many ps w e =
    let p = passed (absent i many) ps w (lit< tt) e in
    (ltb-true _ _ (not-false _ p.0), p.1)

-- two worlds get the same answer if each place that is reached applies in both or in neither
pub first_of_same :
    (p : Place) (ps : List Place) (w v : World) → p.applies w ≡ p.applies v →
    (p.applies w ≡ false → first_of ps w ≡ first_of ps v) → first_of (p ∷ ps) w ≡ first_of (p ∷ ps) v
first_of_same p ps w v same rest = go (p.applies w) refl
  where
    go : (b : Bool) → p.applies w ≡ b → first_of (p ∷ ps) w ≡ first_of (p ∷ ps) v
    go true q = stops p ps w q ∙ sym (stops p ps v (sym same ∙ q))
    go false q = passes p ps w q ∙ rest q ∙ sym (passes p ps v (sym same ∙ q))

-- places behind others are tested where none of the first applies, and only there
unfoldable pub numbered : List Place → Bool
numbered [] = true
numbered (p ∷ ps) = ltb 0 p.number && numbered ps

pub behind_passed : (ps qs : List Place) (w : World) → numbered ps ≡ true → first_of ps w ≡ 0 → first_of (ps ++ qs) w ≡ first_of qs w
unfolding numbered
behind_passed [] qs w positive e = refl
behind_passed (p ∷ ps) qs w positive e =
    let n = (and-eq-true_iff (ltb 0 p.number) (numbered ps)).0 positive in
    let q = passed p ps w (ltb-true _ _ n.0) e in
    passes p (ps ++ qs) w q.0 ∙ behind_passed ps qs w n.1 q.1

pub behind_stopped : (ps qs : List Place) (w : World) (n : ℕ) → first_of ps w ≡ suc n → first_of (ps ++ qs) w ≡ suc n
unfolding first_of
behind_stopped [] qs w n e = absurd (omega arith)
behind_stopped (p ∷ ps) qs w n e = go (p.applies w) refl (behind_stopped ps qs w n)
  where
    go : (b : Bool) → p.applies w ≡ b → (first_of ps w ≡ suc n → first_of (ps ++ qs) w ≡ suc n) → first_of (p ∷ ps ++ qs) w ≡ suc n
    go true q rest = stops p (ps ++ qs) w q ∙ sym (stops p ps w q) ∙ e
    go false q rest = passes p (ps ++ qs) w q ∙ rest (sym (passes p ps w q) ∙ e)

-- ---- an accepted call and a refused one
pub step_accepted : (w : World) (call : Call) → refusal w call ≡ 0 → step w call ≡ accepted w call
unfolding step
step_accepted w call e = rw (e, step)

pub step_refused : (w : World) (call : Call) (n : ℕ) → refusal w call ≡ suc n → step w call ≡ refused w (suc n)
unfolding step
step_refused w call n e = rw (e, step)

accepted_answer : (w : World) (call : Call) → (accepted w call).answer ≡ 0
unfolding accepted
accepted_answer w call = refl

pub answer_is : (w : World) (call : Call) → (step w call).answer ≡ refusal w call
unfolding refused
answer_is w call = go (refusal w call) refl
  where
    go : (n : ℕ) → refusal w call ≡ n → (step w call).answer ≡ n
    go zero e = rw (step_accepted w call e) (accepted_answer w call)
    go (suc n) e = rw (step_refused w call n e)

pub refused_changes_nothing : (w : World) (call : Call) → (step w call).answer ≢ 0 → ((step w call).count ≡ 0) × ((step w call).next ≡ w)
unfolding refused
refused_changes_nothing w call closed = go (refusal w call) refl
  where
    go : (n : ℕ) → refusal w call ≡ n → ((step w call).count ≡ 0) × ((step w call).next ≡ w)
    go zero e = absurd (closed (answer_is w call ∙ e))
    go (suc n) e = rw (step_refused w call n e) (refl, refl)

-- ---- what places 1 to 4 tell of a world that passes them
pub record Fits (w : World) : Type 0 where
  pub grid : grid_fits w.grid ≡ true
  pub air_length : length w.air ≡ world_cells w.grid
  pub tracers_length : length w.tracers ≡ w.grid.N * world_cells w.grid
  pub ledger_length : length w.ledger ≡ w.grid.N * block_numbers
  pub air : (c : ℕ) → c < world_cells w.grid → air_fits (at w.air c) ≡ true
  pub totals : (t : ℕ) → t < w.grid.N → gas_total w t ≤ total_limit

-- of the lent lengths only the call's own list is then in question
fitting_lengths : (w : World) (call : Call) → Fits w → lengths_fit w call ≡ lent_fits w.grid call
fitting_lengths w call fits =
    rw (eq-eqb _ _ fits.air_length, eq-eqb _ _ fits.tracers_length, eq-eqb _ _ fits.ledger_length, lengths_fit)

-- in such a world a call's refusal is that of its places behind these alone, if the list that it lends fits
pub behind_common :
    (w : World) (call : Call) → Fits w → lent_fits w.grid call ≡ true → refusal w call ≡ first_of (limiter_places call ++ (book_places call ++ own_places call)) w
unfolding refusal common_places
behind_common w call fits lent =
    passes _ _ w (ap not fits.grid) ∙
    passes _ _ w (ap not (fitting_lengths w call fits ∙ lent)) ∙
    passes _ _ w (ap not (every_true _ _ (λ c h. fits.air c (rw fits.air_length at h)))) ∙
    passes _ _ w (ap not (every_true _ _ (λ t h. le-leb _ _ (fits.totals t h))))

-- a place that only some calls have: where it does not apply, or the call has it not, those behind it are left
behind_if : (has : Bool) (p : Place) (ps : List Place) (w : World) → p.applies w ≡ false → first_of (place_if has p ++ ps) w ≡ first_of ps w
behind_if true p ps w sound = passes p ps w sound
behind_if false p ps w sound = refl

pub behind_limiters : (w : World) (call : Call) (ps : List Place) → broken_limiter.applies w ≡ false → first_of (limiter_places call ++ ps) w ≡ first_of ps w
unfolding limiter_places
behind_limiters w call ps = behind_if (meaning call).limiters broken_limiter ps w

pub behind_books : (w : World) (call : Call) (ps : List Place) → broken_book.applies w ≡ false → first_of (book_places call ++ ps) w ≡ first_of ps w
unfolding book_places
behind_books w call ps = behind_if (meaning call).books broken_book ps w

pub lent_refusal : (w : World) (call : Call) → Fits w → lent_fits w.grid call ≡ false → refusal w call ≡ 2
unfolding refusal common_places
lent_refusal w call fits lent =
    passes _ _ w (ap not fits.grid) ∙ stops _ _ w (ap not (fitting_lengths w call fits ∙ lent))

-- where none of the places 1 to 4 applies, the world fits and the list that the call lends; the places after them are left
pub common_passed :
    (w : World) (call : Call) (ps : List Place) → first_of (common_places call ++ ps) w ≡ 0 →
    Fits w × (lent_fits w.grid call ≡ true) × (first_of ps w ≡ 0)
unfolding common_places
common_passed w call ps e =
    let p = passed _ _ w (lit< tt) e in
    let q = passed _ _ w (lit< tt) p.1 in
    let r = passed _ _ w (lit< tt) q.1 in
    let s = passed _ _ w (lit< tt) r.1 in
    let lengths = (and-eq-true_iff _ _).0 (not-false _ q.0) in
    let lent = (and-eq-true_iff _ _).0 lengths.0 in
    let amounts = (and-eq-true_iff _ _).0 lent.0 in
    let air_length : length w.air ≡ world_cells w.grid = eqb-true _ _ amounts.0 in (
      record {
        grid = not-false _ p.0;
        air_length = air_length;
        tracers_length = eqb-true _ _ amounts.1;
        ledger_length = eqb-true _ _ lent.1;
        air = λ c h. every_at _ _ (not-false _ r.0) c (rw air_length h);
        totals = λ t h. leb-true _ _ (every_at _ _ (not-false _ s.0) t h);
      },
      lengths.1,
      s.1,
    )

-- .. and where such a place does not apply to a call that has it, what it tests is sound
if_passed :
    (has : Bool) (p : Place) (ps : List Place) (w : World) → 0 < p.number → first_of (place_if has p ++ ps) w ≡ 0 →
    (has ≡ true → p.applies w ≡ false) × (first_of ps w ≡ 0)
if_passed true p ps w positive e = let q = passed p ps w positive e in (λ has. q.0, q.1)
if_passed false p ps w positive e = (λ has. absurd (false≢true has), e)

-- all that an accepted call tells of the world: its limiters and books are sound, if the call tests them
pub record Accepted (w : World) (call : Call) : Type 0 where
  pub fits : Fits w
  pub lent : lent_fits w.grid call ≡ true
  pub limiters : (meaning call).limiters ≡ true → broken_limiter.applies w ≡ false
  pub books : (meaning call).books ≡ true → broken_book.applies w ≡ false
  pub own : first_of (own_places call) w ≡ 0

pub all_passed : (w : World) (call : Call) → refusal w call ≡ 0 → Accepted w call
unfolding refusal limiter_places book_places
all_passed w call e =
    let p = common_passed w call (limiter_places call ++ (book_places call ++ own_places call)) e in
    let q = if_passed (meaning call).limiters broken_limiter (book_places call ++ own_places call) w (lit< tt) p.2 in
    let r = if_passed (meaning call).books broken_book (own_places call) w (lit< tt) q.1 in
    record { fits = p.0; lent = p.1; limiters = q.0; books = r.0; own = r.1 }

pub accepted_passed : (w : World) (call : Call) → refusal w call ≡ 0 → Fits w × (lent_fits w.grid call ≡ true) × (first_of (own_places call) w ≡ 0)
accepted_passed w call e = let p = all_passed w call e in (p.fits, p.lent, p.own)

pub accepted_limiters : (w : World) (call : Call) → (meaning call).limiters ≡ true → refusal w call ≡ 0 → broken_limiter.applies w ≡ false
accepted_limiters w call tests e = (all_passed w call e).limiters tests

pub loaded_fits : (w : World) → Loaded w → Fits w
loaded_fits w start = (accepted_passed w load (sym (answer_is w load) ∙ start)).0

-- ---- the books of a world balance: of every tracer
abbrev pub Balanced : World → Type 0
Balanced w = (t : ℕ) → t < w.grid.N → loaded_sum (block w t) + emitted_sum (block w t) ≡ withdrawn_sum (block w t) + gas_total w t

pub balanced_sound : (w : World) → Balanced w → broken_book.applies w ≡ false
balanced_sound w all = ap not (every_true _ _ (λ t h. eq-eqb _ _ (all t h)))

pub sound_balanced : (w : World) → broken_book.applies w ≡ false → Balanced w
sound_balanced w sound t h = eqb-true _ _ (every_at _ _ (not-false _ sound) t h)

-- ---- what holds of every world that calls reach from an accepted load
pub record Reached (w : World) : Type 0 where
  pub fits : Fits w
  pub blocks : (t : ℕ) → t < w.grid.N → Sound (world_cells w.grid) (block w t)
  pub balanced : Balanced w

-- no limiter and no book is broken there, so that a call's refusal is that of its own places alone, if the list that it lends fits
pub limiters_sound : {w : World} → Reached w → broken_limiter.applies w ≡ false
limiters_sound reached = ap not (every_true _ _ (λ t h. (reached.blocks t h).limiter))

pub books_sound : {w : World} → Reached w → broken_book.applies w ≡ false
books_sound {w} reached = balanced_sound w reached.balanced

pub own_refusal : (w : World) (call : Call) → Reached w → lent_fits w.grid call ≡ true → refusal w call ≡ first_of (own_places call) w
own_refusal w call reached lent =
    behind_common w call reached.fits lent ∙ behind_limiters w call (book_places call ++ own_places call) (limiters_sound reached) ∙
    behind_books w call (own_places call) (books_sound reached)

-- an accepted load leaves the world as it was lent, but for its ledger, in which no emitter stands, every tracer has the first limiter, and its book has its total as loaded
pub loaded_is : (w : World) → Loaded w → loaded_world w ≡ cleared w
unfolding accepted
loaded_is w start = ap (λ (r : Result). r.next) (step_accepted w load (sym (answer_is w load) ∙ start))

-- its ledger is made of blocks of one length
module _ (w : World) where
  length_cleared : length (cleared w).ledger ≡ w.grid.N * block_numbers
  length_cleared = length_blocks w.grid.N block_numbers (λ t. fresh_block (gas_total w t)) (λ t h. (none_sound (gas_total w t) 0).many)

  cleared_block : (t : ℕ) → t < w.grid.N → block (cleared w) t ≡ fresh_block (gas_total w t)
  cleared_block = part_blocks w.grid.N block_numbers (λ t. fresh_block (gas_total w t)) (λ t h. (none_sound (gas_total w t) 0).many)

  -- .. and its books balance
  cleared_balanced : Balanced (cleared w)
  cleared_balanced t h =
      let n = gas_total w t in
      rw (cleared_block t h) (omega (arith, fresh_loaded n, fresh_emitted n, fresh_withdrawn n))

pub loaded_block : (w : World) → Loaded w → (t : ℕ) → t < w.grid.N → block (loaded_world w) t ≡ fresh_block (gas_total w t)
loaded_block w start t h = rw (loaded_is w start) (cleared_block w t h)

-- so two loads leave the same block of each tracer of which they have the same amounts
pub loaded_alike : (w v : World) → Loaded w → Loaded v → (own : ℕ → Bool) → LoadedAlike own (loaded_world w) (loaded_world v) → Alike own (loaded_world w) (loaded_world v)
loaded_alike w v lw lv own a =
    record {
      same_grid = a.same_grid;
      same_air = a.same_air;
      same_gas = a.same_gas;
      same_block = λ t o. rw (loaded_is w lw, loaded_is v lv) (same t o (ltb t w.grid.N) refl);
    }
  where
    grids : w.grid ≡ v.grid
    grids = rw (loaded_is w lw, loaded_is v lv) at a.same_grid

    totals : (t : ℕ) → own t ≡ true → gas_total w t ≡ gas_total v t
    totals t o =
        ap₂ (λ (g : Grid) (l : List ℕ). sum (world_cells g) (at l)) grids (rw (loaded_is w lw, loaded_is v lv) at (a.same_gas t o))

    same : (t : ℕ) → own t ≡ true → (b : Bool) → ltb t w.grid.N ≡ b → block (cleared w) t ≡ block (cleared v) t
    same t o true e =
        let h = ltb-true t w.grid.N e in
        cleared_block w t h ∙ ap fresh_block (totals t o) ∙ sym (cleared_block v t (rw (← grids) h))
    same t o false e =
        let h = ltb-false t w.grid.N e in
        block_absent (cleared w) t (length_cleared w) h ∙ sym (block_absent (cleared v) t (length_cleared v) (rw (← grids) h))

pub loaded_reached : (w : World) → Loaded w → Reached (loaded_world w)
loaded_reached w start =
    let fits = loaded_fits w start in
    rw (loaded_is w start)
    (record {
      fits = record {
        grid = fits.grid;
        air_length = fits.air_length;
        tracers_length = fits.tracers_length;
        ledger_length = length_cleared w;
        air = fits.air;
        totals = fits.totals;
      };
      blocks = λ t h. rw (cleared_block w t h) (none_sound (gas_total w t) _);
      balanced = cleared_balanced w;
    })
