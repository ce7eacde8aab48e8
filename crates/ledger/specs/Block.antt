-- What the functions over a tracer's block need and give: the search for an id, the block after a removal, and a block whose sum is kept.
-- Assumes nothing of the block but what each says.
use Rattle.std.specs.Prelude.{ℕ, zero, suc, ◌+◌, ◌*◌, ◌≤◌, ◌<◌, List, ◌++◌, Bool, not, ◌&&◌, ◌||◌, ◌≡◌, refl, ltb, length, Option, Some, None}
use Rattle.std.proofs.Common.{append-nil, ap, ◌∙◌, add-zero, add-one, arith, drop_of_length-le, ext_get_or}
use Rattle.std.proofs.Math.ListN.{replicate}
use Rattle.std.proofs.lemmas.List.{length-replicate, get_or-replicate}
use Rattle.std.proofs.Math.Bool.{true, false, or-true, or-false}
use Rattle.std.proofs.Math.Path.{sym, ap₂}
use borrow.Author.Tests.{lt-leb, le-leb, eq-eqb, ne_eqb}
use Rattle.std.proofs.Math.Dec.{eqb}
use Rattle.model.specs.Limits.{most_emitters, block_numbers}
use Rattle.model.specs.Basic.{at, part, written, zeros, sum, every, some}
use Rattle.model.proofs.Laws.Basic.{sum_le, sum_same, term_le_sum, length_zeros, at_zeros}
use Rattle.model.proofs.Laws.Emitters.{record_fitting, none_sound}
use Rattle.model.specs.Emitters.{standing, emitter_id, emitter_cell, emitter_units, half, kept_units, present_units, record_fits, place_of, removed_at, emitter_removed}
use Rattle.model.specs.Books.{fresh_block}
use Rattle.units.specs.EachTracer.{Changes, changed_up_to, length_gas, part_more}

-- a block in which at most 16 stand, with their sum
pub record Kept (b : List ℕ) : Type 0 where
  pub few : standing b ≤ most_emitters
  pub sum : kept_units b ≡ present_units b

-- what a search for an id among the first n gives: none where none of them has it, else the place of the last that has it
pub record FoundAt (b : List ℕ) (id n place : ℕ) : Type 0 where
  pub has : some n (λ i. eqb (emitter_id b i) id) ≡ true
  pub inside : place < n
  pub is : place_of b id n ≡ place

abbrev pub Searched : List ℕ → ℕ → ℕ → Option ℕ → Type 0
Searched b id n None = some n (λ i. eqb (emitter_id b i) id) ≡ false
Searched b id n (Some place) = FoundAt b id n place

pub removed_is : (b : List ℕ) (id i : ℕ) → place_of b id (standing b) ≡ i → removed_at b i ≡ emitter_removed b id
removed_is b id i e = ap (removed_at b) (sym e)

-- ---- the search, one entry after the other
pub searched_none : (b : List ℕ) (id : ℕ) → Searched b id 0 None
unfolding some
searched_none b id = refl

module _ (b : List ℕ) (id n : ℕ) where
  pub searched_here : emitter_id b n ≡ id → Searched b id (n + 1) (Some n)
  unfolding some place_of
  searched_here e =
      let same : eqb (emitter_id b n) id ≡ true = eq-eqb _ _ e in
      record {
        has = rw (add-one, some, same) (or-true (some n (λ i. eqb (emitter_id b i) id)));
        inside = omega arith;
        is = rw (add-one, place_of, same);
      }

  pub searched_past : (place : Option ℕ) → Searched b id n place → (emitter_id b n ≡ id → ⊥) → Searched b id (n + 1) place
  unfolding some place_of
  searched_past None old ne =
      rw (add-one, some, ne_eqb (emitter_id b n) id ne) (or-false (some n (λ i. eqb (emitter_id b i) id)) ∙ old)
  searched_past (Some place) old ne =
      let other : eqb (emitter_id b n) id ≡ false = ne_eqb _ _ ne in
      record {
        has = rw (add-one, some, other) (or-false (some n (λ i. eqb (emitter_id b i) id)) ∙ old.has);
        inside = omega (arith, old.inside);
        is = rw (add-one, place_of, other) old.is;
      }

-- where p holds at some number, `not p` does not hold at every one
pub none_has : (n : ℕ) (p : ℕ → Bool) → every n (λ j. not (p j)) ≡ not (some n p)
unfolding every some
none_has zero p = refl
none_has (suc n) p = ap (λ (b : Bool). b && not (p n)) (none_has n p) ∙ both (some n p) (p n)
  where
    both : (a b : Bool) → not a && not b ≡ not (a || b)
    both true b = refl
    both false b = refl

-- ---- the units of n emitters, each below 2^32, and of one of them
units_most : (b : List ℕ) (n : ℕ) → ((k : ℕ) → at b k < half) → sum n (emitter_units b) ≤ n * 4294967295
units_most b n fit =
    omega (arith, sum_le n (emitter_units b) (λ i. 4294967295) (λ i h. omega (arith, fit (5 + 3 * i))), sum_same n 4294967295)

module _ {b : List ℕ} (kept : Kept b) where
  pub kept_most : ((k : ℕ) → at b k < half) → kept_units b ≤ 68719476720
  kept_most fit = omega (arith, kept.sum, kept.few, units_most b (standing b) fit)

  pub units_kept : {i : ℕ} → i < standing b → emitter_units b i ≤ kept_units b
  units_kept {i} h = omega (arith, kept.sum, term_le_sum (standing b) (emitter_units b) i h)

-- ---- the test of a record: more than 16 stand, or what the other three tests give
module _ (cells : ℕ) (b : List ℕ) {n : ℕ} (same : n ≡ standing b) where
  pub too_many : most_emitters < n → false ≡ record_fits cells b
  unfolding record_fits
  too_many many = rw (record_fits, lt-leb (standing b) most_emitters (rw same at many))

  pub tests_fit : {there apart : Bool} {kept present : ℕ} → n ≤ most_emitters →
      there ≡ every n (λ i. ltb (emitter_cell b i) cells) →
      apart ≡ every n (λ i. every i (λ j. not (eqb (emitter_id b j) (emitter_id b i)))) →
      kept ≡ kept_units b → present ≡ sum n (emitter_units b) → there && apart && eqb kept present ≡ record_fits cells b
  unfolding record_fits
  tests_fit few a d k p =
      ap₂ (λ (x y : Bool). x && y) (ap₂ (λ (x y : Bool). x && y) (rw same at a) (rw same at d)) (ap₂ eqb k (rw same at p)) ∙
      sym (rw (record_fits, le-leb (standing b) most_emitters (rw same at few)))

-- ---- the ledger that a load leaves, block after block
pub replicate_zeros : (n : ℕ) → replicate n 0 ≡ zeros n
replicate_zeros n =
    ext_get_or 0 (replicate n 0) (zeros n) (length-replicate {A = ℕ} n 0 ∙ sym (length_zeros n)) (λ k h. let few : k < n = rw (length-replicate {A = ℕ} n 0) at h in get_or-replicate n k 0 0 few ∙ sym (at_zeros n k))

pub length_fresh : (total : ℕ) → length (fresh_block total) ≡ block_numbers
length_fresh total = (none_sound total 0).many

written_all : (l new : List ℕ) → length new ≡ length l → written l 0 new ≡ new
written_all l new e = ap (λ (r : List ℕ). new ++ r) (drop_of_length-le l {i = 0 + length new} (omega arith)) ∙ append-nil new

abbrev renewed : List ℕ → ℕ → List ℕ
renewed totals t = fresh_block (at totals t)

module _ (ledger totals : List ℕ) {n : ℕ} (long : length ledger ≡ n * block_numbers) where
  pub renews : Changes ledger n block_numbers (renewed totals)
  renews = record { long = long; sized = λ t h. length_fresh (at totals t) }

  -- one more
  pub renewed_more : {t : ℕ} → t < n → {now new : List ℕ} → now ≡ changed_up_to ledger block_numbers (renewed totals) t → new ≡ renewed totals t →
      written now (t * block_numbers) new ≡ changed_up_to ledger block_numbers (renewed totals) (t + 1)
  renewed_more {t} h {now} {new} e f =
      let size : length new ≡ block_numbers = ap length f ∙ length_fresh (at totals t) in
      let whole : written (part ledger (t * block_numbers) block_numbers) 0 new ≡ renewed totals t =
      written_all (part ledger (t * block_numbers) block_numbers) new (size ∙ sym (length_gas ledger n block_numbers long h)) ∙ f in
      ap (λ (a : ℕ). written now a new) (sym (add-zero (t * block_numbers))) ∙
      part_more renews h e new 0 (omega arith) whole

-- ---- what a record that passed its test tells
pub record_kept : (cells : ℕ) (b : List ℕ) → record_fits cells b ≡ true → Kept b × ((i : ℕ) → i < standing b → emitter_cell b i < cells)
record_kept cells b e =
    let fitting = record_fitting cells b e in
    (record { few = fitting.few; sum = fitting.sum }, fitting.there)
