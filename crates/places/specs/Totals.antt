-- What `totals` needs and gives: the sums of the first n tracers over all cells.
use Rattle.std.specs.Prelude.{◌≡◌, ℕ, suc, ◌+◌, ◌-◌, ◌*◌, ◌%◌, ◌^◌, ◌<◌, ◌≤◌, List, length, bit_or, slice_set}
use Rattle.std.proofs.Common.{sym, ◌∙◌, ap, le_refl, mod-eq_of_lt, mul-le-mul, mul-le-mul_right, arith}
use Rattle.std.proofs.Math.Nat.{add-sub_cancel_left}
use Rattle.model.specs.Limits.{most_cells, most_tracers, most_amounts}
use Rattle.model.specs.Basic.{at, part, sum}
use Rattle.model.proofs.Laws.Basic.{length_part, at_part, sum_none, sum_more, sum_split, sum_ext}
use Rattle.model.proofs.Laws.Entries.{entries_more}
use Rattle.places.specs.Bits.{or_above}

-- a sum of amounts below 2^32
pub record IsTotal (gas : List ℕ) (r : ℕ) : Type 0 where
  pub is : r ≡ sum (length gas) (at gas)
  pub small : r ≤ length gas * 4294967295

pub record TracersFit (tracers : List ℕ) (cells n : ℕ) : Type 0 where
  pub few_cells : cells ≤ most_cells
  pub few_tracers : n ≤ 8
  pub long : n * cells ≤ length tracers

pub record AreTotals (tracers : List ℕ) (cells n : ℕ) (sums : List ℕ) : Type 0 where
  pub each : (t : ℕ) → t < n → at sums t ≡ sum cells (at (part tracers (t * cells) cells))
  pub small : (t : ℕ) → t < n → at sums t < 562949953421312

-- as a loop over the tracers meets them: none yet, and one more
pub totals_none : {tracers : List ℕ} {cells : ℕ} {sums : List ℕ} → AreTotals tracers cells 0 sums
totals_none = record { each = λ t h. absurd (omega arith); small = λ t h. absurd (omega arith) }

pub totals_more :
    {tracers : List ℕ} {cells n : ℕ} {sums : List ℕ} {x : ℕ} → n < length sums → AreTotals tracers cells n sums →
    x ≡ sum cells (at (part tracers (n * cells) cells)) → x < 562949953421312 →
    AreTotals tracers cells (n + 1) (slice_set sums n x)
totals_more {tracers} {cells} {n} {sums} {x} room old is fits =
    record {
      each = entries_more 0 sums n x (λ t v. v ≡ sum cells (at (part tracers (t * cells) cells))) room old.each is;
      small = entries_more 0 sums n x (λ t v. v < 562949953421312) room old.small fits;
    }

-- where tracer t lies
pub tracer_room :
    {tracers : List ℕ} {cells n : ℕ} → TracersFit tracers cells n → (t : ℕ) → t < n →
    (t * cells + cells ≤ length tracers) × (t * cells + cells ≤ most_amounts)
tracer_room {tracers} {cells} {n} fit t h =
    let below : suc t * cells ≤ n * cells = mul-le-mul_right cells h in
    let most : n * cells ≤ most_tracers * most_cells = mul-le-mul fit.few_tracers fit.few_cells in
    let long : n * cells ≤ length tracers = fit.long in
    (omega arith, omega arith)

-- the total of a part that is lent as `&s[a..e]` with e = a + n
pub part_total :
    (l : List ℕ) (a n : ℕ) {x : ℕ} → a + n ≤ length l →
    x ≡ sum (length (part l a (a + n - a))) (at (part l a (a + n - a))) → x ≡ sum n (at (part l a n))
part_total l a n h e = rw (add-sub_cancel_left a n, length_part l a n h) at e

-- ---- a sum in 32 bits of i amounts below 2^20
pub record BlockSum (s t i : ℕ) : Type 0 where
  pub is : s ≡ t
  pub small : s ≤ i * 1048575

pub block_none : (f : ℕ → ℕ) → BlockSum 0 (sum 0 f) 0
block_none f = record { is = sym (sum_none f); small = omega arith }

pub block_more :
    (f : ℕ → ℕ) {s x i : ℕ} → i < 4096 → BlockSum s (sum i f) i → x ≡ f i → x < 1048576 →
    BlockSum ((s + x) % 2 ^ 32) (sum (i + 1) f) (i + 1)
block_more f {s} {x} {i} few old own below =
    let fits : s + x < 2 ^ 32 = omega (arith, old.small) in
    let e = mod-eq_of_lt fits in
    record { is = omega (arith, e, old.is, own, sum_more i f); small = omega (arith, e, old.small) }

-- the bits of three numbers, below 2^20
pub bits_below : (all x y : ℕ) → bit_or (bit_or all x) y < 1048576 → (all < 1048576) × (x < 1048576) × (y < 1048576)
bits_below all x y h =
    let two = or_above (bit_or all x) y in
    let one = or_above all x in
    (omega (arith, two.0, one.0), omega (arith, two.0, one.1), omega (arith, two.1))

-- ---- the sum up to the end of a block
pub sum_block :
    (l : List ℕ) (a e : ℕ) {x : ℕ} → a ≤ e → e ≤ length l →
    x ≡ sum (length (part l a (e - a))) (at (part l a (e - a))) → sum e (at l) ≡ sum a (at l) + x
sum_block l a e h k is =
    let n : e ≡ a + (e - a) = omega arith in
    let block : List ℕ = part l a (e - a) in
    let size : length block ≡ e - a = length_part l a (e - a) (omega arith) in
    let entries = sum_ext (e - a) (at block) (λ i. at l (a + i)) (at_part l a (e - a)) in
    ap (λ (m : ℕ). sum m (at l)) n ∙ sum_split a (e - a) (at l) ∙
    ap (λ (m : ℕ). sum a (at l) + m) (sym (is ∙ ap (λ (m : ℕ). sum m (at block)) size ∙ entries))

-- two halves, and what is left behind them
pub halves_total :
    (gas : List ℕ) (half : ℕ) {x y r : ℕ} → half + half ≤ length gas →
    BlockSum x (sum half (at gas)) half → BlockSum y (sum half (λ k. at gas (half + k))) half →
    IsTotal (part gas (half + half) (length gas - (half + half))) r → IsTotal gas (x + y + r)
halves_total gas half fits first second rest =
    let long = length_part gas (half + half) (length gas - (half + half)) (omega arith) in
    let all = sum_block gas (half + half) (length gas) fits (le_refl _) rest.is in
    record {
      is = omega (arith, first.is, second.is, sum_split half half (at gas), all);
      small = omega (arith, first.small, second.small, rest.small, long);
    }
