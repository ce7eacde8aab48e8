-- The row of W columns is regular.
-- Assumes nothing of W.
use Rattle.std.specs.Prelude.{ℕ, zero, suc, ◌+◌, ◌-◌, ◌<◌, Bool, true, false, ◌≡◌, refl, eqb}
use Rattle.std.proofs.Common.{ap, arith, eqb-true, eq-eqb, ne_eqb}
use Rattle.std.proofs.lemmas.Bool.{eqb-false}
use Rattle.model.specs.Basic.{sum}
use Rattle.model.specs.Sweep.{Flow, ring, east_of, west_of, leaving}
use Rattle.model.proofs.Laws.Basic.{sum_add}
use Rattle.model.proofs.Laws.Mesh.{Regular, passes_on_lem}

-- the column to the west, and to the east, are columns; one undoes the other
pub west_in : (W i : ℕ) → i < W → west_of W i < W
west_in W zero h = omega arith
west_in W (suc i) h = omega arith

pub east_last : (W i : ℕ) → suc i ≡ W → east_of W i ≡ 0
east_last W i e = rw (eq-eqb (suc i) W e, east_of)

pub east_inner : (W i : ℕ) → suc i < W → east_of W i ≡ suc i
east_inner W i h = rw (ne_eqb (suc i) W (λ e. omega arith), east_of)

pub east_in : (W i : ℕ) → i < W → east_of W i < W
east_in W i h = go (eqb (suc i) W) refl
  where
    go : (b : Bool) → eqb (suc i) W ≡ b → east_of W i < W
    go true e = rw (e, east_of) (omega arith)
    go false e = rw (e, east_of) (omega (arith, eqb-false (suc i) W e))

east_of_west : (W i : ℕ) → i < W → east_of W (west_of W i) ≡ i
east_of_west W zero h = east_last W (W - 1) (omega arith)
east_of_west W (suc i) h = east_inner W i h

west_of_east : (W i : ℕ) → i < W → west_of W (east_of W i) ≡ i
west_of_east W i h = go (eqb (suc i) W) refl
  where
    go : (b : Bool) → eqb (suc i) W ≡ b → west_of W (east_of W i) ≡ i
    go true e = rw (e, east_of) (omega (arith, eqb-true (suc i) W e))
    go false e = rw (e, east_of)

-- the sum over the western neighbours of all columns is the sum over all columns
sum_west : (W n : ℕ) (f : ℕ → ℕ) → sum (suc n) (λ i. f (west_of W i)) ≡ f (W - 1) + sum n f
unfolding sum
sum_west W zero f = omega arith
sum_west W (suc n) f = omega (arith, sum_west W n f)

sum_round : (W : ℕ) (f : ℕ → ℕ) → sum W (λ i. f (west_of W i)) ≡ sum W f
unfolding sum
sum_round zero f = refl
sum_round (suc n) f =
    let e : suc n - 1 ≡ n = omega arith in
    omega (arith, sum_west (suc n) n f, ap f e)

ring_leaving : (W : ℕ) (flow : Flow) → sum W (leaving (ring W) flow) ≡ sum W flow.to_high + sum W flow.to_low
unfolding ring leaving
ring_leaving W flow =
    omega (arith, sum_add W (λ i. flow.to_low (west_of W i)) flow.to_high, sum_round W flow.to_low)

pub ring_regular : (W : ℕ) → Regular (ring W)
unfolding ring
ring_regular W =
    record {
      meets = λ i h. (west_in W i h, h, east_of_west W i h, refl);
      low_in = λ i h. h;
      high_in = east_in W;
      low_has = λ i h. refl;
      high_has = west_of_east W;
      passes_on = passes_on_lem (ring W) (ring_leaving W);
    }

pub west_first : (W i : ℕ) → i ≡ 0 → west_of W i ≡ W - 1
west_first W zero e = refl
west_first W (suc i) e = absurd (omega arith)

pub west_inner : (W i : ℕ) → (i ≡ 0 → ⊥) → west_of W i ≡ i - 1
west_inner W zero h = absurd (h refl)
west_inner W (suc i) h = omega arith
