-- The layer of W columns and R rows between two caps is regular.
-- Assumes nothing of W and R.
use Prim.Native.Nat.{ℕ, zero, suc, ◌+◌, ◌*◌, ◌-◌, ◌≤◌, ◌<◌}
use Rattle.std.specs.Prelude.{Bool, ◌≡◌}
use Rattle.std.proofs.Math.Bool.{true, false}
use Rattle.std.proofs.Math.Path.{refl, ap}
use Rattle.std.proofs.Common.{◌∙◌, zero-add}
use native.Mathlib.Omega.{arith}
use borrow.Author.Tests.{ltb-true, ltb-false, lt-ltb, le-ltb}
use Rattle.std.proofs.Math.Dec.{ltb}
use Rattle.model.specs.Basic.{sum}
use Rattle.model.specs.Sweep.{between, north_cap, Flow, layer, south_of, north_of, layer_sides, leaving}
use Rattle.model.proofs.Laws.Basic.{sum_add, sum_split, sum_ext}
use Rattle.model.proofs.Laws.Mesh.{out, leaving_is, Regular, Meets, OnHighSide, OnLowSide, passes_on_lem}

-- ---- the faces of the cells between the caps, and of the north cap
pub sides_inner : (W n j : ℕ) → j < n → layer_sides W n (suc j) ≡ between j (W + j)
sides_inner W n j h = rw (lt-ltb j n h, layer_sides)

pub sides_north : (W n j : ℕ) → n ≤ j → layer_sides W n (suc j) ≡ north_cap n W
sides_north W n j h = rw (le-ltb j n h, layer_sides)

-- ---- the cell south of a face, and north of it
pub south_cap_lem : (W f : ℕ) → f < W → south_of W f ≡ 0
south_cap_lem W f h = rw (lt-ltb f W h, south_of)

pub south_inner : (W f : ℕ) → W ≤ f → south_of W f ≡ suc (f - W)
south_inner W f h = rw (le-ltb f W h, south_of) (omega arith)

pub north_inner : (n f : ℕ) → f < n → north_of n f ≡ suc f
north_inner n f h = rw (lt-ltb f n h, north_of) (omega arith)

pub north_cap_lem : (n f : ℕ) → n ≤ f → north_of n f ≡ suc n
north_cap_lem n f h = rw (le-ltb f n h, north_of) (omega arith)

module _ (W R : ℕ) where
  layer_meets : (c : ℕ) → c < 2 + R * W → Meets (layer W R) c (layer_sides W (R * W) c)
  unfolding layer
  layer_meets zero h = λ i p. (omega arith, south_cap_lem W (0 + i) (omega arith))
  layer_meets (suc j) h = go (ltb j (R * W)) refl
    where
      go : (b : Bool) → ltb j (R * W) ≡ b → Meets (layer W R) (suc j) (layer_sides W (R * W) (suc j))
      go true e =
          let p : j < R * W = ltb-true j (R * W) e in
          rw (sides_inner W (R * W) j p) (omega arith, omega arith, north_inner (R * W) j p, south_inner W (W + j) (omega arith) ∙ omega arith)
      go false e =
          let p : R * W ≤ j = ltb-false j (R * W) e in
          rw (sides_north W (R * W) j p) (λ i q. (omega arith, north_cap_lem (R * W) (R * W + i) (omega arith) ∙ omega arith))

  module _ (f : ℕ) (h : f < W * (R + 1)) where
    low_in_lem : south_of W f < 2 + R * W
    low_in_lem = go (ltb f W) refl
      where
        go : (b : Bool) → ltb f W ≡ b → south_of W f < 2 + R * W
        go true e = rw (e, south_of) (omega arith)
        go false e = rw (e, south_of) (omega (arith, ltb-false f W e))

    high_in_lem : north_of (R * W) f < 2 + R * W
    high_in_lem = go (ltb f (R * W)) refl
      where
        go : (b : Bool) → ltb f (R * W) ≡ b → north_of (R * W) f < 2 + R * W
        go true e = rw (e, north_of) (omega (arith, ltb-true f (R * W) e))
        go false e = rw (e, north_of) (omega arith)

    low_has_lem : OnHighSide f (layer_sides W (R * W) (south_of W f))
    low_has_lem = go (ltb f W) refl
      where
        go : (b : Bool) → ltb f W ≡ b → OnHighSide f (layer_sides W (R * W) (south_of W f))
        go true e = let p = ltb-true f W e in rw (south_cap_lem W f p) (omega arith)
        go false e =
            let p = ltb-false f W e in
            rw (south_inner W f p, sides_inner W (R * W) (f - W) (omega arith)) (omega arith)

    high_has_lem : OnLowSide f (layer_sides W (R * W) (north_of (R * W) f))
    high_has_lem = go (ltb f (R * W)) refl
      where
        go : (b : Bool) → ltb f (R * W) ≡ b → OnLowSide f (layer_sides W (R * W) (north_of (R * W) f))
        go true e = let p = ltb-true f (R * W) e in rw (north_inner (R * W) f p, sides_inner W (R * W) f p)
        go false e =
            let p = ltb-false f (R * W) e in
            rw (north_cap_lem (R * W) f p, sides_north W (R * W) (R * W) (omega arith)) (omega arith)

  -- ---- what leaves all cells: the south cap, the cells between, the north cap
  module _ (flow : Flow) where
    pub leaving_inner : (j : ℕ) → j < R * W → leaving (layer W R) flow (1 + j) ≡ flow.to_low j + flow.to_high (W + j)
    unfolding layer leaving
    leaving_inner j h =
        let e : 1 + j ≡ suc j = omega arith in
        leaving_is (layer W R) flow (1 + j) ∙ ap (out flow) (ap (layer_sides W (R * W)) e ∙ sides_inner W (R * W) j h)

    pub leaving_north : leaving (layer W R) flow (1 + R * W) ≡ sum W (λ i. flow.to_low (R * W + i))
    unfolding layer leaving
    leaving_north =
        let e : 1 + R * W ≡ suc (R * W) = omega arith in
        leaving_is (layer W R) flow (1 + R * W) ∙ ap (out flow) (ap (layer_sides W (R * W)) e ∙ sides_north W (R * W) (R * W) (omega arith))

    pub leaving_south : leaving (layer W R) flow 0 ≡ sum W flow.to_high
    unfolding layer leaving
    leaving_south = sum_ext W (λ i. flow.to_high (0 + i)) flow.to_high (λ i h. ap flow.to_high (zero-add i))

    layer_leaving : sum (2 + R * W) (leaving (layer W R) flow) ≡ sum (W * (R + 1)) flow.to_high + sum (W * (R + 1)) flow.to_low
    unfolding sum
    layer_leaving =
        let n : ℕ = R * W in
        let out : ℕ → ℕ = leaving (layer W R) flow in
        let cells : 2 + n ≡ suc (1 + n) = omega arith in
        let faces : W * (R + 1) ≡ W + n = omega arith in
        let faces' : W * (R + 1) ≡ n + W = omega arith in
        let inner : sum n (λ j. out (1 + j)) ≡ sum n (λ j. flow.to_low j + flow.to_high (W + j)) = sum_ext n _ _ leaving_inner in
        omega (
          arith,
          ap (λ (m : ℕ). sum m out) cells,
          sum_split 1 n out,
          inner,
          leaving_north,
          leaving_south,
          sum_add n flow.to_low (λ j. flow.to_high (W + j)),
          ap (λ (m : ℕ). sum m flow.to_high) faces,
          sum_split W n flow.to_high,
          ap (λ (m : ℕ). sum m flow.to_low) faces',
          sum_split n W flow.to_low,
        )

  pub layer_regular : Regular (layer W R)
  unfolding layer
  layer_regular =
      record {
        meets = layer_meets;
        low_in = low_in_lem;
        high_in = high_in_lem;
        low_has = low_has_lem;
        high_has = high_has_lem;
        passes_on = passes_on_lem (layer W R) layer_leaving;
      }
