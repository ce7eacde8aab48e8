-- Laws of one column under a table whose edges serve: its new air, its new tracers and their range.
-- Assumes air in every old layer.
use Prim.Native.Nat.{ℕ, suc, ◌+◌, ◌*◌, ◌-◌, ◌/◌, ◌≤◌, ◌<◌, min, max}
use Rattle.std.specs.Prelude.{List, Bool, false, ◌⊎◌, ◌≡◌, refl, eqb, leb}
use Rattle.std.proofs.Math.Bool.{true, or-true}
use Rattle.std.proofs.Common.{inl, inr, ⊎_elim, ◌∙◌, ap, ap₂, zero-mul, zero-add}
use Rattle.std.proofs.Math.Nat.{zero-div, mul-div_right}
use native.Mathlib.Omega.{arith}
use borrow.Author.Tests.{ltb-true, lt-ltb, leb-true, eqb-true, eqb-false}
use Rattle.std.proofs.Math.Dec.{ltb}
use Rattle.model.specs.Limits.{scale, air_limit, table_scale}
use Rattle.model.specs.Basic.{at, sum, tab}
use Rattle.model.specs.Scheme.{Mismatch, Rule, ratio, plain}
use Rattle.model.specs.Remap.{air_above, edge, layer_mismatch, layers, amount_above, new_air, new_tracer, edges_serve, share_air}
use Rattle.model.specs.Walk.{layer_of}
use Rattle.model.specs.Range.{in_range, units_and_quarter, is_near_layer}
use Rattle.model.specs.Step.{table_fits}
use Rattle.model.proofs.Laws.Basic.{both, every_at, sum_steps, steps_rise}
use Rattle.model.proofs.Laws.Scheme.{Limited, Safe, ratio_safe, plain_safe, ratio_constant}
use Rattle.model.proofs.Laws.Fractions.{Monotone, Roomy, room_ends, Bounded, in_range_lem}
use Rattle.model.proofs.Laws.Above.{Leans, amount_none, amount_whole, amount_rises, between_sum, between_even, layer_between, amount_between}

-- ---- edges that serve, of a table that fits
pub record Edges (K : ℕ) (table : List ℕ) (P : ℕ) : Type 0 where
  pub first : edge table P 0 ≡ 0
  pub last : edge table P K ≡ P
  pub rises : (j : ℕ) → j < K → edge table P j < edge table P (suc j)
  pub most : (j : ℕ) → j < K → new_air table P j ≤ air_limit

pub edges_serve_lem : (K : ℕ) (table : List ℕ) (P : ℕ) → table_fits K table ≡ true → edges_serve K table P ≡ true → Edges K table P
unfolding edge edges_serve
edges_serve_lem K table P fits serve =
    let p = both _ _ fits in
    let q = both _ _ p.0 in
    let r = both _ _ q.0 in
    let s = both _ _ r.0 in
    record {
      first = pair 0 0 0 (eqb-true _ _ s.0) (eqb-true _ _ s.1) ∙ rw (zero-mul P, zero-div table_scale);
      last = pair K 0 table_scale (eqb-true _ _ r.1) (eqb-true _ _ q.1) ∙ rw (mul-div_right P {m = table_scale} (omega arith)) (zero-add P);
      rises = λ j h. ltb-true _ _ (tests j h).0;
      most = λ j h. leb-true _ _ (tests j h).1;
    }
  where
    pair : (j a b : ℕ) → at table (2 * j) ≡ a → at table (2 * j + 1) ≡ b → edge table P j ≡ a + b * P / table_scale
    pair j a b e e₂ = ap₂ (λ (x y : ℕ). x + y * P / table_scale) e e₂

    tests : (j : ℕ) → j < K → (ltb (edge table P j) (edge table P (suc j)) ≡ true) × (leb (new_air table P j) air_limit ≡ true)
    tests j h = both _ _ (every_at K _ serve j h)

-- ---- new air
module _ (K : ℕ) (table : List ℕ) (P : ℕ) (edges : Edges K table P) where
  edge_rises : (j : ℕ) → j < K → edge table P j ≤ edge table P (suc j)
  edge_rises j h = omega (arith, edges.rises j h)

  pub edge_le : (j : ℕ) → j ≤ K → edge table P j ≤ P
  edge_le j h = rw edges.last at (steps_rise K (edge table P) edge_rises j h)

  -- each new layer has air, and together they have the column's
  pub new_air_least : (j : ℕ) → j < K → 1 ≤ new_air table P j
  new_air_least j h = omega (arith, edges.rises j h)

  pub new_air_sum : sum K (new_air table P) ≡ P
  new_air_sum = omega (arith, sum_steps K (edge table P) edge_rises, edges.first, edges.last)

-- ---- a column's layers
pub layers_are_lem : (rule : Rule) (cap : Bool) (K : ℕ) (air gas : List ℕ) → layers rule cap K air gas ≡ tab K (layer_of rule cap K air gas)
unfolding layers
layers_are_lem rule cap K air gas = refl

-- a layer's slope: none, or the mismatch between the layers above and below it
abbrev layer_ratio : List ℕ → List ℕ → ℕ → ℕ
layer_ratio air gas k = ratio (at air k) (at gas k)

abbrev Slope : Rule → ℕ → List ℕ → List ℕ → ℕ → Mismatch → Type 0
Slope rule K air gas k D =
    (D ≡ plain) ⊎
    ((0 < k) × (suc k < K) × (D ≡ rule (layer_ratio air gas (k - 1)) (layer_ratio air gas k) (layer_ratio air gas (suc k))))

layer_slope : (rule : Rule) (cap : Bool) (K : ℕ) (air gas : List ℕ) (k : ℕ) → k < K → Slope rule K air gas k (layer_mismatch rule cap K air gas k)
unfolding layer_mismatch
layer_slope rule true K air gas k h = inl refl
layer_slope rule false K air gas k h = go (eqb k 0) (eqb (suc k) K) refl refl
  where
    go : (u v : Bool) → eqb k 0 ≡ u → eqb (suc k) K ≡ v → Slope rule K air gas k (layer_mismatch rule false K air gas k)
    go true v e e₂ = inl (rw (e, layer_mismatch))
    go false true e e₂ = inl (rw (e, e₂, layer_mismatch))
    go false false e e₂ =
        let below = eqb-false k 0 e in
        let inner = eqb-false (suc k) K e₂ in
        inr (omega arith, omega arith, rw (e, e₂, layer_mismatch))

-- ---- the layers near those that share air with a new one
module _ (K : ℕ) (shares : ℕ → Bool) (k : ℕ) (shared : shares k ≡ true) where
  near_self : is_near_layer K shares k ≡ true
  unfolding is_near_layer
  near_self = rw shared

  near_below : is_near_layer K shares (suc k) ≡ true
  unfolding is_near_layer
  near_below =
      let e : suc k - 1 ≡ k = omega arith in
      let positive : ltb 0 (suc k) ≡ true = lt-ltb 0 (suc k) (omega arith) in
      rw (e, shared, positive, or-true)

  near_above : 0 < k → k < K → is_near_layer K shares (k - 1) ≡ true
  unfolding is_near_layer
  near_above h h' =
      let e : suc (k - 1) ≡ k = omega arith in
      rw (e, shared, lt-ltb k K h', or-true)

-- ---- new tracers
module _ {rule : Rule} (limited : Limited rule) (cap : Bool) (K : ℕ) (table air gas : List ℕ) (has : (k : ℕ) → k < K → 1 ≤ at air k) where
  layer_safe : (k : ℕ) → k < K → Safe (layer_mismatch rule cap K air gas k) (at air k) (at gas k)
  layer_safe k h =
      ⊎_elim
      (λ (e : layer_mismatch rule cap K air gas k ≡ plain). rw e (plain_safe (at air k) (at gas k)))
      (λ inner. ratio_safe (layer_mismatch rule cap K air gas k) (at air k) (at gas k) (rw inner.2 (limited.at_most_twice _ _ _)))
      (layer_slope rule cap K air gas k h)

  layer_level : (z : ℕ) → ((k : ℕ) → k < K → at gas k ≡ z * at air k) → (k : ℕ) → k < K → (layer_mismatch rule cap K air gas k).size ≡ 0
  layer_level z even k h =
      ⊎_elim
      (λ (e : layer_mismatch rule cap K air gas k ≡ plain). rw e)
      (λ inner. rw (inner.2, same (k - 1) (omega arith), same (suc k) inner.1) (limited.none_between_equal (scale * z) _))
      (layer_slope rule cap K air gas k h)
    where
      same : (i : ℕ) → i < K → layer_ratio air gas i ≡ scale * z
      same i hi = ratio_constant (at air i) (at gas i) z (has i hi) (even i hi)

  -- a layer near which all layers fit may lean by its slope
  layer_leans :
      {b : Bool} {H L : ℕ} {Fits : ℕ → ℕ → Type 0} → Roomy rule b H L Fits → (shares : ℕ → Bool) →
      ((d : ℕ) → d < K → is_near_layer K shares d ≡ true → Fits (at air d) (at gas d)) → (k : ℕ) → k < K →
      shares k ≡ true → Leans b H L (layer_of rule cap K air gas k)
  layer_leans {b} {H} {L} roomy shares fits k h shared =
      let here = fits k h (near_self K shares k shared) in
      ⊎_elim
      (λ (e : layer_mismatch rule cap K air gas k ≡ plain). rw e (roomy.level _ _ here))
      (λ inner.
      rw inner.2
      (room_ends b _ H L _ _ _
      (roomy.low _ _ _ _ _ (fits (k - 1) (omega arith) (near_above K shares k shared inner.0 h)) here)
      (roomy.high _ _ _ _ _ here (fits (suc k) inner.1 (near_below K shares k shared)))))
      (layer_slope rule cap K air gas k h)

  module _ (edges : Edges K table (air_above air K)) where
    -- G never falls from edge to edge, so no new tracer is cut off
    pub new_tracer_not_cut :
        (j : ℕ) → j < K →
        amount_above (layers rule cap K air gas) (edge table (air_above air K) j) ≤ amount_above (layers rule cap K air gas) (edge table (air_above air K) (suc j))
    new_tracer_not_cut j h =
        rw (layers_are_lem rule cap K air gas)
        (amount_rises (layer_of rule cap K air gas) K has layer_safe _ _ (omega (arith, edges.rises j h)))

    -- together the new layers have the column's tracer
    pub new_tracer_sum : sum K (new_tracer table (air_above air K) (layers rule cap K air gas)) ≡ sum K (at gas)
    new_tracer_sum =
        let f = layer_of rule cap K air gas in
        let all = between_sum f K has (edge table (air_above air K)) K (edge_rises K table _ edges) layer_safe in
        let start = ap (amount_above (tab K f)) edges.first ∙ amount_none f K has in
        let end = ap (amount_above (tab K f)) edges.last ∙ amount_whole f K has in
        rw (layers_are_lem rule cap K air gas) (omega (arith, all, start, end))

    -- a whole-number ratio stays
    pub new_tracer_even :
        (z : ℕ) → ((k : ℕ) → k < K → at gas k ≡ z * at air k) → (j : ℕ) → j < K →
        new_tracer table (air_above air K) (layers rule cap K air gas) j ≡ z * new_air table (air_above air K) j
    new_tracer_even z even j h =
        rw (layers_are_lem rule cap K air gas)
        (between_even (layer_of rule cap K air gas) K has _ K (edge_rises K table _ edges) (edge_le K table _ edges K (omega arith)) z (λ k p. (layer_level z even k p, even k p)) j h)

    -- ---- the range: a new layer passes no fraction that leaves room to the layers near it, but for 1/scale and a unit
    shared :
        (j k : ℕ) →
        max (air_above air k) (edge table (air_above air K) j) < min (air_above air (suc k)) (edge table (air_above air K) (suc j)) →
        share_air table air (air_above air K) j k ≡ true
    unfolding share_air
    shared j k h = lt-ltb _ _ h

    pub new_layer_bounded :
        (j : ℕ) → j < K →
        Bounded rule K (is_near_layer K (share_air table air (air_above air K) j)) air gas 1 (new_air table (air_above air K) j) (new_tracer table (air_above air K) (layers rule cap K air gas) j)
    new_layer_bounded j h b H L Fits roomy fits =
        rw (layers_are_lem rule cap K air gas)
        (amount_between (layer_of rule cap K air gas) K has layer_safe b H L _ _ (edges.rises j h) (edge_le K table _ edges (suc j) h)
        (λ k hk s. layer_leans roomy (share_air table air (air_above air K) j) fits k hk (shared j k s)))

    pub new_layer_in_range :
        Monotone rule → (j : ℕ) → j < K →
        in_range K (is_near_layer K (share_air table air (air_above air K) j)) air gas (units_and_quarter 1) (new_air table (air_above air K) j) (new_tracer table (air_above air K) (layers rule cap K air gas) j) ≡ true
    new_layer_in_range monotone j h =
        let some = layer_between (layer_of rule cap K air gas) K has K _ _ (omega arith) (edges.rises j h) (edge_le K table _ edges (suc j) h) in
        in_range_lem K _ air gas some.0 some.1 (near_self K (share_air table air (air_above air K) j) _ (shared j _ some.2)) has monotone 1 _ _ (new_air_least K table _ edges j h) (edges.most j h)
        (new_layer_bounded j h)
