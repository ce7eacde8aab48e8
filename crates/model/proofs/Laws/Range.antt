-- The range of document 01 after a substep, and after every substep of a sweep, over any regular mesh.
-- Assumes air in every cell before it, and that the substeps are allowed. The flow may pass a face in both directions.
use Prim.Native.Nat.{ℕ, zero, suc, ◌+◌, ◌*◌, ◌-◌, ◌≤◌, ◌<◌}
use Rattle.std.specs.Prelude.{List, Bool, false, not, ◌≡◌, leb, eqb, ℤ}
use Rattle.std.proofs.Math.Bool.{true, or-true}
use Rattle.std.proofs.Math.Path.{refl}
use Rattle.std.proofs.Common.{sym, ap, two-mul}
use native.Mathlib.Omega.{arith}
use borrow.Author.Tests.{leb-true, eq-eqb}
use Rattle.model.specs.Limits.{air_limit}
use Rattle.model.specs.Basic.{at, sum, some}
use Rattle.model.specs.World.{air_fits}
use Rattle.model.specs.Scheme.{Rule, opposite, high_piece, low_piece}
use Rattle.model.specs.Sweep.{Mesh, Sides, between, south_cap, north_cap, Flow, leaving, entering, after_flow, allowed, parts, cell_mismatch, pieces, air_after, gas_after, serves}
use Rattle.model.specs.Range.{in_range, units_and_quarter, is_near, face_count, substep_in_range}
use Rattle.model.proofs.Laws.Basic.{sum_ext, both, every_at, some_true, at_tab, term_le_sum}
use Rattle.model.proofs.Laws.Scheme.{Limited}
use Rattle.model.proofs.Laws.Substep.{cell_safe}
use Rattle.model.proofs.Laws.Mesh.{Regular, Meets, OnHighSide, OnLowSide}
use Rattle.model.proofs.Laws.Fractions.{lost, CellRoom, EndRoom, room_ends, level_leaning, Monotone, Roomy, Near, near_add, near_sum, LeavesInRange, piece_near, ends_leave, plains_leave, replaced, Bounded, in_range_lem}

-- face f is one of the n faces from face k on
among : (cell : ℕ → ℕ) (k n f : ℕ) → k ≤ f → f < k + n → some n (λ i. eqb (cell f) (cell (k + i))) ≡ true
among cell k n f h h₂ =
    let e : f ≡ k + (f - k) = omega arith in
    some_true n (λ i. eqb (cell f) (cell (k + i))) (f - k) (omega arith) (eq-eqb _ _ (ap cell e))

abbrev Cap : Sides → Type 0
Cap (between l h) = ⊥
Cap (south_cap k n) = Unit {0}
Cap (north_cap k n) = Unit {0}

-- ---- a cell that fits has room towards a cell across a face, if that fits too
module _
    {rule : Rule} {b : Bool} {H L : ℕ} {Fits : ℕ → ℕ → Type 0} (roomy : Roomy rule b H L Fits) (mesh : Mesh)
    (air gas : List ℕ) where
  towards_high_lem :
      (c f : ℕ) → OnHighSide f (mesh.sides c) → Fits (at air c) (at gas c) →
      Fits (at air (mesh.high_cell f)) (at gas (mesh.high_cell f)) →
      EndRoom b H L (at air c) (at gas c) (cell_mismatch rule mesh air gas c)
  unfolding cell_mismatch
  towards_high_lem c f on here there = go (mesh.sides c) refl on
    where
      go :
          (s : Sides) → mesh.sides c ≡ s → OnHighSide f s →
          EndRoom b H L (at air c) (at gas c) (cell_mismatch rule mesh air gas c)
      go (between l h) e on = rw (e, cell_mismatch, on) (roomy.high _ _ _ _ _ here there)
      go (south_cap k n) e on = rw (e, cell_mismatch, level_leaning b true) (roomy.level _ _ here)
      go (north_cap k n) e on = absurd on

  towards_low_lem :
      (c f : ℕ) → OnLowSide f (mesh.sides c) → Fits (at air c) (at gas c) →
      Fits (at air (mesh.low_cell f)) (at gas (mesh.low_cell f)) →
      EndRoom b H L (at air c) (at gas c) (opposite (cell_mismatch rule mesh air gas c))
  unfolding cell_mismatch
  towards_low_lem c f on here there = go (mesh.sides c) refl on
    where
      go :
          (s : Sides) → mesh.sides c ≡ s → OnLowSide f s →
          EndRoom b H L (at air c) (at gas c) (opposite (cell_mismatch rule mesh air gas c))
      go (between l h) e on = rw (e, cell_mismatch, on) (roomy.low _ _ _ _ _ there here)
      go (south_cap k n) e on = absurd on
      go (north_cap k n) e on = rw (e, cell_mismatch, level_leaning b false) (roomy.level _ _ here)

  cap_level : (c : ℕ) → Cap (mesh.sides c) → (cell_mismatch rule mesh air gas c).size ≡ 0
  unfolding cell_mismatch
  cap_level c = go (mesh.sides c) refl
    where
      go : (s : Sides) → mesh.sides c ≡ s → Cap s → (cell_mismatch rule mesh air gas c).size ≡ 0
      go (between l h) e cap = absurd cap
      go (south_cap k n) e cap = rw (e, cell_mismatch)
      go (north_cap k n) e cap = rw (e, cell_mismatch)

-- ---- the cells across a cell's faces are near it, and what passes a face leaves the cell on its other side
module _ (mesh : Mesh) (c : ℕ) where
  pub near_self : is_near mesh c c ≡ true
  unfolding is_near
  near_self = rw (eq-eqb c c refl)

  near_high : (f : ℕ) → OnHighSide f (mesh.sides c) → is_near mesh c (mesh.high_cell f) ≡ true
  unfolding is_near
  near_high f = go (mesh.sides c) refl
    where
      go : (s : Sides) → mesh.sides c ≡ s → OnHighSide f s → is_near mesh c (mesh.high_cell f) ≡ true
      go (between l h) e on = simp (e, ← on, eq-eqb (mesh.high_cell h) (mesh.high_cell h) refl, or-true)
      go (south_cap k n) e on = rw (e, is_near, among mesh.high_cell k n f on.0 on.1, or-true)
      go (north_cap k n) e on = absurd on

  near_low : (f : ℕ) → OnLowSide f (mesh.sides c) → is_near mesh c (mesh.low_cell f) ≡ true
  unfolding is_near
  near_low f = go (mesh.sides c) refl
    where
      go : (s : Sides) → mesh.sides c ≡ s → OnLowSide f s → is_near mesh c (mesh.low_cell f) ≡ true
      go (between l h) e on = rw (e, is_near, ← on, eq-eqb (mesh.low_cell l) (mesh.low_cell l) refl, or-true)
      go (south_cap k n) e on = absurd on
      go (north_cap k n) e on = rw (e, is_near, among mesh.low_cell k n f on.0 on.1, or-true)

  pub high_leaves : (flow : Flow) (f : ℕ) → OnHighSide f (mesh.sides c) → flow.to_high f ≤ leaving mesh flow c
  unfolding leaving
  high_leaves flow f = go (mesh.sides c) refl
    where
      go : (s : Sides) → mesh.sides c ≡ s → OnHighSide f s → flow.to_high f ≤ leaving mesh flow c
      go (between l h) e on = rw (e, leaving, ← on) (omega arith)
      go (south_cap k n) e on =
          let i : k + (f - k) ≡ f = omega arith in
          rw (e, leaving) (rw i at (term_le_sum n (λ i. flow.to_high (k + i)) (f - k) (omega arith)))
      go (north_cap k n) e on = absurd on

  pub low_leaves : (flow : Flow) (f : ℕ) → OnLowSide f (mesh.sides c) → flow.to_low f ≤ leaving mesh flow c
  unfolding leaving
  low_leaves flow f = go (mesh.sides c) refl
    where
      go : (s : Sides) → mesh.sides c ≡ s → OnLowSide f s → flow.to_low f ≤ leaving mesh flow c
      go (between l h) e on = rw (e, leaving, ← on) (omega arith)
      go (south_cap k n) e on = absurd on
      go (north_cap k n) e on =
          let i : k + (f - k) ≡ f = omega arith in
          rw (e, leaving) (rw i at (term_le_sum n (λ i. flow.to_low (k + i)) (f - k) (omega arith)))

-- ---- a cell near which all cells fit may lean by its slope
pub cell_leans :
    {rule : Rule} {b : Bool} {H L : ℕ} {Fits : ℕ → ℕ → Type 0} → Roomy rule b H L Fits → (mesh : Mesh) → Regular mesh →
    (air gas : List ℕ) (c : ℕ) → c < mesh.cells →
    ((d : ℕ) → d < mesh.cells → is_near mesh c d ≡ true → Fits (at air d) (at gas d)) →
    CellRoom b H L (at air c) (at gas c) (cell_mismatch rule mesh air gas c).size
cell_leans {rule} {b} {H} {L} {Fits} roomy mesh regular air gas c hc fits = go (mesh.sides c) refl (regular.meets c hc)
  where
    here : Fits (at air c) (at gas c)
    here = fits c hc (near_self mesh c)

    go : (s : Sides) → mesh.sides c ≡ s → Meets mesh c s → CellRoom b H L (at air c) (at gas c) (cell_mismatch rule mesh air gas c).size
    go (between l h) e m =
        let hl : mesh.low_cell l < mesh.cells = regular.low_in l m.0 in
        let hh : mesh.high_cell h < mesh.cells = regular.high_in h m.1 in
        room_ends b (cell_mismatch rule mesh air gas c).positive H L _ _ _
        (towards_low_lem roomy mesh air gas c l (rw e refl) here (fits _ hl (near_low mesh c l (rw e refl))))
        (towards_high_lem roomy mesh air gas c h (rw e refl) here (fits _ hh (near_high mesh c h (rw e refl))))
    go (south_cap k n) e m = rw (cap_level roomy mesh air gas c (rw e tt)) (roomy.level _ _ here)
    go (north_cap k n) e m = rw (cap_level roomy mesh air gas c (rw e tt)) (roomy.level _ _ here)

-- ---- a substep: air in every cell, and no cell gives more than it has
module _
    {rule : Rule} (limited : Limited rule) (mesh : Mesh) (regular : Regular mesh) (flow : Flow) (air gas : List ℕ)
    (has : (c : ℕ) → c < mesh.cells → 1 ≤ at air c) (gives : (c : ℕ) → c < mesh.cells → leaving mesh flow c ≤ at air c) where
  -- a fraction H/L that leaves room to the cells near c
  module _
      {b : Bool} {H L : ℕ} {Fits : ℕ → ℕ → Type 0} (roomy : Roomy rule b H L Fits) (c : ℕ) (hc : c < mesh.cells)
      (fits : (d : ℕ) → d < mesh.cells → is_near mesh c d ≡ true → Fits (at air d) (at gas d)) where
    self_fits : Fits (at air c) (at gas c)
    self_fits = fits c hc (near_self mesh c)

    -- what comes in through a face on its low side, and on its high side
    from_low :
        (f : ℕ) → f < mesh.faces → mesh.high_cell f ≡ c → OnLowSide f (mesh.sides c) →
        Near b H L (flow.to_high f) ((pieces rule mesh flow air gas).to_high f) (lost b)
    unfolding pieces
    from_low f hf e on =
        let d = mesh.low_cell f in
        let hd : d < mesh.cells = regular.low_in f hf in
        piece_near b H L (at air d) (at gas d) (has d hd) (cell_mismatch rule mesh air gas d) (flow.to_high f)
        (cell_safe rule mesh air gas d limited)
        (towards_high_lem roomy mesh air gas d f (regular.low_has f hf) (fits d hd (near_low mesh c f on)) (rw e self_fits))
        (omega (arith, gives d hd, high_leaves mesh d flow f (regular.low_has f hf)))

    from_high :
        (f : ℕ) → f < mesh.faces → mesh.low_cell f ≡ c → OnHighSide f (mesh.sides c) →
        Near b H L (flow.to_low f) ((pieces rule mesh flow air gas).to_low f) (lost b)
    unfolding pieces
    from_high f hf e on =
        let d = mesh.high_cell f in
        let hd : d < mesh.cells = regular.high_in f hf in
        piece_near b H L (at air d) (at gas d) (has d hd) (opposite (cell_mismatch rule mesh air gas d)) (flow.to_low f)
        (cell_safe rule mesh air gas d limited)
        (towards_low_lem roomy mesh air gas d f (regular.high_has f hf) (fits d hd (near_high mesh c f on)) (rw e self_fits))
        (omega (arith, gives d hd, low_leaves mesh d flow f (regular.high_has f hf)))

    comes_in :
        (s : Sides) → mesh.sides c ≡ s → Meets mesh c s →
        Near b H L (entering mesh flow c) (entering mesh (pieces rule mesh flow air gas) c) (face_count s * lost b)
    unfolding leaving
    comes_in (between l h) e m =
        rw (e, leaving, two-mul) (near_add b H L _ _ _ _ _ _ (from_low l m.0 m.2 (rw e refl)) (from_high h m.1 m.3 (rw e refl)))
    comes_in (south_cap k n) e m =
        rw (e, leaving)
        (near_sum b H L (lost b) n _ _ (λ i h. from_high (k + i) (m i h).0 (m i h).1 (rw e (omega arith))))
    comes_in (north_cap k n) e m =
        rw (e, leaving)
        (near_sum b H L (lost b) n _ _ (λ i h. from_low (k + i) (m i h).0 (m i h).1 (rw e (omega arith))))

    -- what it gives through a face
    given_high :
        (f : ℕ) → mesh.low_cell f ≡ c →
        (pieces rule mesh flow air gas).to_high f ≡ high_piece (cell_mismatch rule mesh air gas c) (at air c) (at gas c) (flow.to_high f)
    unfolding pieces
    given_high f e = rw e

    given_low :
        (f : ℕ) → mesh.high_cell f ≡ c →
        (pieces rule mesh flow air gas).to_low f ≡ low_piece (cell_mismatch rule mesh air gas c) (at air c) (at gas c) (flow.to_low f)
    unfolding pieces
    given_low f e = rw e

    stays :
        (s : Sides) → mesh.sides c ≡ s → Meets mesh c s →
        LeavesInRange b H L (at air c - leaving mesh flow c) (at gas c) (leaving mesh (pieces rule mesh flow air gas) c) (face_count s * lost (not b))
    unfolding leaving
    stays (between l h) e m =
        let g : flow.to_low l + flow.to_high h ≤ at air c = rw (e, leaving) at (gives c hc) in
        rw (e, leaving, given_low l m.2, given_high h m.3)
        (ends_leave b H L (at air c) (at gas c) (has c hc) (cell_mismatch rule mesh air gas c) (flow.to_low l) (flow.to_high h) _
        (cell_safe rule mesh air gas c limited)
        (cell_leans roomy mesh regular air gas c hc fits)
        (omega arith))
    stays (south_cap k n) e m =
        let g : sum n (λ i. flow.to_high (k + i)) ≤ at air c = rw (e, leaving) at (gives c hc) in
        rw (e, leaving, sum_ext n _ _ (λ i h. given_high (k + i) (m i h).1))
        (plains_leave b H L (at air c) (at gas c) (has c hc) (cell_mismatch rule mesh air gas c) n _ (λ i. flow.to_high (k + i))
        (cap_level roomy mesh air gas c (rw e tt))
        (roomy.level _ _ self_fits)
        (omega arith))
    stays (north_cap k n) e m =
        let g : sum n (λ i. flow.to_low (k + i)) ≤ at air c = rw (e, leaving) at (gives c hc) in
        rw (e, leaving, sum_ext n _ _ (λ i h. given_low (k + i) (m i h).1))
        (plains_leave b H L (at air c) (at gas c) (has c hc) (opposite (cell_mismatch rule mesh air gas c)) n _ (λ i. flow.to_low (k + i))
        (cap_level roomy mesh air gas c (rw e tt))
        (roomy.level _ _ self_fits)
        (omega arith))

    near_after : Near b H L (at (after_flow mesh flow air) c) (at (after_flow mesh (pieces rule mesh flow air gas) gas) c) (face_count (mesh.sides c))
    unfolding after_flow
    near_after =
        replaced b H L (at air c - leaving mesh flow c) (at gas c) (entering mesh flow c) _ _ (face_count (mesh.sides c)) _ _
        (comes_in (mesh.sides c) refl (regular.meets c hc))
        (stays (mesh.sides c) refl (regular.meets c hc))
        (omega (arith, gives c hc, at_tab mesh.cells (λ c. at air c + entering mesh flow c - leaving mesh flow c) c hc))
        (sym (at_tab mesh.cells (λ c. at gas c + entering mesh (pieces rule mesh flow air gas) c - leaving mesh (pieces rule mesh flow air gas) c) c hc))

  -- the range at every scale
  pub substep_bounded :
      (c : ℕ) → c < mesh.cells →
      Bounded rule mesh.cells (is_near mesh c) air gas (face_count (mesh.sides c)) (at (after_flow mesh flow air) c) (at (after_flow mesh (pieces rule mesh flow air gas) gas) c)
  substep_bounded c hc b H L Fits roomy fits = near_after roomy c hc fits

-- what `allowed` tests
module _ (mesh : Mesh) (flow : Flow) (air : List ℕ) (ok : allowed mesh flow air ≡ true) (c : ℕ) (hc : c < mesh.cells) where
  allowed_at : (leb (leaving mesh flow c) (at air c) ≡ true) × (air_fits (at (after_flow mesh flow air) c) ≡ true)
  unfolding allowed
  allowed_at = both _ _ (every_at mesh.cells _ ok c hc)

  pub allowed_gives : leaving mesh flow c ≤ at air c
  allowed_gives = leb-true _ _ allowed_at.0

  pub allowed_fits : (1 ≤ at (after_flow mesh flow air) c) × (at (after_flow mesh flow air) c ≤ air_limit)
  allowed_fits =
      let p = both _ _ allowed_at.1 in
      (leb-true _ _ p.0, leb-true _ _ p.1)

-- ---- every cell is in range after an allowed substep
module _
    {rule : Rule} (limited : Limited rule) (monotone : Monotone rule) (mesh : Mesh) (regular : Regular mesh) (flow : Flow)
    (air gas : List ℕ) (has : (c : ℕ) → c < mesh.cells → 1 ≤ at air c) (ok : allowed mesh flow air ≡ true) (c : ℕ)
    (hc : c < mesh.cells) where
  pub substep_in_range_lem : in_range mesh.cells (is_near mesh c) air gas (units_and_quarter (face_count (mesh.sides c))) (at (after_flow mesh flow air) c) (at (after_flow mesh (pieces rule mesh flow air gas) gas) c) ≡ true
  substep_in_range_lem =
      let fits = allowed_fits mesh flow air ok c hc in
      in_range_lem mesh.cells (is_near mesh c) air gas c hc (near_self mesh c) has monotone (face_count (mesh.sides c)) _ _ fits.0 fits.1
      (substep_bounded limited mesh regular flow air gas has (allowed_gives mesh flow air ok) c hc)

-- ---- and so after every substep of a sweep in which all are allowed
module _
    {rule : Rule} (limited : Limited rule) (monotone : Monotone rule) (mesh : Mesh) (regular : Regular mesh)
    (fluxes : List ℤ) (n : ℕ) (air gas : List ℕ) (has : (c : ℕ) → c < mesh.cells → 1 ≤ at air c)
    (ok : serves mesh fluxes air n ≡ true) where
  substep_allowed : (s : ℕ) → s < n → allowed mesh (parts fluxes n (suc s)) (air_after mesh fluxes n air s) ≡ true
  unfolding serves
  substep_allowed s h = every_at n _ ok s h

  has_after : (s : ℕ) → s ≤ n → (c : ℕ) → c < mesh.cells → 1 ≤ at (air_after mesh fluxes n air s) c
  unfolding air_after
  has_after zero h c hc = has c hc
  has_after (suc s) h c hc = (allowed_fits mesh _ _ (substep_allowed s h) c hc).0

  pub sweep_in_range :
      (s c : ℕ) → s < n → c < mesh.cells →
      substep_in_range mesh (air_after mesh fluxes n air s) (gas_after rule mesh fluxes n air gas s) (air_after mesh fluxes n air (suc s)) (gas_after rule mesh fluxes n air gas (suc s)) c ≡ true
  unfolding substep_in_range air_after gas_after
  sweep_in_range s c h hc =
      substep_in_range_lem limited monotone mesh regular _ _ _ (has_after s (omega arith)) (substep_allowed s h) c hc
