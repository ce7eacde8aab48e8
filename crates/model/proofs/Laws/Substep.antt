-- Laws of one substep over any regular mesh: nothing is cut off, totals are kept, no piece takes what its cell does not have, a constant ratio stays.
-- Assumes of air and flow what `allowed` tests, and air of 1 to 65,535 in every cell.
use Rattle.std.specs.Prelude.{ℕ, ◌+◌, ◌*◌, ◌-◌, ◌≤◌, ◌<◌, List, true, ◌≡◌, refl, leb, length}
use Rattle.std.proofs.Common.{◌∙◌, arith, leb-true}
use Rattle.std.proofs.Math.Path.{ap}
use Rattle.model.specs.Limits.{scale, air_limit}
use Rattle.model.specs.Basic.{at, sum}
use Rattle.model.specs.World.{air_fits}
use Rattle.model.specs.Scheme.{Mismatch, Rule, plain, opposite, high_piece, low_piece}
use Rattle.model.specs.Sweep.{Mesh, Sides, between, south_cap, north_cap, Flow, leaving, entering, after_flow, allowed, cell_ratio, cell_mismatch, pieces}
use Rattle.model.proofs.Laws.Basic.{both, every_at, sum_ext, sum_add, length_tab, at_tab, term_le_sum}
use Rattle.model.proofs.Laws.Scheme.{Limited, Safe, ratio_safe, plain_pieces_le, pieces_le, piece_constant, ratio_constant}
use Rattle.model.proofs.Laws.Mesh.{out, leaving_is, Meets, Regular, leaving_times, entering_times}

-- every one of n cells has air of 1 to 65,535
abbrev pub AirIn : ℕ → List ℕ → Type 0
AirIn n air = (c : ℕ) → c < n → air_fits (at air c) ≡ true

pub air_bounds : (M : ℕ) → air_fits M ≡ true → (1 ≤ M) × (M ≤ air_limit)
air_bounds M e = let p = both (leb 1 M) (leb M air_limit) e in (leb-true 1 M p.0, leb-true M air_limit p.1)

-- what leaves each cell is at most what it has
abbrev pub Covers : Mesh → Flow → List ℕ → Type 0
Covers mesh flow l = (c : ℕ) → c < mesh.cells → leaving mesh flow c ≤ at l c

-- ---- the amounts after a flow
module _ (mesh : Mesh) (flow : Flow) (l : List ℕ) where
  pub length_after_flow : length (after_flow mesh flow l) ≡ mesh.cells
  unfolding after_flow
  length_after_flow = length_tab mesh.cells _

  pub at_after_flow : (c : ℕ) → c < mesh.cells → at (after_flow mesh flow l) c ≡ at l c + entering mesh flow c - leaving mesh flow c
  unfolding after_flow
  at_after_flow c h = at_tab mesh.cells _ c h

  module _ (covers : Covers mesh flow l) where
    -- nothing is cut off
    pub balance : (c : ℕ) → c < mesh.cells → at (after_flow mesh flow l) c + leaving mesh flow c ≡ at l c + entering mesh flow c
    balance c h = omega (arith, at_after_flow c h, covers c h)

    -- the total is kept
    pub total_after_flow : Regular mesh → sum mesh.cells (at (after_flow mesh flow l)) ≡ sum mesh.cells (at l)
    total_after_flow regular =
        omega (
          arith,
          sum_ext mesh.cells (λ c. at (after_flow mesh flow l) c + leaving mesh flow c) (λ c. at l c + entering mesh flow c) balance,
          sum_add mesh.cells (at (after_flow mesh flow l)) (leaving mesh flow),
          sum_add mesh.cells (at l) (entering mesh flow),
          regular.passes_on flow,
        )

-- ---- an allowed substep
pub record Allowed (mesh : Mesh) (flow : Flow) (air : List ℕ) : Type 0 where
  pub covers : Covers mesh flow air
  pub after : AirIn mesh.cells (after_flow mesh flow air)

pub allowed_is : (mesh : Mesh) (flow : Flow) (air : List ℕ) → allowed mesh flow air ≡ true → Allowed mesh flow air
unfolding allowed
allowed_is mesh flow air e =
    record { covers = λ c h. leb-true _ _ (each c h).0; after = λ c h. (each c h).1 }
  where
    each : (c : ℕ) → c < mesh.cells → (leb (leaving mesh flow c) (at air c) ≡ true) × (air_fits (at (after_flow mesh flow air) c) ≡ true)
    each c h = both _ _ (every_at mesh.cells _ e c h)

-- ---- the mismatch of a cell
module _ (rule : Rule) (mesh : Mesh) (air gas : List ℕ) (c : ℕ) where
  pub mismatch_between :
      (l h : ℕ) → mesh.sides c ≡ between l h →
      cell_mismatch rule mesh air gas c ≡ rule (cell_ratio air gas (mesh.low_cell l)) (cell_ratio air gas c) (cell_ratio air gas (mesh.high_cell h))
  unfolding cell_mismatch
  mismatch_between l h e = rw (e, cell_mismatch)

  pub mismatch_south : (k n : ℕ) → mesh.sides c ≡ south_cap k n → cell_mismatch rule mesh air gas c ≡ plain
  unfolding cell_mismatch
  mismatch_south k n e = rw (e, cell_mismatch)

  pub mismatch_north : (k n : ℕ) → mesh.sides c ≡ north_cap k n → cell_mismatch rule mesh air gas c ≡ plain
  unfolding cell_mismatch
  mismatch_north k n e = rw (e, cell_mismatch)

  -- it is at most twice the cell's ratio, and so it is safe
  pub cell_twice : Limited rule → (cell_mismatch rule mesh air gas c).size ≤ 2 * cell_ratio air gas c
  cell_twice limited = go (mesh.sides c) refl
    where
      go : (s : Sides) → mesh.sides c ≡ s → (cell_mismatch rule mesh air gas c).size ≤ 2 * cell_ratio air gas c
      go (between l h) e = rw (mismatch_between l h e) (limited.at_most_twice _ (cell_ratio air gas c) _)
      go (south_cap k n) e = rw (mismatch_south k n e) (omega arith)
      go (north_cap k n) e = rw (mismatch_north k n e) (omega arith)

  pub cell_safe : Limited rule → Safe (cell_mismatch rule mesh air gas c) (at air c) (at gas c)
  cell_safe limited = ratio_safe (cell_mismatch rule mesh air gas c) (at air c) (at gas c) (cell_twice limited)

-- ---- the pieces of a substep
module _ (rule : Rule) (mesh : Mesh) (flow : Flow) (air gas : List ℕ) where
  -- what cell c gives through a face on its high side, and on its low side
  pub piece_up :
      (f c : ℕ) → mesh.low_cell f ≡ c →
      (pieces rule mesh flow air gas).to_high f ≡ high_piece (cell_mismatch rule mesh air gas c) (at air c) (at gas c) (flow.to_high f)
  unfolding pieces
  piece_up f c e = ap (λ (d : ℕ). high_piece (cell_mismatch rule mesh air gas d) (at air d) (at gas d) (flow.to_high f)) e

  pub piece_down :
      (f c : ℕ) → mesh.high_cell f ≡ c →
      (pieces rule mesh flow air gas).to_low f ≡ low_piece (cell_mismatch rule mesh air gas c) (at air c) (at gas c) (flow.to_low f)
  unfolding pieces
  piece_down f c e = ap (λ (d : ℕ). low_piece (cell_mismatch rule mesh air gas d) (at air d) (at gas d) (flow.to_low f)) e

module _
    {rule : Rule} (limited : Limited rule) (mesh : Mesh) (regular : Regular mesh) (flow : Flow) (air gas : List ℕ)
    (fits : AirIn mesh.cells air) where
  -- a cell gives at most the gas that it has
  pub pieces_covered : Covers mesh flow air → Covers mesh (pieces rule mesh flow air gas) gas
  pieces_covered covers c h =
      rw (leaving_is mesh (pieces rule mesh flow air gas) c) (go (mesh.sides c) refl (rw (leaving_is mesh flow c) at (covers c h)) (regular.meets c h))
    where
      M : ℕ
      M = at air c

      T : ℕ
      T = at gas c

      D : Mismatch
      D = cell_mismatch rule mesh air gas c

      h_m : 0 < M
      h_m = (air_bounds M (fits c h)).0

      go : (s : Sides) → mesh.sides c ≡ s → out flow s ≤ at air c → Meets mesh c s → out (pieces rule mesh flow air gas) s ≤ at gas c
      go (between l h) e room m =
          omega (
            arith,
            piece_down rule mesh flow air gas l c m.2,
            piece_up rule mesh flow air gas h c m.3,
            pieces_le (cell_mismatch rule mesh air gas c) M T (cell_safe rule mesh air gas c limited) h_m (flow.to_high h) (flow.to_low l) (omega arith),
          )
      go (south_cap k n) e room m =
          rw (sum_ext n _ _ (λ i p. piece_up rule mesh flow air gas (k + i) c (m i p).1))
          (plain_pieces_le D M T (ap (λ (d : Mismatch). d.size) (mismatch_south rule mesh air gas c k n e)) n (λ i. flow.to_high (k + i)) h_m room)
      go (north_cap k n) e room m =
          rw (sum_ext n _ _ (λ i p. piece_down rule mesh flow air gas (k + i) c (m i p).1))
          (plain_pieces_le (opposite D) M T (ap (λ (d : Mismatch). d.size) (mismatch_north rule mesh air gas c k n e)) n (λ i. flow.to_low (k + i)) h_m room)

  -- so the gas total is kept, and no amount passes it
  module _ (covers : Covers mesh flow air) where
    pub gas_total_after_flow : sum mesh.cells (at (after_flow mesh (pieces rule mesh flow air gas) gas)) ≡ sum mesh.cells (at gas)
    gas_total_after_flow = total_after_flow mesh (pieces rule mesh flow air gas) gas (pieces_covered covers) regular

    pub gas_after_flow_le : (c : ℕ) → c < mesh.cells → at (after_flow mesh (pieces rule mesh flow air gas) gas) c ≤ sum mesh.cells (at gas)
    gas_after_flow_le c h = rw (← gas_total_after_flow) (term_le_sum mesh.cells _ c h)

  -- ---- where every cell has z units of gas for each unit of air
  module _ (z : ℕ) (even : (c : ℕ) → c < mesh.cells → at gas c ≡ z * at air c) where
    even_ratio : (c : ℕ) → c < mesh.cells → cell_ratio air gas c ≡ scale * z
    even_ratio c h = ratio_constant (at air c) (at gas c) z (air_bounds (at air c) (fits c h)).0 (even c h)

    pub even_mismatch : (c : ℕ) → c < mesh.cells → (cell_mismatch rule mesh air gas c).size ≡ 0
    even_mismatch c inside = go (mesh.sides c) refl (regular.meets c inside)
      where
        go : (s : Sides) → mesh.sides c ≡ s → Meets mesh c s → (cell_mismatch rule mesh air gas c).size ≡ 0
        go (between l h) e m =
            rw (mismatch_between rule mesh air gas c l h e, even_ratio (mesh.low_cell l) (regular.low_in l m.0), even_ratio (mesh.high_cell h) (regular.high_in h m.1))
            (limited.none_between_equal (scale * z) (cell_ratio air gas c))
        go (south_cap k n) e m = ap (λ (d : Mismatch). d.size) (mismatch_south rule mesh air gas c k n e)
        go (north_cap k n) e m = ap (λ (d : Mismatch). d.size) (mismatch_north rule mesh air gas c k n e)

    -- each piece has z times its air
    even_up : (f : ℕ) → f < mesh.faces → (pieces rule mesh flow air gas).to_high f ≡ z * flow.to_high f
    even_up f h =
        let c : ℕ = mesh.low_cell f in
        let inside : c < mesh.cells = regular.low_in f h in
        piece_up rule mesh flow air gas f c refl ∙
        piece_constant (cell_mismatch rule mesh air gas c) (at air c) (at gas c) (flow.to_high f) z (air_bounds (at air c) (fits c inside)).0 (even_mismatch c inside) (even c inside)

    even_down : (f : ℕ) → f < mesh.faces → (pieces rule mesh flow air gas).to_low f ≡ z * flow.to_low f
    even_down f h =
        let c : ℕ = mesh.high_cell f in
        let inside : c < mesh.cells = regular.high_in f h in
        piece_down rule mesh flow air gas f c refl ∙
        piece_constant (opposite (cell_mismatch rule mesh air gas c)) (at air c) (at gas c) (flow.to_low f) z (air_bounds (at air c) (fits c inside)).0 (even_mismatch c inside) (even c inside)

    -- and so has every cell afterwards
    pub even_after :
        Covers mesh flow air → (c : ℕ) → c < mesh.cells →
        at (after_flow mesh (pieces rule mesh flow air gas) gas) c ≡ z * at (after_flow mesh flow air) c
    even_after covers c h =
        omega (
          arith,
          balance mesh (pieces rule mesh flow air gas) gas (pieces_covered covers) c h,
          ap (λ (x : ℕ). z * x) (balance mesh flow air covers c h),
          even c h,
          leaving_times mesh regular z flow (pieces rule mesh flow air gas) even_up even_down c h,
          entering_times mesh regular z flow (pieces rule mesh flow air gas) even_up even_down c h,
        )
