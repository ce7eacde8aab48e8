-- The quarter of document 02, Slip 6, is needed in a row, in a cap, in a remap and in a long sweep: what is left there, above the range or below it (Cases/Thin), is in range, and without the quarter, with one unit for each face, or one, it is not. And it is all: amounts a whole quarter past the units are not in range.
-- Assumes nothing: all is computed, with `substep_in_range`, `layer_in_range` and `long_cell_in_range` as demand 3 has them.
use Rattle.std.specs.Prelude.{ℕ, ◌*◌, List, [], ◌∷◌, Bool, true, false, ◌≡◌, refl, ℤ, pos, replicate}
use Rattle.model.specs.Basic.{at, part}
use Rattle.model.specs.World.{World, gas}
use Rattle.model.specs.Scheme.{mismatch}
use Rattle.model.specs.Sweep.{Mesh, ring, layer, air_after, gas_after, serves}
use Rattle.model.specs.Remap.{column, column_air, share_air}
use Rattle.model.specs.Long.{long_air, long_gas}
use Rattle.model.specs.Range.{in_range, is_near, is_near_layer, substep_in_range, layer_in_range, overlaps, is_near_overlap, long_cell_in_range}
use Rattle.model.specs.Step.{remap, long_zonal, step}
use Rattle.model.proofs.Cases.{computes}
use Rattle.model.proofs.Cases.Marked.{grid}
use Rattle.model.proofs.Cases.Thin.{row_above, row_above_fluxes, row_below, row_below_fluxes, cap_below, cap_below_fluxes, columns_above, columns_above_edges, columns_below, columns_below_edges, long_above, long_above_fluxes, long_below, long_below_fluxes}

-- ---- cell c of a mesh from cell a on, after one substep: that it is allowed, that c is in range, and whether it would be with so many quarters of a unit
module _ (w : World) (mesh : Mesh) (a : ℕ) (fluxes : List ℤ) (c : ℕ) where
  abbrev air : List ℕ
  air = part w.air a mesh.cells

  abbrev had : List ℕ
  had = part (gas w 0) a mesh.cells

  abbrev air_left : List ℕ
  air_left = air_after mesh fluxes 1 air 1

  abbrev gas_left : List ℕ
  gas_left = gas_after mismatch mesh fluxes 1 air had 1

  unfoldable pub substep_within : ℕ → Bool
  substep_within quarters = in_range mesh.cells (is_near mesh c) air had quarters (at air_left c) (at gas_left c)

  unfoldable pub substep_ends : ℕ → List Bool
  substep_ends faces =
      serves mesh fluxes air 1 ∷ substep_in_range mesh air had air_left gas_left c ∷ substep_within (4 * faces) ∷ []

-- ---- new layer j of the column at place 1: that the remap is accepted, that it is in range, and whether it would be with one unit
module _ (w : World) (table : List ℕ) (j : ℕ) where
  abbrev remapped_world : World
  remapped_world = (step w (remap table)).next

  unfoldable pub layer_within : ℕ → Bool
  layer_within quarters =
      let old : List ℕ = column w.grid w.air 1 in
      in_range 3 (is_near_layer 3 (share_air table old (column_air w.grid w.air 1) j)) old (column w.grid (gas w 0) 1) quarters
      (at (column w.grid remapped_world.air 1) j)
      (at (column w.grid (gas remapped_world 0) 1) j)

  unfoldable pub layer_ends : List Bool
  layer_ends =
      layer_in_range w.grid table w.air (gas w 0) remapped_world.air (gas remapped_world 0) 1 j ∷ layer_within 4 ∷ []

-- ---- cell i of a row of four after a long sweep, likewise
module _ (w : World) (fluxes : List ℤ) (i : ℕ) where
  abbrev row_air : List ℕ
  row_air = part w.air 1 4

  abbrev row_gas : List ℕ
  row_gas = part (gas w 0) 1 4

  unfoldable pub long_within : ℕ → Bool
  long_within quarters =
      in_range 4 (is_near_overlap 4 (overlaps 4 fluxes row_air i)) row_air row_gas quarters (at (long_air 4 fluxes row_air) i) (at (long_gas mismatch 4 fluxes row_air row_gas) i)

  unfoldable pub long_ends : List Bool
  long_ends =
      long_cell_in_range 4 fluxes row_air row_gas (long_air 4 fluxes row_air) (long_gas mismatch 4 fluxes row_air row_gas) i ∷ long_within 4 ∷ []

-- a row: column 1 has 34578 in 34577 units of air, 2.014 units above the greatest ratio; and 83 in 60796, 2.11 units below the least. The south cap of four columns: 75 in 64662, 4.18 units below the least
pub range_ends :
    (substep_ends row_above (ring 4) 1 row_above_fluxes 1 2 ≡ true ∷ true ∷ false ∷ [])
    × (substep_ends row_below (ring 4) 1 row_below_fluxes 1 2 ≡ true ∷ true ∷ false ∷ [])
    × (substep_ends cap_below (layer 4 1) 0 cap_below_fluxes 0 4 ≡ true ∷ true ∷ false ∷ [])
unfolding substep_ends substep_within computes in_range is_near substep_in_range
range_ends = (refl, refl, refl)

-- columns: new layer 2 has 10 in 9, a unit above the greatest ratio; new layer 0 has 70 in 50756, 1.06 units below the least
pub remap_range_ends :
    (layer_ends columns_above columns_above_edges 2 ≡ true ∷ false ∷ [])
    × (layer_ends columns_below columns_below_edges 0 ≡ true ∷ false ∷ [])
    × ((step columns_above (remap columns_above_edges)).answer ≡ 0)
    × ((step columns_below (remap columns_below_edges)).answer ≡ 0)
unfolding layer_ends layer_within computes in_range is_near_layer layer_in_range
remap_range_ends = (refl, refl, refl, refl)

-- a long sweep: column 2 has 15 in 14, a unit above the greatest ratio (y1-9 too); column 0 has 70 in 50756, 1.06 units below the least
pub long_range_ends :
    (long_ends long_above long_above_fluxes 2 ≡ true ∷ false ∷ [])
    × (long_ends long_below long_below_fluxes 0 ≡ true ∷ false ∷ [])
    × ((step long_above (long_zonal 0 0 long_above_fluxes)).answer ≡ 0)
    × ((step long_below (long_zonal 0 0 long_below_fluxes)).answer ≡ 0)
unfolding long_ends long_within computes in_range is_near overlaps is_near_overlap long_cell_in_range
long_range_ends = (refl, refl, refl, refl)

-- ---- and no more than a quarter: of cells with 4 units of air each, new amounts that are out of range by two units and a quarter, four and a quarter in a cap, and one and a quarter in a remap and a long sweep, from below and from above
abbrev pub alike : ℕ → List ℕ
alike T = replicate 6 T

pub quarter_is_all :
    substep_in_range (ring 4) (replicate 4 4) (replicate 4 3) (replicate 4 1) (replicate 4 3) 0 ∷
    substep_in_range (ring 4) (replicate 4 4) (replicate 4 9) (replicate 4 1) (replicate 4 0) 0 ∷
    substep_in_range (layer 4 1) (alike 4) (alike 3) (alike 1) (alike 5) 0 ∷
    substep_in_range (layer 4 1) (alike 4) (alike 17) (alike 1) (alike 0) 5 ∷
    layer_in_range (grid 4 1 1 1) (0 ∷ 0 ∷ 0 ∷ 65536 ∷ []) (alike 4) (alike 3) (alike 1) (alike 2) 1 0 ∷
    layer_in_range (grid 4 1 1 1) (0 ∷ 0 ∷ 0 ∷ 65536 ∷ []) (alike 4) (alike 5) (alike 1) (alike 0) 1 0 ∷
    long_cell_in_range 4 (replicate 4 (pos 0)) (replicate 4 4) (replicate 4 3) (replicate 4 1) (replicate 4 2) 0 ∷
    long_cell_in_range 4 (replicate 4 (pos 0)) (replicate 4 4) (replicate 4 5) (replicate 4 1) (replicate 4 0) 0 ∷ [] ≡
    replicate 8 false
unfolding computes in_range is_near is_near_layer substep_in_range layer_in_range overlaps is_near_overlap long_cell_in_range
quarter_is_all = refl
