-- Document 01, "Range", and what "Lists" says it holds of: every cell after each substep of a sweep, and after a remap; and of document 02 the range of a long sweep (Slip 1), and how far a cell may be out of it (Slip 6).
-- Tests that compute, so that a claim with a smaller e can be shown to fail.
use Rattle.std.specs.Prelude.{ℕ, suc, ◌+◌, ◌*◌, ◌-◌, ◌<◌, min, max, List, Bool, true, ◌&&◌, ◌||◌, ◌≡◌, ltb, eqb, ℤ}
use Rattle.model.specs.Basic.{at, part, some}
use Rattle.model.specs.World.{Grid, World, layer_cells, layer_start, gas}
use Rattle.model.specs.Sweep.{Mesh, Sides, between, south_cap, north_cap, ring}
use Rattle.model.specs.Remap.{column, column_air, share_air}
use Rattle.model.specs.Long.{line_air, turns, departure}

-- "some cell there, with air M and tracer T, has T·M' < (T' + e)·M, and some cell there has T'·M < T·M' + e·M", and (02) "with both sides taken four times": `there` tells the cells, of n, that are in the neighbourhood; M' and T' are `new_m` and `new_t`; `quarters` is 4·e, a number of quarters of a unit
unfoldable pub in_range : ℕ → (ℕ → Bool) → List ℕ → List ℕ → ℕ → ℕ → ℕ → Bool
in_range n there air gas quarters new_m new_t =
    some n (λ c. there c && ltb (4 * (at gas c * new_m)) ((4 * new_t + quarters) * at air c)) &&
    some n (λ c. there c && ltb (4 * (new_t * at air c)) (4 * (at gas c * new_m) + quarters * at air c))

-- (02) "within one unit for each face plus a quarter of a unit, and after a remap or a long sweep within one and a quarter": in quarters, f being the faces, or 1
abbrev pub units_and_quarter : ℕ → ℕ
units_and_quarter f = 4 * f + 1

-- "a cell's old neighbourhood in a substep is the cell and the cell across each of its faces in that sweep"
unfoldable pub is_near : Mesh → ℕ → ℕ → Bool
is_near mesh c d =
    eqb d c ||
    (elim (mesh.sides c) [
      | between l h ↦ eqb d (mesh.low_cell l) || eqb d (mesh.high_cell h)
      | south_cap k n ↦ some n (λ i. eqb d (mesh.high_cell (k + i)))
      | north_cap k n ↦ some n (λ i. eqb d (mesh.low_cell (k + i)))
    ])

-- "the cell's faces in that sweep (two, for a cap W)"
abbrev pub face_count : Sides → ℕ
face_count (between l h) = 2
face_count (south_cap k n) = n
face_count (north_cap k n) = n

-- cell c after a substep, over the amounts just before it: `new_air` and `new_gas` are what the substep leaves
unfoldable pub substep_in_range : Mesh → List ℕ → List ℕ → List ℕ → List ℕ → ℕ → Bool
substep_in_range mesh air gas new_air new_gas c =
    in_range mesh.cells (is_near mesh c) air gas (units_and_quarter (face_count (mesh.sides c))) (at new_air c) (at new_gas c)

-- "in every cell of the row, or of the layer if meridional, after each substep of an accepted sweep, over the amounts just before that substep": a sweep of n substeps that leads from the world w to the world `next`, over the cells of a mesh from cell a on.
-- `air s` and `had s` are the air and the amounts of tracer t after s substeps: a chain that starts with those in w and ends with those in `next`.
pub record SweepInRange (w next : World) (mesh : Mesh) (a n t : ℕ) (air had : ℕ → List ℕ) : Type 0 where
  pub air_start : air 0 ≡ part w.air a mesh.cells
  pub gas_start : had 0 ≡ part (gas w t) a mesh.cells
  pub each : (s c : ℕ) → s < n → c < mesh.cells → substep_in_range mesh (air s) (had s) (air (suc s)) (had (suc s)) c ≡ true
  pub air_end : air n ≡ part next.air a mesh.cells
  pub gas_end : had n ≡ part (gas next t) a mesh.cells

-- "In a remap it is the old layers that share air with the new one, and those next above and below them."
unfoldable pub is_near_layer : ℕ → (ℕ → Bool) → ℕ → Bool
is_near_layer K shares k = shares k || (ltb 0 k && shares (k - 1)) || (ltb (suc k) K && shares (suc k))

-- new layer j of the column at place c, in the air and a tracer's amounts of all cells before and after
unfoldable pub layer_in_range : Grid → List ℕ → List ℕ → List ℕ → List ℕ → List ℕ → ℕ → ℕ → Bool
layer_in_range g table air gas new_air new_gas c j =
    let old : List ℕ = column g air c in
    in_range g.K (is_near_layer g.K (share_air table old (column_air g air c) j)) old (column g gas c) (units_and_quarter 1)
    (at new_air (layer_start g j + c))
    (at new_gas (layer_start g j + c))

-- "and in every cell after an accepted remap": of tracer t, in the world `next` that a remap of the world w leaves
abbrev pub RemapInRange : World → World → List ℕ → ℕ → Type 0
RemapInRange w next table t =
    (c j : ℕ) → c < layer_cells w.grid → j < w.grid.K →
    layer_in_range w.grid table w.air (gas w t) next.air (gas next t) c j ≡ true

-- Document 02, Slip 1: "the cells it overlaps": old cell c of the row shares some air with the part of the line that new cell i takes, at one of the three times that it lies there
unfoldable pub overlaps : ℕ → List ℤ → List ℕ → ℕ → ℕ → Bool
overlaps W fluxes air i c =
    some turns
    (λ turn.
    ltb (max (line_air W air (turn * W + c)) (departure W fluxes air i))
    (min (line_air W air (suc (turn * W + c))) (departure W fluxes air (suc i))))

-- "the cells it overlaps and their neighbours"
unfoldable pub is_near_overlap : ℕ → (ℕ → Bool) → ℕ → Bool
is_near_overlap W overlapped d = some W (λ c. overlapped c && is_near (ring W) c d)

-- (Slip 1) "A cell then lies within two units of the range", by Slip 6 one and a quarter: cell i of a row, from the air and a tracer's amounts before a long sweep to those afterwards
unfoldable pub long_cell_in_range : ℕ → List ℤ → List ℕ → List ℕ → List ℕ → List ℕ → ℕ → Bool
long_cell_in_range W fluxes air gas new_air new_gas i =
    in_range W (is_near_overlap W (overlaps W fluxes air i)) air gas (units_and_quarter 1) (at new_air i) (at new_gas i)

-- every cell of the row that starts at cell a, of tracer t, in the world `next` that a long sweep of the world w leaves
abbrev pub LongInRange : World → World → ℕ → List ℤ → ℕ → Type 0
LongInRange w next a fluxes t =
    let row : List ℕ → List ℕ = λ l. part l a w.grid.W in
    (i : ℕ) → i < w.grid.W →
    long_cell_in_range w.grid.W fluxes (row w.air) (row (gas w t)) (row next.air) (row (gas next t)) i ≡ true
