-- Document 01, "Zonal sweep of one row in one layer" and "Meridional sweep of one layer": one definition of a sweep over cells and faces, and the two meshes.
-- The amounts of a sweep's cells are lists; a flux's two directions are two natural numbers, of which one is 0.
use Rattle.std.specs.Prelude.{ℕ, zero, suc, ◌+◌, ◌*◌, ◌-◌, ◌/◌, List, Bool, true, false, ◌&&◌, leb, ltb, eqb, get_or, ℤ, pos, negsuc}
use Rattle.model.specs.Limits.{most_substeps}
use Rattle.model.specs.Basic.{at, sum, tab, every, smallest, part}
use Rattle.model.specs.World.{World, air_fits, moved_part}
use Rattle.model.specs.Scheme.{Mismatch, Rule, ratio, plain, high_piece, low_piece}
use Rattle.model.specs.Limiters.{rule_of}

-- The faces of a cell: a low and a high one; or, of a cap, n faces from face k on, all on its high side (south) or all on its low side (north)
pub data Sides : Type 0 where
  between : ℕ → ℕ → Sides
  south_cap : ℕ → ℕ → Sides
  north_cap : ℕ → ℕ → Sides

-- Cells and faces of a sweep: how many, the cell on the low and on the high side of a face, the faces of a cell
pub record Mesh : Type 0 where
  pub cells : ℕ
  pub faces : ℕ
  pub low_cell : ℕ → ℕ
  pub high_cell : ℕ → ℕ
  pub sides : ℕ → Sides

-- The row of W columns: "flux i crosses the face from column i to column i + 1 (the last to column 0) .. High side is east."
abbrev pub east_of : ℕ → ℕ → ℕ
east_of W i = elim (eqb (suc i) W) [ true ↦ 0 | false ↦ suc i ]

abbrev pub west_of : ℕ → ℕ → ℕ
west_of W i = elim i [ zero ↦ W - 1 | suc j ↦ j ]

unfoldable pub ring : ℕ → Mesh
ring W =
    record { cells = W; faces = W; low_cell = λ i. i; high_cell = east_of W; sides = λ i. between (west_of W i) i }

-- The layer of W columns and R rows between two caps, n = R·W: "flux g·W + i crosses between rows g − 1 and g in column i .. row −1 is the south cap, row R the north cap. High side is north."
-- Cell 1 + j is column i of row r with j = r·W + i; its low face is j and its high face W + j.
abbrev pub south_of : ℕ → ℕ → ℕ
south_of W f = elim (ltb f W) [ true ↦ 0 | false ↦ 1 + (f - W) ]

abbrev pub north_of : ℕ → ℕ → ℕ
north_of n f = elim (ltb f n) [ true ↦ 1 + f | false ↦ 1 + n ]

abbrev pub layer_sides : ℕ → ℕ → ℕ → Sides
layer_sides W n c =
    elim c [ zero ↦ south_cap 0 W | suc j ↦ elim (ltb j n) [ true ↦ between j (W + j) | false ↦ north_cap n W ] ]

unfoldable pub layer : ℕ → ℕ → Mesh
layer W R =
    record {
      cells = 2 + R * W;
      faces = W * (R + 1);
      low_cell = south_of W;
      high_cell = north_of (R * W);
      sides = layer_sides W (R * W);
    }

-- What passes each face, towards its high side and towards its low side
pub record Flow : Type 0 where
  pub to_high : ℕ → ℕ
  pub to_low : ℕ → ℕ

abbrev pub reversed : Flow → Flow
reversed flow = record { to_high = flow.to_low; to_low = flow.to_high }

-- What leaves a cell: "outflow through its two faces"; "a cap has W faces, its outflow is the sum through all of them"
unfoldable pub leaving : Mesh → Flow → ℕ → ℕ
leaving mesh flow c =
    elim (mesh.sides c) [
      | between l h ↦ flow.to_low l + flow.to_high h
      | south_cap k n ↦ sum n (λ i. flow.to_high (k + i))
      | north_cap k n ↦ sum n (λ i. flow.to_low (k + i))
    ]

-- What enters it: the same with the two directions exchanged
abbrev pub entering : Mesh → Flow → ℕ → ℕ
entering mesh flow c = leaving mesh (reversed flow) c

-- The amounts after what passes each face was taken from the giver and added to the receiver
unfoldable pub after_flow : Mesh → Flow → List ℕ → List ℕ
after_flow mesh flow l = tab mesh.cells (λ c. at l c + entering mesh flow c - leaving mesh flow c)

-- The size of a flux, if it is positive, and if it is negative
abbrev pub forward : ℤ → ℕ
forward (pos n) = n
forward (negsuc n) = 0

abbrev pub backward : ℤ → ℕ
backward (pos n) = 0
backward (negsuc n) = suc n

abbrev pub flux : List ℤ → ℕ → ℤ
flux fluxes f = get_or fluxes f (pos 0)

-- "part s (1 to n) of a flux F has size floor(s·|F|/n) − floor((s − 1)·|F|/n)"
unfoldable pub flux_part : ℕ → ℕ → ℕ → ℕ
flux_part n s F = s * F / n - (s - 1) * F / n

-- ".. and F's sign": the parts of all fluxes in substep s of n
unfoldable pub parts : List ℤ → ℕ → ℕ → Flow
parts fluxes n s =
    record {
      to_high = λ f. flux_part n s (forward (flux fluxes f));
      to_low = λ f. flux_part n s (backward (flux fluxes f));
    }

-- "A substep is allowed if no cell's outflow through its two faces exceeds its air, and every cell's air afterwards is 1 to 65,535."
unfoldable pub allowed : Mesh → Flow → List ℕ → Bool
allowed mesh flow air =
    let after : List ℕ = after_flow mesh flow air in
    every mesh.cells (λ c. leb (leaving mesh flow c) (at air c) && air_fits (at after c))

-- the ratio of cell c, and its mismatch with its neighbours across its faces; "Caps .. have D = 0"
abbrev pub cell_ratio : List ℕ → List ℕ → ℕ → ℕ
cell_ratio air gas c = ratio (at air c) (at gas c)

unfoldable pub cell_mismatch : Rule → Mesh → List ℕ → List ℕ → ℕ → Mismatch
cell_mismatch rule mesh air gas c =
    elim (mesh.sides c) [
      | between l h ↦
          rule (cell_ratio air gas (mesh.low_cell l)) (cell_ratio air gas c) (cell_ratio air gas (mesh.high_cell h))
      | south_cap k n ↦ plain
      | north_cap k n ↦ plain
    ]

-- "all pieces are taken from the amounts before it, an eastward one from the giver's high end, a westward one from the low end"
unfoldable pub pieces : Rule → Mesh → Flow → List ℕ → List ℕ → Flow
pieces rule mesh flow air gas =
    record {
      to_high = λ f. let c = mesh.low_cell f in high_piece (cell_mismatch rule mesh air gas c) (at air c) (at gas c) (flow.to_high f);
      to_low = λ f. let c = mesh.high_cell f in low_piece (cell_mismatch rule mesh air gas c) (at air c) (at gas c) (flow.to_low f);
    }

-- The air after s of n substeps, and a tracer's amounts after s of n substeps: the chain of a sweep, from the amounts before it (s = 0) to those it leaves (s = n)
unfoldable pub air_after : Mesh → List ℤ → ℕ → List ℕ → ℕ → List ℕ
air_after mesh fluxes n air zero = air
air_after mesh fluxes n air (suc s) = after_flow mesh (parts fluxes n (suc s)) (air_after mesh fluxes n air s)

unfoldable pub gas_after : Rule → Mesh → List ℤ → ℕ → List ℕ → List ℕ → ℕ → List ℕ
gas_after rule mesh fluxes n air gas zero = gas
gas_after rule mesh fluxes n air gas (suc s) =
    let before : List ℕ = gas_after rule mesh fluxes n air gas s in
    after_flow mesh (pieces rule mesh (parts fluxes n (suc s)) (air_after mesh fluxes n air s) before) before

-- "n serves if all n substeps, one after another, are allowed"
unfoldable pub serves : Mesh → List ℤ → List ℕ → ℕ → Bool
serves mesh fluxes air n = every n (λ s. allowed mesh (parts fluxes n (suc s)) (air_after mesh fluxes n air s))

-- "the sweep uses the smallest n from 1 to 16, and that n is its count"; 0 where none serves
unfoldable pub substep_count : Mesh → List ℤ → List ℕ → ℕ
substep_count mesh fluxes air = smallest most_substeps (serves mesh fluxes air)

-- The world after a sweep of n substeps over the cells that start at cell a, in the air and in all tracers
unfoldable pub swept : World → Mesh → ℕ → List ℤ → ℕ → World
swept w mesh a fluxes n =
    let old : List ℕ = part w.air a mesh.cells in
    moved_part w a mesh.cells (air_after mesh fluxes n old n) (λ t had. gas_after (rule_of w t) mesh fluxes n old had n)
