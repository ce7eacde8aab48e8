-- Document 02, Slip 1: the long zonal sweep of one row in one layer, "a sweep without substeps": "a face takes whole upstream cells and then part of the next".
-- A point of the line is the air before it. No number is signed: the row is laid on the line three times, and swept where it lies the second time; so every point and every mark is document 02's and one turn more (laws in Laws/Long).
use Rattle.std.specs.Prelude.{ℕ, suc, ◌+◌, ◌*◌, ◌-◌, ◌%◌, List, Bool, ℤ}
use Rattle.model.specs.Basic.{at, part, sum, tab, every}
use Rattle.model.specs.World.{World, air_fits, moved_part}
use Rattle.model.specs.Scheme.{Rule}
use Rattle.model.specs.Limiters.{rule_of}
use Rattle.model.specs.Sweep.{Flow, ring, west_of, flux, forward, backward, after_flow, cell_mismatch}
use Rattle.model.specs.Remap.{ColumnLayer, amount_above}

-- a cell of the row as a layer of the remap, "with the row's ring mismatches"
abbrev pub row_cell : Rule → ℕ → List ℕ → List ℕ → ℕ → ColumnLayer
row_cell rule W air gas c =
    record { air = at air c; tracer = at gas c; slope = cell_mismatch rule (ring W) air gas c }

-- "Lay the row's air out on a line from column 0": cell j of the line is column j mod W
abbrev pub line_cell : Rule → ℕ → List ℕ → List ℕ → ℕ → ColumnLayer
line_cell rule W air gas j = row_cell rule W air gas (j % W)

-- the air of the first j cells of the line
abbrev pub line_air : ℕ → List ℕ → ℕ → ℕ
line_air W air j = sum j (λ i. at air (i % W))

-- how often the row is laid on the line: x − F lies between one turn before the row and one past it (16)
abbrev pub turns : ℕ
turns = 3

-- "Let G be as in the remap .. and carry it round so that one full turn adds the row's total" (`carried_first`, `carried_turn`, Laws/Long)
unfoldable pub carried : Rule → ℕ → List ℕ → List ℕ → ℕ → ℕ
carried rule W air gas x = amount_above (tab (turns * W) (line_cell rule W air gas)) x

-- "Let x be the air before a face at its old place", then x − F "for its flux F": of face j, the west face of column j and, for j = W, the east face of the last column. Counted from a turn west of column 0, so that nothing is negative: it is document 02's number and the row's air (`departure_is`, Laws/Long)
unfoldable pub departure : ℕ → List ℤ → List ℕ → ℕ → ℕ
departure W fluxes air j =
    let F : ℤ = flux fluxes (west_of W j) in
    line_air W air (W + j) + backward F - forward F

-- "The face's new mark is G(x − F)"
abbrev pub mark : Rule → ℕ → List ℤ → List ℕ → List ℕ → ℕ → ℕ
mark rule W fluxes air gas j = carried rule W air gas (departure W fluxes air j)

-- "A cell's tracer is its east mark less its west mark"
unfoldable pub long_gas : Rule → ℕ → List ℤ → List ℕ → List ℕ → List ℕ
long_gas rule W fluxes air gas = tab W (λ i. mark rule W fluxes air gas (suc i) - mark rule W fluxes air gas i)

-- "Air changes by the fluxes as ever."
abbrev pub whole_flow : List ℤ → Flow
whole_flow fluxes = record { to_high = λ f. forward (flux fluxes f); to_low = λ f. backward (flux fluxes f) }

unfoldable pub long_air : ℕ → List ℤ → List ℕ → List ℕ
long_air W fluxes air = after_flow (ring W) (whole_flow fluxes) air

-- "when air afterwards leaves 1 to 65,535": that it does not
unfoldable pub long_air_fits : ℕ → List ℤ → List ℕ → Bool
long_air_fits W fluxes air = every W (λ i. air_fits (at (long_air W fluxes air) i))

-- The world after a long sweep of the row that starts at cell a, in the air and in all tracers
unfoldable pub long_swept : World → ℕ → List ℤ → World
long_swept w a fluxes =
    let W : ℕ = w.grid.W in
    let old : List ℕ = part w.air a W in
    moved_part w a W (long_air W fluxes old) (λ t. long_gas (rule_of w t) W fluxes old)
