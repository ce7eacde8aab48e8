-- Document 01, "What it carries": the grid, the numbering of its cells, and the world, with its lists exactly as lent.
use Rattle.std.specs.Prelude.{ℕ, ◌+◌, ◌*◌, List, Bool, ◌&&◌, leb}
use Rattle.model.specs.Limits.{air_limit, block_numbers}
use Rattle.model.specs.Basic.{at, part, written, sum, tab, joined}

-- "W columns round the globe .., R rows from south to north .., K layers from the top down .. and N tracers"
pub record Grid : Type 0 where
  pub W : ℕ
  pub R : ℕ
  pub K : ℕ
  pub N : ℕ

-- "A layer has C = 2 + R·W cells"
abbrev pub layer_cells : Grid → ℕ
layer_cells g = 2 + g.R * g.W

-- all cells of the world, K·C of them
abbrev pub world_cells : Grid → ℕ
world_cells g = g.K * layer_cells g

-- "Layer k starts at k·C"
abbrev pub layer_start : Grid → ℕ → ℕ
layer_start g k = k * layer_cells g

-- "cell 1 + r·W + i is column i of row r": where row r of layer k starts
abbrev pub row_start : Grid → ℕ → ℕ → ℕ
row_start g k r = layer_start g k + (1 + r * g.W)

-- "tracer t at t·K·C"
abbrev pub tracer_start : Grid → ℕ → ℕ
tracer_start g t = t * world_cells g

-- A world: the grid's numbers, all air, all tracers, and the ledger, which holds a block of numbers for each tracer
pub record World : Type 0 where
  pub grid : Grid
  pub air : List ℕ
  pub tracers : List ℕ
  pub ledger : List ℕ

-- a world with other air and other tracers
abbrev pub with_amounts : World → List ℕ → List ℕ → World
with_amounts w air tracers = record { grid = w.grid; air = air; tracers = tracers; ledger = w.ledger }

-- one with another ledger
abbrev pub with_ledger : World → List ℕ → World
with_ledger w ledger = record { grid = w.grid; air = w.air; tracers = w.tracers; ledger = ledger }

-- the amounts of tracer t in all cells
abbrev pub gas : World → ℕ → List ℕ
gas w t = part w.tracers (tracer_start w.grid t) (world_cells w.grid)

-- a world with other amounts of tracer t
abbrev pub with_gas : World → ℕ → List ℕ → World
with_gas w t new = with_amounts w w.air (written w.tracers (tracer_start w.grid t) new)

-- tracer t's block of the ledger, and a world with another one
abbrev pub block : World → ℕ → List ℕ
block w t = part w.ledger (t * block_numbers) block_numbers

abbrev pub with_block : World → ℕ → List ℕ → World
with_block w t new = with_ledger w (written w.ledger (t * block_numbers) new)

-- "A gas total is one tracer's sum over all cells, total air the sum of all air"
abbrev pub gas_total : World → ℕ → ℕ
gas_total w t = sum (world_cells w.grid) (at (gas w t))

abbrev pub air_total : World → ℕ
air_total w = sum (world_cells w.grid) (at w.air)

-- "A cell holds M units of air (1 to 65,535)"
abbrev pub air_fits : ℕ → Bool
air_fits M = leb 1 M && leb M air_limit

-- a world after a call that moves air: new air, and the amounts of each tracer t changed by a function of themselves alone
abbrev pub moved : World → List ℕ → (ℕ → List ℕ → List ℕ) → World
moved w air change = with_amounts w air (joined (tab w.grid.N (λ t. change t (gas w t))))

-- after one that moves air among the n cells from cell a on, and writes no others: their new air, and the change of their amounts of each tracer
abbrev pub moved_part : World → ℕ → ℕ → List ℕ → (ℕ → List ℕ → List ℕ) → World
moved_part w a n air change = moved w (written w.air a air) (λ t l. written l a (change t (part l a n)))
