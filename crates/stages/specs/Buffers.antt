-- The program's buffers as one value: a list for each, the world at the start of the lists, and the room in them.
use Rattle.std.specs.Prelude.{ℕ, ◌*◌, ◌≤◌, List, [], length, take, replicate}
use Rattle.model.specs.Limits.{block_numbers, program_cells}
use Rattle.model.specs.Basic.{written}
use Rattle.model.specs.World as model
use Rattle.units.specs.declared.Grid as declared
use Rattle.units.specs.Grid.{world_of}
use Rattle.stages.specs.declared.Buffers as code
use Rattle.stages.specs.Limits.{program_amounts, program_ledger}

-- the program's three buffers; a world stands at their start
pub record Buffers : Type 0 where
  pub air : List ℕ
  pub tracers : List ℕ
  pub ledger : List ℕ

abbrev pub buffers : (air tracers ledger : List ℕ) → Buffers
buffers air tracers ledger = record { air = air; tracers = tracers; ledger = ledger }

abbrev pub empty : Buffers
empty = buffers [] [] []

-- the code's buffers, and what they hold before the first load
abbrev pub buffers_in : code.Buffers → Buffers
buffers_in b = buffers b.air b.tracers b.ledger

abbrev pub no_world : Buffers
no_world = buffers (replicate program_cells 0) (replicate program_amounts 0) (replicate program_ledger 0)

-- the world whose lists are the whole buffers
abbrev pub world_in : declared.Grid → Buffers → model.World
world_in g b = world_of g b.air b.tracers b.ledger

-- the world that a grid has at the start of the buffers
abbrev pub held : model.Grid → Buffers → model.World
held g b =
    record {
      grid = g;
      air = take (model.world_cells g) b.air;
      tracers = take (g.N * model.world_cells g) b.tracers;
      ledger = take (g.N * block_numbers) b.ledger;
    }

-- the buffers with a world written over their first entries
abbrev pub over : Buffers → model.World → Buffers
over b w =
    buffers (written b.air 0 w.air) (written b.tracers 0 w.tracers) (written b.ledger 0 w.ledger)

-- room for every world that the program takes
pub record BufferRoom (b : Buffers) : Type 0 where
  pub air : program_cells ≤ length b.air
  pub tracers : program_amounts ≤ length b.tracers
  pub ledger : program_ledger ≤ length b.ledger
