-- The code's faults and stages as the model's, and the grids that the program takes.
-- A stage whose grid the program does not take stands for the start.
use Rattle.std.specs.Prelude.{ℕ, zero, suc, ◌≤◌, ◌≡◌, Result, Ok, Err}
use Rattle.model.specs.Limits.{most_columns, most_rows, most_layers, program_cells, program_tracers}
use Rattle.model.specs.World as model
use Rattle.units.specs.declared.Grid as declared
use Rattle.units.specs.Answer.{refusal_number}
use Rattle.units.specs.Grid.{grid_of}
use Rattle.program.specs.Records as program
use Rattle.stages.specs.Buffers.{Buffers, empty, held}
use Rattle.stages.specs.declared.Fault.{Fault}
use Rattle.stages.specs.declared.Fault.TheVariants as fault
use Rattle.stages.specs.declared.GridRefusal.{GridRefusal}
use Rattle.stages.specs.declared.GridRefusal.TheVariants.{Call, Program}
use Rattle.stages.specs.declared.Stage.{Stage}
use Rattle.stages.specs.declared.Stage.TheVariants.{Start, Gridded, Loaded}

-- "program, kind", "program, length", "program, grid": the number of each place
abbrev pub fault_number : Fault → ℕ
fault_number fault.Kind = 13
fault_number fault.Length = 14
fault_number fault.ProgramGrid = 15

-- the number of a grid's refusal, and of the whole answer: 0 where the program takes the grid
abbrev pub refused_number : GridRefusal → ℕ
refused_number (Call r) = refusal_number r
refused_number (Program f) = fault_number f

abbrev pub refusal_of : {A : Type 0} → Result A GridRefusal → ℕ
refusal_of (Ok x) = 0
refusal_of (Err r) = refused_number r

-- the state of a stage whose grid the program takes
abbrev pub plain_state : Stage → Buffers → program.State
plain_state Start b = program.start
plain_state (Gridded g) b = program.gridded (grid_of g)
plain_state (Loaded g) b = program.loaded (held (grid_of g) b)

-- the refusal of a stage's grid, 0 at the start
abbrev pub stage_refusal : Stage → ℕ
stage_refusal Start = 0
stage_refusal (Gridded g) = program.grid_refusal (grid_of g)
stage_refusal (Loaded g) = program.grid_refusal (grid_of g)

-- the state that a stage and the program's buffers stand for
abbrev pub state_of : Stage → Buffers → program.State
state_of stage b = elim (stage_refusal stage) [ zero ↦ plain_state stage b | suc n ↦ program.start ]

pub record IsSettled (stage r : Stage) : Type 0 where
  pub same : (b : Buffers) → state_of stage b ≡ plain_state r b
  pub taken : stage_refusal r ≡ 0

-- the grid of a stage
abbrev pub grid_of_stage : Stage → model.Grid
grid_of_stage stage = program.grid_of (plain_state stage empty)

-- a grid no larger than the program takes
pub record SmallGrid (g : declared.Grid) : Type 0 where
  pub high_w : g.w ≤ most_columns
  pub high_r : g.r ≤ most_rows
  pub high_k : g.k ≤ most_layers
  pub high_n : g.n ≤ program_tracers
  pub cells : model.world_cells (grid_of g) ≤ program_cells
