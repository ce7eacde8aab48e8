-- The code's commands as the model's, with the lists that the body holds, and what the parser needs and promises.
use Rattle.std.specs.Prelude.{ℕ, ◌+◌, ◌*◌, ◌≤◌, List, ◌≡◌, length}
use Rattle.model.specs.Limits.{block_numbers}
use Rattle.model.specs.Basic.{zeros}
use Rattle.model.specs.World as model
use Rattle.model.specs.Step as step
use Rattle.units.specs.Grid.{grid_of}
use Rattle.program.specs.Bytes.{numbers_at, fluxes_at}
use Rattle.program.specs.Records as program
use Rattle.commands.specs.declared.Call as call
use Rattle.commands.specs.declared.Call.TheVariants.{Emission, Withdrawal, Zonal, Meridional, Remap, Total, Cell}
use Rattle.commands.specs.declared.Command as command
use Rattle.commands.specs.declared.Command.TheVariants.{Grid, Load, Call}

-- a call in a grid, with its list taken from the body
abbrev pub call_is : model.Grid → List ℕ → call.Call → step.Call
call_is g body (Emission e) = step.emission e.tracer e.cell e.amount
call_is g body (Withdrawal e) = step.withdrawal e.tracer e.cell e.amount
call_is g body (Zonal layer row) = step.zonal layer row (fluxes_at body 2 g.W)
call_is g body (Meridional layer) = step.meridional layer (fluxes_at body 1 (g.W * (g.R + 1)))
call_is g body Remap = step.remap (numbers_at body 0 (2 * (g.K + 1)))
call_is g body (Total tracer) = step.total tracer
call_is g body (Cell tracer cell) = step.cell tracer cell

-- a command in a grid, with its lists taken from the body
abbrev pub command_is : model.Grid → List ℕ → command.Command → program.Command
command_is g body (Grid wanted) = program.set_grid (grid_of wanted)
command_is g body Load =
    program.set_world
    (record {
      grid = g;
      air = numbers_at body 0 (model.world_cells g);
      tracers = numbers_at body (4 * model.world_cells g) (g.N * model.world_cells g);
      ledger = zeros (g.N * block_numbers);
    })
command_is g body (Call c) = program.make (call_is g body c)

-- the kind of a call's record, and of a command's
abbrev pub kind_of_call : call.Call → program.Kind
kind_of_call (Emission e) = program.emission_kind
kind_of_call (Withdrawal e) = program.withdrawal_kind
kind_of_call (Zonal layer row) = program.zonal_kind
kind_of_call (Meridional layer) = program.meridional_kind
kind_of_call Remap = program.remap_kind
kind_of_call (Total tracer) = program.total_kind
kind_of_call (Cell tracer cell) = program.cell_kind

abbrev pub kind_of_command : command.Command → program.Kind
kind_of_command (Grid wanted) = program.grid_kind
kind_of_command Load = program.load_kind
kind_of_command (Call c) = kind_of_call c

-- what the parser needs: the kind's whole body in some grid
pub record ParseNeed (kind : program.Kind) (body : List ℕ) : Type 0 where
  pub grid : model.Grid
  pub whole : program.body_length grid kind ≤ length body

-- the parser's answer, in any grid
pub record Parses (kind : program.Kind) (body : List ℕ) (c : command.Command) : Type 0 where
  pub commands : (g : model.Grid) → command_is g body c ≡ program.command_of g kind body
  pub same_kind : kind_of_command c ≡ kind
