-- What the functions that make a command's call need and promise.
use Rattle.std.specs.Prelude.{ℕ, ◌+◌, ◌*◌, ◌≤◌, List, ◌≡◌, Result, length}
use Rattle.model.specs.Basic.{zeros}
use Rattle.model.specs.World as model
use Rattle.model.specs.Step as step
use Rattle.model.specs.Step.{load}
use Rattle.units.specs.declared.Grid as declared
use Rattle.units.specs.declared.Refusal.{Refusal}
use Rattle.units.specs.Answer.{Agrees}
use Rattle.units.specs.Grid.{grid_of}
use Rattle.program.specs.Bytes.{numbers_at}
use Rattle.program.specs.Records as program
use Rattle.commands.specs.declared.Call.{Call}
use Rattle.commands.specs.declared.Command.{Command}
use Rattle.stages.specs.Buffers.{Buffers, world_in}
use Rattle.stages.specs.Stage.{SmallGrid}
use Rattle.commands.specs.Command.{call_is, command_is, kind_of_call, kind_of_command}

-- a call with its whole body, in a grid that the program takes
pub record CallNeed (g : declared.Grid) (c : Call) (body : List ℕ) : Type 0 where
  pub small : SmallGrid g
  pub layers : 1 ≤ g.k
  pub whole : program.body_length (grid_of g) (kind_of_call c) ≤ length body

-- what `step` gives of the call with the body's lists, in the world of the buffers before
abbrev pub MakesCall : declared.Grid → Call → List ℕ → Result ℕ Refusal → Buffers → Buffers → Type 0
MakesCall g c body answer before left =
    Agrees (world_in g before) (call_is (grid_of g) body c) answer (world_in g left)

-- a command with its whole body, in a grid that the program takes
pub record MakeNeed (g : declared.Grid) (c : Command) (body : List ℕ) : Type 0 where
  pub small : SmallGrid g
  pub layers : 1 ≤ g.k
  pub whole : program.body_length (grid_of g) (kind_of_command c) ≤ length body

-- what `step` gives of the call that the command asks for, in the world of the buffers before
pub record Makes (g : declared.Grid) (c : Command) (body : List ℕ) (answer : Result ℕ Refusal) (before left : Buffers) : Type 0 where
  pub made : (call : step.Call) → command_is (grid_of g) body c ≡ program.make call → Agrees (world_in g before) call answer (world_in g left)

-- the world that a load's body holds, with a ledger of zeros
abbrev pub body_world : model.Grid → List ℕ → (cells amounts numbers : ℕ) → model.World
body_world g body cells amounts numbers =
    record {
      grid = g;
      air = numbers_at body 0 cells;
      tracers = numbers_at body (4 * cells) amounts;
      ledger = zeros numbers;
    }

-- a load's body holds the numbers of all air and all tracers
pub record LoadNeed (body : List ℕ) (b : Buffers) : Type 0 where
  pub whole : 4 * length b.air + 4 * length b.tracers ≤ length body

-- what `step` gives of the load of the body's world, with lists as long as the buffers before
pub record MakesLoad (g : declared.Grid) (body : List ℕ) (before : Buffers) (answer : Result ℕ Refusal) (left : Buffers) : Type 0 where
  pub made : Agrees (body_world (grid_of g) body (length before.air) (length before.tracers) (length before.ledger)) load answer (world_in g left)
