-- What comes of a record in the code, as the model's, and what is left in the program's buffers.
use Rattle.std.specs.Prelude.{ℕ, ◌*◌, ◌≤◌, List, ◌≡◌, length, Option, None, Some, Result}
use Rattle.model.specs.Limits.{block_numbers}
use Rattle.model.specs.Basic.{at}
use Rattle.model.specs.World as model
use Rattle.model.specs.Step.{Call, load, step}
use Rattle.units.specs.declared.Grid as declared
use Rattle.units.specs.declared.Refusal.{Refusal}
use Rattle.units.specs.Answer.{number_of, count_of}
use Rattle.units.specs.Grid.{grid_of}
use Rattle.program.specs.Records as program
use Rattle.stages.specs.declared.Stage.{Stage}
use Rattle.commands.specs.declared.Call as asked
use Rattle.commands.specs.declared.Command.{Command}
use Rattle.stages.specs.Buffers.{Buffers, held, over}
use Rattle.stages.specs.Stage.{state_of}
use Rattle.commands.specs.Command.{call_is, command_is, kind_of_command}
use Rattle.command_to_answer.specs.Makes.{body_world}
use Rattle.lines.specs.declared.Line as lines
use Rattle.record_to_line.specs.declared.Outcome as code

abbrev pub line_is : lines.Line → program.Line
line_is l = program.line l.kind l.answer l.count

-- an outcome, with the buffers as they are left
abbrev pub outcome_is : Option code.Outcome → Buffers → program.Outcome
outcome_is None left = program.none
outcome_is (Some o) left =
    elim o.next [ None ↦ program.last (line_is o.line) | Some stage ↦ program.onward (line_is o.line) (state_of stage left) ]

-- the world that counts as loaded after a record; no cells where none does
abbrev pub world_after : program.Outcome → model.World
world_after program.none = program.world_of program.start
world_after (program.onward l s) = program.world_of s
world_after (program.last l) = program.world_of program.start

-- what a record leaves: the model's outcome, and in the buffers the world afterwards over what stood there
pub record Leaves (outcome : program.Outcome) (o : Option code.Outcome) (before left : Buffers) : Type 0 where
  pub same : outcome_is o left ≡ outcome
  pub left_is : left ≡ over before (world_after outcome)

-- what the program's function that carries a record out promises
abbrev pub Carries : Stage → List ℕ → Option code.Outcome → Buffers → Buffers → Type 0
Carries stage input o before left =
    Leaves (program.outcome_of (state_of stage before) (at input 0) (program.found (state_of stage before) input)) o before left

-- ---- what the functions below it need and promise
-- a grid's record, in any state and with any buffers
abbrev pub TakesGrid : ℕ → declared.Grid → code.Outcome → Type 0
TakesGrid byte wanted o =
    (s : program.State) (b : Buffers) → outcome_is (Some o) b ≡ program.carried_out s byte (program.set_grid (grid_of wanted))

-- the world that a load's body holds in a grid
abbrev pub load_world : declared.Grid → List ℕ → model.World
load_world g body =
    body_world (grid_of g) body (model.world_cells (grid_of g)) (g.n * model.world_cells (grid_of g)) (g.n * block_numbers)

-- the answer to that load
pub record AnswersLoad (g : declared.Grid) (body : List ℕ) (answer : Result ℕ Refusal) : Type 0 where
  pub number : number_of answer ≡ (step (load_world g body) load).answer
  pub count : count_of answer ≡ (step (load_world g body) load).count

-- a call that was made in the world w, whose next world is left at the start of the buffers
pub record Made (g : declared.Grid) (w : model.World) (call : Call) (answer : Result ℕ Refusal) (before left : Buffers) : Type 0 where
  pub number : number_of answer ≡ (step w call).answer
  pub count : count_of answer ≡ (step w call).count
  pub held_is : held (grid_of g) left ≡ (step w call).next
  pub left_is : left ≡ over before (step w call).next

-- a grid that the program took, and a command's whole body
pub record TakeNeed (g : declared.Grid) (c : Command) (body : List ℕ) : Type 0 where
  pub taken : program.grid_refusal (grid_of g) ≡ 0
  pub whole : program.body_length (grid_of g) (kind_of_command c) ≤ length body

-- a load's record, in any state
abbrev pub TakesLoad : declared.Grid → ℕ → List ℕ → code.Outcome → Buffers → Buffers → Type 0
TakesLoad g byte body o before left =
    (s : program.State) → Leaves (program.carried_out s byte (program.set_world (load_world g body))) (Some o) before left

-- a call's record, in the world that the buffers hold
abbrev pub TakesCall : declared.Grid → ℕ → asked.Call → List ℕ → code.Outcome → Buffers → Buffers → Type 0
TakesCall g byte c body o before left =
    Leaves (program.carried_out (program.loaded (held (grid_of g) before)) byte (program.make (call_is (grid_of g) body c))) (Some o) before left

-- a command with its whole body, and, but for a grid's record, a grid that the program took
pub record CarryNeed (g : declared.Grid) (c : Command) (body : List ℕ) : Type 0 where
  pub taken : (kind_of_command c ≡ program.grid_kind → ⊥) → program.grid_refusal (grid_of g) ≡ 0
  pub whole : program.body_length (grid_of g) (kind_of_command c) ≤ length body

-- the state has the buffers' world loaded where the command is a call
abbrev pub Ready : declared.Grid → Command → List ℕ → Buffers → program.State → Type 0
Ready g c body b s =
    (call : Call) → command_is (grid_of g) body c ≡ program.make call → s ≡ program.loaded (held (grid_of g) b)

-- any command, in a state that is ready for it
pub record CarriesCommand (g : declared.Grid) (byte : ℕ) (c : Command) (body : List ℕ) (o : code.Outcome) (before left : Buffers) : Type 0 where
  pub carries : (s : program.State) → Ready g c body before s → Leaves (program.carried_out s byte (command_is (grid_of g) body c)) (Some o) before left
