-- The bytes that a record needs, and the reader's answer as the model's: a command with the lists that its body holds, a fault, nothing.
use Rattle.std.specs.Prelude.{ℕ, ◌≤◌, List, true, false, ◌≡◌, length, drop, Option, None, Some, Result, Ok, Err}
use Rattle.model.specs.World as model
use Rattle.program.specs.Records as program
use Rattle.stages.specs.Buffers.{Buffers}
use Rattle.stages.specs.Limits.{program_body}
use Rattle.stages.specs.declared.Fault.{Fault}
use Rattle.stages.specs.declared.Fault.TheVariants as fault
use Rattle.stages.specs.declared.Stage.{Stage}
use Rattle.stages.specs.Stage.{fault_number, state_of}
use Rattle.commands.specs.declared.Command as command
use Rattle.commands.specs.Command.{command_is, kind_of_command}
use Rattle.kinds.specs.declared.Kind as code
use Rattle.kinds.specs.Kind.{kind_is}

-- how many bytes a kind needs, whatever the buffers hold
pub record NeedsBytes (stage : Stage) (byte n : ℕ) : Type 0 where
  pub number : (b : Buffers) → n ≡ program.needed (state_of stage b) byte
  pub few : n ≤ program_body

-- the kind that a byte names, if its record is in place
abbrev pub IsPlaced : program.State → ℕ → Result code.Kind Fault → Type 0
IsPlaced s byte (Err f) = (program.in_place s (program.kind_of byte) ≡ false) × (f ≡ fault.Kind)
IsPlaced s byte (Ok k) = (kind_is k ≡ program.kind_of byte) × (program.in_place s (program.kind_of byte) ≡ true)

-- what the reader answers: no record, a record with its command, a fault
abbrev pub Found : Type 0
Found = Result (Option command.Command) Fault

-- the number and the command of each case of the reader's answer; the body is what follows the kind byte
abbrev pub reading_is : model.Grid → List ℕ → Found → program.Finding
reading_is g input (Ok None) = program.nothing
reading_is g input (Err f) = program.fault (fault_number f)
reading_is g input (Ok (Some c)) = program.command (command_is g (drop 1 input) c)

-- a record that was found is in place and has its whole body
pub record IsWhole (s : program.State) (body : List ℕ) (c : command.Command) : Type 0 where
  pub placed : program.in_place s (kind_of_command c) ≡ true
  pub whole : program.body_length (program.grid_of s) (kind_of_command c) ≤ length body

abbrev pub FoundWhole : program.State → List ℕ → Found → Type 0
FoundWhole s body (Ok None) = Unit {0}
FoundWhole s body (Err f) = Unit {0}
FoundWhole s body (Ok (Some c)) = IsWhole s body c

-- the reader finds what the model finds, whatever the buffers hold
pub record Finds (stage : Stage) (input : List ℕ) (r : Found) : Type 0 where
  pub reading : (b : Buffers) → reading_is (program.grid_of (state_of stage b)) input r ≡ program.found (state_of stage b) input
  pub whole : (b : Buffers) → FoundWhole (state_of stage b) (drop 1 input) r
