-- Laws of a record carried out: from what the reader found to what is left, by the reader's answer.
use Rattle.std.specs.Prelude.{ℕ, List, [], ◌∷◌, true, ◌≡◌, length, Option, None, Some, Ok, Err}
use Rattle.std.proofs.lemmas.Bool.{false≢true}
use Rattle.std.proofs.Math.Path.{refl, ap, subst}
use Rattle.std.proofs.Common.{sym, ◌∙◌, arith}
use Rattle.model.specs.World as model
use Rattle.units.specs.declared.Grid as declared
use Rattle.units.specs.Grid.{grid_of}
use Rattle.program.specs.Records as program
use Rattle.program.proofs.Laws.Totals.{found_call}
use Rattle.stages.specs.declared.Stage.{Stage}
use Rattle.stages.specs.declared.Stage.TheVariants.{Start, Gridded, Loaded}
use Rattle.stages.specs.declared.Fault.{Fault}
use Rattle.commands.specs.declared.Command.{Command}
use Rattle.stages.specs.Buffers.{Buffers, held}
use Rattle.stages.specs.Stage.{fault_number, stage_refusal, plain_state, state_of, grid_of_stage, IsSettled}
use Rattle.stages.specs.Laws.{plain_state_lem, grid_any}
use Rattle.commands.specs.Command.{command_is, kind_of_command}
use Rattle.records.specs.Found.{Found, reading_is, FoundWhole, IsWhole, Finds}
use Rattle.record_to_line.specs.declared.Outcome as code
use Rattle.record_to_line.specs.Outcome.{line_is, Leaves, Carries, CarryNeed, Ready, CarriesCommand}

-- no byte
pub carries_nothing : (stage : Stage) (input : List ℕ) (b : Buffers) → length input ≡ 0 → Carries stage input None b b
unfolding program.found program.outcome_of
carries_nothing stage [] b e = record { same = refl; left_is = refl }
carries_nothing stage (byte ∷ body) b e = absurd (omega (arith, e))

module _ {stage r : Stage} (settled : IsSettled stage r) {byte : ℕ} {body : List ℕ} {answer : Found} (finds : Finds r (byte ∷ body) answer) (b : Buffers) where
  same_state : state_of r b ≡ state_of stage b
  same_state = plain_state_lem r settled.taken b ∙ sym (settled.same b)

  reading_is_lem : reading_is (program.grid_of (state_of stage b)) (byte ∷ body) answer ≡ program.found (state_of stage b) (byte ∷ body)
  reading_is_lem = subst (λ (v : program.State). reading_is (program.grid_of v) (byte ∷ body) answer ≡ program.found v (byte ∷ body)) same_state (finds.reading b)

  whole_is : FoundWhole (state_of stage b) body answer
  whole_is = subst (λ (v : program.State). FoundWhole v body answer) same_state (finds.whole b)

  carries_reading :
      (o : Option code.Outcome) (left : Buffers) →
      Leaves (program.outcome_of (state_of stage b) byte (reading_is (program.grid_of (state_of stage b)) (byte ∷ body) answer)) o b left →
      Carries stage (byte ∷ body) o b left
  carries_reading o left = subst (λ (v : program.Finding). Leaves (program.outcome_of (state_of stage b) byte v) o b left) reading_is_lem

-- ---- what the reader found that is no command
module _ {stage r : Stage} (settled : IsSettled stage r) {byte : ℕ} {body : List ℕ} (b : Buffers) where
  pub carries_none : Finds r (byte ∷ body) (Ok None) → Carries stage (byte ∷ body) None b b
  unfolding program.outcome_of
  carries_none finds = carries_reading settled finds b None b (record { same = refl; left_is = refl })

  pub carries_fault :
      {f : Fault} {n : ℕ} {o : code.Outcome} → Finds r (byte ∷ body) (Err f) → n ≡ fault_number f → line_is o.line ≡ program.line byte n 0 → o.next ≡ None →
      Carries stage (byte ∷ body) (Some o) b b
  unfolding program.outcome_of
  carries_fault {f} {n} {o} finds e is_line last =
      carries_reading settled finds b (Some o) b
      (record { same = rw (last, ← e) (ap program.last is_line); left_is = refl })

-- ---- a stage at which a record other than a grid's is in place has a grid that the program took
taken_of :
    (r : Stage) (k : program.Kind) (b : Buffers) → stage_refusal r ≡ 0 → program.in_place (plain_state r b) k ≡ true →
    (k ≡ program.grid_kind → ⊥) → program.grid_refusal (grid_of_stage r) ≡ 0
taken_of (Gridded h) k b taken placed no_grid = taken
taken_of (Loaded h) k b taken placed no_grid = taken
taken_of Start program.unknown b taken placed no_grid = absurd (false≢true placed)
taken_of Start program.grid_kind b taken placed no_grid = absurd (no_grid refl)
taken_of Start program.load_kind b taken placed no_grid = absurd (false≢true placed)
taken_of Start program.emission_kind b taken placed no_grid = absurd (false≢true placed)
taken_of Start program.withdrawal_kind b taken placed no_grid = absurd (false≢true placed)
taken_of Start program.zonal_kind b taken placed no_grid = absurd (false≢true placed)
taken_of Start program.meridional_kind b taken placed no_grid = absurd (false≢true placed)
taken_of Start program.remap_kind b taken placed no_grid = absurd (false≢true placed)
taken_of Start program.total_kind b taken placed no_grid = absurd (false≢true placed)
taken_of Start program.cell_kind b taken placed no_grid = absurd (false≢true placed)

-- .. and one at which a call is in place holds the buffers' world
loaded_of : (r : Stage) (b : Buffers) → program.is_loaded (plain_state r b) ≡ true → plain_state r b ≡ program.loaded (held (grid_of_stage r) b)
loaded_of Start b e = absurd (false≢true e)
loaded_of (Gridded h) b e = absurd (false≢true e)
loaded_of (Loaded h) b e = refl

-- ---- a record with its command
module _
    {stage r : Stage} (settled : IsSettled stage r) {byte : ℕ} {body : List ℕ} {c : Command} (finds : Finds r (byte ∷ body) (Ok (Some c)))
    (b : Buffers) (g : declared.Grid) (grid : grid_of g ≡ grid_of_stage r) where
  grid_is : grid_of g ≡ program.grid_of (state_of stage b)
  grid_is = grid ∙ sym (ap program.grid_of (settled.same b) ∙ grid_any r b)

  command_is_lem : command_is (grid_of g) body c ≡ command_is (program.grid_of (state_of stage b)) body c
  command_is_lem = ap (λ (x : model.Grid). command_is x body c) grid_is

  is_whole : IsWhole (state_of stage b) body c
  is_whole = whole_is settled finds b

  pub carry_need : CarryNeed g c body
  carry_need =
      record {
        taken =
            λ no_grid.
            ap program.grid_refusal grid ∙
            taken_of r (kind_of_command c) b settled.taken
            (subst (λ (v : program.State). program.in_place v (kind_of_command c) ≡ true) (settled.same b) is_whole.placed) no_grid;
        whole = rw grid_is is_whole.whole;
      }

  -- where the command is a call, the buffers' world is loaded
  ready : Ready g c body b (state_of stage b)
  ready call asked =
      let found : program.found (state_of stage b) (byte ∷ body) ≡ program.command (program.make call) =
      sym (reading_is_lem settled finds b) ∙ ap program.command (sym command_is_lem ∙ asked) in
      let is = (found_call (state_of stage b) byte body call found).0 in
      settled.same b ∙
      loaded_of r b (subst (λ (v : program.State). program.is_loaded v ≡ true) (settled.same b) is) ∙
      ap (λ (x : model.Grid). program.loaded (held x b)) (sym grid)

  pub carries_record :
      {o : code.Outcome} {left : Buffers} → CarriesCommand g byte c body o b left → Carries stage (byte ∷ body) (Some o) b left
  unfolding program.outcome_of
  carries_record {o} {left} carries =
      carries_reading settled finds b (Some o) left
      (subst (λ (v : program.Command). Leaves (program.carried_out (state_of stage b) byte v) (Some o) b left) command_is_lem
      (carries.carries (state_of stage b) ready))
