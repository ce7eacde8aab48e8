-- Laws that the proofs of the carrying functions cite: the outcomes of a grid's record, and what it leaves.
use Rattle.std.specs.Prelude.{ℕ, zero, suc, List, ◌≡◌, refl, None}
use Rattle.std.proofs.Common.{ap, arith}
use Rattle.model.specs.World as model
use Rattle.units.specs.declared.Grid as declared
use Rattle.units.specs.Agrees.{refusal_nonzero}
use Rattle.units.specs.Grid.{grid_of}
use Rattle.program.specs.Records as program
use Rattle.commands.specs.declared.Command.{Command}
use Rattle.commands.specs.declared.Command.TheVariants as command
use Rattle.stages.specs.declared.Fault.TheVariants as fault
use Rattle.stages.specs.declared.GridRefusal.{GridRefusal}
use Rattle.stages.specs.declared.GridRefusal.TheVariants.{Call, Program}
use Rattle.stages.specs.declared.Stage.TheVariants.{Gridded}
use Rattle.stages.specs.Buffers.{Buffers, over}
use Rattle.stages.specs.Stage.{state_of, refused_number}
use Rattle.stages.specs.Laws.{takes}
use Rattle.lines.specs.declared.Line as lines
use Rattle.record_to_line.specs.declared.Outcome as code
use Rattle.record_to_line.specs.Outcome.{line_is, TakesGrid, CarriesCommand, world_after}
use Rattle.record_to_line.specs.Leaves.{goes_on}

-- ---- no refusal of a grid has the number of a taken one
pub refused_nonzero : (r : GridRefusal) → refused_number r ≡ 0 → ⊥
refused_nonzero (Call r) e = refusal_nonzero r e
refused_nonzero (Program fault.Kind) e = omega (arith, e)
refused_nonzero (Program fault.Length) e = omega (arith, e)
refused_nonzero (Program fault.ProgramGrid) e = omega (arith, e)

-- ---- a grid's record: taken, or refused as the program's last line
module _ (byte : ℕ) (wanted : declared.Grid) where
  pub grid_taken :
      {l : lines.Line} → program.grid_refusal (grid_of wanted) ≡ 0 → line_is l ≡ program.line byte 0 0 → TakesGrid byte wanted (goes_on l (Gridded wanted))
  unfolding program.carried_out
  grid_taken taken is_line s b =
      rw (taken, program.carried_out, state_of) (ap (λ (l : program.Line). program.onward l (program.gridded (grid_of wanted))) is_line)

  pub grid_refused :
      (n : ℕ) {o : code.Outcome} → program.grid_refusal (grid_of wanted) ≡ n → (n ≡ 0 → ⊥) → line_is o.line ≡ program.line byte n 0 → o.next ≡ None →
      TakesGrid byte wanted o
  unfolding program.carried_out
  grid_refused zero e nonzero is_line last s b = absurd (nonzero refl)
  grid_refused (suc n) e nonzero is_line last s b = rw (e, program.carried_out, last) (ap program.last is_line)

-- a grid's record leaves no world, so that nothing is written
grid_world : (s : program.State) (byte : ℕ) (g : model.Grid) (b : Buffers) → b ≡ over b (world_after (program.carried_out s byte (program.set_grid g)))
unfolding program.carried_out
grid_world s byte g b = go (program.grid_refusal g) refl
  where
    go : (n : ℕ) → program.grid_refusal g ≡ n → b ≡ over b (world_after (program.carried_out s byte (program.set_grid g)))
    go zero e = rw (e, program.carried_out)
    go (suc n) e = rw (e, program.carried_out)

-- ---- what a command leaves, by its case
module _ {g : declared.Grid} {byte : ℕ} {c : Command} {body : List ℕ} {o : code.Outcome} where
  pub carries_grid : {b : Buffers} {wanted : declared.Grid} → c ≡ command.Grid wanted → TakesGrid byte wanted o → CarriesCommand g byte c body o b b
  carries_grid {b} {wanted} e takes =
      record {
        carries = λ s ready. rw e (record { same = takes s b; left_is = grid_world s byte (grid_of wanted) b });
      }
