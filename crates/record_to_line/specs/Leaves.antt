-- Laws of what a record leaves in the program's buffers: a world written over their first entries, or nothing written.
use Rattle.std.specs.Prelude.{ℕ, zero, suc, List, ◌≡◌, Some, Result}
use Rattle.std.proofs.Math.Path.{refl, ap, ap₂, subst}
use Rattle.std.proofs.Common.{sym, ◌∙◌}
use Rattle.model.specs.World as model
use Rattle.model.specs.Step.{Call, load, step}
use Rattle.model.specs.Lists.{loaded_world}
use Rattle.units.specs.declared.Grid as declared
use Rattle.units.specs.declared.Refusal.{Refusal}
use Rattle.units.specs.Answer.{number_of, count_of}
use Rattle.units.specs.Grid.{grid_of}
use Rattle.program.specs.Records as program
use Rattle.stages.specs.declared.Stage.{Stage}
use Rattle.stages.specs.declared.Stage.TheVariants.{Gridded, Loaded}
use Rattle.stages.specs.Buffers.{Buffers, held}
use Rattle.stages.specs.Stage.{state_of}
use Rattle.lines.specs.declared.Line as lines
use Rattle.record_to_line.specs.declared.Outcome as code
use Rattle.record_to_line.specs.Outcome.{line_is, load_world, Leaves, AnswersLoad, Made, TakesLoad}

-- a line is that of a call's answer, and the program goes on after it
abbrev pub IsLine : lines.Line → ℕ → Result ℕ Refusal → Type 0
IsLine l byte x = line_is l ≡ program.line byte (number_of x) (count_of x)

abbrev pub goes_on : lines.Line → Stage → code.Outcome
goes_on l stage = record { line = l; next = Some stage }

-- ---- the state after a load
loaded_after : (w : model.World) → (step w load).answer ≡ 0 → program.after_load w ≡ program.loaded (loaded_world w)
loaded_after w e = rw (e, program.after_load)

gridded_after : (w : model.World) (n : ℕ) → (step w load).answer ≡ n → (n ≡ 0 → ⊥) → program.after_load w ≡ program.gridded w.grid
gridded_after w zero e nonzero = absurd (nonzero refl)
gridded_after w (suc n) e nonzero = rw (e, program.after_load)

-- ---- a call's record, and a load's
module _ {g : declared.Grid} (taken : program.grid_refusal (grid_of g) ≡ 0) where
  loaded_is : {w : model.World} {call : Call} {x : Result ℕ Refusal} {b left : Buffers} → Made g w call x b left → state_of (Loaded g) left ≡ program.loaded (step w call).next
  loaded_is made = rw (taken, state_of) (ap program.loaded made.held_is)

  pub call_leaves :
      {byte : ℕ} {call : Call} {x : Result ℕ Refusal} {l : lines.Line} {b left : Buffers} → IsLine l byte x → Made g (held (grid_of g) b) call x b left →
      Leaves (program.carried_out (program.loaded (held (grid_of g) b)) byte (program.make call)) (Some (goes_on l (Loaded g))) b left
  unfolding program.carried_out
  call_leaves {byte} is_line made =
      record {
        same = ap₂ program.onward (is_line ∙ ap₂ (program.line byte) made.number made.count) (loaded_is made);
        left_is = made.left_is;
      }

  module _ {byte : ℕ} {body : List ℕ} {x : Result ℕ Refusal} {l : lines.Line} (is_line : IsLine l byte x) (answers : AnswersLoad g body x) where
    line_is_lem : line_is l ≡ program.line byte (step (load_world g body) load).answer (step (load_world g body) load).count
    line_is_lem = is_line ∙ ap₂ (program.line byte) answers.number answers.count

    -- what a load leaves, from what is left with the state after it
    load_onward :
        (o : code.Outcome) (b left : Buffers) (next : program.State) → program.after_load (load_world g body) ≡ next →
        Leaves (program.onward (program.line byte (step (load_world g body) load).answer (step (load_world g body) load).count) next) (Some o) b left →
        TakesLoad g byte body o b left
    unfolding program.carried_out
    load_onward o b left next e leaves s =
        subst (λ (v : program.State). Leaves (program.onward (program.line byte (step (load_world g body) load).answer (step (load_world g body) load).count) v) (Some o) b left) (sym e) leaves

    -- an accepted load
    pub load_leaves :
        number_of x ≡ 0 → {y : Result ℕ Refusal} {b left : Buffers} → Made g (load_world g body) load y b left → TakesLoad g byte body (goes_on l (Loaded g)) b left
    load_leaves zeroed {b = b} {left = left} made =
        load_onward (goes_on l (Loaded g)) b left (program.loaded (loaded_world (load_world g body)))
        (loaded_after (load_world g body) (sym answers.number ∙ zeroed))
        (record { same = ap₂ program.onward line_is_lem (loaded_is made); left_is = made.left_is })

    -- a refused load: nothing is written
    pub load_refused : (number_of x ≡ 0 → ⊥) → (b : Buffers) → TakesLoad g byte body (goes_on l (Gridded g)) b b
    load_refused nonzero b =
        load_onward (goes_on l (Gridded g)) b b (program.gridded (grid_of g))
        (gridded_after (load_world g body) _ refl (λ e. nonzero (answers.number ∙ e)))
        (record { same = ap₂ program.onward line_is_lem (rw (taken, state_of)); left_is = refl })
