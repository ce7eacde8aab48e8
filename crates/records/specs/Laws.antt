-- Laws that the proofs of the reader's functions cite: the bytes needed and what is found, from what the tests tell.
use Rattle.std.specs.Prelude.{ℕ, ◌-◌, ◌≤◌, ◌<◌, List, [], ◌∷◌, Bool, true, false, ◌≡◌, refl, length, take, drop, None, Some, Ok, Err}
use Rattle.std.proofs.Common.{sym, ◌∙◌, ap, ap₂, arith, length-drop, take_all}
use Rattle.model.specs.World as model
use Rattle.program.specs.Records as program
use Rattle.program.proofs.Laws.Records.{needed_none, needed_body, found_misplaced, found_short, found_command}
use Rattle.stages.specs.Buffers.{Buffers, empty}
use Rattle.stages.specs.Limits.{program_body}
use Rattle.stages.specs.declared.Stage.{Stage}
use Rattle.stages.specs.declared.Fault.{Fault}
use Rattle.stages.specs.declared.Fault.TheVariants as fault
use Rattle.stages.specs.Stage.{plain_state, state_of, grid_of_stage, IsSettled}
use Rattle.stages.specs.Laws.{grid_any}
use Rattle.kinds.specs.declared.Kind as code
use Rattle.kinds.specs.Kind.{kind_is}
use Rattle.kinds.specs.Laws.{place_any}
use Rattle.commands.specs.declared.Command.{Command}
use Rattle.commands.specs.Command.{Parses}
use Rattle.records.specs.Found.{IsPlaced, NeedsBytes, Finds}

-- the part of a list after its first a entries
pub take_rest : (l : List ℕ) (a : ℕ) → take (length l - a) (drop a l) ≡ drop a l
take_rest l a = take_all (length l - a) (drop a l) (omega (arith, length-drop a l))

-- ---- no byte
pub finds_nothing : (stage : Stage) (input : List ℕ) → length input ≡ 0 → Finds stage input (Ok None)
unfolding program.found
finds_nothing stage [] e = record { reading = λ b. refl; whole = λ b. tt }
finds_nothing stage (byte ∷ body) e = absurd (omega (arith, e))

-- ---- a kind byte, from what its place tells
module _ {stage r : Stage} (settled : IsSettled stage r) (byte : ℕ) where
  module _ (b : Buffers) where
    in_state : (v : Bool) → program.in_place (plain_state r empty) (program.kind_of byte) ≡ v → program.in_place (state_of stage b) (program.kind_of byte) ≡ v
    in_state v e = rw (settled.same b) (place_any r b (program.kind_of byte) ∙ e)

    grid_in_state : grid_of_stage r ≡ program.grid_of (state_of stage b)
    grid_in_state = sym (ap program.grid_of (settled.same b) ∙ grid_any r b)

  module _ {f : Fault} (misplaced : IsPlaced (plain_state r empty) byte (Err f)) where
    pub needs_none : NeedsBytes stage byte 0
    needs_none =
        record {
          number = λ b. sym (needed_none (state_of stage b) byte [] (in_state b false misplaced.0));
          few = omega arith;
        }

    pub finds_misplaced : (body : List ℕ) → Finds stage (byte ∷ body) (Err f)
    finds_misplaced body =
        rw misplaced.1
        record {
          reading = λ b. sym (found_misplaced (state_of stage b) byte body (in_state b false misplaced.0));
          whole = λ b. tt;
        }

  -- .. of a known kind in its place
  module _ (k : code.Kind) (placed : IsPlaced (plain_state r empty) byte (Ok k)) {g : model.Grid} (same : g ≡ grid_of_stage r) where
    length_in_state :
        (b : Buffers) → program.body_length g (kind_is k) ≡ program.body_length (program.grid_of (state_of stage b)) (program.kind_of byte)
    length_in_state b = ap₂ program.body_length (same ∙ grid_in_state b) placed.0

    pub needs_body : {n : ℕ} → n ≡ program.body_length g (kind_is k) → n ≤ program_body → NeedsBytes stage byte n
    needs_body long few =
        record {
          number = λ b. long ∙ length_in_state b ∙ sym (needed_body (state_of stage b) byte [] (in_state b true placed.1));
          few = few;
        }

    module _ {body : List ℕ} where
      pub finds_short : length body < program.body_length g (kind_is k) → Finds stage (byte ∷ body) (Err fault.Length)
      finds_short h =
          record {
            reading =
                λ b.
                sym (found_short (state_of stage b) byte body (in_state b true placed.1) (omega (arith, length_in_state b)));
            whole = λ b. tt;
          }

      pub finds_record :
          program.body_length g (kind_is k) ≤ length body → {c : Command} → Parses (kind_is k) body c → Finds stage (byte ∷ body) (Ok (Some c))
      finds_record h parsed =
          record {
            reading =
                λ b.
                ap program.command
                (parsed.commands _ ∙ ap (λ (x : program.Kind). program.command_of (program.grid_of (state_of stage b)) x body) placed.0) ∙
                sym
                (found_command (state_of stage b) byte body (in_state b true placed.1)
                (omega (arith, length_in_state b)));
            whole =
                λ b.
                record {
                  placed = ap (program.in_place (state_of stage b)) (parsed.same_kind ∙ placed.0) ∙ in_state b true placed.1;
                  whole = rw (parsed.same_kind, ← grid_in_state b, ← same) h;
                };
          }
