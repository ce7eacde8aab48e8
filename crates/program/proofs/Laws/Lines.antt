-- Laws of the records in a list of bytes: the first record, bytes skipped, and the program's loop turn by turn.
use Rattle.std.specs.Prelude.{ℕ, zero, suc, ◌≤◌, List, [], ◌∷◌, ◌≡◌, refl, length, take, drop}
use Rattle.std.proofs.Common.{sym, ◌∙◌, ap, arith, length-drop}
use Rattle.program.specs.Records.{State, Line, Outcome, none, onward, last, found, needed, outcome_of}
use Rattle.program.specs.Lines.{entry, entries_from, lines_of, run}
use Rattle.program.proofs.Laws.Records.{found_taken}

-- ---- the first record of some bytes
module _ (s : State) (byte : ℕ) (bytes : List ℕ) where
  abbrev pub first_outcome : Outcome
  first_outcome = outcome_of s byte (found s (byte ∷ bytes))

  pub entries_none : first_outcome ≡ none → entries_from 0 s (byte ∷ bytes) ≡ []
  unfolding entries_from
  entries_none e = rw (e, entries_from)

  pub entries_onward :
      (l : Line) (next : State) → first_outcome ≡ onward l next →
      entries_from 0 s (byte ∷ bytes) ≡ entry (found s (byte ∷ bytes)) l ∷ entries_from (needed s byte) next bytes
  unfolding entries_from
  entries_onward l next e = rw (e, entries_from)

  pub entries_last : (l : Line) → first_outcome ≡ last l → entries_from 0 s (byte ∷ bytes) ≡ entry (found s (byte ∷ bytes)) l ∷ []
  unfolding entries_from
  entries_last l e = rw (e, entries_from)

-- ---- bytes of a body that has been read are passed over
pub entries_skip : (n : ℕ) (s : State) (bytes : List ℕ) → entries_from n s bytes ≡ entries_from 0 s (drop n bytes)
unfolding entries_from
entries_skip zero s bytes = refl
entries_skip (suc n) s [] = refl
entries_skip (suc n) s (byte ∷ bytes) = entries_skip n s bytes

-- ---- a turn of the loop
module _ (turns : ℕ) (s : State) (byte : ℕ) (bytes : List ℕ) where
  taken : outcome_of s byte (found s (byte ∷ take (needed s byte) bytes)) ≡ first_outcome s byte bytes
  taken = ap (outcome_of s byte) (found_taken s byte bytes)

  run_none : first_outcome s byte bytes ≡ none → run (suc turns) s (byte ∷ bytes) ≡ []
  unfolding run
  run_none e = rw (taken ∙ e, run)

  run_onward :
      (l : Line) (next : State) → first_outcome s byte bytes ≡ onward l next →
      run (suc turns) s (byte ∷ bytes) ≡ l ∷ run turns next (drop (needed s byte) bytes)
  unfolding run
  run_onward l next e = rw (taken ∙ e, run)

  run_last : (l : Line) → first_outcome s byte bytes ≡ last l → run (suc turns) s (byte ∷ bytes) ≡ l ∷ []
  unfolding run
  run_last l e = rw (taken ∙ e, run)

-- ---- the loop prints the line of each record
pub run_lines : (turns : ℕ) (s : State) (bytes : List ℕ) → length bytes ≤ turns → run turns s bytes ≡ lines_of (entries_from 0 s bytes)
unfolding run entries_from lines_of
run_lines zero s [] h = refl
run_lines zero s (byte ∷ bytes) h = absurd (omega arith)
run_lines (suc turns) s [] h = refl
run_lines (suc turns) s (byte ∷ bytes) h =
    go (first_outcome s byte bytes) refl
    (λ next. run_lines turns next (drop (needed s byte) bytes) (omega (arith, length-drop (needed s byte) bytes)))
  where
    go :
        (o : Outcome) → first_outcome s byte bytes ≡ o →
        ((next : State) → run turns next (drop (needed s byte) bytes) ≡ lines_of (entries_from 0 next (drop (needed s byte) bytes))) →
        run (suc turns) s (byte ∷ bytes) ≡ lines_of (entries_from 0 s (byte ∷ bytes))
    go none e rest = run_none turns s byte bytes e ∙ sym (ap lines_of (entries_none s byte bytes e))
    go (onward l next) e rest =
        run_onward turns s byte bytes l next e ∙
        ap (λ (ls : List Line). l ∷ ls)
        (rest next ∙ ap lines_of (sym (entries_skip (needed s byte) next bytes))) ∙
        sym (ap lines_of (entries_onward s byte bytes l next e))
    go (last l) e rest = run_last turns s byte bytes l e ∙ sym (ap lines_of (entries_last s byte bytes l e))
