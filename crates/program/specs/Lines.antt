-- Document 01, "The runner program": for every list of bytes, its records and the lines that the program prints.
use Rattle.std.specs.Prelude.{ℕ, zero, suc, List, [], ◌∷◌, ◌++◌, take, drop}
use Rattle.program.specs.Bytes.{decimal}
use Rattle.program.specs.Records.{State, start, Line, Finding, none, onward, last, found, needed, outcome_of}

-- A record that was read: what the reader found, and the line that it prints
pub record Entry : Type 0 where
  pub finding : Finding
  pub printed : Line

abbrev pub entry : Finding → Line → Entry
entry finding printed = record { finding = finding; printed = printed }

-- The records in a list of bytes, of which the first `skipped` belong to a body that has been read.
-- "It reads standard input: one byte of kind, then a body". "Empty input prints nothing."
unfoldable pub entries_from : ℕ → State → List ℕ → List Entry
entries_from skipped s [] = []
entries_from (suc skipped) s (byte ∷ bytes) = entries_from skipped s bytes
entries_from zero s (byte ∷ bytes) =
    elim (outcome_of s byte (found s (byte ∷ bytes))) [
      | none ↦ []
      | onward l next ↦ entry (found s (byte ∷ bytes)) l ∷ entries_from (needed s byte) next bytes
      | last l ↦ entry (found s (byte ∷ bytes)) l ∷ []
    ]

abbrev pub entries : List ℕ → List Entry
entries bytes = entries_from zero start bytes

-- the lines that the program prints
unfoldable pub lines_of : List Entry → List Line
lines_of [] = []
lines_of (e ∷ es) = e.printed ∷ lines_of es

abbrev pub lines : List ℕ → List Line
lines bytes = lines_of (entries bytes)

-- "kind, answer (0 if accepted), count, in decimal with single spaces": a line as text, with its end
abbrev pub text : Line → List ℕ
text l = decimal l.kind ++ 32 ∷ decimal l.answer ++ 32 ∷ decimal l.count ++ 10 ∷ []

-- The program's loop: one byte, then the bytes that it needs or what is left of them, then the record carried out, until it ends or its turns are used up
unfoldable pub run : ℕ → State → List ℕ → List Line
run zero s bytes = []
run (suc turns) s [] = []
run (suc turns) s (byte ∷ bytes) =
    elim (outcome_of s byte (found s (byte ∷ take (needed s byte) bytes))) [
      | none ↦ []
      | onward l next ↦ l ∷ run turns next (drop (needed s byte) bytes)
      | last l ↦ l ∷ []
    ]
