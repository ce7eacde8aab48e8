-- Document 01's case P and further inputs of the program, byte by byte, as one table with one theorem about `lines`.
use Rattle.std.specs.Prelude.{ℕ, Bool, true, false, ◌&&◌, ◌≡◌, refl, eqb, take, replicate}
use Prim.Native.String.{String}
use mathlib.Core.List.{List, [], ◌∷◌, ◌++◌, cons≢nil}
use Rattle.std.proofs.Math.Bool.{and-eq-true_iff}
use Rattle.std.proofs.lemmas.Bool.{false≢true}
use Rattle.std.proofs.Common.{ap₂, eqb-true}
use Rattle.model.proofs.Cases.{computes}
use Rattle.program.specs.Bytes.{number, digits}
use Rattle.program.specs.Records.{Line, line, found, carried_out, outcome_of}
use Rattle.program.specs.Lines.{entries_from, lines_of, lines, text}

pub record Case : Type 0 where
  pub label : String
  pub input : List ℕ
  pub printed : List Line

abbrev case : String → List ℕ → List Line → Case
case label input printed = record { label = label; input = input; printed = printed }

-- what a table claims: each input prints its lines
abbrev pub AllPrint : List Case → Type 0
AllPrint [] = Unit {0}
AllPrint (c ∷ cs) = (lines c.input ≡ c.printed) × AllPrint cs

-- equality of lines, as a test
unfoldable pub same_lines : List Line → List Line → Bool
same_lines [] [] = true
same_lines [] (m ∷ ms) = false
same_lines (l ∷ ls) [] = false
same_lines (l ∷ ls) (m ∷ ms) =
    (eqb l.kind m.kind && eqb l.answer m.answer && eqb l.count m.count) && same_lines ls ms

-- the labels of the cases that print something else
unfoldable pub failing : List Case → List String
failing [] = []
failing (c ∷ cs) = elim (same_lines (lines c.input) c.printed) [ true ↦ failing cs | false ↦ c.label ∷ failing cs ]

line_eq : (l m : Line) → eqb l.kind m.kind && eqb l.answer m.answer && eqb l.count m.count ≡ true → l ≡ m
line_eq l m e =
    let p = (and-eq-true_iff (eqb l.kind m.kind && eqb l.answer m.answer) (eqb l.count m.count)).0 e in
    let q = (and-eq-true_iff (eqb l.kind m.kind) (eqb l.answer m.answer)).0 p.0 in
    λ i.
    record {
      kind = eqb-true l.kind m.kind q.0 i;
      answer = eqb-true l.answer m.answer q.1 i;
      count = eqb-true l.count m.count p.1 i;
    }

lines_eq : (ls ms : List Line) → same_lines ls ms ≡ true → ls ≡ ms
unfolding same_lines
lines_eq [] [] e = refl
lines_eq [] (m ∷ ms) e = absurd (false≢true e)
lines_eq (l ∷ ls) [] e = absurd (false≢true e)
lines_eq (l ∷ ls) (m ∷ ms) e =
    let p = (and-eq-true_iff _ (same_lines ls ms)).0 e in
    ap₂ ◌∷◌ (line_eq l m p.0) (lines_eq ls ms p.1)

first_passes :
    (c : Case) (cs : List Case) (b : Bool) → same_lines (lines c.input) c.printed ≡ b → failing (c ∷ cs) ≡ [] →
    (b ≡ true) × (failing cs ≡ [])
unfolding failing
first_passes c cs true e h = (refl, rw (e, failing) at h)
first_passes c cs false e h = absurd (cons≢nil (rw (e, failing) at h))

-- a table without failing cases is a theorem of every case in it
pub hold : (cs : List Case) → failing cs ≡ [] → AllPrint cs
hold [] h = tt
hold (c ∷ cs) h = let p = first_passes c cs _ refl h in (lines_eq (lines c.input) c.printed p.0, hold cs p.1)

-- a number below 256 in 4 bytes
abbrev four : ℕ → List ℕ
four n = n ∷ 0 ∷ 0 ∷ 0 ∷ []

-- ---- the records of case P
abbrev grid_record : List ℕ
grid_record = 1 ∷ 4 ∷ 1 ∷ 1 ∷ 1 ∷ []

abbrev load_of : ℕ → List ℕ
load_of southAir =
    2 ∷
    four southAir ++ four 100 ++ four 100 ++ four 100 ++ four 100 ++ four 100 ++
    four 0 ++ four 0 ++ four 100 ++ four 200 ++ four 100 ++ four 0

abbrev zonal_record : List ℕ
zonal_record = 5 ∷ 0 ∷ 0 ∷ four 0 ++ four 50 ++ four 0 ++ four 0

abbrev case_p : List ℕ
case_p = grid_record ++ load_of 100 ++ zonal_record ++ 8 ∷ 0 ∷ 9 ∷ 0 ∷ 3 ∷ 0 ∷ []

abbrev started : List Line
started = line 1 0 0 ∷ line 2 0 0 ∷ []

pub cases : List Case
cases =
    case "P" case_p (started ++ line 5 0 1 ∷ line 8 0 400 ∷ line 9 0 262 ∷ []) ∷
    case "empty input" [] [] ∷
    case "kind before length: unknown" (200 ∷ []) (line 200 13 0 ∷ []) ∷
    case "kind before length: out of place" (3 ∷ 0 ∷ []) (line 3 13 0 ∷ []) ∷
    case "0 is no kind" (0 ∷ []) (line 0 13 0 ∷ []) ∷
    case "10 is no kind" (grid_record ++ load_of 100 ++ 10 ∷ []) (started ++ line 10 13 0 ∷ []) ∷
    case "length before the grid's places" (1 ∷ 0 ∷ 0 ∷ 0 ∷ []) (line 1 14 0 ∷ []) ∷
    case "1 before 15" (1 ∷ 73 ∷ 44 ∷ 32 ∷ 8 ∷ 8 ∷ []) (line 1 1 0 ∷ []) ∷
    case "15 by its cells" (1 ∷ 63 ∷ 1 ∷ 32 ∷ 1 ∷ []) (line 1 15 0 ∷ []) ∷
    case "most cells" (1 ∷ 62 ∷ 1 ∷ 32 ∷ 2 ∷ []) (line 1 0 0 ∷ []) ∷
    case "15 by its tracers" (1 ∷ 4 ∷ 1 ∷ 1 ∷ 3 ∷ []) (line 1 15 0 ∷ []) ∷
    case "a second grid" (grid_record ++ grid_record) (line 1 0 0 ∷ line 1 13 0 ∷ []) ∷
    case "a call before the load" (grid_record ++ 8 ∷ 0 ∷ []) (line 1 0 0 ∷ line 8 13 0 ∷ []) ∷
    case "a refused load unloads" (grid_record ++ load_of 100 ++ load_of 0 ++ 8 ∷ 0 ∷ [])
    (started ++ line 2 3 0 ∷ line 8 13 0 ∷ []) ∷
    case "a load again" (grid_record ++ load_of 0 ++ load_of 100 ++ 8 ∷ 0 ∷ [])
    (line 1 0 0 ∷ line 2 3 0 ∷ line 2 0 0 ∷ line 8 0 400 ∷ []) ∷
    case "a load that ends one byte early" (grid_record ++ take 48 (load_of 100)) (line 1 0 0 ∷ line 2 14 0 ∷ []) ∷
    case "a refused call leaves the world, and the program goes on"
    (grid_record ++ load_of 100 ++ 4 ∷ 0 ∷ 3 ∷ 0 ∷ four 201 ++ 4 ∷ 0 ∷ 3 ∷ 0 ∷ four 200 ++ 8 ∷ 0 ∷ [])
    (started ++ line 4 7 0 ∷ line 4 0 0 ∷ line 8 0 200 ∷ []) ∷
    case "numbers of 2 and 4 bytes, the low byte first"
    (grid_record ++ load_of 100 ++ 3 ∷ 0 ∷ 3 ∷ 0 ∷ 1 ∷ 2 ∷ 3 ∷ 4 ∷ 9 ∷ 0 ∷ 3 ∷ 0 ∷ 9 ∷ 0 ∷ 0 ∷ 1 ∷ [])
    (started ++ line 3 0 0 ∷ line 9 0 67306185 ∷ line 9 5 0 ∷ []) ∷
    case "a westward flux, and the flux of no 32-bit size"
    (grid_record ++ load_of 100 ++ 5 ∷ 0 ∷ 0 ∷ 206 ∷ 255 ∷ 255 ∷ 255 ∷ four 0 ++ four 0 ++ four 0 ++ 9 ∷ 0 ∷ 1 ∷ 0 ∷ 5 ∷ 0 ∷ 0 ∷ 0 ∷ 0 ∷ 0 ∷ 128 ∷ four 0 ++ four 0 ++ four 0)
    (started ++ line 5 0 1 ∷ line 9 0 37 ∷ line 5 8 0 ∷ []) ∷
    case "a meridional sweep and a remap"
    (grid_record ++ load_of 100 ++ 6 ∷ 0 ∷ four 0 ++ four 10 ++ replicate 24 0 ++ 7 ∷ replicate 14 0 ++ 1 ∷ 0 ∷ 9 ∷ 0 ∷ 0 ∷ 0 ∷ [])
    (started ++ line 6 0 1 ∷ line 7 0 6 ∷ line 9 0 0 ∷ []) ∷
    case "nothing is read after the last line" (grid_record ++ 11 ∷ grid_record) (line 1 0 0 ∷ line 11 13 0 ∷ []) ∷
    []

pub cases_print : AllPrint cases
unfolding computes number found carried_out outcome_of entries_from lines_of same_lines failing cases
cases_print = hold cases refl

-- the text of a line
pub texts : text (line 200 13 0) ++ text (line 8 0 268435455) ≡ 50 ∷ 48 ∷ 48 ∷ 32 ∷ 49 ∷ 51 ∷ 32 ∷ 48 ∷ 10 ∷ 56 ∷ 32 ∷ 48 ∷ 32 ∷ 50 ∷ 54 ∷ 56 ∷ 52 ∷ 51 ∷ 53 ∷ 52 ∷ 53 ∷ 53 ∷ 10 ∷ []
unfolding digits
texts = refl
