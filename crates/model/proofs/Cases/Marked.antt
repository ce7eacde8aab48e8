-- Document 01, "Marked cases" m1 to m12, as one table with one theorem about `step`.
-- Assumes nothing. Amounts that document 01 leaves open: the caps hold air 100 and tracer 0 where nothing else is said.
use Rattle.std.specs.Prelude.{ℕ, List, [], ◌∷◌, ◌++◌, refl, ℤ, pos, neg_ℤ, replicate}
use Prim.Native.String.{String}
use Rattle.model.specs.Basic.{joined, tab, zeros}
use Rattle.model.specs.World.{Grid, World, with_amounts}
use Rattle.model.specs.Step.{Call, emission, zonal, remap}
use Rattle.model.proofs.Cases.{Case, Hold, hold, computes, on_record, exchanging}

-- a grid, a world with the ledger that a load leaves, four fluxes, six amounts: south cap, row of four, north cap
abbrev pub grid : ℕ → ℕ → ℕ → ℕ → Grid
grid W R K N = record { W = W; R = R; K = K; N = N }

abbrev pub world : Grid → List ℕ → List ℕ → World
world g air tracers =
    record {
      grid = g;
      air = air;
      tracers = tracers;
      ledger = on_record g tracers (joined (tab g.N (λ t. zeros 51 ++ 1 ∷ 0 ∷ 0 ∷ 0 ∷ 0 ∷ [])));
    }

abbrev pub four : {A : Type 0} → A → A → A → A → List A
four a b c d = a ∷ b ∷ c ∷ d ∷ []

abbrev pub six : ℕ → ℕ → ℕ → ℕ → ℕ → ℕ → List ℕ
six s a b c d n = s ∷ a ∷ b ∷ c ∷ d ∷ n ∷ []

abbrev pub row : List ℕ → List ℕ → World
row air tracers = world (grid 4 1 1 1) air tracers

-- a case in which the call is accepted, and one in which it is refused and nothing changes
abbrev pub gives : String → World → Call → ℕ → List ℕ → List ℕ → Case
gives label w call count air tracers =
    record {
      label = label;
      world = w;
      call = call;
      expected = record { answer = 0; count = count; next = with_amounts (exchanging w tracers) air tracers };
    }

abbrev pub refuses : String → World → Call → ℕ → Case
refuses label w call number =
    record { label = label; world = w; call = call; expected = record { answer = number; count = 0; next = w } }

-- "Row of four, air 100 each, tracer 0, 100, 200, 100 for m1 to m5."
abbrev pub hundreds : List ℕ
hundreds = replicate 6 100

abbrev pub peak : World
peak = row hundreds (six 0 0 100 200 100 0)

abbrev pub sweep : ℤ → ℤ → ℤ → ℤ → Call
sweep a b c d = zonal 0 0 (four a b c d)

-- m9: three layers of six cells, 0, 100, 200 down every column; the row's columns and the caps' columns
abbrev pub stair : World
stair = world (grid 4 1 3 1) (replicate 18 100) (six 0 0 0 0 0 0 ++ hundreds ++ replicate 6 200)

pub marked : List Case
marked =
    gives "m1" peak (sweep (pos 0) (pos 50) (pos 0) (pos 0)) 1 (six 100 100 50 150 100 100) (six 0 0 38 262 100 0) ∷
    gives "m2" peak (sweep (neg_ℤ (pos 50)) (pos 0) (pos 0) (pos 0)) 1 (six 100 150 50 100 100 100) (six 0 37 63 200 100 0) ∷
    gives "m3" peak (sweep (pos 0) (pos 0) (pos 50) (pos 0)) 1 (six 100 100 100 50 150 100) (six 0 0 100 100 200 0) ∷
    gives "m4" peak (sweep (pos 0) (pos 99) (pos 0) (pos 0)) 1 (six 100 100 1 199 100 100) (six 0 0 1 299 100 0) ∷
    refuses "m5" peak (sweep (pos 0) (pos 100) (pos 0) (pos 0)) 9 ∷
    gives "m6" (row hundreds (replicate 6 300)) (sweep (pos 150) (pos 150) (pos 150) (pos 150)) 2 hundreds (replicate 6 300) ∷
    gives "m7" (world (grid 5 1 1 1) (replicate 7 100) (0 ∷ 10 ∷ 20 ∷ 30 ∷ 40 ∷ 50 ∷ 0 ∷ [])) (zonal 0 0 (replicate 5 (pos 1600))) 16
    (replicate 7 100)
    (0 ∷ 50 ∷ 10 ∷ 20 ∷ 30 ∷ 40 ∷ 0 ∷ []) ∷
    refuses "m8" peak (sweep (pos 1601) (pos 1601) (pos 1601) (pos 1601)) 9 ∷
    gives "m9" stair (remap (0 ∷ 0 ∷ 0 ∷ 32768 ∷ 200 ∷ 0 ∷ 0 ∷ 65536 ∷ [])) 24 (replicate 6 150 ++ replicate 6 50 ++ hundreds)
    (six 50 37 37 37 37 50 ++ six 50 63 63 63 63 50 ++ replicate 6 200) ∷
    refuses "m10" (world (grid 4 1 2 1) (replicate 12 1) (replicate 12 0)) (remap (0 ∷ 0 ∷ 0 ∷ 16384 ∷ 0 ∷ 65536 ∷ [])) 12 ∷
    gives "m11" (row hundreds (six 0 268435455 0 0 0 0)) (emission 0 1 0) 0 hundreds (six 0 268435455 0 0 0 0) ∷
    refuses "m12" (row hundreds (six 0 268435455 0 0 0 0)) (emission 0 1 1) 6 ∷
    []

pub marked_cases_hold : Hold marked
unfolding marked computes
marked_cases_hold = hold marked refl
