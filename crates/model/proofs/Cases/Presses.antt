-- 76 cases under labels from y5-1 to y5-46 for document 02, Slip 5: the count before the sweep and the sweep with a given count, as one table with one theorem about `step`. m7's row, with every number that may be given, is in Presses.antt.
-- Assumes nothing. Numbers that the documents do not give come from the second implementation (reference/cases/presses.txt), whose labels these are.
use Rattle.std.specs.Prelude.{ℕ, List, [], ◌∷◌, ◌++◌, refl, ℤ, pos, neg_ℤ, replicate}
use Prim.Native.String.{String}
use Rattle.model.specs.World.{World}
use Rattle.model.specs.Step.{Call, count_zonal, zonal_with_count}
use Rattle.model.proofs.Cases.{Case, Hold, hold, computes, on_record}
use Rattle.model.proofs.Cases.Marked.{grid, world, four, six, row, gives, refuses, hundreds, peak}
use Rattle.model.proofs.Cases.Further.{keeps, ten}

-- the two calls on row 0 of layer 0
abbrev counting : ℤ → ℤ → ℤ → ℤ → Call
counting a b c d = count_zonal 0 0 (four a b c d)

abbrev given : ℕ → ℤ → ℤ → ℤ → ℤ → Call
given n a b c d = zonal_with_count 0 0 n (four a b c d)

abbrev all : ℕ → (ℤ → ℤ → ℤ → ℤ → Call) → Call
all f call = call (pos f) (pos f) (pos f) (pos f)

-- a call that is refused with a number for each of some given counts
unfoldable refuses_each : String → World → (ℕ → Call) → ℕ → List ℕ → List Case
refuses_each label w call number [] = []
refuses_each label w call number (n ∷ ns) = refuses label w (call n) number ∷ refuses_each label w call number ns

-- a cell with little air: of fluxes 20, 0, 0, 21 only 14 serves, of 9, 0, 0, 10 those from 5 on but 6
abbrev thin : World
thin = row (six 100 1 1000 1000 1000 100) (six 0 5 700 300 900 0)

abbrev uneven : World
uneven = row (six 100 90 120 60 130 100) (six 0 40 300 5 170 0)

-- two rows, layers and tracers, each row with a count of its own
abbrev rows_air : List ℕ
rows_air = ten 138 53 33 41 48 61 64 96 55 72 ++ ten 97 45 28 39 38 122 109 120 115 85

abbrev rows_gas : List ℕ
rows_gas =
    ten 10 3 250 88 131 40 97 222 15 60 ++ ten 70 12 180 33 205 141 9 64 118 52 ++
    ten 5 7 11 13 17 19 23 29 31 37 ++ ten 41 143 47 53 59 61 167 71 73 79

abbrev rows : World
rows = world (grid 4 2 2 2) rows_air rows_gas

abbrev wind : List ℤ
wind = four (pos 101) (pos 98) (pos 105) (pos 96)

-- a world whose ledger no call on emitters would take
abbrev broken : List ℕ → List ℕ → World
broken air tracers =
    record { grid = grid 4 1 1 1; air = air; tracers = tracers; ledger = on_record (grid 4 1 1 1) tracers (17 ∷ replicate 50 9 ++ 1 ∷ 0 ∷ 0 ∷ 0 ∷ 0 ∷ []) }

abbrev peak_broken : World
peak_broken = broken hundreds (six 0 0 100 200 100 0)

pub presses : List Case
presses =
    -- m1: the count, the sweep with it, and with others: one less, one more, 16, 17, 2^32 − 1, and one with 1 in its low bits
    keeps "y5-1 count" peak (counting (pos 0) (pos 50) (pos 0) (pos 0)) 1 ∷
    gives "y5-1" peak (given 1 (pos 0) (pos 50) (pos 0) (pos 0)) 1 (six 100 100 50 150 100 100) (six 0 0 38 262 100 0) ∷
    refuses_each "y5-2" peak (λ n. given n (pos 0) (pos 50) (pos 0) (pos 0)) 20 (0 ∷ 2 ∷ 16 ∷ 17 ∷ 257 ∷ 4294967295 ∷ []) ++
    -- m6: 1 does not serve, 3 and 16 do; m6's fluxes with m1's tracer
    keeps "y5-3 count" (row hundreds (six 0 300 300 300 300 0)) (all 150 counting) 2 ∷
    keeps "y5-3" (row hundreds (six 0 300 300 300 300 0)) (all 150 (given 2)) 2 ∷
    refuses_each "y5-4" (row hundreds (six 0 300 300 300 300 0)) (λ n. all 150 (given n)) 20 (0 ∷ 1 ∷ 3 ∷ 16 ∷ 17 ∷ 4294967295 ∷ []) ++
    gives "y5-14" peak (all 150 (given 2)) 2 hundreds (six 0 163 44 38 155 0) ∷
    -- m7, in a row of four and of five
    refuses_each "y5-6" peak (λ n. all 1600 (given n)) 20 (15 ∷ 17 ∷ []) ++
    gives "y5-7" (world (grid 5 1 1 1) (replicate 7 100) (0 ∷ 0 ∷ 100 ∷ 200 ∷ 100 ∷ 37 ∷ 0 ∷ [])) (zonal_with_count 0 0 16 (replicate 5 (pos 1600))) 16
    (replicate 7 100)
    (0 ∷ 37 ∷ 0 ∷ 100 ∷ 200 ∷ 100 ∷ 0 ∷ []) ∷
    -- m8 and m5: 9 and not 20, whatever is given
    refuses "y5-8 count" peak (all 1601 counting) 9 ∷
    refuses_each "y5-8" peak (λ n. all 1601 (given n)) 9 (0 ∷ 16 ∷ 17 ∷ []) ++
    refuses_each "y5-9" peak (λ n. given n (pos 0) (pos 100) (pos 0) (pos 0)) 9 (0 ∷ 1 ∷ []) ++
    -- y5-10: only 14 serves. y5-11: 5 and 7 to 16 serve, and 6 does not
    keeps "y5-10 count" thin (counting (pos 20) (pos 0) (pos 0) (pos 21)) 14 ∷
    refuses_each "y5-10" thin (λ n. given n (pos 20) (pos 0) (pos 0) (pos 21)) 20 (13 ∷ 16 ∷ []) ++
    gives "y5-10" thin (given 14 (pos 20) (pos 0) (pos 0) (pos 21)) 14 (six 100 2 1020 1000 979 100) (six 0 1 712 300 892 0) ∷
    keeps "y5-11 count" thin (counting (pos 9) (pos 0) (pos 0) (pos 10)) 5 ∷
    refuses_each "y5-11" thin (λ n. given n (pos 9) (pos 0) (pos 0) (pos 10)) 20 (4 ∷ 6 ∷ 7 ∷ 16 ∷ []) ++
    gives "y5-11" thin (given 5 (pos 9) (pos 0) (pos 0) (pos 10)) 5 (six 100 2 1009 1000 990 100) (six 0 1 710 300 894 0) ∷
    -- no flux: 1 is the count, and 2 and 16, which serve, are refused
    keeps "y5-13" peak (all 0 (given 1)) 1 ∷
    refuses_each "y5-13" peak (λ n. all 0 (given n)) 20 (0 ∷ 2 ∷ 16 ∷ []) ++
    -- uneven air: eastward, westward, both; the same press again, when the air has changed
    refuses_each "y5-16" uneven (λ n. given n (pos 170) (pos 150) (pos 160) (pos 140)) 20 (2 ∷ 4 ∷ []) ++
    gives "y5-16" uneven (given 3 (pos 170) (pos 150) (pos 160) (pos 140)) 3 (six 100 60 140 50 150 100) (six 0 66 145 70 234 0) ∷
    refuses "y5-24" (row (six 100 60 140 50 150 100) (six 0 66 145 70 234 0)) (given 3 (pos 170) (pos 150) (pos 160) (pos 140)) 20 ∷
    gives "y5-18" uneven (given 3 (neg_ℤ (pos 170)) (neg_ℤ (pos 151)) (neg_ℤ (pos 160)) (neg_ℤ (pos 143))) 3
    (six 100 117 101 69 113 100)
    (six 0 169 110 77 159 0) ∷
    gives "y5-20" (row (six 100 1000 100 100 500 100) (six 0 800 30 250 90 0)) (given 4 (pos 300) (pos 320) (pos 301) (neg_ℤ (pos 50))) 4
    (six 100 650 80 119 851 100)
    (six 0 522 65 94 489 0) ∷
    -- 8, 5, 4, 3, 2 and 1 before 20
    refuses "y5-28 count" peak (counting (pos 1048561) (pos 0) (pos 0) (pos 0)) 8 ∷
    refuses_each "y5-28" peak (λ n. given n (pos 1048561) (pos 0) (pos 0) (pos 0)) 8 (0 ∷ 17 ∷ []) ++
    refuses "y5-28 limit" peak (given 0 (pos 1048560) (pos 0) (pos 0) (pos 0)) 9 ∷
    refuses "y5-29 layer" peak (count_zonal 1 0 (four (pos 0) (pos 50) (pos 0) (pos 0))) 5 ∷
    refuses "y5-29 row" peak (count_zonal 0 1 (four (pos 0) (pos 50) (pos 0) (pos 0))) 5 ∷
    refuses "y5-29 given, layer" peak (zonal_with_count 1 0 17 (four (pos 0) (pos 1048561) (pos 0) (pos 0))) 5 ∷
    refuses "y5-29 given, row" peak (zonal_with_count 0 1 1 (four (pos 0) (pos 50) (pos 0) (pos 0))) 5 ∷
    refuses "y5-30 count" (row hundreds (six 268435056 0 100 200 100 0)) (counting (pos 0) (pos 50) (pos 0) (pos 0)) 4 ∷
    refuses "y5-30" (row hundreds (six 268435056 0 100 200 100 0)) (zonal_with_count 1 0 2 (four (pos 0) (pos 50) (pos 0) (pos 0))) 4 ∷
    refuses "y5-32 count" (row (six 0 100 100 100 100 100) (six 268435456 0 100 200 100 0)) (counting (pos 0) (pos 50) (pos 0) (pos 0)) 3 ∷
    refuses "y5-32" (row (six 0 100 100 100 100 100) (six 268435456 0 100 200 100 0)) (given 0 (pos 0) (pos 50) (pos 0) (pos 0)) 3 ∷
    refuses "y5-34 count" peak (count_zonal 0 0 (pos 0 ∷ pos 50 ∷ pos 0 ∷ [])) 2 ∷
    refuses "y5-34 count, more" peak (count_zonal 0 0 (four (pos 0) (pos 50) (pos 0) (pos 0) ++ (pos 0 ∷ []))) 2 ∷
    refuses "y5-34" peak (zonal_with_count 0 0 1 (pos 0 ∷ pos 50 ∷ pos 0 ∷ [])) 2 ∷
    refuses "y5-35" (row (six 0 100 100 100 100 100) (six 0 0 100 200 100 0)) (zonal_with_count 1 1 0 (pos 1048561 ∷ pos 0 ∷ pos 0 ∷ [])) 2 ∷
    refuses "y5-38" (record { grid = grid 4 1 1 1; air = hundreds; tracers = six 0 0 100 200 100 0; ledger = replicate 51 0 ++ four 1 0 0 0 ++ 0 ∷ 400 ∷ 0 ∷ [] }) (given 0 (pos 0) (pos 50) (pos 0) (pos 0)) 2 ∷
    refuses "y5-40" (world (grid 3 1 1 1) (replicate 5 100) (0 ∷ 0 ∷ 100 ∷ 200 ∷ 0 ∷ [])) (zonal_with_count 0 0 0 (pos 0 ∷ pos 50 ∷ pos 0 ∷ [])) 1 ∷
    -- a broken record of emitters is not tested
    record {
      label = "y5-39 count";
      world = peak_broken;
      call = counting (pos 0) (pos 50) (pos 0) (pos 0);
      expected = record { answer = 0; count = 1; next = peak_broken };
    } ∷
    record {
      label = "y5-39";
      world = peak_broken;
      call = given 1 (pos 0) (pos 50) (pos 0) (pos 0);
      expected = record { answer = 0; count = 1; next = broken (six 100 100 50 150 100 100) (six 0 0 38 262 100 0) };
    } ∷
    -- the count of each row of two layers, a sweep of each with it, and with the count of another row
    keeps "y5-41 row 0" rows (count_zonal 0 0 wind) 3 ∷
    keeps "y5-41 row 1" rows (count_zonal 0 1 wind) 2 ∷
    keeps "y5-41 layer 1" rows (count_zonal 1 0 wind) 4 ∷
    keeps "y5-41 layer 1, row 1" rows (count_zonal 1 1 wind) 1 ∷
    refuses "y5-42 count of row 1" rows (zonal_with_count 0 0 2 wind) 20 ∷
    refuses "y5-42 count of layer 1" rows (zonal_with_count 0 0 4 wind) 20 ∷
    refuses "y5-42 count of row 0" rows (zonal_with_count 1 1 4 wind) 20 ∷
    gives "y5-43" rows (zonal_with_count 0 0 3 wind) 3 (ten 138 48 36 34 57 61 64 96 55 72 ++ ten 97 45 28 39 38 122 109 120 115 85)
    (ten 10 209 68 50 145 40 97 222 15 60 ++ ten 70 12 180 33 205 141 9 64 118 52 ++
    ten 5 16 11 9 12 19 23 29 31 37 ++ ten 41 143 47 53 59 61 167 71 73 79) ∷
    gives "y5-45" rows (zonal_with_count 1 0 4 wind) 4 (ten 138 53 33 41 48 61 64 96 55 72 ++ ten 97 40 31 32 47 122 109 120 115 85)
    (ten 10 3 250 88 131 40 97 222 15 60 ++ ten 70 121 99 86 124 141 9 64 118 52 ++
    ten 5 7 11 13 17 19 23 29 31 37 ++ ten 41 72 47 68 115 61 167 71 73 79) ∷
    gives "y5-46" rows (zonal_with_count 1 1 1 wind) 1 (ten 138 53 33 41 48 61 64 96 55 72 ++ ten 97 45 28 39 38 117 112 113 124 85)
    (ten 10 3 250 88 131 40 97 222 15 60 ++ ten 70 12 180 33 205 125 117 13 77 52 ++
    ten 5 7 11 13 17 19 23 29 31 37 ++ ten 41 143 47 53 59 71 67 159 75 79) ∷
    []

pub press_cases_hold : Hold presses
unfolding presses refuses_each computes
press_cases_hold = hold presses refl
