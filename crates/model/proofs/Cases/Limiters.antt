-- Cases of y7-1 to y7-134 for document 02, Slip 7: a limiter for each gas, as one table with one theorem about `step`: the rows under each limiter, and the cases that edits of the model break. The others are one table in crates/choice (specs/Cases.antt); y7-133, five hundred sweeps, is `not_for_a_list` there (specs/OneSubstep.antt).
-- Assumes nothing. Inputs and numbers are the second implementation's (reference/cases/limiters.txt), whose labels these are; of its calls those that tell wrong definitions apart are here, and all are compared with the library.
use Rattle.std.specs.Prelude.{ℕ, zero, suc, ◌/◌, ◌%◌, List, [], ◌∷◌, ◌++◌, refl, ℤ, pos, neg_ℤ, replicate}
use Prim.Native.String.{String}
use Rattle.model.specs.Basic.{zeros}
use Rattle.model.specs.World.{Grid, World, with_amounts, with_ledger}
use Rattle.model.specs.Emitters.{half}
use Rattle.model.specs.Limiters.{Limiter}
use Rattle.model.specs.Step.{Call, load, zonal, long_zonal, meridional, remap, count_zonal, zonal_with_count, set_limiter}
use Rattle.model.proofs.Cases.{Case, Hold, hold, computes, on_record, exchanging}
use Rattle.model.proofs.Cases.Marked.{grid, four, six, refuses, hundreds}

-- ---- limiters, and the ledger that they stand in, without emitters and before the books
abbrev pub limiter : ℕ → ℕ → ℕ → Limiter
limiter number lo hi = record { number = number; lo = lo; hi = hi }

abbrev pub first : Limiter
first = limiter 1 0 0

abbrev pub positive : Limiter
positive = limiter 2 0 0

abbrev pub fixed : ℕ → ℕ → Limiter
fixed lo hi = limiter 3 lo hi

-- 2^64 − 1
abbrev pub most : ℕ
most = 18446744073709551615

unfoldable pub blocks : List Limiter → List ℕ
blocks [] = []
blocks (l ∷ ls) = zeros 51 ++ l.number ∷ l.lo % half ∷ l.lo / half ∷ l.hi % half ∷ l.hi / half ∷ blocks ls

abbrev five : List Limiter
five = first ∷ positive ∷ fixed 0 most ∷ fixed 0 851968 ∷ fixed 786432 786432 ∷ []

-- ---- amounts: a list so many times, the two rows, a flux of 50 from column 1 and from column 2
unfoldable pub times : ℕ → List ℕ → List ℕ
times zero l = []
times (suc n) l = l ++ times n l

abbrev pub row_a : List ℕ
row_a = six 0 0 300 200 50 0

abbrev pub row_b : List ℕ
row_b = six 0 300 10 100 0 0

abbrev pub wind : List ℤ
wind = four (pos 0) (pos 50) (pos 0) (pos 0)

abbrev pub later : List ℤ
later = four (pos 0) (pos 0) (pos 50) (pos 0)

abbrev pub minus : ℕ → ℤ
minus n = neg_ℤ (pos n)

-- ---- worlds
abbrev pub lent : Grid → List ℕ → List ℕ → List ℕ → World
lent g air tracers ledger = record { grid = g; air = air; tracers = tracers; ledger = on_record g tracers ledger }

abbrev pub single : List ℕ → Limiter → World
single tracers l = lent (grid 4 1 1 1) hundreds tracers (blocks (l ∷ []))

abbrev pub two : Limiter → Limiter → World
two l m = lent (grid 4 1 1 2) hundreds (row_a ++ row_b) (blocks (l ∷ m ∷ []))

-- ---- cases: an accepted call that changes amounts, the ledger, nothing
abbrev leaves : String → World → Call → ℕ → World → Case
leaves label w call count next =
    record { label = label; world = w; call = call; expected = record { answer = 0; count = count; next = next } }

abbrev pub moves : String → World → Call → ℕ → List ℕ → List ℕ → Case
moves label w call count air tracers = leaves label w call count (with_amounts (exchanging w tracers) air tracers)

abbrev pub writes : String → World → Call → List ℕ → Case
writes label w call ledger = leaves label w call 0 (with_ledger w (on_record w.grid w.tracers ledger))

abbrev pub reads : String → World → Call → ℕ → Case
reads label w call count = leaves label w call count w

-- The issue's rows under each limiter: zonal, by two presses, meridional, long, in a remap
abbrev rows : List Case
rows =
    -- y7-1: zonal, row A, flux 50 from column 1: limiter 1 leaves 0 150 350 50
    moves "y7-1 zonal" (single row_a first) (zonal 0 0 wind) 1 (six 100 100 50 150 100 100) (six 0 0 150 350 50 0) ∷
    -- y7-2: the same with limiter 2: 0 138 362 50
    moves "y7-2 zonal" (single row_a positive) (zonal 0 0 wind) 1 (six 100 100 50 150 100 100) (six 0 0 138 362 50 0) ∷
    -- y7-3: the same with limiter 3 and 0 to 2^64-1: 0 138 362 50
    moves "y7-3 zonal" (single row_a (fixed 0 most)) (zonal 0 0 wind) 1 (six 100 100 50 150 100 100) (six 0 0 138 362 50 0) ∷
    -- y7-4: the same with limiter 3 and 0 to 851968: 0 144 356 50
    moves "y7-4 zonal" (single row_a (fixed 0 851968)) (zonal 0 0 wind) 1 (six 100 100 50 150 100 100) (six 0 0 144 356 50 0) ∷
    -- y7-5: the same with limiter 3 and both bounds 786432, the cell's own ratio: 0 150 350 50
    moves "y7-5 zonal" (single row_a (fixed 786432 786432)) (zonal 0 0 wind) 1 (six 100 100 50 150 100 100) (six 0 0 150 350 50 0) ∷
    -- y7-6: the five limiters of y7-1 to y7-5 in one zonal sweep, five tracers alike
    moves "y7-6 zonal" (lent (grid 4 1 1 5) hundreds (times 5 row_a) (blocks five)) (zonal 0 0 wind) 1 (six 100 100 50 150 100 100) (six 0 0 150 350 50 0 ++ six 0 0 138 362 50 0 ++ six 0 0 138 362 50 0 ++ six 0 0 144 356 50 0 ++ six 0 0 150 350 50 0) ∷
    -- y7-7: the five by the two presses
    moves "y7-7 zonal with count" (lent (grid 4 1 1 5) hundreds (times 5 row_a) (blocks five)) (zonal_with_count 0 0 1 wind) 1 (six 100 100 50 150 100 100) (six 0 0 150 350 50 0 ++ six 0 0 138 362 50 0 ++ six 0 0 138 362 50 0 ++ six 0 0 144 356 50 0 ++ six 0 0 150 350 50 0) ∷
    -- y7-8: the five in a meridional sweep, row A along every meridian, flux 50 northward from row 1 in column 0
    moves "y7-8 meridional" (lent (grid 4 4 1 5) (replicate 18 100) (times 5 (six 0 0 0 0 0 300 ++ six 300 300 300 200 200 200 ++ six 200 50 50 50 50 0)) (blocks five)) (meridional 0 (four (pos 0) (pos 0) (pos 0) (pos 0) ++ four (pos 0) (pos 0) (pos 0) (pos 0) ++ four (pos 50) (pos 0) (pos 0) (pos 0) ++ four (pos 0) (pos 0) (pos 0) (pos 0) ++ four (pos 0) (pos 0) (pos 0) (pos 0))) 1 (six 100 100 100 100 100 50 ++ six 100 100 100 150 100 100 ++ hundreds) (six 0 0 0 0 0 150 ++ six 300 300 300 350 200 200 ++ six 200 50 50 50 50 0 ++ six 0 0 0 0 0 138 ++ six 300 300 300 362 200 200 ++ six 200 50 50 50 50 0 ++ six 0 0 0 0 0 138 ++ six 300 300 300 362 200 200 ++ six 200 50 50 50 50 0 ++ six 0 0 0 0 0 144 ++ six 300 300 300 356 200 200 ++ six 200 50 50 50 50 0 ++ six 0 0 0 0 0 150 ++ six 300 300 300 350 200 200 ++ six 200 50 50 50 50 0) ∷
    -- y7-9: the five in a long sweep, pieces from the low end: limiter 1 leaves 0 150 350 50; 2, and 3 with 0 to 2^64-1, 0 137 363 50
    moves "y7-9 long zonal" (lent (grid 4 1 1 5) hundreds (times 5 row_a) (blocks five)) (long_zonal 0 0 wind) 0 (six 100 100 50 150 100 100) (six 0 0 150 350 50 0 ++ six 0 0 137 363 50 0 ++ six 0 0 137 363 50 0 ++ six 0 0 143 357 50 0 ++ six 0 0 150 350 50 0) ∷
    -- y7-10: the five in a remap, row A down every column, edge 2 at 150: as in the long sweep; the columns of the caps, the first and the last of a layer's six, have 0 150 350 50 under each
    moves "y7-10 remap" (lent (grid 4 1 4 5) (replicate 24 100) (times 5 (replicate 6 0 ++ replicate 6 300 ++ replicate 6 200 ++ replicate 6 50)) (blocks five)) (remap ((0 ∷ 0 ∷ 100 ∷ 0 ∷ 150 ∷ 0 ∷ 300 ∷ 0 ∷ 0 ∷ 65536 ∷ []))) 30 (hundreds ++ replicate 6 50 ++ replicate 6 150 ++ hundreds) (replicate 6 0 ++ replicate 6 150 ++ replicate 6 350 ++ replicate 6 50 ++ replicate 6 0 ++ six 150 137 137 137 137 150 ++ six 350 363 363 363 363 350 ++ replicate 6 50 ++ replicate 6 0 ++ six 150 137 137 137 137 150 ++ six 350 363 363 363 363 350 ++ replicate 6 50 ++ replicate 6 0 ++ six 150 143 143 143 143 150 ++ six 350 357 357 357 357 350 ++ replicate 6 50 ++ replicate 6 0 ++ replicate 6 150 ++ replicate 6 350 ++ replicate 6 50) ∷
    -- y7-11: zonal, row A, flux 50 from column 2: limiters 1 and 2, and 3 with 0 to 2^64-1, leave 0 300 116 134; 3 with both 786432, its ratio below them, 0 300 100 150
    moves "y7-11 zonal" (lent (grid 4 1 1 4) hundreds (times 4 row_a) (blocks (first ∷ positive ∷ fixed 0 most ∷ fixed 786432 786432 ∷ []))) (zonal 0 0 later) 1 (six 100 100 100 50 150 100) (six 0 0 300 116 134 0 ++ six 0 0 300 116 134 0 ++ six 0 0 300 116 134 0 ++ six 0 0 300 100 150 0) ∷
    -- y7-12: the same in a meridional sweep
    moves "y7-12 meridional" (lent (grid 4 4 1 4) (replicate 18 100) (times 4 (six 0 0 0 0 0 300 ++ six 300 300 300 200 200 200 ++ six 200 50 50 50 50 0)) (blocks (first ∷ positive ∷ fixed 0 most ∷ fixed 786432 786432 ∷ []))) (meridional 0 (four (pos 0) (pos 0) (pos 0) (pos 0) ++ four (pos 0) (pos 0) (pos 0) (pos 0) ++ four (pos 0) (pos 0) (pos 0) (pos 0) ++ four (pos 50) (pos 0) (pos 0) (pos 0) ++ four (pos 0) (pos 0) (pos 0) (pos 0))) 1 (hundreds ++ six 100 100 100 50 100 100 ++ six 100 150 100 100 100 100) (six 0 0 0 0 0 300 ++ six 300 300 300 116 200 200 ++ six 200 134 50 50 50 0 ++ six 0 0 0 0 0 300 ++ six 300 300 300 116 200 200 ++ six 200 134 50 50 50 0 ++ six 0 0 0 0 0 300 ++ six 300 300 300 116 200 200 ++ six 200 134 50 50 50 0 ++ six 0 0 0 0 0 300 ++ six 300 300 300 100 200 200 ++ six 200 150 50 50 50 0) ∷
    -- y7-13: the same in a long sweep
    moves "y7-13 long zonal" (lent (grid 4 1 1 4) hundreds (times 4 row_a) (blocks (first ∷ positive ∷ fixed 0 most ∷ fixed 786432 786432 ∷ []))) (long_zonal 0 0 later) 0 (six 100 100 100 50 150 100) (six 0 0 300 115 135 0 ++ six 0 0 300 115 135 0 ++ six 0 0 300 115 135 0 ++ six 0 0 300 100 150 0) ∷
    -- y7-14: the same in a remap, edge 3 at 250
    moves "y7-14 remap" (lent (grid 4 1 4 4) (replicate 24 100) (times 4 (replicate 6 0 ++ replicate 6 300 ++ replicate 6 200 ++ replicate 6 50)) (blocks (first ∷ positive ∷ fixed 0 most ∷ fixed 786432 786432 ∷ []))) (remap ((0 ∷ 0 ∷ 100 ∷ 0 ∷ 200 ∷ 0 ∷ 250 ∷ 0 ∷ 0 ∷ 65536 ∷ []))) 30 (replicate 12 100 ++ replicate 6 50 ++ replicate 6 150) (replicate 6 0 ++ replicate 6 300 ++ six 100 115 115 115 115 100 ++ six 150 135 135 135 135 150 ++ replicate 6 0 ++ replicate 6 300 ++ six 100 115 115 115 115 100 ++ six 150 135 135 135 135 150 ++ replicate 6 0 ++ replicate 6 300 ++ six 100 115 115 115 115 100 ++ six 150 135 135 135 135 150 ++ replicate 6 0 ++ replicate 6 300 ++ hundreds ++ replicate 6 150) ∷
    -- y7-15: zonal, row B, flux 50 from column 1: limiter 1 leaves 300 5 105 0, 2 300 8 102 0, 3 with 13107 to 2^64-1 300 7 103 0
    moves "y7-15 zonal" (lent (grid 4 1 1 3) hundreds (times 3 row_b) (blocks (first ∷ positive ∷ fixed 13107 most ∷ []))) (zonal 0 0 wind) 1 (six 100 100 50 150 100 100) (six 0 300 5 105 0 0 ++ six 0 300 8 102 0 0 ++ six 0 300 7 103 0 0) ∷
    -- y7-16: the same in a meridional sweep
    moves "y7-16 meridional" (lent (grid 4 4 1 3) (replicate 18 100) (times 3 (six 0 300 300 300 300 10 ++ six 10 10 10 100 100 100 ++ six 100 0 0 0 0 0)) (blocks (first ∷ positive ∷ fixed 13107 most ∷ []))) (meridional 0 (four (pos 0) (pos 0) (pos 0) (pos 0) ++ four (pos 0) (pos 0) (pos 0) (pos 0) ++ four (pos 50) (pos 0) (pos 0) (pos 0) ++ four (pos 0) (pos 0) (pos 0) (pos 0) ++ four (pos 0) (pos 0) (pos 0) (pos 0))) 1 (six 100 100 100 100 100 50 ++ six 100 100 100 150 100 100 ++ hundreds) (six 0 300 300 300 300 5 ++ six 10 10 10 105 100 100 ++ six 100 0 0 0 0 0 ++ six 0 300 300 300 300 8 ++ six 10 10 10 102 100 100 ++ six 100 0 0 0 0 0 ++ six 0 300 300 300 300 7 ++ six 10 10 10 103 100 100 ++ six 100 0 0 0 0 0) ∷
    -- y7-17: the same in a long sweep
    moves "y7-17 long zonal" (lent (grid 4 1 1 3) hundreds (times 3 row_b) (blocks (first ∷ positive ∷ fixed 13107 most ∷ []))) (long_zonal 0 0 wind) 0 (six 100 100 50 150 100 100) (six 0 300 5 105 0 0 ++ six 0 300 7 103 0 0 ++ six 0 300 6 104 0 0) ∷
    -- y7-18: the same in a remap, edge 2 at 150
    moves "y7-18 remap" (lent (grid 4 1 4 3) (replicate 24 100) (times 3 (replicate 6 300 ++ replicate 6 10 ++ hundreds ++ replicate 6 0)) (blocks (first ∷ positive ∷ fixed 13107 most ∷ []))) (remap ((0 ∷ 0 ∷ 100 ∷ 0 ∷ 150 ∷ 0 ∷ 300 ∷ 0 ∷ 0 ∷ 65536 ∷ []))) 30 (hundreds ++ replicate 6 50 ++ replicate 6 150 ++ hundreds) (replicate 6 300 ++ replicate 6 5 ++ replicate 6 105 ++ replicate 6 0 ++ replicate 6 300 ++ six 5 7 7 7 7 5 ++ six 105 103 103 103 103 105 ++ replicate 6 0 ++ replicate 6 300 ++ six 5 6 6 6 6 5 ++ six 105 104 104 104 104 105 ++ replicate 6 0) ∷
    -- y7-19: the same by the second press alone
    moves "y7-19 zonal with count" (lent (grid 4 1 1 3) hundreds (times 3 row_b) (blocks (first ∷ positive ∷ fixed 13107 most ∷ []))) (zonal_with_count 0 0 1 wind) 1 (six 100 100 50 150 100 100) (six 0 300 5 105 0 0 ++ six 0 300 8 102 0 0 ++ six 0 300 7 103 0 0) ∷
    -- y7-20: zonal, air 47 6 38 39, tracer 26 3 60 58: column 2 gets air 24 and tracer 39 with limiter 1, 41 with 2, and with 3 and 0 to 2^64-1
    moves "y7-20 zonal" (lent (grid 4 1 1 3) (six 100 47 6 38 39 100) (times 3 (six 0 26 3 60 58 0)) (blocks (first ∷ positive ∷ fixed 0 most ∷ []))) (zonal 0 0 (four (pos 19) (minus 13) (pos 1) (minus 12))) 1 (six 100 16 38 24 52 100) (six 0 10 32 39 66 0 ++ six 0 11 28 41 67 0 ++ six 0 11 28 41 67 0) ∷
    -- y7-21: the same along meridians, the caps with the ratios of the ring's neighbours
    moves "y7-21 meridional" (lent (grid 4 4 1 3) (six 39 47 47 47 47 6 ++ six 6 6 6 38 38 38 ++ six 38 39 39 39 39 47) (times 3 (six 58 26 26 26 26 3 ++ six 3 3 3 60 60 60 ++ six 60 58 58 58 58 26)) (blocks (first ∷ positive ∷ fixed 0 most ∷ []))) (meridional 0 (four (minus 12) (pos 0) (pos 0) (pos 0) ++ four (pos 19) (pos 0) (pos 0) (pos 0) ++ four (minus 13) (pos 0) (pos 0) (pos 0) ++ four (pos 1) (pos 0) (pos 0) (pos 0) ++ four (minus 12) (pos 0) (pos 0) (pos 0))) 1 (six 51 16 47 47 47 38 ++ six 6 6 6 24 38 38 ++ six 38 52 39 39 39 35) (six 65 10 26 26 26 32 ++ six 3 3 3 39 60 60 ++ six 60 65 58 58 58 20 ++ six 66 11 26 26 26 28 ++ six 3 3 3 41 60 60 ++ six 60 65 58 58 58 20 ++ six 66 11 26 26 26 28 ++ six 3 3 3 41 60 60 ++ six 60 65 58 58 58 20) ∷
    -- y7-22: the same in a long sweep
    moves "y7-22 long zonal" (lent (grid 4 1 1 3) (six 100 47 6 38 39 100) (times 3 (six 0 26 3 60 58 0)) (blocks (first ∷ positive ∷ fixed 0 most ∷ []))) (long_zonal 0 0 (four (pos 19) (minus 13) (pos 1) (minus 12))) 0 (six 100 16 38 24 52 100) (six 0 9 33 38 67 0 ++ six 0 10 29 40 68 0 ++ six 0 10 29 40 68 0) ∷
    -- y7-23: the same in a remap of six layers, the ring's neighbours above and below
    moves "y7-23 remap" (lent (grid 4 1 6 3) (replicate 6 39 ++ replicate 6 47 ++ replicate 6 6 ++ replicate 6 38 ++ replicate 6 39 ++ replicate 6 47) (times 3 (replicate 6 58 ++ replicate 6 26 ++ replicate 6 3 ++ replicate 6 60 ++ replicate 6 58 ++ replicate 6 26)) (blocks (first ∷ positive ∷ fixed 0 most ∷ []))) (remap ((0 ∷ 0 ∷ 51 ∷ 0 ∷ 67 ∷ 0 ∷ 105 ∷ 0 ∷ 129 ∷ 0 ∷ 181 ∷ 0 ∷ 0 ∷ 65536 ∷ []))) 66 (replicate 6 51 ++ replicate 6 16 ++ replicate 6 38 ++ replicate 6 24 ++ replicate 6 52 ++ replicate 6 35) (six 64 65 65 65 65 64 ++ replicate 6 9 ++ six 34 33 33 33 33 34 ++ replicate 6 38 ++ replicate 6 66 ++ replicate 6 20 ++ six 64 66 66 66 66 64 ++ six 9 10 10 10 10 9 ++ six 34 29 29 29 29 34 ++ six 38 40 40 40 40 38 ++ replicate 6 66 ++ replicate 6 20 ++ six 64 66 66 66 66 64 ++ six 9 10 10 10 10 9 ++ six 34 29 29 29 29 34 ++ six 38 40 40 40 40 38 ++ replicate 6 66 ++ replicate 6 20) ∷
    []

-- 21 where the last of two tracers has a limiter that is none, and its order; what the setting call and a load write
abbrev places : List Case
places =
    -- y7-87: 21: a standing limiter 0 in the last tracer only; the calls that move air and the count call test it
    refuses "y7-87 zonal" (two first (limiter 0 0 0)) (zonal 0 0 wind) 21 ∷
    refuses "y7-87 long zonal" (two first (limiter 0 0 0)) (long_zonal 0 0 wind) 21 ∷
    refuses "y7-87 count zonal" (two first (limiter 0 0 0)) (count_zonal 0 0 wind) 21 ∷
    refuses "y7-87 zonal with count" (two first (limiter 0 0 0)) (zonal_with_count 0 0 1 wind) 21 ∷
    refuses "y7-87 meridional" (two first (limiter 0 0 0)) (meridional 0 (replicate 8 (pos 0))) 21 ∷
    refuses "y7-87 remap" (two first (limiter 0 0 0)) (remap (four 0 0 0 65536)) 21 ∷
    -- y7-112: what stands is broken and what is given is good: mended
    refuses "y7-112 zonal" (two first (limiter 0 9 3)) (zonal 0 0 wind) 21 ∷
    writes "y7-112 set limiter" (two first (limiter 0 9 3)) (set_limiter 1 2 0 0) (blocks (first ∷ positive ∷ [])) ∷
    moves "y7-112 zonal 2" (two first positive) (zonal 0 0 wind) 1 (six 100 100 50 150 100 100) (six 0 0 150 350 50 0 ++ six 0 300 8 102 0 0) ∷
    -- y7-117: a load over broken limiters and standing emitters: it does not test them, and gives each tracer limiter 1 and bounds 0
    writes "y7-117 load" (lent (grid 4 1 1 2) hundreds (row_a ++ row_b) ((17 ∷ 1 ∷ 1 ∷ 7 ∷ 3 ∷ 20 ∷ []) ++ replicate 45 0 ++ (4 ∷ 9 ∷ 0 ∷ 3 ∷ 0 ∷ 1 ∷ 9 ∷ 0 ∷ 5 ∷ 5 ∷ 9 ∷ []) ++ replicate 45 0 ++ (3 ∷ 5 ∷ 0 ∷ 2 ∷ 0 ∷ []))) load (blocks (replicate 2 first)) ∷
    moves "y7-117 zonal" (two first first) (zonal 0 0 wind) 1 (six 100 100 50 150 100 100) (six 0 0 150 350 50 0 ++ six 0 300 5 105 0 0) ∷
    -- y7-123: 21 before 5, and 5 after the limiters are mended
    refuses "y7-123 zonal" (two first (limiter 0 0 0)) (zonal 1 0 wind) 21 ∷
    refuses "y7-123 long zonal" (two first (limiter 0 0 0)) (long_zonal 1 0 wind) 21 ∷
    refuses "y7-123 count zonal" (two first (limiter 0 0 0)) (count_zonal 0 1 wind) 21 ∷
    refuses "y7-123 meridional" (two first (limiter 0 0 0)) (meridional 1 (replicate 8 (pos 0))) 21 ∷
    refuses "y7-123 zonal 2" (two first first) (zonal 1 0 wind) 5 ∷
    refuses "y7-123 long zonal 2" (two first first) (long_zonal 1 0 wind) 5 ∷
    refuses "y7-123 meridional 2" (two first first) (meridional 1 (replicate 8 (pos 0))) 5 ∷
    []

-- the last of eight tracers
abbrev eight : World
eight = lent (grid 4 1 1 8) hundreds (replicate 48 0) (blocks (replicate 7 first ++ limiter 4 0 0 ∷ []))

abbrev last : List Case
last =
    refuses "y7-134 zonal" eight (zonal 0 0 wind) 21 ∷
    writes "y7-134 load" eight load (blocks (replicate 8 first)) ∷
    []

pub limiter_cases : List Case
limiter_cases = rows ++ places ++ last

pub limiter_cases_hold : Hold limiter_cases
unfolding limiter_cases blocks times computes
limiter_cases_hold = hold limiter_cases refl
