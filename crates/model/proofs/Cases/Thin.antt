-- Cases y6-1 to y6-32, but y6-21 and y6-22, for document 02, Slip 6: thin gases, the largest numbers, a table's b, the air limit, and the ends of the range, as one table with one theorem about `step`.
-- Assumes nothing. Numbers that the documents do not give come from the second implementation (reference/cases/thin.txt), whose labels these are; "before" is what the scale 65,536 gave.
use Rattle.std.specs.Prelude.{ℕ, List, [], ◌∷◌, ◌++◌, refl, ℤ, pos, neg_ℤ, replicate}
use Rattle.model.specs.World.{World}
use Rattle.model.specs.Step.{Call, load, zonal, long_zonal, meridional, remap}
use Rattle.model.proofs.Cases.{Case, Hold, hold, computes}
use Rattle.model.proofs.Cases.Marked.{grid, world, four, six, row, gives, refuses, sweep, stair}
use Rattle.model.proofs.Cases.Further.{keeps, ten}

abbrev minus : ℕ → ℤ
minus n = neg_ℤ (pos n)

-- a long sweep of row 0 in layer 0
abbrev long : ℤ → ℤ → ℤ → ℤ → Call
long a b c d = long_zonal 0 0 (four a b c d)

-- three and four layers of one unit in a thousand of air
abbrev thin_columns : World
thin_columns =
    world (grid 4 1 3 1)
    (six 19000 11000 12000 13000 10000 15000 ++ six 24000 29000 18000 21000 10000 28000 ++ six 11000 19000 15000 24000 27000 22000)
    (six 20 13 11 15 12 14 ++ six 24 29 19 22 10 28 ++ six 10 21 16 25 29 24)

abbrev thin_deep : World
thin_deep =
    world (grid 4 1 4 1)
    (six 25000 14000 23000 24000 14000 23000 ++ six 29000 15000 17000 19000 24000 13000 ++ six 26000 10000 18000 17000 25000 26000 ++ six 11000 26000 13000 13000 20000 18000)
    (six 25 15 25 25 15 23 ++ six 30 14 18 20 25 15 ++ six 26 12 19 19 26 26 ++ six 10 25 14 13 19 20)

-- in y6-1 to y6-8 every mismatch was 0 before, in y6-9 those of the first of five substeps, in y6-10 those of the thin gas
pub thin : List Case
thin =
    -- before 50 34 43 36
    gives "y6-1" (row (six 100 57676 34847 38263 33495 100) (six 0 56 34 39 34 0)) (sweep (pos 8104) (pos 8176) (pos 3143) (pos 1267)) 1
    (six 100 50839 34775 43296 35371 100)
    (six 0 50 33 44 36 0) ∷
    -- before 41 35 28 34 24 20
    gives "y6-2" (row (six 30000 35000 33000 28000 34000 15000) (six 32 37 32 30 36 15))
    (meridional 0 (four (minus 8500) (pos 3500) (minus 1000) (minus 3500) ++ four (minus 6000) (pos 8000) (minus 5000) (pos 8500))) 1
    (six 39500 32500 28500 32000 22000 20500)
    (six 42 34 28 34 25 19) ∷
    -- before 66 30 35 48 9 34 38 48 25 34
    gives "y6-3" (world (grid 4 2 1 1) (ten 55000 37000 31000 41000 18000 30000 36000 54000 16000 39000) (ten 57 39 33 42 17 31 38 55 15 40))
    (meridional 0
    (four (minus 5000) (minus 6500) (pos 2000) (minus 500) ++
    four (pos 4500) (minus 8500) (minus 4500) (pos 8500) ++
    four (pos 1000) (minus 8000) (pos 3000) (minus 2000))) 1
    (ten 65000 27500 33000 47500 9000 33500 35500 46500 26500 33000)
    (ten 66 30 36 48 10 34 37 48 24 34) ∷
    -- before column 1 of the row had 14 20 12, column 2 had 20 26 16
    gives "y6-4" thin_columns (remap (0 ∷ 0 ∷ 1500 ∷ 19456 ∷ 1000 ∷ 48128 ∷ 0 ∷ 65536 ∷ [])) 30
    (six 17531 19015 14859 18718 15453 20796 ++ six 23125 25313 19187 24875 20062 27938 ++ six 13344 14672 10954 14407 11485 16266)
    (six 18 21 13 21 17 19 ++ six 23 25 21 25 21 29 ++ six 13 17 12 16 13 18) ∷
    -- before column 1 had 28 12 11 25, column 3 had 31 15 12 27
    gives "y6-5" thin_deep (remap (0 ∷ 0 ∷ 1500 ∷ 22528 ∷ 1500 ∷ 33792 ∷ 500 ∷ 44032 ∷ 0 ∷ 65536 ∷ [])) 42
    (six 32781 23843 25906 26593 30031 29000 ++ six 15640 11172 12203 12547 14265 13750 ++ six 13219 9156 10094 10406 11969 11500 ++ six 29360 20829 22797 23454 26735 25750)
    (six 33 24 28 27 31 29 ++ six 16 12 13 13 15 15 ++ six 13 9 10 12 13 12 ++ six 29 21 25 25 26 28) ∷
    -- before 60 44 56 20
    gives "y6-6" (row (six 100 59000 48000 54000 16000 100) (six 0 60 49 55 16 0)) (long (pos 26500) (pos 31000) (pos 29500) (pos 26000)) 0
    (six 100 58500 43500 55500 19500 100)
    (six 0 59 45 57 19 0) ∷
    -- before 44 50 48 49
    gives "y6-7" (row (six 100 36000 54000 43000 54000 100) (six 0 37 56 44 54 0)) (long (minus 25500) (minus 20500) (minus 24500) (minus 18500)) 0
    (six 100 43000 49000 47000 48000 100)
    (six 0 45 51 47 48 0) ∷
    -- all pieces from the low end: before 29 55 18 29
    gives "y6-8" (row (six 100 26000 57000 24000 22000 100) (six 0 27 56 25 23 0)) (sweep (minus 15000) (minus 12500) (minus 6500) (minus 12500)) 1
    (six 100 28500 54500 18000 28000 100)
    (six 0 28 54 19 30 0) ∷
    -- before 15 66 45 19
    gives "y6-9" (row (six 100 23000 57000 43000 18000 100) (six 0 25 59 44 17 0)) (sweep (pos 70500) (pos 63000) (pos 63000) (pos 62500)) 5
    (six 100 15000 64500 43000 18500 100)
    (six 0 16 65 44 20 0) ∷
    -- a thin gas and one of some hundred units for each unit of air: before 50 37 10 46, and 25824166 10181977 3047733 46946124
    gives "y6-10" (world (grid 4 1 1 2) (six 100 45000 45000 26000 23000 100) (six 0 47 45 27 24 0 ++ six 0 32000000 12000000 11000000 31000000 0))
    (sweep (minus 13000) (minus 5500) (pos 12500) (minus 10500)) 1
    (six 100 47500 37500 8000 46000 100)
    (six 0 50 37 9 47 0 ++ six 0 25824167 10181977 3047733 46946123 0) ∷
    -- at every other power of two from 2^4 to 2^30: 14 12 15 12, or other amounts
    gives "y6-30" (row (six 100 35216 22646 24863 22686 100) (six 0 19 11 12 11 0)) (sweep (pos 11083) (pos 8270) (pos 2084) (pos 2035)) 1
    (six 100 26168 25459 31049 22735 100)
    (six 0 14 13 14 12 0) ∷
    -- the last bit of a mismatch: with mismatches cut to even numbers 45 55 50 40
    gives "y6-31" (row (six 100 53630 52582 40135 45852 100) (six 0 53 51 39 47 0)) (sweep (pos 5000) (pos 0) (minus 11000) (minus 5000)) 1
    (six 100 43630 57582 51135 39852 100)
    (six 0 44 55 50 41 0) ∷
    -- .. 18086581 60663291 11932869 8958850
    gives "y6-32" (row (six 100 45426 41229 41351 52527 100) (six 0 23758031 51206770 18898165 5778625 0)) (sweep (pos 6000) (minus 7000) (pos 9000) (minus 4000)) 1
    (six 100 35426 54229 25351 65527 100)
    (six 0 18086581 60663292 11932868 8958850 0) ∷
    []

pub large : List Case
large =
    -- eighths: pieces of exactly 3 and exactly 2, at every scale that is a power of two from 8 on; at 262,143 the first is 2
    gives "y6-11" (row (six 100 8 8 8 8 100) (six 0 1 5 9 5 0)) (sweep (pos 0) (pos 4) (pos 0) (pos 4)) 1
    (six 100 12 4 12 4 100)
    (six 0 3 2 12 3 0) ∷
    -- the largest numerator of a piece (largest-numerator, Laws/Scheme): 65535 units of air with 268435455 of tracer go east whole
    gives "y6-12" (row (six 100 2 65535 1 5 100) (six 0 0 268435455 0 0 0)) (sweep (pos 1) (pos 65535) (pos 1) (pos 0)) 1
    (six 100 1 1 65535 6 100)
    (six 0 0 0 268435455 0 0) ∷
    -- such a cell with a mismatch of twice its ratio; in 64-bit floating point the piece has one unit more, and so in y6-14 to y6-16
    gives "y6-13" (row (six 100 2 65535 1 5 100) (six 0 0 268403435 32020 0 0)) (sweep (pos 0) (pos 62751) (pos 0) (pos 0)) 1
    (six 100 2 2784 62752 5 100)
    (six 0 0 484374 267951081 0 0) ∷
    gives "y6-14" (row (six 100 1 65535 2 5 100) (six 0 17524 268417931 0 0 0)) (sweep (minus 31068) (pos 34466) (pos 0) (pos 0)) 1
    (six 100 31069 1 34468 5 100)
    (six 0 194189655 4310 74241490 0 0) ∷
    gives "y6-15" (world (grid 4 1 4 1) (replicate 6 1 ++ replicate 6 65535 ++ replicate 6 2 ++ replicate 6 5) (six 0 0 17129 0 0 0 ++ six 0 0 268418326 0 0 0 ++ replicate 12 0))
    (remap (0 ∷ 0 ∷ 34808 ∷ 0 ∷ 65535 ∷ 0 ∷ 65540 ∷ 0 ∷ 0 ∷ 65536 ∷ [])) 42
    (replicate 6 34808 ++ replicate 6 30727 ++ replicate 6 5 ++ replicate 6 3)
    (six 0 0 209424295 0 0 0 ++ six 0 0 59011159 0 0 0 ++ six 0 0 1 0 0 0 ++ replicate 6 0) ∷
    gives "y6-16" (row (six 100 1 65535 2 5 100) (six 0 17129 268418326 0 0 0)) (long (minus 34807) (pos 1) (pos 0) (pos 0)) 0
    (six 100 34808 30727 3 5 100)
    (six 0 209424295 59011159 1 0 0) ∷
    -- a mismatch of 23,456,247,709,696, the largest of which one less would give another piece
    gives "y6-17" (row (six 100 1 2 1 1 100) (six 0 0 89478484 178956971 0 0)) (sweep (pos 0) (pos 1) (pos 0) (pos 0)) 1
    (six 100 1 1 2 1 100)
    (six 0 0 22369621 246065834 0 0) ∷
    []

-- the b of a table, and the air limit, keep their numbers
pub kept : List Case
kept =
    gives "y6-18" thin_columns (remap (0 ∷ 0 ∷ 0 ∷ 16384 ∷ 0 ∷ 32768 ∷ 0 ∷ 65536 ∷ [])) 30
    (six 13500 14750 11250 14500 11750 16250 ++ six 13500 14750 11250 14500 11750 16250 ++ six 27000 29500 22500 29000 23500 32500)
    (six 14 16 10 16 13 15 ++ six 14 15 12 15 12 16 ++ six 26 32 24 31 26 35) ∷
    refuses "y6-19 last b 262144" stair (remap (0 ∷ 0 ∷ 0 ∷ 16384 ∷ 0 ∷ 32768 ∷ 0 ∷ 262144 ∷ [])) 11 ∷
    refuses "y6-19 all b four times" stair (remap (0 ∷ 0 ∷ 0 ∷ 65536 ∷ 0 ∷ 131072 ∷ 0 ∷ 262144 ∷ [])) 11 ∷
    refuses "y6-19 inner b 65537" stair (remap (0 ∷ 0 ∷ 0 ∷ 16384 ∷ 0 ∷ 65537 ∷ 0 ∷ 65536 ∷ [])) 11 ∷
    refuses "y6-19 inner b 262144" stair (remap (0 ∷ 0 ∷ 0 ∷ 262144 ∷ 0 ∷ 32768 ∷ 0 ∷ 65536 ∷ [])) 11 ∷
    refuses "y6-19 inner b 65536" stair (remap (0 ∷ 0 ∷ 0 ∷ 16384 ∷ 0 ∷ 65536 ∷ 0 ∷ 65536 ∷ [])) 12 ∷
    keeps "y6-20 air 65535" (row (replicate 6 65535) (six 65 66 67 65 64 65)) load 0 ∷
    refuses "y6-20 air 65536" (row (six 65535 65535 65536 65535 65535 65535) (six 65 66 67 65 64 65)) load 3 ∷
    refuses "y6-20 air 262143" (row (six 262143 65535 65535 65535 65535 65535) (six 65 66 67 65 64 65)) load 3 ∷
    []

-- ---- the ends of the range, for Cases/RangeEnds too: above it and below it in a row, in columns and in a long sweep, and below it in a cap
abbrev pub row_above : World
row_above = row (six 100 33487 65534 34089 60640 100) (six 0 31599 65532 34088 24 0)

abbrev pub row_above_fluxes : List ℤ
row_above_fluxes = four (minus 30898) (pos 59) (minus 17126) (minus 17645)

abbrev pub row_below : World
row_below = row (six 100 62143 9286 62143 100 100) (six 0 87 13 87 1 0)

abbrev pub row_below_fluxes : List ℤ
row_below_fluxes = four (pos 25755) (minus 25755) (pos 0) (pos 0)

abbrev pub columns_above : World
columns_above = world (grid 4 1 3 1) (replicate 6 1 ++ replicate 6 536 ++ replicate 6 8) (replicate 6 0 ++ replicate 6 535 ++ replicate 6 8)

abbrev pub columns_above_edges : List ℕ
columns_above_edges = 0 ∷ 0 ∷ 1 ∷ 0 ∷ 536 ∷ 0 ∷ 0 ∷ 65536 ∷ []

abbrev pub columns_below : World
columns_below = world (grid 4 1 3 1) (replicate 6 20715 ++ replicate 6 62143 ++ replicate 6 1000) (replicate 6 29 ++ replicate 6 87 ++ replicate 6 10)

abbrev pub columns_below_edges : List ℕ
columns_below_edges = 0 ∷ 0 ∷ 50756 ∷ 0 ∷ 82858 ∷ 0 ∷ 0 ∷ 65536 ∷ []

abbrev pub long_above : World
long_above = row (six 100 3 536 13 7 100) (six 0 0 535 13 7 0)

abbrev pub long_above_fluxes : List ℤ
long_above_fluxes = four (pos 0) (pos 1) (pos 0) (pos 0)

abbrev pub long_below : World
long_below = row (six 100 20715 62143 1000 1000 100) (six 0 29 87 10 2 0)

abbrev pub long_below_fluxes : List ℤ
long_below_fluxes = four (minus 30041) (pos 0) (pos 0) (pos 0)

abbrev pub cap_below : World
cap_below = row (six 2450 64515 64515 64515 64515 100) (six 3 79 79 79 79 1)

abbrev pub cap_below_fluxes : List ℤ
cap_below_fluxes = replicate 4 (minus 15553) ++ replicate 4 (pos 0)

pub ends : List Case
ends =
    gives "y6-23" row_above (zonal 0 0 row_above_fluxes) 1 (six 100 46740 34577 51274 61159 100) (six 0 46316 34578 34152 16197 0) ∷
    gives "y6-24" row_below (zonal 0 0 row_below_fluxes) 1 (six 100 36388 60796 36388 100 100) (six 0 52 83 52 1 0) ∷
    gives "y6-25" columns_above (remap columns_above_edges) 24
    (replicate 6 1 ++ replicate 6 535 ++ replicate 6 9)
    (replicate 6 0 ++ six 534 533 533 533 533 534 ++ six 9 10 10 10 10 9) ∷
    gives "y6-26" columns_below (remap columns_below_edges) 24
    (replicate 6 50756 ++ replicate 6 32102 ++ replicate 6 1000)
    (six 71 70 70 70 70 71 ++ six 45 46 46 46 46 45 ++ replicate 6 10) ∷
    gives "y6-27" long_above (long_zonal 0 0 long_above_fluxes) 0 (six 100 3 535 14 7 100) (six 0 0 533 15 7 0) ∷
    gives "y6-28" long_below (long_zonal 0 0 long_below_fluxes) 0 (six 100 50756 32102 1000 1000 100) (six 0 70 46 10 2 0) ∷
    gives "y6-29" cap_below (meridional 0 cap_below_fluxes) 1 (six 64662 48962 48962 48962 48962 100) (six 75 61 61 61 61 1) ∷
    []

abbrev pub thin_gases : List Case
thin_gases = thin ++ large ++ kept ++ ends

pub thin_cases_hold : Hold thin_gases
unfolding thin large kept ends computes
thin_cases_hold = hold thin_gases refl
