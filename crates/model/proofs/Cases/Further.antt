-- Further cases x1 to x9, for what m1 to m12 do not show, as one table with one theorem about `step`: the scale, parts of negative fluxes, a cap's outflow, a count that is not monotone, the last row, layer and tracer, either side of every limit, the order of the refusals.
-- Assumes nothing. Numbers that document 01 does not give come from the second implementation (reference/cases/further.txt).
use Rattle.std.specs.Prelude.{ℕ, ◌*◌, List, [], ◌∷◌, ◌++◌, refl, ℤ, pos, neg_ℤ, replicate, set}
use Prim.Native.String.{String}
use Rattle.model.specs.World.{Grid, World, world_cells}
use Rattle.model.specs.Step.{Call, load, emission, withdrawal, zonal, meridional, remap, total, cell}
use Rattle.model.proofs.Cases.{Case, Hold, hold, computes}
use Rattle.model.proofs.Cases.Marked.{grid, world, four, six, row, gives, refuses, hundreds, peak, sweep, stair}

-- a case that is accepted and changes nothing
abbrev pub keeps : String → World → Call → ℕ → Case
keeps label w call count = gives label w call count w.air w.tracers

-- a grid with air 100 and tracer 1 in every cell
abbrev filled : Grid → World
filled g = world g (replicate (world_cells g) 100) (replicate (g.N * world_cells g) 1)

-- eight fluxes of a meridional sweep of one row: four faces south of the row, four north of it
abbrev eight : ℤ → ℤ → ℤ → ℤ → ℤ → ℤ → ℤ → ℤ → Call
eight a b c d e f g h = meridional 0 (four a b c d ++ four e f g h)

-- all four fluxes of a zonal sweep the same
abbrev round : ℤ → Call
round F = sweep F F F F

abbrev least : Grid
least = grid 4 1 1 1

-- grid 4, 1, 1, 1 with one cell's air, or one cell's tracer, set to an amount
abbrev with_air : ℕ → ℕ → World
with_air c amount = world least (set hundreds c amount) (replicate 6 1)

abbrev with_tracer : ℕ → ℕ → World
with_tracer c amount = world least hundreds (set (replicate 6 0) c amount)

-- grid 4, 1, 2, 1 with the same air in every cell, and a table of three pairs of which the second is (a, b)
abbrev pub two_layers : ℕ → World
two_layers air = world (grid 4 1 2 1) (replicate 12 air) (replicate 12 1)

abbrev pub middle : ℕ → ℕ → Call
middle a b = remap (0 ∷ 0 ∷ a ∷ b ∷ 0 ∷ 65536 ∷ [])

-- two rows, two layers and two tracers: a layer of ten amounts, south cap, row 0, row 1, north cap
abbrev pub ten : ℕ → ℕ → ℕ → ℕ → ℕ → ℕ → ℕ → ℕ → ℕ → ℕ → List ℕ
ten s a b c d e f g h n = s ∷ a ∷ b ∷ c ∷ d ∷ e ∷ f ∷ g ∷ h ∷ n ∷ []

abbrev pub twos : World
twos =
    world (grid 4 2 2 2)
    (ten 120 101 97 133 88 140 92 111 105 150 ++ ten 160 99 118 76 131 94 127 83 109 145)
    (ten 10 3 250 88 131 40 97 222 15 60 ++ ten 70 12 180 33 205 141 9 64 118 52 ++
    ten 5 7 11 13 17 19 23 29 31 37 ++ ten 41 143 47 53 59 61 167 71 73 79)

-- four layers
abbrev deep : World
deep =
    world (grid 4 1 4 1)
    (six 60 90 120 80 75 66 ++ six 70 85 110 95 64 71 ++ six 90 100 60 88 123 57 ++ six 80 77 93 101 69 84)
    (six 30 5 90 40 75 11 ++ six 35 60 10 95 3 22 ++ six 40 120 55 8 150 31 ++ six 70 19 144 77 26 50)

pub scheme : List Case
scheme =
    gives "x1" (row (six 100 928 314 81 658 100) (six 0 221 496 522 317 0)) (sweep (pos 421) (pos 462) (pos 475) (pos 229)) 7
    (six 100 736 273 68 904 100)
    (six 0 321 110 27 1098 0) ∷
    gives "x2" (row hundreds (six 0 3 1 8 5 0)) (round (neg_ℤ (pos 151))) 2 hundreds (six 0 6 5 5 1 0) ∷
    refuses "x3" (row (six 100 200 200 200 200 200) (replicate 6 0))
    (eight (pos 60) (pos 60) (neg_ℤ (pos 50)) (pos 0) (pos 0) (pos 0) (pos 0) (pos 0)) 10 ∷
    gives "x4" (row (six 170 200 200 200 200 200) (six 50 10 20 30 40 5))
    (eight (pos 60) (pos 60) (neg_ℤ (pos 50)) (pos 0) (pos 0) (pos 0) (pos 0) (pos 0)) 1
    (six 100 260 260 150 200 200)
    (six 26 27 37 20 40 5) ∷
    gives "x5 count 5" (row (six 100 1 1000 1000 1000 100) (replicate 6 0)) (sweep (pos 9) (pos 0) (pos 0) (pos 10)) 5
    (six 100 2 1009 1000 990 100)
    (replicate 6 0) ∷
    gives "x5 count 14" (row (six 100 1 1000 1000 1000 100) (replicate 6 0)) (sweep (pos 20) (pos 0) (pos 0) (pos 21)) 14
    (six 100 2 1020 1000 979 100)
    (replicate 6 0) ∷
    keeps "x6 load" twos load 0 ∷
    gives "x6 emission" twos (emission 1 19 7) 0 twos.air (set twos.tracers 39 86) ∷
    gives "x6 withdrawal" twos (withdrawal 1 19 79) 0 twos.air (set twos.tracers 39 0) ∷
    gives "x6 zonal" twos (zonal 1 1 (four (pos 130) (pos 110) (pos 140) (pos 120))) 3
    (ten 120 101 97 133 88 140 92 111 105 150 ++ ten 160 99 118 76 131 84 147 53 129 145)
    (ten 10 3 250 88 131 40 97 222 15 60 ++ ten 70 12 180 33 205 88 146 31 67 52 ++
    ten 5 7 11 13 17 19 23 29 31 37 ++ ten 41 143 47 53 59 62 125 57 128 79) ∷
    gives "x6 meridional" twos
    (meridional 1
    (four (pos 20) (neg_ℤ (pos 15)) (pos 10) (pos 5) ++
    four (pos 30) (neg_ℤ (pos 25)) (pos 12) (neg_ℤ (pos 8)) ++
    four (neg_ℤ (pos 22)) (neg_ℤ (pos 18)) (pos 9) (neg_ℤ (pos 14)))) 1
    (ten 120 101 97 133 88 140 92 111 105 150 ++ ten 140 89 128 74 144 146 120 86 115 100)
    (ten 10 3 250 88 131 40 97 222 15 60 ++ ten 78 17 159 32 217 151 14 63 113 40 ++
    ten 5 7 11 13 17 19 23 29 31 37 ++ ten 37 105 75 46 65 115 144 73 75 59) ∷
    gives "x6 remap" twos (remap (0 ∷ 0 ∷ 30 ∷ 20000 ∷ 0 ∷ 65536 ∷ [])) 30
    (ten 115 91 95 93 96 101 96 89 95 120 ++ ten 165 109 120 116 123 133 123 105 119 175)
    (ten 9 2 244 61 143 28 97 178 13 48 ++ ten 71 13 186 60 193 153 9 108 120 64 ++
    ten 4 6 10 9 20 13 28 23 28 29 ++ ten 42 144 48 57 56 67 162 77 76 87) ∷
    keeps "x6 total" twos (total 1) 986 ∷
    keeps "x6 cell" twos (cell 1 19) 79 ∷
    gives "x8 remap of four layers" deep (remap (0 ∷ 0 ∷ 20 ∷ 3000 ∷ 10 ∷ 20000 ∷ 40 ∷ 50000 ∷ 0 ∷ 65536 ∷ [])) 42
    (six 33 36 37 36 35 32 ++ six 68 81 89 85 76 62 ++ six 167 191 206 196 181 158 ++ six 32 44 51 47 39 26)
    (six 16 2 27 18 35 5 ++ six 34 16 63 63 41 14 ++ six 97 175 130 103 163 79 ++ six 28 11 79 36 15 16) ∷
    gives "x8 remap into one layer" deep (remap (0 ∷ 0 ∷ 1 ∷ 0 ∷ 2 ∷ 0 ∷ 3 ∷ 0 ∷ 0 ∷ 65536 ∷ [])) 42
    (replicate 18 1 ++ six 297 349 380 361 328 275)
    (six 0 0 0 0 1 0 ++ six 1 0 1 1 1 0 ++ six 0 0 1 0 1 0 ++ six 174 204 297 219 251 114) ∷
    gives "x9 both caps give" (world (grid 4 2 1 1) (ten 200 150 150 150 150 120 120 120 120 240) (ten 100 150 165 140 90 200 150 190 176 480))
    (meridional 0
    (four (pos 60) (pos 40) (neg_ℤ (pos 20)) (pos 0) ++
    four (pos 50) (pos 10) (neg_ℤ (pos 30)) (neg_ℤ (pos 10)) ++
    four (neg_ℤ (pos 70)) (neg_ℤ (pos 20)) (pos 30) (neg_ℤ (pos 60)))) 1
    (ten 120 160 180 160 160 240 150 60 170 120)
    (ten 63 121 173 168 101 399 202 96 285 233) ∷
    gives "x9 odd difference" (row (six 100 35359 60088 58021 100 100) (six 0 116847 101356 11363 0 0)) (sweep (pos 0) (pos 19448) (pos 19448) (pos 0)) 1
    (six 100 35359 40640 58021 19548 100)
    (six 0 116847 78774 32669 1276 0) ∷
    gives "x9 mixed directions" (row (six 500 400 300 200 350 500) (six 10 310 120 500 90 77))
    (sweep (pos 100) (neg_ℤ (pos 290)) (neg_ℤ (pos 300)) (neg_ℤ (pos 220))) 2
    (six 500 80 690 210 270 500)
    (six 10 67 694 112 147 77) ∷
    gives "x9 cap that takes in from four columns" (row (six 511 64665 64665 64665 64665 263) (six 690 87317 87317 87317 87317 2104))
    (eight (neg_ℤ (pos 12604)) (neg_ℤ (pos 12604)) (neg_ℤ (pos 12604)) (neg_ℤ (pos 12604)) (pos 0) (pos 0) (pos 0) (pos 0)) 1
    (six 50927 52061 52061 52061 52061 263)
    (six 68766 70298 70298 70298 70298 2104) ∷
    []

-- x7, places 1 and 2
pub lent : List Case
lent =
    refuses "W 3" (filled (grid 3 1 1 1)) (total 0) 1 ∷
    keeps "W 4" (filled least) (total 0) 6 ∷
    keeps "W 72" (filled (grid 72 1 1 1)) (total 0) 74 ∷
    refuses "W 73" (filled (grid 73 1 1 1)) (total 0) 1 ∷
    refuses "R 0" (filled (grid 4 0 1 1)) (total 0) 1 ∷
    keeps "R 44" (filled (grid 4 44 1 1)) (total 0) 178 ∷
    refuses "R 45" (filled (grid 4 45 1 1)) (total 0) 1 ∷
    refuses "K 0" (filled (grid 4 1 0 1)) (total 0) 1 ∷
    keeps "K 32" (filled (grid 4 1 32 1)) (total 0) 192 ∷
    refuses "K 33" (filled (grid 4 1 33 1)) (total 0) 1 ∷
    refuses "N 0" (filled (grid 4 1 1 0)) (total 0) 1 ∷
    keeps "N 8" (filled (grid 4 1 1 8)) (total 7) 6 ∷
    refuses "N 9" (filled (grid 4 1 1 9)) (total 0) 1 ∷
    keeps "load" (filled least) load 0 ∷
    refuses "air short" (world least (replicate 5 100) (replicate 6 1)) load 2 ∷
    refuses "air long" (world least (replicate 7 100) (replicate 6 1)) load 2 ∷
    refuses "tracers short" (world least hundreds (replicate 5 1)) load 2 ∷
    refuses "tracers long" (world least hundreds (replicate 7 1)) load 2 ∷
    refuses "tracers of one" (world (grid 4 1 1 2) hundreds (replicate 6 1)) load 2 ∷
    refuses "fluxes 3" peak (zonal 0 0 (replicate 3 (pos 0))) 2 ∷
    refuses "fluxes 5" peak (zonal 0 0 (replicate 5 (pos 0))) 2 ∷
    keeps "fluxes 8" peak (meridional 0 (replicate 8 (pos 0))) 1 ∷
    refuses "fluxes 7" peak (meridional 0 (replicate 7 (pos 0))) 2 ∷
    refuses "fluxes 9" peak (meridional 0 (replicate 9 (pos 0))) 2 ∷
    keeps "table 4" peak (remap (0 ∷ 0 ∷ 0 ∷ 65536 ∷ [])) 6 ∷
    refuses "table 3" peak (remap (0 ∷ 0 ∷ 0 ∷ [])) 2 ∷
    refuses "table 5" peak (remap (0 ∷ 0 ∷ 0 ∷ 65536 ∷ 0 ∷ [])) 2 ∷
    []

-- x7, places 3 to 7
pub amounts : List Case
amounts =
    refuses "air 0 first" (with_air 0 0) (total 0) 3 ∷
    keeps "air 1 first" (with_air 0 1) (total 0) 6 ∷
    refuses "air 0 last" (with_air 5 0) (total 0) 3 ∷
    keeps "air 65535 last" (with_air 5 65535) (total 0) 6 ∷
    refuses "air 65536 last" (with_air 5 65536) (total 0) 3 ∷
    keeps "total at limit" (with_tracer 5 268435455) (total 0) 268435455 ∷
    refuses "total over limit" (with_tracer 5 268435456) (total 0) 4 ∷
    refuses "total over in two cells" (row hundreds (six 268435455 0 0 0 0 1)) load 4 ∷
    refuses "second total over" (world (grid 4 1 1 2) hundreds (replicate 6 0 ++ six 0 0 0 0 0 268435456)) (total 0) 4 ∷
    refuses "eighth total over" (world (grid 4 1 1 8) hundreds (replicate 47 0 ++ 268435456 ∷ [])) (total 0) 4 ∷
    keeps "eighth total at limit" (world (grid 4 1 1 8) hundreds (replicate 47 0 ++ 268435455 ∷ [])) (total 7) 268435455 ∷
    keeps "two totals at limit" (world (grid 4 1 1 2) hundreds (six 268435455 0 0 0 0 0 ++ six 0 0 0 0 0 268435455)) (total 1) 268435455 ∷
    refuses "emission, tracer" peak (emission 1 0 1) 5 ∷
    refuses "emission, cell" peak (emission 0 6 1) 5 ∷
    refuses "withdrawal, tracer" peak (withdrawal 1 0 0) 5 ∷
    refuses "withdrawal, cell" peak (withdrawal 0 6 0) 5 ∷
    refuses "zonal, layer" peak (zonal 1 0 (replicate 4 (pos 0))) 5 ∷
    refuses "zonal, row" peak (zonal 0 1 (replicate 4 (pos 0))) 5 ∷
    refuses "meridional, layer" peak (meridional 1 (replicate 8 (pos 0))) 5 ∷
    refuses "total, tracer" peak (total 1) 5 ∷
    refuses "cell, tracer" peak (cell 1 0) 5 ∷
    refuses "cell, cell" peak (cell 0 6) 5 ∷
    gives "emission to the limit" peak (emission 0 5 268435055) 0 hundreds (six 0 0 100 200 100 268435055) ∷
    refuses "emission over the limit" peak (emission 0 5 268435056) 6 ∷
    refuses "emission, greatest" peak (emission 0 0 4294967295) 6 ∷
    gives "withdrawal of all" peak (withdrawal 0 3 200) 0 hundreds (six 0 0 100 0 100 0) ∷
    refuses "withdrawal of more" peak (withdrawal 0 3 201) 7 ∷
    []

-- x7, places 8 to 10
pub fluxes : List Case
fluxes =
    keeps "zonal 1048560" (world least (replicate 6 65535) (replicate 6 1)) (round (pos 1048560)) 16 ∷
    refuses "zonal 1048561" (world least (replicate 6 65535) (replicate 6 1)) (round (pos 1048561)) 8 ∷
    keeps "zonal -1048560" (world least (replicate 6 65535) (replicate 6 1)) (round (neg_ℤ (pos 1048560))) 16 ∷
    refuses "zonal -1048561" (world least (replicate 6 65535) (replicate 6 1)) (round (neg_ℤ (pos 1048561))) 8 ∷
    refuses "zonal, last flux" peak (sweep (pos 0) (pos 0) (pos 0) (neg_ℤ (pos 2147483648))) 8 ∷
    keeps "all outflow" (filled least) (round (pos 100)) 1 ∷
    keeps "one more" (filled least) (round (pos 101)) 2 ∷
    gives "zonal, air 65535 afterwards" (with_air 2 65500) (sweep (pos 35) (pos 0) (pos 0) (pos 0)) 1 (six 100 65 65535 100 100 100) (replicate 6 1) ∷
    refuses "zonal, air 65536 afterwards" (with_air 2 65500) (sweep (pos 36) (pos 0) (pos 0) (pos 0)) 9 ∷
    keeps "meridional 65535" (world least (replicate 6 65535) (replicate 6 1))
    (eight (pos 65535) (neg_ℤ (pos 65535)) (pos 0) (pos 0) (pos 65535) (neg_ℤ (pos 65535)) (pos 0) (pos 0)) 1 ∷
    refuses "meridional 65536" (world least (replicate 6 65535) (replicate 6 1))
    (eight (pos 65535) (neg_ℤ (pos 65535)) (pos 0) (pos 0) (pos 65536) (neg_ℤ (pos 65535)) (pos 0) (pos 0)) 8 ∷
    refuses "meridional, last flux" peak (eight (pos 0) (pos 0) (pos 0) (pos 0) (pos 0) (pos 0) (pos 0) (neg_ℤ (pos 2147483648))) 8 ∷
    gives "meridional, air 1 afterwards" (filled least) (eight (pos 0) (pos 0) (pos 0) (pos 0) (pos 0) (pos 0) (pos 0) (neg_ℤ (pos 99))) 1
    (six 100 100 100 100 199 1)
    (six 1 1 1 1 1 1) ∷
    refuses "meridional, air 0 afterwards" (filled least) (eight (pos 0) (pos 0) (pos 0) (pos 0) (pos 0) (pos 0) (pos 0) (neg_ℤ (pos 100))) 10 ∷
    gives "meridional, air 65535 afterwards" (with_air 4 65500) (eight (pos 0) (pos 0) (pos 0) (pos 0) (pos 0) (pos 0) (pos 0) (neg_ℤ (pos 35))) 1
    (six 100 100 100 100 65535 65)
    (replicate 6 1) ∷
    refuses "meridional, air 65536 afterwards" (with_air 4 65500) (eight (pos 0) (pos 0) (pos 0) (pos 0) (pos 0) (pos 0) (pos 0) (neg_ℤ (pos 36))) 10 ∷
    refuses "meridional, outflow above air" (filled least) (eight (pos 100) (pos 0) (pos 0) (pos 0) (pos 101) (pos 0) (pos 0) (pos 0)) 10 ∷
    refuses "north cap's outflow" (row (six 200 200 200 200 200 100) (replicate 6 0))
    (eight (pos 0) (pos 0) (pos 0) (pos 0) (neg_ℤ (pos 60)) (neg_ℤ (pos 60)) (pos 50) (pos 0)) 10 ∷
    []

-- x7, places 11 and 12
pub tables : List Case
tables =
    refuses "first a" peak (remap (1 ∷ 0 ∷ 0 ∷ 65536 ∷ [])) 11 ∷
    refuses "first b" peak (remap (0 ∷ 1 ∷ 0 ∷ 65536 ∷ [])) 11 ∷
    refuses "last a" peak (remap (0 ∷ 0 ∷ 1 ∷ 65536 ∷ [])) 11 ∷
    refuses "last b" peak (remap (0 ∷ 0 ∷ 0 ∷ 65535 ∷ [])) 11 ∷
    refuses "a 2097120" (two_layers 100) (middle 2097120 0) 12 ∷
    refuses "a 2097121" (two_layers 100) (middle 2097121 0) 11 ∷
    refuses "b 65536" (two_layers 100) (middle 0 65536) 12 ∷
    refuses "b 65537" (two_layers 100) (middle 0 65537) 11 ∷
    refuses "edges equal" (two_layers 100) (middle 0 0) 12 ∷
    gives "edge 1" (two_layers 100) (middle 1 0) 18 (replicate 6 1 ++ replicate 6 199) (replicate 6 0 ++ replicate 6 2) ∷
    gives "edge 199" (two_layers 100) (middle 199 0) 18 (replicate 6 199 ++ replicate 6 1) (replicate 6 1 ++ replicate 6 1) ∷
    keeps "edges of the old layers" stair (remap (0 ∷ 0 ∷ 100 ∷ 0 ∷ 200 ∷ 0 ∷ 0 ∷ 65536 ∷ [])) 18 ∷
    gives "new layer 65535" (two_layers 40000) (middle 65535 0) 18 (replicate 6 65535 ++ replicate 6 14465) (replicate 6 1 ++ replicate 6 1) ∷
    refuses "new layer 65536" (two_layers 40000) (middle 65536 0) 12 ∷
    refuses "last new layer 65536" (two_layers 40000) (middle 14464 0) 12 ∷
    refuses "south cap's column" (world (grid 4 1 2 1) (six 1 100 100 100 100 100 ++ six 1 100 100 100 100 100) (replicate 12 0)) (middle 0 16384) 12 ∷
    refuses "north cap's column" (world (grid 4 1 2 1) (six 100 100 100 100 100 1 ++ six 100 100 100 100 100 1) (replicate 12 0)) (middle 0 16384) 12 ∷
    []

-- x7, the order: a refusal where a later one applies too
pub order : List Case
order =
    refuses "1 before 2" (world (grid 3 1 1 1) hundreds (replicate 6 0)) load 1 ∷
    refuses "2 before 3" (world least (replicate 5 0) (replicate 6 0)) load 2 ∷
    refuses "2 before 3, fluxes" (with_air 0 0) (zonal 0 0 []) 2 ∷
    refuses "3 before 4" (world least (set hundreds 3 0) (set (replicate 6 0) 3 268435456)) load 3 ∷
    refuses "4 before 5" (with_tracer 0 268435456) (total 1) 4 ∷
    refuses "4 before 6" (with_tracer 0 268435456) (emission 0 0 1) 4 ∷
    refuses "5 before 6" peak (emission 1 0 4294967295) 5 ∷
    refuses "5 before 6, cell" peak (emission 0 6 4294967295) 5 ∷
    refuses "5 before 7" peak (withdrawal 1 0 1) 5 ∷
    refuses "5 before 7, cell" peak (withdrawal 0 6 1) 5 ∷
    refuses "5 before 8, layer" peak (zonal 1 0 (replicate 4 (pos 2000000))) 5 ∷
    refuses "5 before 8, row" peak (zonal 0 1 (replicate 4 (pos 2000000))) 5 ∷
    refuses "8 before 9" peak (round (pos 2000000)) 8 ∷
    refuses "5 before 8, meridional" peak (meridional 1 (replicate 8 (pos 65536))) 5 ∷
    refuses "8 before 10" peak (meridional 0 (replicate 8 (pos 65536))) 8 ∷
    refuses "4 before 11" (with_tracer 0 268435456) (remap (1 ∷ 0 ∷ 0 ∷ 65536 ∷ [])) 4 ∷
    refuses "11 before 12" (two_layers 100) (middle 0 65537) 11 ∷
    refuses "11 before 12, first pair" (two_layers 100) (remap (300 ∷ 0 ∷ 0 ∷ 0 ∷ 0 ∷ 65536 ∷ [])) 11 ∷
    []

pub further : List Case
further = scheme ++ lent ++ amounts ++ fluxes ++ tables ++ order

pub further_cases_hold : Hold further
unfolding further scheme lent amounts fluxes tables order computes
further_cases_hold = hold further refl
