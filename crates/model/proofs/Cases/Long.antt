-- Cases y1-1 to y1-23 of document 02, Slip 1, as one table with one theorem about `step`, and the answer of y1-24; then its range, computed: a cell that lies across column 0, and one that only touches.
-- Assumes nothing. Numbers that document 02 and the request do not give come from the second implementation (reference/cases/long.txt).
use Rattle.std.specs.Prelude.{ℕ, ◌+◌, ◌*◌, ◌%◌, List, [], ◌∷◌, ◌++◌, true, false, ◌≡◌, refl, ℤ, pos, neg_ℤ, replicate, set}
use Rattle.model.specs.Basic.{tab}
use Rattle.model.specs.World.{World}
use Rattle.model.specs.Scheme.{mismatch}
use Rattle.model.specs.Long.{long_air, long_gas}
use Rattle.model.specs.Range.{in_range, is_near, overlaps, is_near_overlap, long_cell_in_range}
use Rattle.model.specs.Step.{Call, zonal, long_zonal, step}
use Rattle.model.proofs.Cases.{Case, Hold, hold, computes}
use Rattle.model.proofs.Cases.Marked.{grid, world, four, six, row, gives, refuses, peak}
use Rattle.model.proofs.Cases.Further.{keeps, ten, twos}

abbrev long : ℤ → ℤ → ℤ → ℤ → Call
long a b c d = long_zonal 0 0 (four a b c d)

-- a row of uneven air; rows of 18, of 17 and of 72 columns
abbrev uneven : World
uneven = row (six 100 90 120 60 130 100) (six 0 40 300 5 170 0)

abbrev steep : World
steep = world (grid 18 1 1 1) (replicate 20 100) (0 ∷ tab 18 (λ i. i * 37 % 211) ++ 0 ∷ [])

abbrev full : World
full = world (grid 17 1 1 1) (replicate 19 65535) (tab 19 (λ i. i))

abbrev wide : World
wide = world (grid 72 1 1 1) (replicate 74 100) (0 ∷ tab 72 (λ i. i * 37 % 211) ++ 0 ∷ [])

pub long_sweeps : List Case
long_sweeps =
    -- half a cell east
    gives "y1-1" peak (long (pos 0) (pos 50) (pos 0) (pos 0)) 0 (six 100 100 50 150 100 100) (six 0 0 37 263 100 0) ∷
    -- a whole turn east
    keeps "y1-2" peak (long (pos 400) (pos 400) (pos 400) (pos 400)) 0 ∷
    -- a whole turn west
    keeps "y1-3" peak (long (neg_ℤ (pos 400)) (neg_ℤ (pos 400)) (neg_ℤ (pos 400)) (neg_ℤ (pos 400))) 0 ∷
    -- more than half a turn west
    gives "y1-4" peak (long (neg_ℤ (pos 250)) (neg_ℤ (pos 250)) (neg_ℤ (pos 230)) (neg_ℤ (pos 270))) 0 (six 100 80 100 80 140 100) (six 0 122 38 19 221 0) ∷
    -- 16: a flux above the row's air
    refuses "y1-5 a" peak (long (pos 401) (pos 400) (pos 400) (pos 400)) 16 ∷
    refuses "y1-5 b" peak (long (neg_ℤ (pos 400)) (neg_ℤ (pos 400)) (neg_ℤ (pos 401)) (neg_ℤ (pos 400))) 16 ∷
    -- 17: a cell would empty, and one unit less
    refuses "y1-6 a" peak (long (pos 100) (pos 0) (pos 0) (pos 0)) 17 ∷
    gives "y1-6 b" peak (long (pos 99) (pos 0) (pos 0) (pos 0)) 0 (six 100 1 199 100 100 100) (six 0 0 100 200 100 0) ∷
    -- 16 before 17
    refuses "y1-7" peak (long (pos 401) (pos 0) (pos 0) (pos 0)) 16 ∷
    -- 8 before 16, and its limit
    refuses "y1-8 a" peak (long (pos 1048561) (pos 0) (pos 0) (pos 0)) 8 ∷
    refuses "y1-8 b" peak (long (neg_ℤ (pos 1048561)) (pos 0) (pos 0) (pos 0)) 8 ∷
    refuses "y1-8 c" peak (long (pos 1048560) (pos 0) (pos 0) (pos 0)) 16 ∷
    refuses "y1-8 d" peak (long (pos 0) (pos 0) (pos 0) (neg_ℤ (pos 1048560))) 16 ∷
    -- the range needs more than one unit
    gives "y1-9" (row (six 100 3 536 13 7 100) (six 0 0 535 13 7 0)) (long (pos 0) (pos 1) (pos 0) (pos 0)) 0 (six 100 3 535 14 7 100) (six 0 0 533 15 7 0) ∷
    -- column 0's stretch crosses column 0, to the west
    gives "y1-10" uneven (long (pos 35) (pos 20) (pos 30) (pos 55)) 0 (six 100 110 135 50 105 100) (six 0 96 266 52 101 0) ∷
    -- the last column's stretch crosses column 0, to the east
    gives "y1-11" uneven (long (neg_ℤ (pos 35)) (neg_ℤ (pos 60)) (neg_ℤ (pos 30)) (neg_ℤ (pos 75))) 0 (six 100 50 145 30 175 100) (six 0 94 218 39 164 0) ∷
    -- uneven air, nearly a turn east
    gives "y1-12" uneven (long (pos 399) (pos 400) (pos 371) (pos 388)) 0 (six 100 79 119 89 113 100) (six 0 37 298 42 138 0) ∷
    -- uneven air, nearly a turn west
    gives "y1-13" uneven (long (neg_ℤ (pos 399)) (neg_ℤ (pos 400)) (neg_ℤ (pos 371)) (neg_ℤ (pos 388))) 0 (six 100 101 121 31 147 100) (six 0 55 301 2 157 0) ∷
    -- fluxes of both signs, a cell spread over all
    gives "y1-14" (row (six 100 90 250 60 130 100) (six 0 40 900 5 170 0)) (long (neg_ℤ (pos 60)) (pos 150) (pos 140) (neg_ℤ (pos 35))) 0 (six 100 115 40 70 305 100) (six 0 241 144 252 478 0) ∷
    -- 17: air above 65,535, and at it
    refuses "y1-15 a" (row (six 100 65535 100 65534 100 100) (six 0 1 2 3 4 0)) (long (pos 0) (pos 2) (pos 0) (pos 0)) 17 ∷
    gives "y1-15 b" (row (six 100 65535 100 65534 100 100) (six 0 1 2 3 4 0)) (long (pos 0) (pos 1) (pos 0) (pos 0)) 0 (six 100 65535 99 65535 100 100) (six 0 1 1 4 4 0) ∷
    refuses "y1-15 c" (row (six 100 65535 99 65535 100 100) (six 0 1 1 4 4 0)) (long (pos 0) (pos 0) (pos 0) (pos 1)) 17 ∷
    -- the largest row and the largest total, nearly a turn
    gives "y1-16" (row (six 100 65535 65535 65535 65535 100) (six 0 100000000 68435455 0 100000000 0)) (long (pos 262139) (pos 262139) (pos 262139) (pos 262139)) 0 (six 100 65535 65535 65535 65535 100) (six 0 99999900 68434030 1525 100000000 0) ∷
    -- one row in one layer, all tracers
    gives "y1-17" twos (long_zonal 1 1 (four (pos 230) (pos 210) (pos 240) (pos 220))) 0
    (ten 120 101 97 133 88 140 92 111 105 150 ++ ten 160 99 118 76 131 84 147 53 129 145)
    (ten 10 3 250 88 131 40 97 222 15 60 ++ ten 70 12 180 33 205 40 160 80 52 52 ++ ten 5 7 11 13 17 19 23 29 31 37 ++ ten 41 143 47 53 59 87 101 34 150 79) ∷
    -- places 5, 8 and 2 in order
    refuses "y1-18 a" twos (long_zonal 2 1 (four (pos 1048561) (pos 0) (pos 0) (pos 0))) 5 ∷
    refuses "y1-18 b" twos (long_zonal 1 2 (four (pos 1048561) (pos 0) (pos 0) (pos 0))) 5 ∷
    refuses "y1-18 c" twos (long_zonal 1 1 (four (pos 1048561) (pos 0) (pos 0) (pos 0))) 8 ∷
    refuses "y1-18 d" twos (long_zonal 2 2 (pos 1048561 ∷ pos 0 ∷ pos 0 ∷ [])) 2 ∷
    refuses "y1-18 e" twos (long_zonal 1 1 (replicate 5 (pos 0))) 2 ∷
    -- 4 before 5
    refuses "y1-19" (world twos.grid twos.air (set twos.tracers 0 268435455)) (long_zonal 2 1 (four (pos 0) (pos 0) (pos 0) (pos 0))) 4 ∷
    -- 3 before 4
    refuses "y1-20" (world twos.grid (set twos.air 0 0) (set twos.tracers 0 268435455)) (long_zonal 2 1 (four (pos 0) (pos 0) (pos 0) (pos 0))) 3 ∷
    -- 1 before 2
    refuses "y1-21" (world (grid 3 2 2 2) twos.air twos.tracers) (long_zonal 0 0 (pos 0 ∷ [])) 1 ∷
    -- a row that no count serves
    refuses "y1-22 a" steep (zonal 0 0 (replicate 18 (pos 1601))) 9 ∷
    gives "y1-22 b" steep (long_zonal 0 0 (replicate 18 (pos 1601))) 0 steep.air
    (0 ∷ 74 ∷ 110 ∷ 148 ∷ 185 ∷ 12 ∷ 48 ∷ 84 ∷ 122 ∷ 159 ∷ 196 ∷ 23 ∷ 59 ∷ 95 ∷ 133 ∷ 170 ∷ 206 ∷ 3 ∷ 36 ∷ 0 ∷ []) ∷
    -- 8 where 16 does not apply: the row has 1,114,095 units of air
    refuses "y1-23 a" full (long_zonal 0 0 (replicate 17 (neg_ℤ (pos 1048561)))) 8 ∷
    gives "y1-23 b" full (long_zonal 0 0 (replicate 17 (pos 1048560))) 0 full.air
    (0 ∷ tab 16 (λ i. i + 2) ++ 1 ∷ 18 ∷ []) ∷
    []

pub long_cases_hold : Hold long_sweeps
unfolding long_sweeps computes
long_cases_hold = hold long_sweeps refl

-- y1-24, a row of 72 that no count serves: that it is accepted; its amounts, and the zonal sweep's 9 there, take the checker long (y1-22 has both with 18 columns, the second implementation with 72)
pub wide_accepted : (step wide (long_zonal 0 0 (replicate 72 (pos 1601)))).answer ≡ 0
unfolding computes
wide_accepted = refl

-- ---- a cell that lies across column 0: of six columns with air 100, by fluxes of 50, new cell 0 takes half of column 5 and half of column 0; their neighbours are 4 and 1
abbrev across : List ℕ
across = 10 ∷ 20 ∷ 900 ∷ 0 ∷ 30 ∷ 40 ∷ []

abbrev halves : List ℤ
halves = replicate 6 (pos 50)

pub across_column_0 :
    tab 6 (λ c. is_near_overlap 6 (overlaps 6 halves (replicate 6 100) 0) c) ≡ true ∷ true ∷ false ∷ false ∷ true ∷ true ∷ []
unfolding computes in_range is_near overlaps is_near_overlap
across_column_0 = refl

-- by fluxes of 100 it takes column 5 alone, and only touches columns 4 and 0: these are near as neighbours, and 1 is not
pub touching_is_not_overlapping :
    tab 6 (λ c. is_near_overlap 6 (overlaps 6 (replicate 6 (pos 100)) (replicate 6 100) 0) c) ≡ true ∷ false ∷ false ∷ false ∷ true ∷ true ∷ []
unfolding computes in_range is_near overlaps is_near_overlap
touching_is_not_overlapping = refl

pub across_in_range :
    long_cell_in_range 6 halves (replicate 6 100) across (long_air 6 halves (replicate 6 100)) (long_gas mismatch 6 halves (replicate 6 100) across) 0 ≡ true
unfolding computes in_range is_near overlaps is_near_overlap long_cell_in_range
across_in_range = refl
