-- Cases y4-1 to y4-16 for document 02, Slip 4: the remap's count, as one table with one theorem about `step`; then, computed, which pairs of m9's column share air, and the counts of columns that differ.
-- Assumes nothing. Numbers that the documents do not give come from the second implementation (reference/cases/readout.txt).
use Rattle.std.specs.Prelude.{ℕ, List, [], ◌∷◌, ◌++◌, Bool, true, false, ◌≡◌, refl, replicate}
use Rattle.model.specs.Basic.{tab}
use Rattle.model.specs.World.{World}
use Rattle.model.specs.Remap.{column, share_air, column_count, common_edges}
use Rattle.model.specs.Step.{Call, remap}
use Rattle.model.proofs.Cases.{Case, Hold, hold, computes}
use Rattle.model.proofs.Cases.Marked.{grid, world, six, row, gives, refuses, hundreds, stair}
use Rattle.model.proofs.Cases.Further.{keeps, ten, two_layers, middle}

-- three layers with edges at 0, a, b and the column's air
abbrev at_edges : ℕ → ℕ → Call
at_edges a b = remap (0 ∷ 0 ∷ a ∷ 0 ∷ b ∷ 0 ∷ 0 ∷ 65536 ∷ [])

-- three layers of six columns that differ, with one tracer or two
abbrev varied_air : List ℕ
varied_air = six 100 150 100 50 30 100 ++ six 100 100 50 50 70 100 ++ six 100 100 90 150 150 50

abbrev varied_gas : List ℕ
varied_gas = six 10 20 30 40 50 60 ++ six 70 80 90 100 110 120 ++ six 15 25 35 45 55 65

abbrev varied : World
varied = world (grid 4 1 3 1) varied_air varied_gas

pub readouts : List Case
readouts =
    -- m9's column six times
    gives "y4-1" stair (at_edges 150 200) 24 (replicate 6 150 ++ replicate 6 50 ++ hundreds)
    (six 50 37 37 37 37 50 ++ six 50 63 63 63 63 50 ++ replicate 6 200) ∷
    -- document 01's bounds: K for each column where old and new edges are the same, 2K − 1 where no inner one is; of one layer both are 1
    keeps "y4-2" stair (at_edges 100 200) 18 ∷
    gives "y4-3" stair (at_edges 50 250) 30 (replicate 6 50 ++ replicate 6 200 ++ replicate 6 50)
    (replicate 6 0 ++ replicate 6 200 ++ hundreds) ∷
    keeps "y4-4" (row hundreds (six 0 0 100 200 100 0)) (remap (0 ∷ 0 ∷ 0 ∷ 65536 ∷ [])) 6 ∷
    -- an edge one unit above an old one, at it, one unit below it
    gives "y4-5" (two_layers 100) (middle 99 0) 18 (replicate 6 99 ++ replicate 6 101) (replicate 6 0 ++ replicate 6 2) ∷
    keeps "y4-6" (two_layers 100) (middle 100 0) 12 ∷
    gives "y4-7" (two_layers 100) (middle 101 0) 18 (replicate 6 101 ++ replicate 6 99) (replicate 12 1) ∷
    -- an edge by b, of the column's own air: floor(32768 * 199 / 65536) = 99, where the old one is
    keeps "y4-8" (world (grid 4 1 2 1) (replicate 6 99 ++ replicate 6 100) (replicate 12 1)) (middle 0 32768) 12 ∷
    -- columns of 3, 5, 4, 4, 4 and 3 pairs, the first and the last the caps'; the same with two tracers; by thirds of each column's own air
    gives "y4-9" varied (at_edges 100 200) 23 (hundreds ++ hundreds ++ six 100 150 40 50 50 50)
    (six 10 13 30 140 160 60 ++ six 70 47 109 30 36 120 ++ six 15 65 16 15 19 65) ∷
    gives "y4-10" (world (grid 4 1 3 2) varied_air (varied_gas ++ replicate 6 0 ++ six 1 2 3 4 5 6 ++ replicate 6 9)) (at_edges 100 200) 23
    (hundreds ++ hundreds ++ six 100 150 40 50 50 50)
    (six 10 13 30 140 160 60 ++ six 70 47 109 30 36 120 ++ six 15 65 16 15 19 65 ++
    six 0 0 0 4 5 0 ++ six 1 0 8 6 6 6 ++ six 9 11 4 3 3 9) ∷
    gives "y4-11" varied (remap (0 ∷ 0 ∷ 0 ∷ 21846 ∷ 0 ∷ 43691 ∷ 0 ∷ 65536 ∷ [])) 28
    (six 100 116 80 83 83 83 ++ six 100 117 80 83 83 83 ++ six 100 117 80 84 84 84)
    (six 10 15 24 106 134 49 ++ six 70 71 99 53 50 90 ++ six 15 39 32 26 31 106) ∷
    -- an old layer with three new edges in it, and a new layer with two whole old ones in it
    gives "y4-12"
    (world (grid 4 1 4 1) (replicate 6 20 ++ replicate 6 90 ++ replicate 6 20 ++ replicate 6 30) (replicate 6 5 ++ replicate 6 7 ++ replicate 6 0 ++ replicate 6 9))
    (remap (0 ∷ 0 ∷ 30 ∷ 0 ∷ 60 ∷ 0 ∷ 100 ∷ 0 ∷ 0 ∷ 65536 ∷ [])) 42
    (replicate 12 30 ++ replicate 6 40 ++ replicate 6 60)
    (six 5 6 6 6 6 5 ++ replicate 6 3 ++ six 3 2 2 2 2 3 ++ replicate 6 10) ∷
    -- layers of one unit of air
    keeps "y4-13" (world (grid 4 1 3 1) (replicate 18 1) (replicate 6 1 ++ replicate 6 2 ++ replicate 6 3)) (at_edges 1 2) 18 ∷
    -- refused, by one column alone and by the table: count 0
    refuses "y4-14" varied (at_edges 100 240) 12 ∷
    refuses "y4-15" varied (remap (0 ∷ 0 ∷ 100 ∷ 0 ∷ 200 ∷ 0 ∷ 1 ∷ 65536 ∷ [])) 11 ∷
    -- all ten columns of a grid with two rows, the caps' included
    gives "y4-16" (world (grid 4 2 2 1) (ten 120 101 97 133 88 140 92 111 105 150 ++ ten 160 99 118 76 131 94 127 83 109 145) (ten 10 3 250 88 131 40 97 222 15 60 ++ ten 70 12 180 33 205 141 9 64 118 52))
    (middle 97 0) 29
    (replicate 10 97 ++ ten 183 103 118 112 122 137 122 97 117 198)
    (ten 8 2 250 64 145 27 97 194 13 38 ++ ten 72 13 180 57 191 154 9 92 120 74) ∷
    []

pub readout_cases_hold : Hold readouts
unfolding readouts computes
readout_cases_hold = hold readouts refl

-- m9's column, air 100, 100, 100, edges 0, 150, 200, 300: which old layers each new layer shares air with; of its inner edges one, 200, is in common
abbrev m9_shares : ℕ → ℕ → Bool
m9_shares j k = share_air (0 ∷ 0 ∷ 150 ∷ 0 ∷ 200 ∷ 0 ∷ 0 ∷ 65536 ∷ []) (100 ∷ 100 ∷ 100 ∷ []) 300 j k

pub m9_pairs :
    tab 3 (λ j. tab 3 (m9_shares j)) ≡
    (true ∷ true ∷ false ∷ []) ∷
    (false ∷ true ∷ false ∷ []) ∷
    (false ∷ false ∷ true ∷ []) ∷ []
unfolding computes
m9_pairs = refl

pub m9_common : common_edges 3 (0 ∷ 0 ∷ 150 ∷ 0 ∷ 200 ∷ 0 ∷ 0 ∷ 65536 ∷ []) (100 ∷ 100 ∷ 100 ∷ []) ≡ 1
unfolding computes
m9_common = refl

-- y4-9, column by column: pairs, and inner edges in common
pub varied_columns :
    (tab 6 (λ c. column_count 3 (0 ∷ 0 ∷ 100 ∷ 0 ∷ 200 ∷ 0 ∷ 0 ∷ 65536 ∷ []) (column (grid 4 1 3 1) varied_air c)) ≡ six 3 5 4 4 4 3)
    × (tab 6 (λ c. common_edges 3 (0 ∷ 0 ∷ 100 ∷ 0 ∷ 200 ∷ 0 ∷ 0 ∷ 65536 ∷ []) (column (grid 4 1 3 1) varied_air c)) ≡ six 2 0 1 1 1 2)
unfolding computes
varied_columns = (refl, refl)
