-- The further cases y7-24 to y7-132 for document 02, Slip 7, as one table with one theorem about `step`: gases on different limiters, sizes, end layers, 21, what is written, orders. The rows under each limiter, and the cases that edits of the model break, are in the model (Cases/Limiters).
-- Assumes nothing. Inputs, numbers and labels are the second implementation's (reference/cases/limiters.txt). It stands here and not in the model, whose edits would compute it anew each.
use Rattle.std.specs.Prelude.{List, [], ◌∷◌, ◌++◌, refl, pos, replicate}
use Rattle.model.specs.Step.{load, emission, zonal, long_zonal, meridional, remap, total, add_emitter, remove_emitter, tick, units_a_tick, count_zonal, zonal_with_count, set_limiter}
use Rattle.model.proofs.Cases.{Case, Hold, hold, computes}
use Rattle.model.proofs.Cases.Marked.{grid, four, six, refuses, hundreds}
use Rattle.model.proofs.Cases.Limiters.{limiter, first, positive, fixed, most, blocks, times, row_a, row_b, wind, minus, lent, two, moves, writes, reads}

-- Gases on different limiters in one call, and bounds that a limiter does not read; q at a bound and outside them
abbrev alone : List Case
alone =
    -- y7-24: row B twice, the first on limiter 1 and the second on 2 (3 has 13107 to 2^64-1): zonal, then the same layer's caps meridional
    moves "y7-24 meridional" (lent (grid 4 1 1 2) (six 100 100 50 150 100 100) (six 0 300 5 105 0 0 ++ six 0 300 8 102 0 0) (blocks (first ∷ positive ∷ []))) (meridional 0 (four (pos 0) (pos 20) (pos 0) (pos 0) ++ four (pos 0) (pos 30) (pos 0) (pos 0))) 1 (six 80 100 40 150 100 130) (six 0 300 2 105 0 3 ++ six 0 300 4 102 0 4) ∷
    -- y7-27: row B twice, the first on limiter 3 and the second on 1 (3 has 13107 to 2^64-1): zonal, then the same layer's caps meridional
    moves "y7-27 meridional" (lent (grid 4 1 1 2) (six 100 100 50 150 100 100) (six 0 300 7 103 0 0 ++ six 0 300 5 105 0 0) (blocks (fixed 13107 most ∷ first ∷ []))) (meridional 0 (four (pos 0) (pos 20) (pos 0) (pos 0) ++ four (pos 0) (pos 30) (pos 0) (pos 0))) 1 (six 80 100 40 150 100 130) (six 0 300 3 103 0 4 ++ six 0 300 2 105 0 3) ∷
    -- y7-29: row B twice, the first on limiter 3 and the second on 2 (3 has 13107 to 2^64-1): zonal, then the same layer's caps meridional
    moves "y7-29 meridional" (lent (grid 4 1 1 2) (six 100 100 50 150 100 100) (six 0 300 7 103 0 0 ++ six 0 300 8 102 0 0) (blocks (fixed 13107 most ∷ positive ∷ []))) (meridional 0 (four (pos 0) (pos 20) (pos 0) (pos 0) ++ four (pos 0) (pos 30) (pos 0) (pos 0))) 1 (six 80 100 40 150 100 130) (six 0 300 3 103 0 4 ++ six 0 300 4 102 0 4) ∷
    -- y7-30: row B twice, 1 and 2: long sweep east, then west
    moves "y7-30 long zonal" (lent (grid 4 1 1 2) (six 100 100 50 150 100 100) (six 0 300 5 105 0 0 ++ six 0 300 7 103 0 0) (blocks (first ∷ positive ∷ []))) (long_zonal 0 0 (four (minus 10) (minus 70) (minus 30) (minus 20))) 0 (six 100 90 110 110 90 100) (six 0 241 53 56 60 0 ++ six 0 243 54 54 59 0) ∷
    -- y7-33: row B twice, 1 and 3: long sweep east, then west
    moves "y7-33 long zonal" (lent (grid 4 1 1 2) (six 100 100 50 150 100 100) (six 0 300 5 105 0 0 ++ six 0 300 6 104 0 0) (blocks (first ∷ fixed 13107 most ∷ []))) (long_zonal 0 0 (four (minus 10) (minus 70) (minus 30) (minus 20))) 0 (six 100 90 110 110 90 100) (six 0 241 53 56 60 0 ++ six 0 242 54 55 59 0) ∷
    -- y7-34: row B down every column twice, 1 and 2: remap
    moves "y7-34 remap" (lent (grid 4 1 4 2) (replicate 24 100) (times 2 (replicate 6 300 ++ replicate 6 10 ++ hundreds ++ replicate 6 0)) (blocks (first ∷ positive ∷ []))) (remap ((0 ∷ 0 ∷ 90 ∷ 0 ∷ 150 ∷ 0 ∷ 280 ∷ 0 ∷ 0 ∷ 65536 ∷ []))) 42 (replicate 6 90 ++ replicate 6 60 ++ replicate 6 130 ++ replicate 6 120) (replicate 6 270 ++ replicate 6 35 ++ replicate 6 85 ++ replicate 6 20 ++ replicate 6 270 ++ six 35 37 37 37 37 35 ++ six 85 83 83 83 83 85 ++ replicate 6 20) ∷
    -- y7-37: row B down every column twice, 3 and 2: remap
    moves "y7-37 remap" (lent (grid 4 1 4 2) (replicate 24 100) (times 2 (replicate 6 300 ++ replicate 6 10 ++ hundreds ++ replicate 6 0)) (blocks (fixed 13107 most ∷ positive ∷ []))) (remap ((0 ∷ 0 ∷ 90 ∷ 0 ∷ 150 ∷ 0 ∷ 280 ∷ 0 ∷ 0 ∷ 65536 ∷ []))) 42 (replicate 6 90 ++ replicate 6 60 ++ replicate 6 130 ++ replicate 6 120) (replicate 6 270 ++ six 35 36 36 36 36 35 ++ six 85 84 84 84 84 85 ++ replicate 6 20 ++ replicate 6 270 ++ six 35 37 37 37 37 35 ++ six 85 83 83 83 83 85 ++ replicate 6 20) ∷
    -- y7-38: row B along every meridian twice, 2 and 1: meridional, a flux in each direction
    moves "y7-38 meridional" (lent (grid 4 4 1 2) (replicate 18 100) (times 2 (six 0 300 300 300 300 10 ++ six 10 10 10 100 100 100 ++ six 100 0 0 0 0 0)) (blocks (positive ∷ first ∷ []))) (meridional 0 (four (pos 10) (pos 0) (pos 0) (pos 0) ++ four (minus 20) (pos 0) (pos 0) (pos 0) ++ four (pos 50) (pos 0) (pos 0) (pos 0) ++ four (minus 30) (pos 0) (pos 0) (pos 0) ++ four (pos 5) (pos 0) (pos 0) (pos 0))) 1 (six 90 130 100 100 100 30 ++ six 100 100 100 180 100 100 ++ six 100 65 100 100 100 105) (six 0 303 300 300 300 5 ++ six 10 10 10 102 100 100 ++ six 100 0 0 0 0 0 ++ six 0 302 300 300 300 3 ++ six 10 10 10 105 100 100 ++ six 100 0 0 0 0 0) ∷
    -- y7-39: row B along every meridian twice, 1 and 3: meridional, a flux in each direction
    moves "y7-39 meridional" (lent (grid 4 4 1 2) (replicate 18 100) (times 2 (six 0 300 300 300 300 10 ++ six 10 10 10 100 100 100 ++ six 100 0 0 0 0 0)) (blocks (first ∷ fixed 13107 most ∷ []))) (meridional 0 (four (pos 10) (pos 0) (pos 0) (pos 0) ++ four (minus 20) (pos 0) (pos 0) (pos 0) ++ four (pos 50) (pos 0) (pos 0) (pos 0) ++ four (minus 30) (pos 0) (pos 0) (pos 0) ++ four (pos 5) (pos 0) (pos 0) (pos 0))) 1 (six 90 130 100 100 100 30 ++ six 100 100 100 180 100 100 ++ six 100 65 100 100 100 105) (six 0 302 300 300 300 3 ++ six 10 10 10 105 100 100 ++ six 100 0 0 0 0 0 ++ six 0 302 300 300 300 5 ++ six 10 10 10 103 100 100 ++ six 100 0 0 0 0 0) ∷
    -- y7-40: row B twice, 1 and 2: the two presses, two substeps
    reads "y7-40 count zonal" (lent (grid 4 1 1 2) hundreds (times 2 row_b) (blocks (first ∷ positive ∷ []))) (count_zonal 0 0 (four (pos 130) (pos 140) (pos 120) (pos 130))) 2 ∷
    moves "y7-40 zonal with count" (lent (grid 4 1 1 2) hundreds (times 2 row_b) (blocks (first ∷ positive ∷ []))) (zonal_with_count 0 0 2 (four (pos 130) (pos 140) (pos 120) (pos 130))) 2 (six 100 100 90 120 90 100) (six 0 73 129 167 41 0 ++ six 0 72 132 176 30 0) ∷
    -- y7-42: three tracers, one on each limiter: each kind of call after another
    moves "y7-42 zonal with count" (lent (grid 4 1 1 3) (six 100 8 39 123 204 126) (six 23 10 11 70 263 33 ++ six 22 7 13 72 268 28 ++ six 24 10 11 69 262 34) (blocks (fixed 13107 most ∷ first ∷ positive ∷ []))) (zonal_with_count 0 0 1 (four (pos 3) (pos 12) (minus 17) (minus 2))) 1 (six 100 3 30 152 189 126) (six 23 5 13 90 246 33 ++ six 22 3 11 98 248 28 ++ six 24 5 13 89 245 34) ∷
    -- y7-44: the same, exchanged
    moves "y7-44 zonal" (two (fixed 0 851968) (fixed 13107 most)) (zonal 0 0 wind) 1 (six 100 100 50 150 100 100) (six 0 0 144 356 50 0 ++ six 0 300 7 103 0 0) ∷
    -- y7-46: limiter 1 with bounds 5 to 9, 786432 to 2^64-1 and 0 to 2^64-1 stored: they are not read, 0 150 350 50
    moves "y7-46 zonal" (lent (grid 4 1 1 3) hundreds (times 3 row_a) (blocks (limiter 1 5 9 ∷ limiter 1 786432 most ∷ limiter 1 0 most ∷ []))) (zonal 0 0 wind) 1 (six 100 100 50 150 100 100) (times 3 (six 0 0 150 350 50 0)) ∷
    -- y7-47: limiter 2 with both bounds 786432, and with both 900000: they are not read, 0 138 362 50
    moves "y7-47 zonal" (lent (grid 4 1 1 2) hundreds (times 2 row_a) (blocks (limiter 2 786432 786432 ∷ limiter 2 900000 900000 ∷ []))) (zonal 0 0 wind) 1 (six 100 100 50 150 100 100) (times 2 (six 0 0 138 362 50 0)) ∷
    -- y7-48: limiter 3, the ratio 786432 above hi: 0 150 350 50 with 0 to 524288, with 0 to 786431, with both 0
    moves "y7-48 zonal" (lent (grid 4 1 1 3) hundreds (times 3 row_a) (blocks (fixed 0 524288 ∷ fixed 0 786431 ∷ fixed 0 0 ∷ []))) (zonal 0 0 wind) 1 (six 100 100 50 150 100 100) (times 3 (six 0 0 150 350 50 0)) ∷
    -- y7-49: limiter 3, the ratio 786432 below lo: 0 150 350 50 with 786433 to 2^64-1, with 851968 to 2000000, with both 2^64-1
    moves "y7-49 zonal" (lent (grid 4 1 1 3) hundreds (times 3 row_a) (blocks (fixed 786433 most ∷ fixed 851968 2000000 ∷ fixed most most ∷ []))) (zonal 0 0 wind) 1 (six 100 100 50 150 100 100) (times 3 (six 0 0 150 350 50 0)) ∷
    -- y7-50: limiter 3 with lo the ratio 786432 itself, and with hi the ratio itself: 0 150 350 50; one step farther each: a size of 2, too little for a unit
    moves "y7-50 zonal" (lent (grid 4 1 1 4) hundreds (times 4 row_a) (blocks (fixed 786432 most ∷ fixed 0 786432 ∷ fixed 786431 most ∷ fixed 0 786433 ∷ []))) (zonal 0 0 wind) 1 (six 100 100 50 150 100 100) (times 4 (six 0 0 150 350 50 0)) ∷
    []

-- Bounds near the ratio and past 64 bits, the largest ratios, whole-number ratios, caps and end layers
abbrev sizes : List Case
sizes =
    -- y7-51: limiter 3, bounds near the ratio: with 720896 to 2^64-1 and with 0 to 851968 a size of 131072; with 753664 to 2^64-1 and 0 to 819200 of 65536; the nearer of both in 753664 to 851968 and 720896 to 819200
    moves "y7-51 zonal" (lent (grid 4 1 1 6) hundreds (times 6 row_a) (blocks (fixed 720896 most ∷ fixed 0 851968 ∷ fixed 753664 most ∷ fixed 0 819200 ∷ fixed 753664 851968 ∷ fixed 720896 819200 ∷ []))) (zonal 0 0 wind) 1 (six 100 100 50 150 100 100) (six 0 0 144 356 50 0 ++ six 0 0 144 356 50 0 ++ six 0 0 147 353 50 0 ++ six 0 0 147 353 50 0 ++ six 0 0 147 353 50 0 ++ six 0 0 147 353 50 0) ∷
    -- y7-52: the same in a long sweep
    moves "y7-52 long zonal" (lent (grid 4 1 1 6) hundreds (times 6 row_a) (blocks (fixed 720896 most ∷ fixed 0 851968 ∷ fixed 753664 most ∷ fixed 0 819200 ∷ fixed 753664 851968 ∷ fixed 720896 819200 ∷ []))) (long_zonal 0 0 wind) 0 (six 100 100 50 150 100 100) (six 0 0 143 357 50 0 ++ six 0 0 143 357 50 0 ++ six 0 0 146 354 50 0 ++ six 0 0 146 354 50 0 ++ six 0 0 146 354 50 0 ++ six 0 0 146 354 50 0) ∷
    -- y7-55: limiter 3 with lo 0 and hi 2^63+786432, 2^63+786442, 2^63, 2^63-1, 2^62+786432, 2^62+786431, 2^32+786432, 2^64-1: 2(hi - q) passes 63 or 64 bits, or its low half is small; 0 138 362 50 in each
    moves "y7-55 zonal" (lent (grid 4 1 1 8) hundreds (times 8 row_a) (blocks (fixed 0 9223372036855562240 ∷ fixed 0 9223372036855562250 ∷ fixed 0 9223372036854775808 ∷ fixed 0 9223372036854775807 ∷ fixed 0 4611686018428174336 ∷ fixed 0 4611686018428174335 ∷ fixed 0 4295753728 ∷ fixed 0 most ∷ []))) (zonal 0 0 wind) 1 (six 100 100 50 150 100 100) (times 8 (six 0 0 138 362 50 0)) ∷
    -- y7-57: the same in a remap
    moves "y7-57 remap" (lent (grid 4 1 4 8) (replicate 24 100) (times 8 (replicate 6 0 ++ replicate 6 300 ++ replicate 6 200 ++ replicate 6 50)) (blocks (fixed 0 9223372036855562240 ∷ fixed 0 9223372036855562250 ∷ fixed 0 9223372036854775808 ∷ fixed 0 9223372036854775807 ∷ fixed 0 4611686018428174336 ∷ fixed 0 4611686018428174335 ∷ fixed 0 4295753728 ∷ fixed 0 most ∷ []))) (remap ((0 ∷ 0 ∷ 100 ∷ 0 ∷ 150 ∷ 0 ∷ 300 ∷ 0 ∷ 0 ∷ 65536 ∷ []))) 30 (hundreds ++ replicate 6 50 ++ replicate 6 150 ++ hundreds) (times 8 (replicate 6 0 ++ six 150 137 137 137 137 150 ++ six 350 363 363 363 363 350 ++ replicate 6 50)) ∷
    -- y7-58: limiter 3 with lo 2^32 and 2^32+786431, 2^63, 2^64-1 and hi 2^64-1: the ratio is below lo, though not below its low half; 0 150 350 50
    moves "y7-58 zonal" (lent (grid 4 1 1 4) hundreds (times 4 row_a) (blocks (fixed 4294967296 most ∷ fixed 4295753727 most ∷ fixed 9223372036854775808 most ∷ fixed most most ∷ []))) (zonal 0 0 wind) 1 (six 100 100 50 150 100 100) (times 4 (six 0 0 150 350 50 0)) ∷
    -- y7-62: a size of 2q: giver 100 between 0 and 1000, 50 of its air west and 49 east: no piece above what it has; limiters 1, 2, 3 with 0 to 2^64-1
    moves "y7-62 zonal" (lent (grid 4 1 1 3) hundreds (times 3 (six 0 0 100 1000 0 0)) (blocks (first ∷ positive ∷ fixed 0 most ∷ []))) (zonal 0 0 (four (minus 50) (pos 49) (pos 0) (pos 0))) 1 (six 100 150 1 149 100 100) (times 3 (six 0 25 2 1073 0 0)) ∷
    -- y7-63: the same giver, all its air east and one unit of air in: all it has
    moves "y7-63 zonal" (lent (grid 4 1 1 3) hundreds (times 3 (six 0 0 100 1000 0 0)) (blocks (first ∷ positive ∷ fixed 0 most ∷ []))) (zonal 0 0 (four (pos 1) (pos 100) (pos 0) (pos 0))) 1 (six 100 99 1 200 100 100) (times 3 (six 0 0 0 1100 0 0)) ∷
    -- y7-64: a minimum that gives: row 300 10 200 0, flux 60 from column 1; limiters 1, 2, 3 with 0 to 2^64-1
    moves "y7-64 zonal" (lent (grid 4 1 1 3) hundreds (times 3 (six 0 300 10 200 0 0)) (blocks (first ∷ positive ∷ fixed 0 most ∷ []))) (zonal 0 0 (four (pos 0) (pos 60) (pos 0) (pos 0))) 1 (six 100 100 40 160 100 100) (six 0 300 4 206 0 0 ++ six 0 300 7 203 0 0 ++ six 0 300 7 203 0 0) ∷
    -- y7-65: the same westward
    moves "y7-65 zonal" (lent (grid 4 1 1 3) hundreds (times 3 (six 0 300 10 200 0 0)) (blocks (first ∷ positive ∷ fixed 0 most ∷ []))) (zonal 0 0 (four (minus 60) (pos 0) (pos 0) (pos 0))) 1 (six 100 160 40 100 100 100) (six 0 306 4 200 0 0 ++ six 0 308 2 200 0 0 ++ six 0 308 2 200 0 0) ∷
    -- y7-66: a giver without tracer between others: nothing is given under any limiter
    moves "y7-66 zonal" (lent (grid 4 1 1 4) hundreds (times 4 (six 0 300 0 200 7 0)) (blocks (first ∷ positive ∷ fixed 0 most ∷ fixed 0 0 ∷ []))) (zonal 0 0 (four (pos 0) (pos 60) (pos 0) (pos 0))) 1 (six 100 100 40 160 100 100) (times 4 (six 0 300 0 200 7 0)) ∷
    -- y7-68: a whole-number ratio, 3, stays under every limiter: zonal, long and meridional
    moves "y7-68 meridional" (lent (grid 4 1 1 4) (six 100 50 80 190 140 30) (times 4 (six 300 150 240 570 420 90)) (blocks (first ∷ positive ∷ fixed 786432 786432 ∷ fixed 0 5 ∷ []))) (meridional 0 (four (pos 10) (minus 20) (pos 30) (minus 40) ++ four (pos 5) (minus 6) (pos 7) (minus 8))) 1 (six 120 55 66 213 108 28) (times 4 (six 360 165 198 639 324 84)) ∷
    -- y7-69: odd |qb - qa|, rounded down after halving: limiters 2, 3 with 0 to 2^64-1; rounded up they would leave 263 178 100 112
    moves "y7-69 zonal" (lent (grid 4 1 1 2) (six 100 46492 44997 49714 60794 100) (times 2 (six 0 264 153 53 183 0)) (blocks (positive ∷ fixed 0 most ∷ []))) (zonal 0 0 (four (pos 15526) (pos 22927) (pos 17402) (pos 23692))) 1 (six 100 54658 37596 55239 54504 100) (times 2 (six 0 262 177 101 113 0)) ∷
    -- y7-70: 2q is twice the ratio rounded down: limiter 2 leaves 106 8 15 162; with 2*262144*T/M rounded down 106 9 14 162
    moves "y7-70 zonal" (lent (grid 4 1 1 1) (six 100 30000 65000 58000 64000 100) (six 0 47 19 22 203 0) (blocks (positive ∷ []))) (zonal 0 0 (four (minus 20000) (pos 21000) (pos 15000) (pos 15000))) 1 (six 100 65000 24000 64000 64000 100) (six 0 106 8 15 162 0) ∷
    -- y7-71: bounds to the unit: limiter 3 with lo 1027 (with 1028 239 96 85 34), lo 816 (with 815 264 76 232 78), hi 564 (with 565 156 52 173 78), hi 615 (with 614 230 57 196 74)
    moves "y7-71 zonal" (lent (grid 4 1 1 4) (six 100 30000 65000 58000 64000 100) (six 0 151 256 3 44 0 ++ six 0 193 204 215 38 0 ++ six 0 102 139 173 45 0 ++ six 0 169 152 198 38 0) (blocks (fixed 1027 most ∷ fixed 816 most ∷ fixed 0 564 ∷ fixed 0 615 ∷ []))) (zonal 0 0 (four (minus 20000) (pos 21000) (pos 15000) (pos 15000))) 1 (six 100 65000 24000 64000 64000 100) (six 0 240 95 85 34 0 ++ six 0 264 76 231 79 0 ++ six 0 155 53 173 78 0 ++ six 0 230 58 195 74 0) ∷
    -- y7-75: end layers: an edge in the top layer of three, at 50, whose one neighbour has more: plain pieces under limiters 2 and 3; the top layer keeps 50
    moves "y7-75 remap" (lent (grid 4 1 3 3) (replicate 18 100) (times 3 (hundreds ++ replicate 6 300 ++ hundreds)) (blocks (positive ∷ fixed 0 most ∷ fixed 100000 900000 ∷ []))) (remap ((0 ∷ 0 ∷ 50 ∷ 0 ∷ 200 ∷ 0 ∷ 0 ∷ 65536 ∷ []))) 24 (replicate 6 50 ++ replicate 6 150 ++ hundreds) (times 3 (replicate 6 50 ++ replicate 6 350 ++ hundreds)) ∷
    -- y7-76: end layers: the same where its neighbour has less
    moves "y7-76 remap" (lent (grid 4 1 3 3) (replicate 18 100) (times 3 (replicate 6 300 ++ hundreds ++ replicate 6 300)) (blocks (positive ∷ fixed 0 most ∷ fixed 100000 900000 ∷ []))) (remap ((0 ∷ 0 ∷ 50 ∷ 0 ∷ 200 ∷ 0 ∷ 0 ∷ 65536 ∷ []))) 24 (replicate 6 50 ++ replicate 6 150 ++ hundreds) (times 3 (replicate 6 150 ++ replicate 6 250 ++ replicate 6 300)) ∷
    -- y7-77: end layers: an edge in the bottom layer of three, at 250, whose one neighbour has more
    moves "y7-77 remap" (lent (grid 4 1 3 3) (replicate 18 100) (times 3 (hundreds ++ replicate 6 300 ++ hundreds)) (blocks (positive ∷ fixed 0 most ∷ fixed 100000 900000 ∷ []))) (remap ((0 ∷ 0 ∷ 100 ∷ 0 ∷ 250 ∷ 0 ∷ 0 ∷ 65536 ∷ []))) 24 (hundreds ++ replicate 6 150 ++ replicate 6 50) (times 3 (hundreds ++ replicate 6 350 ++ replicate 6 50)) ∷
    -- y7-78: end layers: the same where its neighbour has less
    moves "y7-78 remap" (lent (grid 4 1 3 3) (replicate 18 100) (times 3 (replicate 6 300 ++ hundreds ++ replicate 6 300)) (blocks (positive ∷ fixed 0 most ∷ fixed 100000 900000 ∷ []))) (remap ((0 ∷ 0 ∷ 100 ∷ 0 ∷ 250 ∷ 0 ∷ 0 ∷ 65536 ∷ []))) 24 (hundreds ++ replicate 6 150 ++ replicate 6 50) (times 3 (replicate 6 300 ++ replicate 6 250 ++ replicate 6 150)) ∷
    -- y7-79: two layers, both end layers: edge in the upper, then in the lower
    moves "y7-79 remap" (lent (grid 4 1 2 3) (replicate 6 50 ++ replicate 6 150) (times 3 (replicate 6 50 ++ replicate 6 350)) (blocks (positive ∷ fixed 0 most ∷ fixed 100000 900000 ∷ []))) (remap (six 0 0 120 0 0 65536)) 18 (replicate 6 120 ++ replicate 6 80) (times 3 (replicate 6 213 ++ replicate 6 187)) ∷
    -- y7-80: one layer: nothing moves
    reads "y7-80 remap" (lent (grid 4 1 1 3) hundreds (replicate 18 100) (blocks (positive ∷ fixed 0 most ∷ fixed 100000 900000 ∷ []))) (remap (four 0 0 0 65536)) 6 ∷
    -- y7-81: four layers: an edge in each, the inner two lean and the ends do not
    moves "y7-81 remap" (lent (grid 4 1 4 3) (hundreds ++ replicate 6 120 ++ replicate 6 80 ++ hundreds) (times 3 (replicate 6 250 ++ replicate 6 60 ++ replicate 6 170 ++ replicate 6 20)) (blocks (positive ∷ fixed 0 most ∷ fixed 100000 900000 ∷ []))) (remap ((0 ∷ 0 ∷ 60 ∷ 0 ∷ 150 ∷ 0 ∷ 250 ∷ 0 ∷ 0 ∷ 65536 ∷ []))) 42 (replicate 6 60 ++ replicate 6 90 ++ hundreds ++ replicate 6 150) (times 3 (replicate 6 150 ++ six 125 127 127 127 127 125 ++ replicate 6 98 ++ six 127 125 125 125 125 127)) ∷
    -- y7-82: the columns of the caps do not lean, under limiters 2 and 3, where all others do
    moves "y7-82 remap" (lent (grid 4 1 3 3) (replicate 18 100) (times 3 (replicate 6 0 ++ hundreds ++ replicate 6 200)) (blocks (positive ∷ fixed 0 most ∷ fixed 100000 900000 ∷ []))) (remap ((0 ∷ 0 ∷ 150 ∷ 0 ∷ 200 ∷ 0 ∷ 0 ∷ 65536 ∷ []))) 24 (replicate 6 150 ++ replicate 6 50 ++ hundreds) (times 3 (six 50 37 37 37 37 50 ++ six 50 63 63 63 63 50 ++ replicate 6 200)) ∷
    -- y7-83: the south cap gives to columns that have more and less: plain pieces under limiters 2 and 3
    moves "y7-83 meridional" (lent (grid 4 1 1 3) hundreds (times 3 (six 100 300 0 200 50 70)) (blocks (positive ∷ fixed 0 most ∷ fixed 100000 900000 ∷ []))) (meridional 0 (four (pos 20) (pos 30) (pos 5) (pos 44) ++ four (pos 0) (pos 0) (pos 0) (pos 0))) 1 (six 1 120 130 105 144 100) (times 3 (six 1 320 30 205 94 70)) ∷
    -- y7-84: the north cap gives to columns that have more and less
    moves "y7-84 meridional" (lent (grid 4 1 1 3) hundreds (times 3 (six 70 300 0 200 50 100)) (blocks (positive ∷ fixed 0 most ∷ fixed 100000 900000 ∷ []))) (meridional 0 (four (pos 0) (pos 0) (pos 0) (pos 0) ++ four (minus 20) (minus 30) (minus 5) (minus 44))) 1 (six 100 120 130 105 144 1) (times 3 (six 70 320 30 205 94 1)) ∷
    -- y7-85: both caps give, and the row leans between their ratios
    moves "y7-85 meridional" (lent (grid 4 1 1 4) hundreds (times 4 (six 40 100 100 100 100 700)) (blocks (positive ∷ fixed 0 most ∷ fixed 100000 900000 ∷ first ∷ []))) (meridional 0 (four (pos 20) (minus 50) (pos 10) (minus 30) ++ four (minus 20) (pos 40) (minus 25) (pos 35))) 1 (six 150 140 10 135 35 130) (six 62 248 11 279 34 506 ++ six 62 248 11 279 34 506 ++ six 79 248 12 279 34 488 ++ six 79 248 12 279 35 487) ∷
    []

-- 21 for a standing limiter, of any tracer; the other calls do not test it
abbrev standing : List Case
standing =
    -- y7-88: 21: a standing limiter 4 in the last tracer only; the calls that move air and the count call test it
    refuses "y7-88 remap" (two first (limiter 4 0 0)) (remap (four 0 0 0 65536)) 21 ∷
    -- y7-89: 21: a standing limiter 4294967295 in the last tracer only; the calls that move air and the count call test it
    refuses "y7-89 remap" (two first (limiter 4294967295 0 0)) (remap (four 0 0 0 65536)) 21 ∷
    -- y7-90: the other calls do not test it: they are accepted
    reads "y7-90 total" (two first (limiter 4 9 3)) (total 1) 410 ∷
    moves "y7-90 emission" (two first (limiter 4 9 3)) (emission 1 2 5) 0 hundreds (row_a ++ six 0 300 15 100 0 0) ∷
    writes "y7-90 add emitter" (two first (limiter 4 9 3)) (add_emitter 1 3 7 20) (replicate 51 0 ++ (1 ∷ 0 ∷ 0 ∷ 0 ∷ 0 ∷ 1 ∷ 20 ∷ 0 ∷ 7 ∷ 3 ∷ 20 ∷ []) ++ replicate 45 0 ++ (4 ∷ 9 ∷ 0 ∷ 3 ∷ 0 ∷ [])) ∷
    reads "y7-90 units a tick" (lent (grid 4 1 1 2) hundreds (row_a ++ row_b) (replicate 51 0 ++ (1 ∷ 0 ∷ 0 ∷ 0 ∷ 0 ∷ 1 ∷ 20 ∷ 0 ∷ 7 ∷ 3 ∷ 20 ∷ []) ++ replicate 45 0 ++ (4 ∷ 9 ∷ 0 ∷ 3 ∷ 0 ∷ []))) (units_a_tick 1) 20 ∷
    writes "y7-90 remove emitter" (lent (grid 4 1 1 2) hundreds (row_a ++ six 0 300 10 120 0 0) (replicate 51 0 ++ (1 ∷ 0 ∷ 0 ∷ 0 ∷ 0 ∷ 1 ∷ 20 ∷ 0 ∷ 7 ∷ 3 ∷ 20 ∷ []) ++ replicate 45 0 ++ (4 ∷ 9 ∷ 0 ∷ 3 ∷ 0 ∷ []))) (remove_emitter 1 7) (blocks (first ∷ limiter 4 9 3 ∷ [])) ∷
    -- y7-91: 21: a standing limiter 0 in the first tracer only
    refuses "y7-91 zonal" (two (limiter 0 0 0) first) (zonal 0 0 wind) 21 ∷
    refuses "y7-91 remap" (two (limiter 0 0 0) first) (remap (four 0 0 0 65536)) 21 ∷
    -- y7-92: 21: limiter 257, whose low byte is 1, and 65538
    refuses "y7-92 zonal" (two first (limiter 257 0 0)) (zonal 0 0 wind) 21 ∷
    refuses "y7-92 remap" (two (limiter 65538 0 0) first) (remap (four 0 0 0 65536)) 21 ∷
    -- y7-93: 21: a fault in the middle one of three
    refuses "y7-93 zonal" (lent (grid 4 1 1 3) hundreds (row_a ++ row_b ++ six 0 5 5 5 5 0) (blocks (first ∷ fixed 1 0 ∷ first ∷ []))) (zonal 0 0 wind) 21 ∷
    refuses "y7-93 remap" (lent (grid 4 1 1 3) hundreds (row_a ++ row_b ++ six 0 5 5 5 5 0) (blocks (first ∷ fixed 1 0 ∷ first ∷ []))) (remap (four 0 0 0 65536)) 21 ∷
    -- y7-94: 21: limiter 1 standing with lo above hi: 1 and 0, 2^32 and 2^32-1, 2^64-1 and 2^64-2, 2^33+5 and 2^32+5, 2^32 and 1, 2^63 and 2^63-1, 2^64-1 and 0
    refuses "y7-94 zonal" (two first (limiter 1 1 0)) (zonal 0 0 wind) 21 ∷
    refuses "y7-94 zonal 2" (two first (limiter 1 most 0)) (zonal 0 0 wind) 21 ∷
    refuses "y7-94 remap" (two first (limiter 1 most 0)) (remap (four 0 0 0 65536)) 21 ∷
    -- y7-95: 21: limiter 2 standing with lo above hi: 1 and 0, 2^32 and 2^32-1, 2^64-1 and 2^64-2, 2^33+5 and 2^32+5, 2^32 and 1, 2^63 and 2^63-1, 2^64-1 and 0
    refuses "y7-95 zonal" (two first (limiter 2 1 0)) (zonal 0 0 wind) 21 ∷
    refuses "y7-95 remap" (two first (limiter 2 most 0)) (remap (four 0 0 0 65536)) 21 ∷
    -- y7-96: 21: limiter 3 standing with lo above hi: 1 and 0, 2^32 and 2^32-1, 2^64-1 and 2^64-2, 2^33+5 and 2^32+5, 2^32 and 1, 2^63 and 2^63-1, 2^64-1 and 0
    refuses "y7-96 zonal" (two first (fixed 1 0)) (zonal 0 0 wind) 21 ∷
    refuses "y7-96 zonal 2" (two first (fixed most 0)) (zonal 0 0 wind) 21 ∷
    refuses "y7-96 remap" (two first (fixed most 0)) (remap (four 0 0 0 65536)) 21 ∷
    -- y7-97: limiter 1 standing with lo at most hi: both 0, 1 and 2^32, both 2^64-1, 0 and 2^64-1, 2^32+5 and 2^33+5, 2^32-1 and 2^32, 2^63-1 and 2^63, both 5: no 21
    reads "y7-97 count zonal" (two first first) (count_zonal 0 0 wind) 1 ∷
    reads "y7-97 remap" (lent (grid 4 1 1 2) (six 109 100 62 120 100 109) (six 26 0 184 264 50 26 ++ six 2 300 16 90 0 2) (blocks (first ∷ limiter 1 5 5 ∷ []))) (remap (four 0 0 0 65536)) 6 ∷
    -- y7-98: limiter 2 standing with lo at most hi: both 0, 1 and 2^32, both 2^64-1, 0 and 2^64-1, 2^32+5 and 2^33+5, 2^32-1 and 2^32, 2^63-1 and 2^63, both 5: no 21
    reads "y7-98 count zonal" (two first positive) (count_zonal 0 0 wind) 1 ∷
    reads "y7-98 remap" (lent (grid 4 1 1 2) (six 109 100 62 120 100 109) (six 26 0 184 264 50 26 ++ six 2 300 20 86 0 2) (blocks (first ∷ limiter 2 5 5 ∷ []))) (remap (four 0 0 0 65536)) 6 ∷
    -- y7-99: limiter 3 standing with lo at most hi: both 0, 1 and 2^32, both 2^64-1, 0 and 2^64-1, 2^32+5 and 2^33+5, 2^32-1 and 2^32, 2^63-1 and 2^63, both 5: no 21
    reads "y7-99 count zonal" (two first (fixed 0 0)) (count_zonal 0 0 wind) 1 ∷
    reads "y7-99 count zonal 2" (two first (fixed 9223372036854775807 9223372036854775808)) (count_zonal 0 0 wind) 1 ∷
    reads "y7-99 remap" (lent (grid 4 1 1 2) (six 109 100 62 120 100 109) (six 26 0 184 264 50 26 ++ six 2 300 16 90 0 2) (blocks (first ∷ fixed 5 5 ∷ []))) (remap (four 0 0 0 65536)) 6 ∷
    []

-- 21 for the given ones only; what is written, by the setting call and by a load
abbrev given : List Case
given =
    -- y7-100: 21: limiter 1 given with lo above hi: nothing is written
    writes "y7-100 set limiter" (two first first) (set_limiter 1 3 1234 98765432109) (blocks (first ∷ fixed 1234 98765432109 ∷ [])) ∷
    refuses "y7-100 set limiter 2" (two first (fixed 1234 98765432109)) (set_limiter 1 1 8589934597 4294967301) 21 ∷
    refuses "y7-100 set limiter 3" (two first (fixed 1234 98765432109)) (set_limiter 1 1 most 0) 21 ∷
    -- y7-101: 21: limiter 2 given with lo above hi: nothing is written
    writes "y7-101 set limiter" (two first first) (set_limiter 1 3 1234 98765432109) (blocks (first ∷ fixed 1234 98765432109 ∷ [])) ∷
    refuses "y7-101 set limiter 2" (two first (fixed 1234 98765432109)) (set_limiter 1 2 most 0) 21 ∷
    -- y7-102: 21: limiter 3 given with lo above hi: nothing is written
    writes "y7-102 set limiter" (two first first) (set_limiter 1 3 1234 98765432109) (blocks (first ∷ fixed 1234 98765432109 ∷ [])) ∷
    refuses "y7-102 set limiter 2" (two first (fixed 1234 98765432109)) (set_limiter 1 3 8589934597 4294967301) 21 ∷
    refuses "y7-102 set limiter 3" (two first (fixed 1234 98765432109)) (set_limiter 1 3 most 0) 21 ∷
    -- y7-103: limiter 1 given with lo at most hi, one after another, the last stays as given
    reads "y7-103 set limiter" (two first first) (set_limiter 1 1 0 0) 0 ∷
    moves "y7-103 zonal" (two (limiter 1 4294967303 38654705670) (limiter 1 5 5)) (zonal 0 0 wind) 1 (six 100 100 50 150 100 100) (six 0 0 150 350 50 0 ++ six 0 300 5 105 0 0) ∷
    -- y7-104: limiter 2 given with lo at most hi, one after another, the last stays as given
    writes "y7-104 set limiter" (two first first) (set_limiter 1 2 0 0) (blocks (first ∷ positive ∷ [])) ∷
    moves "y7-104 zonal" (two (limiter 2 4294967303 38654705670) (limiter 2 5 5)) (zonal 0 0 wind) 1 (six 100 100 50 150 100 100) (six 0 0 138 362 50 0 ++ six 0 300 8 102 0 0) ∷
    -- y7-105: limiter 3 given with lo at most hi, one after another, the last stays as given
    writes "y7-105 set limiter" (two first first) (set_limiter 1 3 0 0) (blocks (first ∷ fixed 0 0 ∷ [])) ∷
    writes "y7-105 set limiter 2" (two first (fixed 0 most)) (set_limiter 1 3 4294967301 8589934597) (blocks (first ∷ fixed 4294967301 8589934597 ∷ [])) ∷
    moves "y7-105 zonal" (two (fixed 4294967303 38654705670) (fixed 5 5)) (zonal 0 0 wind) 1 (six 100 100 50 150 100 100) (six 0 0 150 350 50 0 ++ six 0 300 5 105 0 0) ∷
    -- y7-106: 21: limiters 0, 4, 257, 2^31, 2^32-1 given, with good bounds and with bad ones: nothing is written
    writes "y7-106 set limiter" (two first first) (set_limiter 0 2 3 4) (blocks (limiter 2 3 4 ∷ first ∷ [])) ∷
    refuses "y7-106 set limiter 2" (two (limiter 2 3 4) first) (set_limiter 0 4 0 0) 21 ∷
    refuses "y7-106 set limiter 3" (two (limiter 2 3 4) first) (set_limiter 0 2147483648 0 0) 21 ∷
    refuses "y7-106 set limiter 4" (two (limiter 2 3 4) first) (set_limiter 0 4294967295 1 0) 21 ∷
    -- y7-107: set_limiter writes one tracer's limiter, and no other number of the ledger
    writes "y7-107 set limiter" (lent (grid 4 1 1 3) hundreds (row_a ++ row_b ++ six 0 5 5 5 5 0) ((2 ∷ 50 ∷ 0 ∷ 7 ∷ 3 ∷ 20 ∷ 8 ∷ 1 ∷ 30 ∷ 99 ∷ 98 ∷ 97 ∷ []) ++ replicate 39 0 ++ (2 ∷ 11 ∷ 0 ∷ 12 ∷ 256 ∷ 1 ∷ 9 ∷ 0 ∷ 5 ∷ 5 ∷ 9 ∷ 4 ∷ 4 ∷ 4 ∷ []) ++ replicate 42 0 ++ (3 ∷ 21 ∷ 0 ∷ 22 ∷ 0 ∷ 0 ∷ 0 ∷ 0 ∷ 6 ∷ 6 ∷ 6 ∷ []) ++ replicate 45 0 ++ (1 ∷ 31 ∷ 0 ∷ 32 ∷ 0 ∷ []))) (set_limiter 1 2 8589934595 21474836486) ((2 ∷ 50 ∷ 0 ∷ 7 ∷ 3 ∷ 20 ∷ 8 ∷ 1 ∷ 30 ∷ 99 ∷ 98 ∷ 97 ∷ []) ++ replicate 39 0 ++ (2 ∷ 11 ∷ 0 ∷ 12 ∷ 256 ∷ 1 ∷ 9 ∷ 0 ∷ 5 ∷ 5 ∷ 9 ∷ 4 ∷ 4 ∷ 4 ∷ []) ++ replicate 42 0 ++ (2 ∷ 3 ∷ 2 ∷ 6 ∷ 5 ∷ 0 ∷ 0 ∷ 0 ∷ 6 ∷ 6 ∷ 6 ∷ []) ++ replicate 45 0 ++ (1 ∷ 31 ∷ 0 ∷ 32 ∷ 0 ∷ [])) ∷
    writes "y7-107 set limiter 2" (lent (grid 4 1 1 3) hundreds (row_a ++ row_b ++ six 0 5 5 5 5 0) ((2 ∷ 50 ∷ 0 ∷ 7 ∷ 3 ∷ 20 ∷ 8 ∷ 1 ∷ 30 ∷ 99 ∷ 98 ∷ 97 ∷ []) ++ replicate 39 0 ++ (2 ∷ 11 ∷ 0 ∷ 12 ∷ 256 ∷ 1 ∷ 9 ∷ 0 ∷ 5 ∷ 5 ∷ 9 ∷ 4 ∷ 4 ∷ 4 ∷ []) ++ replicate 42 0 ++ (2 ∷ 3 ∷ 2 ∷ 6 ∷ 5 ∷ 0 ∷ 0 ∷ 0 ∷ 6 ∷ 6 ∷ 6 ∷ []) ++ replicate 45 0 ++ (1 ∷ 31 ∷ 0 ∷ 32 ∷ 0 ∷ []))) (set_limiter 0 1 most most) ((2 ∷ 50 ∷ 0 ∷ 7 ∷ 3 ∷ 20 ∷ 8 ∷ 1 ∷ 30 ∷ 99 ∷ 98 ∷ 97 ∷ []) ++ replicate 39 0 ++ (1 ∷ 4294967295 ∷ 4294967295 ∷ 4294967295 ∷ 4294967295 ∷ 1 ∷ 9 ∷ 0 ∷ 5 ∷ 5 ∷ 9 ∷ 4 ∷ 4 ∷ 4 ∷ []) ++ replicate 42 0 ++ (2 ∷ 3 ∷ 2 ∷ 6 ∷ 5 ∷ 0 ∷ 0 ∷ 0 ∷ 6 ∷ 6 ∷ 6 ∷ []) ++ replicate 45 0 ++ (1 ∷ 31 ∷ 0 ∷ 32 ∷ 0 ∷ [])) ∷
    writes "y7-107 set limiter 3" (lent (grid 4 1 1 3) hundreds (row_a ++ row_b ++ six 0 5 5 5 5 0) ((2 ∷ 50 ∷ 0 ∷ 7 ∷ 3 ∷ 20 ∷ 8 ∷ 1 ∷ 30 ∷ 99 ∷ 98 ∷ 97 ∷ []) ++ replicate 39 0 ++ (1 ∷ 4294967295 ∷ 4294967295 ∷ 4294967295 ∷ 4294967295 ∷ 1 ∷ 9 ∷ 0 ∷ 5 ∷ 5 ∷ 9 ∷ 4 ∷ 4 ∷ 4 ∷ []) ++ replicate 42 0 ++ (2 ∷ 3 ∷ 2 ∷ 6 ∷ 5 ∷ 0 ∷ 0 ∷ 0 ∷ 6 ∷ 6 ∷ 6 ∷ []) ++ replicate 45 0 ++ (1 ∷ 31 ∷ 0 ∷ 32 ∷ 0 ∷ []))) (set_limiter 2 3 4294967296 18446744069414584320) ((2 ∷ 50 ∷ 0 ∷ 7 ∷ 3 ∷ 20 ∷ 8 ∷ 1 ∷ 30 ∷ 99 ∷ 98 ∷ 97 ∷ []) ++ replicate 39 0 ++ (1 ∷ 4294967295 ∷ 4294967295 ∷ 4294967295 ∷ 4294967295 ∷ 1 ∷ 9 ∷ 0 ∷ 5 ∷ 5 ∷ 9 ∷ 4 ∷ 4 ∷ 4 ∷ []) ++ replicate 42 0 ++ (2 ∷ 3 ∷ 2 ∷ 6 ∷ 5 ∷ 0 ∷ 0 ∷ 0 ∷ 6 ∷ 6 ∷ 6 ∷ []) ++ replicate 45 0 ++ (3 ∷ 0 ∷ 1 ∷ 0 ∷ 4294967295 ∷ [])) ∷
    -- y7-108: set_limiter again: the last one counts
    writes "y7-108 set limiter" (two first first) (set_limiter 0 2 0 0) (blocks (positive ∷ first ∷ [])) ∷
    moves "y7-108 zonal" (two (fixed 0 851968) (fixed 13107 most)) (zonal 0 0 wind) 1 (six 100 100 50 150 100 100) (six 0 0 144 356 50 0 ++ six 0 300 7 103 0 0) ∷
    -- y7-109: bounds that the limiter does not read are stored as given, and those of another call are put in their place
    writes "y7-109 set limiter" (two first first) (set_limiter 0 1 0 851968) (blocks (limiter 1 0 851968 ∷ first ∷ [])) ∷
    writes "y7-109 set limiter 2" (two positive (limiter 2 13107 most)) (set_limiter 1 1 0 0) (blocks (positive ∷ first ∷ [])) ∷
    -- y7-110: a tracer set to another limiter between sweeps
    moves "y7-110 long zonal" (lent (grid 4 1 1 1) (six 100 100 40 160 100 100) (six 0 300 44 256 0 0) (blocks (limiter 2 250000 300000 ∷ []))) (long_zonal 0 0 (four (pos 0) (pos 20) (pos 0) (pos 0))) 0 (six 100 100 20 180 100 100) (six 0 300 25 275 0 0) ∷
    -- y7-111: moving calls leave the ledger
    reads "y7-111 remap" (lent (grid 4 1 1 2) (six 109 100 62 120 100 109) (six 25 0 174 276 50 25 ++ six 2 300 20 86 0 2) ((1 ∷ 20 ∷ 0 ∷ 7 ∷ 3 ∷ 20 ∷ []) ++ replicate 45 0 ++ (3 ∷ 7 ∷ 0 ∷ 900000 ∷ 0 ∷ 0 ∷ 0 ∷ 0 ∷ 1 ∷ 1 ∷ 1 ∷ []) ++ replicate 45 0 ++ (2 ∷ 5 ∷ 0 ∷ 6 ∷ 0 ∷ []))) (remap (four 0 0 0 65536)) 6 ∷
    -- y7-113: what stands is good and what is given is broken: it stays
    refuses "y7-113 set limiter" (two first (limiter 2 5 6)) (set_limiter 1 0 0 0) 21 ∷
    refuses "y7-113 set limiter 2" (two first (limiter 2 5 6)) (set_limiter 1 3 6 5) 21 ∷
    moves "y7-113 zonal" (two first (limiter 2 5 6)) (zonal 0 0 wind) 1 (six 100 100 50 150 100 100) (six 0 0 150 350 50 0 ++ six 0 300 8 102 0 0) ∷
    -- y7-114: what stands is broken and what is given too: it stays broken
    refuses "y7-114 set limiter" (two first (limiter 0 9 3)) (set_limiter 1 4 0 0) 21 ∷
    refuses "y7-114 set limiter 2" (two first (limiter 0 9 3)) (set_limiter 1 0 9 3) 21 ∷
    refuses "y7-114 zonal" (two first (limiter 0 9 3)) (zonal 0 0 wind) 21 ∷
    -- y7-115: set_limiter of another tracer than the broken one: accepted, and the sweep still gets 21
    writes "y7-115 set limiter" (two (limiter 9 0 0) first) (set_limiter 1 2 0 0) (blocks (limiter 9 0 0 ∷ positive ∷ [])) ∷
    refuses "y7-115 zonal" (two (limiter 9 0 0) positive) (zonal 0 0 wind) 21 ∷
    refuses "y7-115 remap" (two (limiter 9 0 0) positive) (remap (four 0 0 0 65536)) 21 ∷
    -- y7-116: both broken: one is mended, then the other
    writes "y7-116 set limiter" (two (fixed 2 1) (limiter 0 0 0)) (set_limiter 1 2 0 0) (blocks (fixed 2 1 ∷ positive ∷ [])) ∷
    moves "y7-116 zonal" (two (fixed 0 851968) positive) (zonal 0 0 wind) 1 (six 100 100 50 150 100 100) (six 0 0 144 356 50 0 ++ six 0 300 8 102 0 0) ∷
    -- y7-119: a refused load leaves the limiters: 3, 4, 2
    refuses "y7-119 load" (lent (grid 4 1 1 2) (six 100 100 0 100 100 100) (row_a ++ row_b) (blocks (limiter 2 1 2 ∷ fixed 13107 most ∷ []))) load 3 ∷
    moves "y7-119 zonal" (two (limiter 2 1 2) (fixed 13107 most)) (zonal 0 0 wind) 1 (six 100 100 50 150 100 100) (six 0 0 138 362 50 0 ++ six 0 300 7 103 0 0) ∷
    []

-- Two refusals at once, and emitters beside limiters
abbrev order : List Case
order =
    -- y7-120: 1 before 21, and 2 before 21
    refuses "y7-120 zonal" (lent (grid 3 1 1 2) hundreds (row_a ++ row_b) (blocks (first ∷ limiter 0 0 0 ∷ []))) (zonal 0 0 wind) 1 ∷
    refuses "y7-120 set limiter" (lent (grid 4 1 1 2) hundreds (row_a ++ row_b) (replicate 107 0 ++ (1 ∷ 0 ∷ 0 ∷ 0 ∷ []))) (set_limiter 5 0 1 0) 2 ∷
    refuses "y7-120 remap" (two first (limiter 0 0 0)) (remap ((0 ∷ 0 ∷ 0 ∷ []))) 2 ∷
    -- y7-121: 3 before 21
    refuses "y7-121 zonal" (lent (grid 4 1 1 2) (six 100 100 100 100 100 0) (row_a ++ row_b) (blocks (first ∷ limiter 0 0 0 ∷ []))) (zonal 0 0 wind) 3 ∷
    refuses "y7-121 meridional" (lent (grid 4 1 1 2) (six 100 100 100 100 100 0) (row_a ++ row_b) (blocks (first ∷ limiter 0 0 0 ∷ []))) (meridional 0 (replicate 8 (pos 0))) 3 ∷
    refuses "y7-121 count zonal" (lent (grid 4 1 1 2) (six 100 100 100 100 100 65536) (row_a ++ row_b) (blocks (first ∷ limiter 0 0 0 ∷ []))) (count_zonal 0 0 wind) 3 ∷
    refuses "y7-121 set limiter" (lent (grid 4 1 1 2) (six 100 100 100 100 100 65536) (row_a ++ row_b) (blocks (first ∷ limiter 0 0 0 ∷ []))) (set_limiter 0 0 0 0) 3 ∷
    -- y7-122: 4 before 21
    refuses "y7-122 zonal" (lent (grid 4 1 1 2) hundreds (row_a ++ six 0 300 10 100 0 268435046) (blocks (first ∷ limiter 0 0 0 ∷ []))) (zonal 0 0 wind) 4 ∷
    refuses "y7-122 count zonal" (lent (grid 4 1 1 2) hundreds (row_a ++ six 0 300 10 100 0 268435046) (blocks (first ∷ limiter 0 0 0 ∷ []))) (count_zonal 0 0 wind) 4 ∷
    refuses "y7-122 remap" (lent (grid 4 1 1 2) hundreds (row_a ++ six 0 300 10 100 0 268435046) (blocks (first ∷ limiter 0 0 0 ∷ []))) (remap (four 0 0 0 65536)) 4 ∷
    refuses "y7-122 set limiter" (lent (grid 4 1 1 2) hundreds (row_a ++ six 0 300 10 100 0 268435046) (blocks (first ∷ limiter 0 0 0 ∷ []))) (set_limiter 1 0 0 0) 4 ∷
    -- y7-124: 21 before 8, 9 and 20, and these after the limiters are mended
    refuses "y7-124 zonal" (two first (limiter 0 0 0)) (zonal 0 0 (four (pos 1048561) (pos 0) (pos 0) (pos 0))) 21 ∷
    refuses "y7-124 zonal with count" (two first (limiter 0 0 0)) (zonal_with_count 0 0 1 (four (pos 1048561) (pos 0) (pos 0) (pos 0))) 21 ∷
    refuses "y7-124 zonal 2" (two first (limiter 0 0 0)) (zonal 0 0 (four (pos 0) (pos 100) (pos 0) (pos 0))) 21 ∷
    refuses "y7-124 zonal with count 2" (two first (limiter 0 0 0)) (zonal_with_count 0 0 2 wind) 21 ∷
    writes "y7-124 set limiter" (two first (limiter 0 0 0)) (set_limiter 1 1 0 0) (blocks (replicate 2 first)) ∷
    refuses "y7-124 count zonal" (two first first) (count_zonal 0 0 (four (pos 1048561) (pos 0) (pos 0) (pos 0))) 8 ∷
    refuses "y7-124 zonal 3" (two first first) (zonal 0 0 (four (pos 0) (pos 100) (pos 0) (pos 0))) 9 ∷
    refuses "y7-124 zonal with count 3" (two first first) (zonal_with_count 0 0 1 (four (pos 0) (pos 100) (pos 0) (pos 0))) 9 ∷
    refuses "y7-124 meridional" (two first first) (meridional 0 (four (pos 65536) (pos 0) (pos 0) (pos 0) ++ four (pos 0) (pos 0) (pos 0) (pos 0))) 8 ∷
    -- y7-125: 21 before 10, 16, 17 and 11, and these after the limiters are mended
    refuses "y7-125 meridional" (two first (limiter 0 0 0)) (meridional 0 (four (pos 100) (pos 0) (pos 0) (pos 0) ++ four (pos 0) (pos 0) (pos 0) (pos 0))) 21 ∷
    refuses "y7-125 long zonal" (two first (limiter 0 0 0)) (long_zonal 0 0 (four (pos 100) (pos 0) (pos 0) (pos 0))) 21 ∷
    writes "y7-125 set limiter" (two first (limiter 0 0 0)) (set_limiter 1 1 0 0) (blocks (replicate 2 first)) ∷
    refuses "y7-125 long zonal 2" (two first first) (long_zonal 0 0 (four (pos 401) (pos 0) (pos 0) (pos 0))) 16 ∷
    refuses "y7-125 remap" (two first first) (remap (four 0 0 0 65535)) 11 ∷
    -- y7-126: 21 before 12 in two layers
    refuses "y7-126 remap" (lent (grid 4 1 2 1) (replicate 12 100) (replicate 12 5) (blocks (limiter 7 0 0 ∷ []))) (remap (six 0 0 0 0 0 65536)) 21 ∷
    writes "y7-126 set limiter" (lent (grid 4 1 2 1) (replicate 12 100) (replicate 12 5) (blocks (limiter 7 0 0 ∷ []))) (set_limiter 0 2 0 0) (blocks (positive ∷ [])) ∷
    refuses "y7-126 remap 2" (lent (grid 4 1 2 1) (replicate 12 100) (replicate 12 5) (blocks (positive ∷ []))) (remap (six 0 0 0 32768 0 65535)) 11 ∷
    -- y7-127: set_limiter: 5 for an absent tracer, before 21
    refuses "y7-127 set limiter" (two first first) (set_limiter 2 2 0 0) 5 ∷
    refuses "y7-127 set limiter 2" (two first first) (set_limiter 2 0 0 0) 5 ∷
    refuses "y7-127 set limiter 3" (two first first) (set_limiter 8 9 1 0) 5 ∷
    -- y7-128: set_limiter: 3 and 4 before 5
    refuses "y7-128 set limiter" (lent (grid 4 1 1 2) (six 100 100 100 100 100 0) (row_a ++ row_b) (blocks (replicate 2 first))) (set_limiter 2 2 0 0) 3 ∷
    refuses "y7-128 set limiter 2" (lent (grid 4 1 1 2) hundreds (row_a ++ six 0 300 10 100 0 268435455) (blocks (replicate 2 first))) (set_limiter 1 2 0 0) 4 ∷
    writes "y7-128 set limiter 3" (two first first) (set_limiter 1 2 0 0) (blocks (first ∷ positive ∷ [])) ∷
    -- y7-129: set_limiter with broken emitters, which it does not test: accepted; a tick gets 5 before and after
    refuses "y7-129 tick" (lent (grid 4 1 1 2) hundreds (row_a ++ row_b) ((17 ∷ 1 ∷ 1 ∷ []) ++ replicate 48 0 ++ (1 ∷ 0 ∷ 0 ∷ 0 ∷ 0 ∷ 1 ∷ 9 ∷ 0 ∷ 5 ∷ 6 ∷ 9 ∷ []) ++ replicate 45 0 ++ (1 ∷ 0 ∷ 0 ∷ 0 ∷ 0 ∷ []))) (tick 0) 5 ∷
    writes "y7-129 set limiter" (lent (grid 4 1 1 2) hundreds (row_a ++ row_b) ((17 ∷ 1 ∷ 1 ∷ []) ++ replicate 48 0 ++ (2 ∷ 0 ∷ 0 ∷ 0 ∷ 0 ∷ 1 ∷ 9 ∷ 0 ∷ 5 ∷ 6 ∷ 9 ∷ []) ++ replicate 45 0 ++ (1 ∷ 0 ∷ 0 ∷ 0 ∷ 0 ∷ []))) (set_limiter 1 3 13107 most) ((17 ∷ 1 ∷ 1 ∷ []) ++ replicate 48 0 ++ (2 ∷ 0 ∷ 0 ∷ 0 ∷ 0 ∷ 1 ∷ 9 ∷ 0 ∷ 5 ∷ 6 ∷ 9 ∷ []) ++ replicate 45 0 ++ (3 ∷ 13107 ∷ 0 ∷ 4294967295 ∷ 4294967295 ∷ [])) ∷
    moves "y7-129 zonal" (lent (grid 4 1 1 2) hundreds (row_a ++ row_b) ((17 ∷ 1 ∷ 1 ∷ []) ++ replicate 48 0 ++ (2 ∷ 0 ∷ 0 ∷ 0 ∷ 0 ∷ 1 ∷ 9 ∷ 0 ∷ 5 ∷ 6 ∷ 9 ∷ []) ++ replicate 45 0 ++ (3 ∷ 13107 ∷ 0 ∷ 4294967295 ∷ 4294967295 ∷ []))) (zonal 0 0 wind) 1 (six 100 100 50 150 100 100) (six 0 0 138 362 50 0 ++ six 0 300 7 103 0 0) ∷
    -- y7-130: emitters come and go beside limiters: neither alters the other
    writes "y7-130 set limiter" (two first first) (set_limiter 0 2 4294967299 21474836487) (blocks (limiter 2 4294967299 21474836487 ∷ first ∷ [])) ∷
    moves "y7-130 tick" (lent (grid 4 1 1 2) hundreds (row_a ++ row_b) ((1 ∷ 250 ∷ 0 ∷ 7 ∷ 3 ∷ 250 ∷ []) ++ replicate 45 0 ++ (2 ∷ 3 ∷ 1 ∷ 7 ∷ 5 ∷ 1 ∷ 20 ∷ 0 ∷ 8 ∷ 2 ∷ 20 ∷ []) ++ replicate 45 0 ++ (3 ∷ 13107 ∷ 0 ∷ 4294967295 ∷ 4294967295 ∷ []))) (tick 0) 0 hundreds (six 0 0 300 450 50 0 ++ row_b) ∷
    moves "y7-130 zonal" (lent (grid 4 1 1 2) hundreds (six 0 0 300 450 50 0 ++ six 0 300 30 100 0 0) (replicate 51 0 ++ (2 ∷ 3 ∷ 1 ∷ 7 ∷ 5 ∷ 1 ∷ 20 ∷ 0 ∷ 8 ∷ 2 ∷ 20 ∷ []) ++ replicate 45 0 ++ (3 ∷ 13107 ∷ 0 ∷ 4294967295 ∷ 4294967295 ∷ []))) (zonal 0 0 wind) 1 (six 100 100 50 150 100 100) (six 0 0 122 628 50 0 ++ six 0 300 22 108 0 0) ∷
    -- y7-132: counts do not depend on limiters: 2 under 1 and 2, and under 3 and 3
    moves "y7-132 zonal with count" (two positive (fixed 13107 most)) (zonal_with_count 0 0 2 (four (pos 150) (pos 150) (pos 150) (pos 150))) 2 hundreds (six 0 119 21 131 279 0 ++ six 0 69 123 183 35 0) ∷
    []

pub further_limiter_cases : List Case
further_limiter_cases = alone ++ sizes ++ standing ++ given ++ order

pub further_limiter_cases_hold : Hold further_limiter_cases
unfolding further_limiter_cases blocks times computes
further_limiter_cases_hold = hold further_limiter_cases refl
