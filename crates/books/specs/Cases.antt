-- The further cases of y8-1 to y8-80 for document 02, Slip 8, as one table with one theorem about `step`. Those that edits of the model break are in the model (Cases/Books).
-- Assumes nothing. Inputs, numbers and labels are the second implementation's (reference/cases/books.txt). It stands here and not in the model, whose edits would compute it anew each.
use Rattle.std.specs.Prelude.{List, [], ◌∷◌, ◌++◌, refl, pos, neg_ℤ, replicate}
use Rattle.model.specs.Step.{load, emission, withdrawal, zonal, long_zonal, meridional, remap, total, cell, add_emitter, remove_emitter, tick, units_a_tick, count_zonal, zonal_with_count, set_limiter}
use Rattle.model.proofs.Cases.{Case, Hold, hold, computes}
use Rattle.model.proofs.Cases.Marked.{grid, four, six, refuses, hundreds}
use Rattle.model.proofs.Cases.Books.{held, plain, lent, leaves, reads}

pub further_book_cases : List Case
further_book_cases =
    -- y8-3: loaded 0, emitted 0, withdrawn 4294967196: 22; the left side is negative, and 100 if it wraps
    refuses "y8-3 zonal" (lent (grid 4 1 1 1) hundreds (six 0 10 20 30 40 0) (plain 0 0 4294967196)) (zonal 0 0 (four (pos 0) (pos 50) (pos 0) (pos 0))) 22 ∷
    -- y8-4: 4294967295, 101, 0: 22; the left side is 4294967396, and 100 if it wraps
    refuses "y8-4 zonal" (lent (grid 4 1 1 1) hundreds (six 0 10 20 30 40 0) (plain 4294967295 101 0)) (zonal 0 0 (four (pos 0) (pos 50) (pos 0) (pos 0))) 22 ∷
    -- y8-5: 0, 4294967295, 4294967195: accepted, a withdrawal of 1 too, and an emission of 1 is 6
    reads "y8-5 total" (lent (grid 4 1 1 1) hundreds (six 0 10 20 30 40 0) (plain 0 4294967295 4294967195)) (total 0) 100 ∷
    leaves "y8-5 zonal" (lent (grid 4 1 1 1) hundreds (six 0 10 20 30 40 0) (plain 0 4294967295 4294967195)) (zonal 0 0 (four (pos 0) (pos 50) (pos 0) (pos 0))) 1 (lent (grid 4 1 1 1) (six 100 100 50 150 100 100) (six 0 10 9 41 40 0) (plain 0 4294967295 4294967195)) ∷
    leaves "y8-5 withdrawal" (lent (grid 4 1 1 1) (six 100 100 50 150 100 100) (six 0 10 9 41 40 0) (plain 0 4294967295 4294967195)) (withdrawal 0 3 1) 0 (lent (grid 4 1 1 1) (six 100 100 50 150 100 100) (six 0 10 9 40 40 0) (plain 0 4294967295 4294967196)) ∷
    refuses "y8-5 emission" (lent (grid 4 1 1 1) (six 100 100 50 150 100 100) (six 0 10 9 40 40 0) (plain 0 4294967295 4294967196)) (emission 0 3 1) 6 ∷
    -- y8-6: 4294967295, 101, 4294967295 with cells 101: accepted, an emission of 1 too, and a withdrawal of 1 is 7
    leaves "y8-6 zonal" (lent (grid 4 1 1 1) hundreds (six 0 10 20 30 41 0) (plain 4294967295 101 4294967295)) (zonal 0 0 (four (pos 0) (pos 50) (pos 0) (pos 0))) 1 (lent (grid 4 1 1 1) (six 100 100 50 150 100 100) (six 0 10 9 41 41 0) (plain 4294967295 101 4294967295)) ∷
    leaves "y8-6 emission" (lent (grid 4 1 1 1) (six 100 100 50 150 100 100) (six 0 10 9 41 41 0) (plain 4294967295 101 4294967295)) (emission 0 3 1) 0 (lent (grid 4 1 1 1) (six 100 100 50 150 100 100) (six 0 10 9 42 41 0) (plain 4294967295 102 4294967295)) ∷
    refuses "y8-6 withdrawal" (lent (grid 4 1 1 1) (six 100 100 50 150 100 100) (six 0 10 9 42 41 0) (plain 4294967295 102 4294967295)) (withdrawal 0 3 1) 7 ∷
    -- y8-9: 0, 0, 100, then 0, 10, 110, then 50, 50, 200: 22; the left side is minus 100
    refuses "y8-9 total" (lent (grid 4 1 1 1) hundreds (six 0 10 20 30 40 0) (plain 0 0 100)) (total 0) 22 ∷
    refuses "y8-9 total 2" (lent (grid 4 1 1 1) hundreds (six 0 10 20 30 40 0) (plain 0 10 110)) (total 0) 22 ∷
    refuses "y8-9 total 3" (lent (grid 4 1 1 1) hundreds (six 0 10 20 30 40 0) (plain 50 50 200)) (total 0) 22 ∷
    -- y8-10: the cells are empty: all sums 0 are accepted, and so are 5 and 5, 2^32-1 and 2^32-1; one more withdrawn is negative: 22
    reads "y8-10 total" (lent (grid 4 1 1 1) hundreds (six 0 0 0 0 0 0) (plain 0 0 0)) (total 0) 0 ∷
    reads "y8-10 total 2" (lent (grid 4 1 1 1) hundreds (six 0 0 0 0 0 0) (plain 0 5 5)) (total 0) 0 ∷
    reads "y8-10 total 3" (lent (grid 4 1 1 1) hundreds (six 0 0 0 0 0 0) (plain 5 0 5)) (total 0) 0 ∷
    reads "y8-10 total 4" (lent (grid 4 1 1 1) hundreds (six 0 0 0 0 0 0) (plain 0 4294967295 4294967295)) (total 0) 0 ∷
    reads "y8-10 total 5" (lent (grid 4 1 1 1) hundreds (six 0 0 0 0 0 0) (plain 4294967295 0 4294967295)) (total 0) 0 ∷
    refuses "y8-10 total 6" (lent (grid 4 1 1 1) hundreds (six 0 0 0 0 0 0) (plain 0 0 1)) (total 0) 22 ∷
    refuses "y8-10 total 7" (lent (grid 4 1 1 1) hundreds (six 0 0 0 0 0 0) (plain 0 5 6)) (total 0) 22 ∷
    refuses "y8-10 total 8" (lent (grid 4 1 1 1) hundreds (six 0 0 0 0 0 0) (plain 5 0 6)) (total 0) 22 ∷
    refuses "y8-10 total 9" (lent (grid 4 1 1 1) hundreds (six 0 0 0 0 0 0) (plain 0 4294967294 4294967295)) (total 0) 22 ∷
    refuses "y8-10 total 10" (lent (grid 4 1 1 1) hundreds (six 0 0 0 0 0 0) (plain 0 0 4294967295)) (total 0) 22 ∷
    -- y8-12: each of 60, 50, 10 one up and one down: 22, in between accepted
    reads "y8-12 total" (lent (grid 4 1 1 1) hundreds (six 0 10 20 30 40 0) (plain 60 50 10)) (total 0) 100 ∷
    refuses "y8-12 total 2" (lent (grid 4 1 1 1) hundreds (six 0 10 20 30 40 0) (plain 61 50 10)) (total 0) 22 ∷
    refuses "y8-12 total 3" (lent (grid 4 1 1 1) hundreds (six 0 10 20 30 40 0) (plain 59 50 10)) (total 0) 22 ∷
    refuses "y8-12 total 4" (lent (grid 4 1 1 1) hundreds (six 0 10 20 30 40 0) (plain 60 51 10)) (total 0) 22 ∷
    refuses "y8-12 total 5" (lent (grid 4 1 1 1) hundreds (six 0 10 20 30 40 0) (plain 60 49 10)) (total 0) 22 ∷
    refuses "y8-12 total 6" (lent (grid 4 1 1 1) hundreds (six 0 10 20 30 40 0) (plain 60 50 11)) (total 0) 22 ∷
    refuses "y8-12 total 7" (lent (grid 4 1 1 1) hundreds (six 0 10 20 30 40 0) (plain 60 50 9)) (total 0) 22 ∷
    reads "y8-12 total 8" (lent (grid 4 1 1 1) hundreds (six 0 10 20 30 40 0) (plain 60 50 10)) (total 0) 100 ∷
    -- y8-13: only the sum counts: 61, 49, 10, then 110, 0, 10, then 0, 110, 10, then 0, 100, 0, then 100, 10, 10 are accepted; 100, 0, 10 and 100, 10, 0 and 10, 60, 50 and 50, 10, 60 are 22
    reads "y8-13 total" (lent (grid 4 1 1 1) hundreds (six 0 10 20 30 40 0) (plain 61 49 10)) (total 0) 100 ∷
    reads "y8-13 total 2" (lent (grid 4 1 1 1) hundreds (six 0 10 20 30 40 0) (plain 110 0 10)) (total 0) 100 ∷
    reads "y8-13 total 3" (lent (grid 4 1 1 1) hundreds (six 0 10 20 30 40 0) (plain 0 110 10)) (total 0) 100 ∷
    reads "y8-13 total 4" (lent (grid 4 1 1 1) hundreds (six 0 10 20 30 40 0) (plain 0 100 0)) (total 0) 100 ∷
    reads "y8-13 total 5" (lent (grid 4 1 1 1) hundreds (six 0 10 20 30 40 0) (plain 100 10 10)) (total 0) 100 ∷
    refuses "y8-13 total 6" (lent (grid 4 1 1 1) hundreds (six 0 10 20 30 40 0) (plain 100 0 10)) (total 0) 22 ∷
    refuses "y8-13 total 7" (lent (grid 4 1 1 1) hundreds (six 0 10 20 30 40 0) (plain 100 10 0)) (total 0) 22 ∷
    refuses "y8-13 total 8" (lent (grid 4 1 1 1) hundreds (six 0 10 20 30 40 0) (plain 10 60 50)) (total 0) 22 ∷
    refuses "y8-13 total 9" (lent (grid 4 1 1 1) hundreds (six 0 10 20 30 40 0) (plain 50 10 60)) (total 0) 22 ∷
    -- y8-15: two tracers with each other's total: 22; one up in one and one down in the other: 22
    refuses "y8-15 total" (lent (grid 4 1 1 2) hundreds (six 0 10 20 30 40 0 ++ six 5 7 11 13 17 19) (plain 72 0 0 ++ plain 100 0 0)) (total 0) 22 ∷
    refuses "y8-15 total 2" (lent (grid 4 1 1 2) hundreds (six 0 10 20 30 40 0 ++ six 5 7 11 13 17 19) (plain 72 0 0 ++ plain 100 0 0)) (total 1) 22 ∷
    refuses "y8-15 total 3" (lent (grid 4 1 1 2) hundreds (six 0 10 20 30 40 0 ++ six 5 7 11 13 17 19) (plain 101 0 0 ++ plain 71 0 0)) (total 0) 22 ∷
    refuses "y8-15 total 4" (lent (grid 4 1 1 2) hundreds (six 0 10 20 30 40 0 ++ six 5 7 11 13 17 19) (plain 101 0 0 ++ plain 71 0 0)) (total 1) 22 ∷
    refuses "y8-15 total 5" (lent (grid 4 1 1 2) hundreds (six 0 10 20 30 40 0 ++ six 5 7 11 13 17 19) (plain 172 0 0 ++ plain 0 0 0)) (total 0) 22 ∷
    refuses "y8-15 total 6" (lent (grid 4 1 1 2) hundreds (six 0 10 20 30 40 0 ++ six 5 7 11 13 17 19) (plain 172 0 0 ++ plain 0 0 0)) (total 1) 22 ∷
    reads "y8-15 total 7" (lent (grid 4 1 1 2) hundreds (six 0 10 20 30 40 0 ++ six 5 7 11 13 17 19) (plain 60 50 10 ++ plain 40 50 18)) (total 0) 100 ∷
    reads "y8-15 total 8" (lent (grid 4 1 1 2) hundreds (six 0 10 20 30 40 0 ++ six 5 7 11 13 17 19) (plain 60 50 10 ++ plain 40 50 18)) (total 1) 72 ∷
    -- y8-16: an amount off by one: in the south cap, a row, the north cap, each of two layers, up and down: 22; one up and one down in other cells: accepted
    refuses "y8-16 total" (lent (grid 4 1 2 1) (replicate 12 100) (six 6 0 10 20 30 5 ++ six 5 7 3 6 4 5) (plain 60 50 10)) (total 0) 22 ∷
    refuses "y8-16 remap" (lent (grid 4 1 2 1) (replicate 12 100) (six 6 0 10 20 30 5 ++ six 5 7 3 6 4 5) (plain 60 50 10)) (remap (0 ∷ 0 ∷ 0 ∷ 32768 ∷ 0 ∷ 65536 ∷ [])) 22 ∷
    refuses "y8-16 total 2" (lent (grid 4 1 2 1) (replicate 12 100) (six 4 0 10 20 30 5 ++ six 5 7 3 6 4 5) (plain 60 50 10)) (total 0) 22 ∷
    refuses "y8-16 remap 2" (lent (grid 4 1 2 1) (replicate 12 100) (six 4 0 10 20 30 5 ++ six 5 7 3 6 4 5) (plain 60 50 10)) (remap (0 ∷ 0 ∷ 0 ∷ 32768 ∷ 0 ∷ 65536 ∷ [])) 22 ∷
    refuses "y8-16 total 3" (lent (grid 4 1 2 1) (replicate 12 100) (six 5 0 11 20 30 5 ++ six 5 7 3 6 4 5) (plain 60 50 10)) (total 0) 22 ∷
    refuses "y8-16 remap 3" (lent (grid 4 1 2 1) (replicate 12 100) (six 5 0 11 20 30 5 ++ six 5 7 3 6 4 5) (plain 60 50 10)) (remap (0 ∷ 0 ∷ 0 ∷ 32768 ∷ 0 ∷ 65536 ∷ [])) 22 ∷
    refuses "y8-16 total 4" (lent (grid 4 1 2 1) (replicate 12 100) (six 5 0 10 20 30 4 ++ six 5 7 3 6 4 5) (plain 60 50 10)) (total 0) 22 ∷
    refuses "y8-16 remap 4" (lent (grid 4 1 2 1) (replicate 12 100) (six 5 0 10 20 30 4 ++ six 5 7 3 6 4 5) (plain 60 50 10)) (remap (0 ∷ 0 ∷ 0 ∷ 32768 ∷ 0 ∷ 65536 ∷ [])) 22 ∷
    refuses "y8-16 total 5" (lent (grid 4 1 2 1) (replicate 12 100) (six 5 0 10 20 30 5 ++ six 6 7 3 6 4 5) (plain 60 50 10)) (total 0) 22 ∷
    refuses "y8-16 remap 5" (lent (grid 4 1 2 1) (replicate 12 100) (six 5 0 10 20 30 5 ++ six 6 7 3 6 4 5) (plain 60 50 10)) (remap (0 ∷ 0 ∷ 0 ∷ 32768 ∷ 0 ∷ 65536 ∷ [])) 22 ∷
    refuses "y8-16 total 6" (lent (grid 4 1 2 1) (replicate 12 100) (six 5 0 10 20 30 5 ++ six 5 7 2 6 4 5) (plain 60 50 10)) (total 0) 22 ∷
    refuses "y8-16 remap 6" (lent (grid 4 1 2 1) (replicate 12 100) (six 5 0 10 20 30 5 ++ six 5 7 2 6 4 5) (plain 60 50 10)) (remap (0 ∷ 0 ∷ 0 ∷ 32768 ∷ 0 ∷ 65536 ∷ [])) 22 ∷
    refuses "y8-16 total 7" (lent (grid 4 1 2 1) (replicate 12 100) (six 5 0 10 20 30 5 ++ six 5 7 3 6 4 6) (plain 60 50 10)) (total 0) 22 ∷
    refuses "y8-16 remap 7" (lent (grid 4 1 2 1) (replicate 12 100) (six 5 0 10 20 30 5 ++ six 5 7 3 6 4 6) (plain 60 50 10)) (remap (0 ∷ 0 ∷ 0 ∷ 32768 ∷ 0 ∷ 65536 ∷ [])) 22 ∷
    refuses "y8-16 total 8" (lent (grid 4 1 2 1) (replicate 12 100) (six 5 0 10 20 30 5 ++ six 5 7 3 6 4 4) (plain 60 50 10)) (total 0) 22 ∷
    refuses "y8-16 remap 8" (lent (grid 4 1 2 1) (replicate 12 100) (six 5 0 10 20 30 5 ++ six 5 7 3 6 4 4) (plain 60 50 10)) (remap (0 ∷ 0 ∷ 0 ∷ 32768 ∷ 0 ∷ 65536 ∷ [])) 22 ∷
    reads "y8-16 total 9" (lent (grid 4 1 2 1) (replicate 12 100) (six 6 0 10 20 30 5 ++ six 5 7 3 6 4 4) (plain 60 50 10)) (total 0) 100 ∷
    reads "y8-16 remap 9" (lent (grid 4 1 2 1) (replicate 12 100) (six 6 0 10 20 30 5 ++ six 5 7 3 6 4 4) (plain 60 50 10)) (remap (0 ∷ 0 ∷ 0 ∷ 32768 ∷ 0 ∷ 65536 ∷ [])) 12 ∷
    -- y8-17: 22 in every call but a load: loaded one up in tracer 1 of 2, which no call names
    leaves "y8-17 add emitter" (lent (grid 4 1 1 2) hundreds (six 0 10 20 30 40 0 ++ six 5 7 11 13 17 19) (plain 60 50 10 ++ plain 40 50 18)) (add_emitter 0 1 7 3) 0 (lent (grid 4 1 1 2) hundreds (six 0 10 20 30 40 0 ++ six 5 7 11 13 17 19) (held (1 ∷ 3 ∷ 0 ∷ 7 ∷ 1 ∷ 3 ∷ []) (1 ∷ 0 ∷ 0 ∷ 0 ∷ 0 ∷ []) 60 50 10 ++ plain 40 50 18)) ∷
    refuses "y8-17 withdrawal" (lent (grid 4 1 1 2) hundreds (six 0 10 20 30 40 0 ++ six 5 7 11 13 17 19) (held (1 ∷ 3 ∷ 0 ∷ 7 ∷ 1 ∷ 3 ∷ []) (1 ∷ 0 ∷ 0 ∷ 0 ∷ 0 ∷ []) 60 50 10 ++ plain 41 50 18)) (withdrawal 0 2 5) 22 ∷
    refuses "y8-17 long zonal" (lent (grid 4 1 1 2) hundreds (six 0 10 20 30 40 0 ++ six 5 7 11 13 17 19) (held (1 ∷ 3 ∷ 0 ∷ 7 ∷ 1 ∷ 3 ∷ []) (1 ∷ 0 ∷ 0 ∷ 0 ∷ 0 ∷ []) 60 50 10 ++ plain 41 50 18)) (long_zonal 0 0 (four (pos 0) (neg_ℤ (pos 20)) (pos 0) (pos 0))) 22 ∷
    refuses "y8-17 count zonal" (lent (grid 4 1 1 2) hundreds (six 0 10 20 30 40 0 ++ six 5 7 11 13 17 19) (held (1 ∷ 3 ∷ 0 ∷ 7 ∷ 1 ∷ 3 ∷ []) (1 ∷ 0 ∷ 0 ∷ 0 ∷ 0 ∷ []) 60 50 10 ++ plain 41 50 18)) (count_zonal 0 0 (four (pos 0) (pos 20) (pos 0) (pos 0))) 22 ∷
    refuses "y8-17 zonal with count" (lent (grid 4 1 1 2) hundreds (six 0 10 20 30 40 0 ++ six 5 7 11 13 17 19) (held (1 ∷ 3 ∷ 0 ∷ 7 ∷ 1 ∷ 3 ∷ []) (1 ∷ 0 ∷ 0 ∷ 0 ∷ 0 ∷ []) 60 50 10 ++ plain 41 50 18)) (zonal_with_count 0 0 1 (four (pos 0) (pos 20) (pos 0) (pos 0))) 22 ∷
    refuses "y8-17 meridional" (lent (grid 4 1 1 2) hundreds (six 0 10 20 30 40 0 ++ six 5 7 11 13 17 19) (held (1 ∷ 3 ∷ 0 ∷ 7 ∷ 1 ∷ 3 ∷ []) (1 ∷ 0 ∷ 0 ∷ 0 ∷ 0 ∷ []) 60 50 10 ++ plain 41 50 18)) (meridional 0 (four (pos 0) (pos 0) (pos 0) (pos 0) ++ four (pos 9) (pos 0) (pos 0) (pos 0))) 22 ∷
    refuses "y8-17 cell" (lent (grid 4 1 1 2) hundreds (six 0 10 20 30 40 0 ++ six 5 7 11 13 17 19) (held (1 ∷ 3 ∷ 0 ∷ 7 ∷ 1 ∷ 3 ∷ []) (1 ∷ 0 ∷ 0 ∷ 0 ∷ 0 ∷ []) 60 50 10 ++ plain 41 50 18)) (cell 0 2) 22 ∷
    refuses "y8-17 add emitter 2" (lent (grid 4 1 1 2) hundreds (six 0 10 20 30 40 0 ++ six 5 7 11 13 17 19) (held (1 ∷ 3 ∷ 0 ∷ 7 ∷ 1 ∷ 3 ∷ []) (1 ∷ 0 ∷ 0 ∷ 0 ∷ 0 ∷ []) 60 50 10 ++ plain 41 50 18)) (add_emitter 0 3 8 1) 22 ∷
    refuses "y8-17 remove emitter" (lent (grid 4 1 1 2) hundreds (six 0 10 20 30 40 0 ++ six 5 7 11 13 17 19) (held (1 ∷ 3 ∷ 0 ∷ 7 ∷ 1 ∷ 3 ∷ []) (1 ∷ 0 ∷ 0 ∷ 0 ∷ 0 ∷ []) 60 50 10 ++ plain 41 50 18)) (remove_emitter 0 7) 22 ∷
    refuses "y8-17 tick" (lent (grid 4 1 1 2) hundreds (six 0 10 20 30 40 0 ++ six 5 7 11 13 17 19) (held (1 ∷ 3 ∷ 0 ∷ 7 ∷ 1 ∷ 3 ∷ []) (1 ∷ 0 ∷ 0 ∷ 0 ∷ 0 ∷ []) 60 50 10 ++ plain 41 50 18)) (tick 0) 22 ∷
    refuses "y8-17 units a tick" (lent (grid 4 1 1 2) hundreds (six 0 10 20 30 40 0 ++ six 5 7 11 13 17 19) (held (1 ∷ 3 ∷ 0 ∷ 7 ∷ 1 ∷ 3 ∷ []) (1 ∷ 0 ∷ 0 ∷ 0 ∷ 0 ∷ []) 60 50 10 ++ plain 41 50 18)) (units_a_tick 0) 22 ∷
    refuses "y8-17 set limiter" (lent (grid 4 1 1 2) hundreds (six 0 10 20 30 40 0 ++ six 5 7 11 13 17 19) (held (1 ∷ 3 ∷ 0 ∷ 7 ∷ 1 ∷ 3 ∷ []) (1 ∷ 0 ∷ 0 ∷ 0 ∷ 0 ∷ []) 60 50 10 ++ plain 41 50 18)) (set_limiter 0 2 0 0) 22 ∷
    -- y8-23: 22 in every call but a load: an amount one up in tracer 1 of 2, which no call names
    leaves "y8-23 add emitter" (lent (grid 4 1 1 2) hundreds (six 0 10 20 30 40 0 ++ six 5 7 11 13 17 20) (plain 100 0 0 ++ plain 73 0 0)) (add_emitter 0 1 7 3) 0 (lent (grid 4 1 1 2) hundreds (six 0 10 20 30 40 0 ++ six 5 7 11 13 17 20) (held (1 ∷ 3 ∷ 0 ∷ 7 ∷ 1 ∷ 3 ∷ []) (1 ∷ 0 ∷ 0 ∷ 0 ∷ 0 ∷ []) 100 0 0 ++ plain 73 0 0)) ∷
    refuses "y8-23 emission" (lent (grid 4 1 1 2) hundreds (six 0 10 20 30 40 0 ++ six 5 7 11 13 17 20) (held (1 ∷ 3 ∷ 0 ∷ 7 ∷ 1 ∷ 3 ∷ []) (1 ∷ 0 ∷ 0 ∷ 0 ∷ 0 ∷ []) 60 50 10 ++ plain 40 50 18)) (emission 0 2 5) 22 ∷
    refuses "y8-23 withdrawal" (lent (grid 4 1 1 2) hundreds (six 0 10 20 30 40 0 ++ six 5 7 11 13 17 20) (held (1 ∷ 3 ∷ 0 ∷ 7 ∷ 1 ∷ 3 ∷ []) (1 ∷ 0 ∷ 0 ∷ 0 ∷ 0 ∷ []) 60 50 10 ++ plain 40 50 18)) (withdrawal 0 2 5) 22 ∷
    refuses "y8-23 zonal" (lent (grid 4 1 1 2) hundreds (six 0 10 20 30 40 0 ++ six 5 7 11 13 17 20) (held (1 ∷ 3 ∷ 0 ∷ 7 ∷ 1 ∷ 3 ∷ []) (1 ∷ 0 ∷ 0 ∷ 0 ∷ 0 ∷ []) 60 50 10 ++ plain 40 50 18)) (zonal 0 0 (four (pos 0) (pos 20) (pos 0) (pos 0))) 22 ∷
    refuses "y8-23 long zonal" (lent (grid 4 1 1 2) hundreds (six 0 10 20 30 40 0 ++ six 5 7 11 13 17 20) (held (1 ∷ 3 ∷ 0 ∷ 7 ∷ 1 ∷ 3 ∷ []) (1 ∷ 0 ∷ 0 ∷ 0 ∷ 0 ∷ []) 60 50 10 ++ plain 40 50 18)) (long_zonal 0 0 (four (pos 0) (neg_ℤ (pos 20)) (pos 0) (pos 0))) 22 ∷
    refuses "y8-23 count zonal" (lent (grid 4 1 1 2) hundreds (six 0 10 20 30 40 0 ++ six 5 7 11 13 17 20) (held (1 ∷ 3 ∷ 0 ∷ 7 ∷ 1 ∷ 3 ∷ []) (1 ∷ 0 ∷ 0 ∷ 0 ∷ 0 ∷ []) 60 50 10 ++ plain 40 50 18)) (count_zonal 0 0 (four (pos 0) (pos 20) (pos 0) (pos 0))) 22 ∷
    refuses "y8-23 zonal with count" (lent (grid 4 1 1 2) hundreds (six 0 10 20 30 40 0 ++ six 5 7 11 13 17 20) (held (1 ∷ 3 ∷ 0 ∷ 7 ∷ 1 ∷ 3 ∷ []) (1 ∷ 0 ∷ 0 ∷ 0 ∷ 0 ∷ []) 60 50 10 ++ plain 40 50 18)) (zonal_with_count 0 0 1 (four (pos 0) (pos 20) (pos 0) (pos 0))) 22 ∷
    refuses "y8-23 meridional" (lent (grid 4 1 1 2) hundreds (six 0 10 20 30 40 0 ++ six 5 7 11 13 17 20) (held (1 ∷ 3 ∷ 0 ∷ 7 ∷ 1 ∷ 3 ∷ []) (1 ∷ 0 ∷ 0 ∷ 0 ∷ 0 ∷ []) 60 50 10 ++ plain 40 50 18)) (meridional 0 (four (pos 0) (pos 0) (pos 0) (pos 0) ++ four (pos 9) (pos 0) (pos 0) (pos 0))) 22 ∷
    refuses "y8-23 remap" (lent (grid 4 1 1 2) hundreds (six 0 10 20 30 40 0 ++ six 5 7 11 13 17 20) (held (1 ∷ 3 ∷ 0 ∷ 7 ∷ 1 ∷ 3 ∷ []) (1 ∷ 0 ∷ 0 ∷ 0 ∷ 0 ∷ []) 60 50 10 ++ plain 40 50 18)) (remap (0 ∷ 0 ∷ 0 ∷ 65536 ∷ [])) 22 ∷
    refuses "y8-23 total" (lent (grid 4 1 1 2) hundreds (six 0 10 20 30 40 0 ++ six 5 7 11 13 17 20) (held (1 ∷ 3 ∷ 0 ∷ 7 ∷ 1 ∷ 3 ∷ []) (1 ∷ 0 ∷ 0 ∷ 0 ∷ 0 ∷ []) 60 50 10 ++ plain 40 50 18)) (total 0) 22 ∷
    refuses "y8-23 cell" (lent (grid 4 1 1 2) hundreds (six 0 10 20 30 40 0 ++ six 5 7 11 13 17 20) (held (1 ∷ 3 ∷ 0 ∷ 7 ∷ 1 ∷ 3 ∷ []) (1 ∷ 0 ∷ 0 ∷ 0 ∷ 0 ∷ []) 60 50 10 ++ plain 40 50 18)) (cell 0 2) 22 ∷
    refuses "y8-23 add emitter 2" (lent (grid 4 1 1 2) hundreds (six 0 10 20 30 40 0 ++ six 5 7 11 13 17 20) (held (1 ∷ 3 ∷ 0 ∷ 7 ∷ 1 ∷ 3 ∷ []) (1 ∷ 0 ∷ 0 ∷ 0 ∷ 0 ∷ []) 60 50 10 ++ plain 40 50 18)) (add_emitter 0 3 8 1) 22 ∷
    refuses "y8-23 remove emitter" (lent (grid 4 1 1 2) hundreds (six 0 10 20 30 40 0 ++ six 5 7 11 13 17 20) (held (1 ∷ 3 ∷ 0 ∷ 7 ∷ 1 ∷ 3 ∷ []) (1 ∷ 0 ∷ 0 ∷ 0 ∷ 0 ∷ []) 60 50 10 ++ plain 40 50 18)) (remove_emitter 0 7) 22 ∷
    refuses "y8-23 tick" (lent (grid 4 1 1 2) hundreds (six 0 10 20 30 40 0 ++ six 5 7 11 13 17 20) (held (1 ∷ 3 ∷ 0 ∷ 7 ∷ 1 ∷ 3 ∷ []) (1 ∷ 0 ∷ 0 ∷ 0 ∷ 0 ∷ []) 60 50 10 ++ plain 40 50 18)) (tick 0) 22 ∷
    refuses "y8-23 units a tick" (lent (grid 4 1 1 2) hundreds (six 0 10 20 30 40 0 ++ six 5 7 11 13 17 20) (held (1 ∷ 3 ∷ 0 ∷ 7 ∷ 1 ∷ 3 ∷ []) (1 ∷ 0 ∷ 0 ∷ 0 ∷ 0 ∷ []) 60 50 10 ++ plain 40 50 18)) (units_a_tick 0) 22 ∷
    refuses "y8-23 set limiter" (lent (grid 4 1 1 2) hundreds (six 0 10 20 30 40 0 ++ six 5 7 11 13 17 20) (held (1 ∷ 3 ∷ 0 ∷ 7 ∷ 1 ∷ 3 ∷ []) (1 ∷ 0 ∷ 0 ∷ 0 ∷ 0 ∷ []) 60 50 10 ++ plain 40 50 18)) (set_limiter 0 2 0 0) 22 ∷
    -- y8-31: 22 in every call but a load: loaded one up in tracer 0, and tracer 1 is named
    leaves "y8-31 add emitter" (lent (grid 4 1 1 2) hundreds (six 0 10 20 30 40 0 ++ six 5 7 11 13 17 19) (plain 60 50 10 ++ plain 40 50 18)) (add_emitter 1 1 7 3) 0 (lent (grid 4 1 1 2) hundreds (six 0 10 20 30 40 0 ++ six 5 7 11 13 17 19) (plain 60 50 10 ++ held (1 ∷ 3 ∷ 0 ∷ 7 ∷ 1 ∷ 3 ∷ []) (1 ∷ 0 ∷ 0 ∷ 0 ∷ 0 ∷ []) 40 50 18)) ∷
    refuses "y8-31 emission" (lent (grid 4 1 1 2) hundreds (six 0 10 20 30 40 0 ++ six 5 7 11 13 17 19) (plain 61 50 10 ++ held (1 ∷ 3 ∷ 0 ∷ 7 ∷ 1 ∷ 3 ∷ []) (1 ∷ 0 ∷ 0 ∷ 0 ∷ 0 ∷ []) 40 50 18)) (emission 1 2 5) 22 ∷
    refuses "y8-31 withdrawal" (lent (grid 4 1 1 2) hundreds (six 0 10 20 30 40 0 ++ six 5 7 11 13 17 19) (plain 61 50 10 ++ held (1 ∷ 3 ∷ 0 ∷ 7 ∷ 1 ∷ 3 ∷ []) (1 ∷ 0 ∷ 0 ∷ 0 ∷ 0 ∷ []) 40 50 18)) (withdrawal 1 2 5) 22 ∷
    refuses "y8-31 zonal" (lent (grid 4 1 1 2) hundreds (six 0 10 20 30 40 0 ++ six 5 7 11 13 17 19) (plain 61 50 10 ++ held (1 ∷ 3 ∷ 0 ∷ 7 ∷ 1 ∷ 3 ∷ []) (1 ∷ 0 ∷ 0 ∷ 0 ∷ 0 ∷ []) 40 50 18)) (zonal 0 0 (four (pos 0) (pos 20) (pos 0) (pos 0))) 22 ∷
    refuses "y8-31 long zonal" (lent (grid 4 1 1 2) hundreds (six 0 10 20 30 40 0 ++ six 5 7 11 13 17 19) (plain 61 50 10 ++ held (1 ∷ 3 ∷ 0 ∷ 7 ∷ 1 ∷ 3 ∷ []) (1 ∷ 0 ∷ 0 ∷ 0 ∷ 0 ∷ []) 40 50 18)) (long_zonal 0 0 (four (pos 0) (neg_ℤ (pos 20)) (pos 0) (pos 0))) 22 ∷
    refuses "y8-31 count zonal" (lent (grid 4 1 1 2) hundreds (six 0 10 20 30 40 0 ++ six 5 7 11 13 17 19) (plain 61 50 10 ++ held (1 ∷ 3 ∷ 0 ∷ 7 ∷ 1 ∷ 3 ∷ []) (1 ∷ 0 ∷ 0 ∷ 0 ∷ 0 ∷ []) 40 50 18)) (count_zonal 0 0 (four (pos 0) (pos 20) (pos 0) (pos 0))) 22 ∷
    refuses "y8-31 zonal with count" (lent (grid 4 1 1 2) hundreds (six 0 10 20 30 40 0 ++ six 5 7 11 13 17 19) (plain 61 50 10 ++ held (1 ∷ 3 ∷ 0 ∷ 7 ∷ 1 ∷ 3 ∷ []) (1 ∷ 0 ∷ 0 ∷ 0 ∷ 0 ∷ []) 40 50 18)) (zonal_with_count 0 0 1 (four (pos 0) (pos 20) (pos 0) (pos 0))) 22 ∷
    refuses "y8-31 meridional" (lent (grid 4 1 1 2) hundreds (six 0 10 20 30 40 0 ++ six 5 7 11 13 17 19) (plain 61 50 10 ++ held (1 ∷ 3 ∷ 0 ∷ 7 ∷ 1 ∷ 3 ∷ []) (1 ∷ 0 ∷ 0 ∷ 0 ∷ 0 ∷ []) 40 50 18)) (meridional 0 (four (pos 0) (pos 0) (pos 0) (pos 0) ++ four (pos 9) (pos 0) (pos 0) (pos 0))) 22 ∷
    refuses "y8-31 remap" (lent (grid 4 1 1 2) hundreds (six 0 10 20 30 40 0 ++ six 5 7 11 13 17 19) (plain 61 50 10 ++ held (1 ∷ 3 ∷ 0 ∷ 7 ∷ 1 ∷ 3 ∷ []) (1 ∷ 0 ∷ 0 ∷ 0 ∷ 0 ∷ []) 40 50 18)) (remap (0 ∷ 0 ∷ 0 ∷ 65536 ∷ [])) 22 ∷
    refuses "y8-31 total" (lent (grid 4 1 1 2) hundreds (six 0 10 20 30 40 0 ++ six 5 7 11 13 17 19) (plain 61 50 10 ++ held (1 ∷ 3 ∷ 0 ∷ 7 ∷ 1 ∷ 3 ∷ []) (1 ∷ 0 ∷ 0 ∷ 0 ∷ 0 ∷ []) 40 50 18)) (total 1) 22 ∷
    refuses "y8-31 cell" (lent (grid 4 1 1 2) hundreds (six 0 10 20 30 40 0 ++ six 5 7 11 13 17 19) (plain 61 50 10 ++ held (1 ∷ 3 ∷ 0 ∷ 7 ∷ 1 ∷ 3 ∷ []) (1 ∷ 0 ∷ 0 ∷ 0 ∷ 0 ∷ []) 40 50 18)) (cell 1 2) 22 ∷
    refuses "y8-31 add emitter 2" (lent (grid 4 1 1 2) hundreds (six 0 10 20 30 40 0 ++ six 5 7 11 13 17 19) (plain 61 50 10 ++ held (1 ∷ 3 ∷ 0 ∷ 7 ∷ 1 ∷ 3 ∷ []) (1 ∷ 0 ∷ 0 ∷ 0 ∷ 0 ∷ []) 40 50 18)) (add_emitter 1 3 8 1) 22 ∷
    refuses "y8-31 remove emitter" (lent (grid 4 1 1 2) hundreds (six 0 10 20 30 40 0 ++ six 5 7 11 13 17 19) (plain 61 50 10 ++ held (1 ∷ 3 ∷ 0 ∷ 7 ∷ 1 ∷ 3 ∷ []) (1 ∷ 0 ∷ 0 ∷ 0 ∷ 0 ∷ []) 40 50 18)) (remove_emitter 1 7) 22 ∷
    refuses "y8-31 tick" (lent (grid 4 1 1 2) hundreds (six 0 10 20 30 40 0 ++ six 5 7 11 13 17 19) (plain 61 50 10 ++ held (1 ∷ 3 ∷ 0 ∷ 7 ∷ 1 ∷ 3 ∷ []) (1 ∷ 0 ∷ 0 ∷ 0 ∷ 0 ∷ []) 40 50 18)) (tick 1) 22 ∷
    refuses "y8-31 units a tick" (lent (grid 4 1 1 2) hundreds (six 0 10 20 30 40 0 ++ six 5 7 11 13 17 19) (plain 61 50 10 ++ held (1 ∷ 3 ∷ 0 ∷ 7 ∷ 1 ∷ 3 ∷ []) (1 ∷ 0 ∷ 0 ∷ 0 ∷ 0 ∷ []) 40 50 18)) (units_a_tick 1) 22 ∷
    refuses "y8-31 set limiter" (lent (grid 4 1 1 2) hundreds (six 0 10 20 30 40 0 ++ six 5 7 11 13 17 19) (plain 61 50 10 ++ held (1 ∷ 3 ∷ 0 ∷ 7 ∷ 1 ∷ 3 ∷ []) (1 ∷ 0 ∷ 0 ∷ 0 ∷ 0 ∷ []) 40 50 18)) (set_limiter 1 2 0 0) 22 ∷
    -- y8-35: 21 before 22 in the sweeps, the count call and the remap, and no 21 in the other calls: a broken limiter of tracer 0, broken books of tracer 1
    refuses "y8-35 emission" (lent (grid 4 1 1 2) hundreds (six 0 10 20 30 40 0 ++ six 5 7 11 13 17 19) (held (1 ∷ 3 ∷ 0 ∷ 7 ∷ 1 ∷ 3 ∷ []) (3 ∷ 2 ∷ 0 ∷ 1 ∷ 0 ∷ []) 60 50 10 ++ plain 40 50 17)) (emission 0 2 5) 22 ∷
    refuses "y8-35 withdrawal" (lent (grid 4 1 1 2) hundreds (six 0 10 20 30 40 0 ++ six 5 7 11 13 17 19) (held (1 ∷ 3 ∷ 0 ∷ 7 ∷ 1 ∷ 3 ∷ []) (3 ∷ 2 ∷ 0 ∷ 1 ∷ 0 ∷ []) 60 50 10 ++ plain 40 50 17)) (withdrawal 0 2 5) 22 ∷
    refuses "y8-35 long zonal" (lent (grid 4 1 1 2) hundreds (six 0 10 20 30 40 0 ++ six 5 7 11 13 17 19) (held (1 ∷ 3 ∷ 0 ∷ 7 ∷ 1 ∷ 3 ∷ []) (3 ∷ 2 ∷ 0 ∷ 1 ∷ 0 ∷ []) 60 50 10 ++ plain 40 50 17)) (long_zonal 0 0 (four (pos 0) (neg_ℤ (pos 20)) (pos 0) (pos 0))) 21 ∷
    refuses "y8-35 count zonal" (lent (grid 4 1 1 2) hundreds (six 0 10 20 30 40 0 ++ six 5 7 11 13 17 19) (held (1 ∷ 3 ∷ 0 ∷ 7 ∷ 1 ∷ 3 ∷ []) (3 ∷ 2 ∷ 0 ∷ 1 ∷ 0 ∷ []) 60 50 10 ++ plain 40 50 17)) (count_zonal 0 0 (four (pos 0) (pos 20) (pos 0) (pos 0))) 21 ∷
    refuses "y8-35 zonal with count" (lent (grid 4 1 1 2) hundreds (six 0 10 20 30 40 0 ++ six 5 7 11 13 17 19) (held (1 ∷ 3 ∷ 0 ∷ 7 ∷ 1 ∷ 3 ∷ []) (3 ∷ 2 ∷ 0 ∷ 1 ∷ 0 ∷ []) 60 50 10 ++ plain 40 50 17)) (zonal_with_count 0 0 1 (four (pos 0) (pos 20) (pos 0) (pos 0))) 21 ∷
    refuses "y8-35 meridional" (lent (grid 4 1 1 2) hundreds (six 0 10 20 30 40 0 ++ six 5 7 11 13 17 19) (held (1 ∷ 3 ∷ 0 ∷ 7 ∷ 1 ∷ 3 ∷ []) (3 ∷ 2 ∷ 0 ∷ 1 ∷ 0 ∷ []) 60 50 10 ++ plain 40 50 17)) (meridional 0 (four (pos 0) (pos 0) (pos 0) (pos 0) ++ four (pos 9) (pos 0) (pos 0) (pos 0))) 21 ∷
    refuses "y8-35 total" (lent (grid 4 1 1 2) hundreds (six 0 10 20 30 40 0 ++ six 5 7 11 13 17 19) (held (1 ∷ 3 ∷ 0 ∷ 7 ∷ 1 ∷ 3 ∷ []) (3 ∷ 2 ∷ 0 ∷ 1 ∷ 0 ∷ []) 60 50 10 ++ plain 40 50 17)) (total 0) 22 ∷
    refuses "y8-35 cell" (lent (grid 4 1 1 2) hundreds (six 0 10 20 30 40 0 ++ six 5 7 11 13 17 19) (held (1 ∷ 3 ∷ 0 ∷ 7 ∷ 1 ∷ 3 ∷ []) (3 ∷ 2 ∷ 0 ∷ 1 ∷ 0 ∷ []) 60 50 10 ++ plain 40 50 17)) (cell 0 2) 22 ∷
    refuses "y8-35 add emitter" (lent (grid 4 1 1 2) hundreds (six 0 10 20 30 40 0 ++ six 5 7 11 13 17 19) (held (1 ∷ 3 ∷ 0 ∷ 7 ∷ 1 ∷ 3 ∷ []) (3 ∷ 2 ∷ 0 ∷ 1 ∷ 0 ∷ []) 60 50 10 ++ plain 40 50 17)) (add_emitter 0 3 8 1) 22 ∷
    refuses "y8-35 remove emitter" (lent (grid 4 1 1 2) hundreds (six 0 10 20 30 40 0 ++ six 5 7 11 13 17 19) (held (1 ∷ 3 ∷ 0 ∷ 7 ∷ 1 ∷ 3 ∷ []) (3 ∷ 2 ∷ 0 ∷ 1 ∷ 0 ∷ []) 60 50 10 ++ plain 40 50 17)) (remove_emitter 0 7) 22 ∷
    refuses "y8-35 tick" (lent (grid 4 1 1 2) hundreds (six 0 10 20 30 40 0 ++ six 5 7 11 13 17 19) (held (1 ∷ 3 ∷ 0 ∷ 7 ∷ 1 ∷ 3 ∷ []) (3 ∷ 2 ∷ 0 ∷ 1 ∷ 0 ∷ []) 60 50 10 ++ plain 40 50 17)) (tick 0) 22 ∷
    refuses "y8-35 units a tick" (lent (grid 4 1 1 2) hundreds (six 0 10 20 30 40 0 ++ six 5 7 11 13 17 19) (held (1 ∷ 3 ∷ 0 ∷ 7 ∷ 1 ∷ 3 ∷ []) (3 ∷ 2 ∷ 0 ∷ 1 ∷ 0 ∷ []) 60 50 10 ++ plain 40 50 17)) (units_a_tick 0) 22 ∷
    -- y8-36: 21 before 22 with the faults the other way round: a broken limiter of tracer 1, broken books of tracer 0
    refuses "y8-36 emission" (lent (grid 4 1 1 2) hundreds (six 0 10 20 30 40 0 ++ six 5 7 11 13 17 19) (held (1 ∷ 3 ∷ 0 ∷ 7 ∷ 1 ∷ 3 ∷ []) (1 ∷ 0 ∷ 0 ∷ 0 ∷ 0 ∷ []) 60 50 9 ++ held [] (3 ∷ 2 ∷ 0 ∷ 1 ∷ 0 ∷ []) 40 50 18)) (emission 0 2 5) 22 ∷
    refuses "y8-36 withdrawal" (lent (grid 4 1 1 2) hundreds (six 0 10 20 30 40 0 ++ six 5 7 11 13 17 19) (held (1 ∷ 3 ∷ 0 ∷ 7 ∷ 1 ∷ 3 ∷ []) (1 ∷ 0 ∷ 0 ∷ 0 ∷ 0 ∷ []) 60 50 9 ++ held [] (3 ∷ 2 ∷ 0 ∷ 1 ∷ 0 ∷ []) 40 50 18)) (withdrawal 0 2 5) 22 ∷
    refuses "y8-36 zonal" (lent (grid 4 1 1 2) hundreds (six 0 10 20 30 40 0 ++ six 5 7 11 13 17 19) (held (1 ∷ 3 ∷ 0 ∷ 7 ∷ 1 ∷ 3 ∷ []) (1 ∷ 0 ∷ 0 ∷ 0 ∷ 0 ∷ []) 60 50 9 ++ held [] (3 ∷ 2 ∷ 0 ∷ 1 ∷ 0 ∷ []) 40 50 18)) (zonal 0 0 (four (pos 0) (pos 20) (pos 0) (pos 0))) 21 ∷
    refuses "y8-36 long zonal" (lent (grid 4 1 1 2) hundreds (six 0 10 20 30 40 0 ++ six 5 7 11 13 17 19) (held (1 ∷ 3 ∷ 0 ∷ 7 ∷ 1 ∷ 3 ∷ []) (1 ∷ 0 ∷ 0 ∷ 0 ∷ 0 ∷ []) 60 50 9 ++ held [] (3 ∷ 2 ∷ 0 ∷ 1 ∷ 0 ∷ []) 40 50 18)) (long_zonal 0 0 (four (pos 0) (neg_ℤ (pos 20)) (pos 0) (pos 0))) 21 ∷
    refuses "y8-36 count zonal" (lent (grid 4 1 1 2) hundreds (six 0 10 20 30 40 0 ++ six 5 7 11 13 17 19) (held (1 ∷ 3 ∷ 0 ∷ 7 ∷ 1 ∷ 3 ∷ []) (1 ∷ 0 ∷ 0 ∷ 0 ∷ 0 ∷ []) 60 50 9 ++ held [] (3 ∷ 2 ∷ 0 ∷ 1 ∷ 0 ∷ []) 40 50 18)) (count_zonal 0 0 (four (pos 0) (pos 20) (pos 0) (pos 0))) 21 ∷
    refuses "y8-36 zonal with count" (lent (grid 4 1 1 2) hundreds (six 0 10 20 30 40 0 ++ six 5 7 11 13 17 19) (held (1 ∷ 3 ∷ 0 ∷ 7 ∷ 1 ∷ 3 ∷ []) (1 ∷ 0 ∷ 0 ∷ 0 ∷ 0 ∷ []) 60 50 9 ++ held [] (3 ∷ 2 ∷ 0 ∷ 1 ∷ 0 ∷ []) 40 50 18)) (zonal_with_count 0 0 1 (four (pos 0) (pos 20) (pos 0) (pos 0))) 21 ∷
    refuses "y8-36 meridional" (lent (grid 4 1 1 2) hundreds (six 0 10 20 30 40 0 ++ six 5 7 11 13 17 19) (held (1 ∷ 3 ∷ 0 ∷ 7 ∷ 1 ∷ 3 ∷ []) (1 ∷ 0 ∷ 0 ∷ 0 ∷ 0 ∷ []) 60 50 9 ++ held [] (3 ∷ 2 ∷ 0 ∷ 1 ∷ 0 ∷ []) 40 50 18)) (meridional 0 (four (pos 0) (pos 0) (pos 0) (pos 0) ++ four (pos 9) (pos 0) (pos 0) (pos 0))) 21 ∷
    refuses "y8-36 remap" (lent (grid 4 1 1 2) hundreds (six 0 10 20 30 40 0 ++ six 5 7 11 13 17 19) (held (1 ∷ 3 ∷ 0 ∷ 7 ∷ 1 ∷ 3 ∷ []) (1 ∷ 0 ∷ 0 ∷ 0 ∷ 0 ∷ []) 60 50 9 ++ held [] (3 ∷ 2 ∷ 0 ∷ 1 ∷ 0 ∷ []) 40 50 18)) (remap (0 ∷ 0 ∷ 0 ∷ 65536 ∷ [])) 21 ∷
    refuses "y8-36 total" (lent (grid 4 1 1 2) hundreds (six 0 10 20 30 40 0 ++ six 5 7 11 13 17 19) (held (1 ∷ 3 ∷ 0 ∷ 7 ∷ 1 ∷ 3 ∷ []) (1 ∷ 0 ∷ 0 ∷ 0 ∷ 0 ∷ []) 60 50 9 ++ held [] (3 ∷ 2 ∷ 0 ∷ 1 ∷ 0 ∷ []) 40 50 18)) (total 0) 22 ∷
    refuses "y8-36 cell" (lent (grid 4 1 1 2) hundreds (six 0 10 20 30 40 0 ++ six 5 7 11 13 17 19) (held (1 ∷ 3 ∷ 0 ∷ 7 ∷ 1 ∷ 3 ∷ []) (1 ∷ 0 ∷ 0 ∷ 0 ∷ 0 ∷ []) 60 50 9 ++ held [] (3 ∷ 2 ∷ 0 ∷ 1 ∷ 0 ∷ []) 40 50 18)) (cell 0 2) 22 ∷
    refuses "y8-36 add emitter" (lent (grid 4 1 1 2) hundreds (six 0 10 20 30 40 0 ++ six 5 7 11 13 17 19) (held (1 ∷ 3 ∷ 0 ∷ 7 ∷ 1 ∷ 3 ∷ []) (1 ∷ 0 ∷ 0 ∷ 0 ∷ 0 ∷ []) 60 50 9 ++ held [] (3 ∷ 2 ∷ 0 ∷ 1 ∷ 0 ∷ []) 40 50 18)) (add_emitter 0 3 8 1) 22 ∷
    refuses "y8-36 remove emitter" (lent (grid 4 1 1 2) hundreds (six 0 10 20 30 40 0 ++ six 5 7 11 13 17 19) (held (1 ∷ 3 ∷ 0 ∷ 7 ∷ 1 ∷ 3 ∷ []) (1 ∷ 0 ∷ 0 ∷ 0 ∷ 0 ∷ []) 60 50 9 ++ held [] (3 ∷ 2 ∷ 0 ∷ 1 ∷ 0 ∷ []) 40 50 18)) (remove_emitter 0 7) 22 ∷
    refuses "y8-36 tick" (lent (grid 4 1 1 2) hundreds (six 0 10 20 30 40 0 ++ six 5 7 11 13 17 19) (held (1 ∷ 3 ∷ 0 ∷ 7 ∷ 1 ∷ 3 ∷ []) (1 ∷ 0 ∷ 0 ∷ 0 ∷ 0 ∷ []) 60 50 9 ++ held [] (3 ∷ 2 ∷ 0 ∷ 1 ∷ 0 ∷ []) 40 50 18)) (tick 0) 22 ∷
    refuses "y8-36 units a tick" (lent (grid 4 1 1 2) hundreds (six 0 10 20 30 40 0 ++ six 5 7 11 13 17 19) (held (1 ∷ 3 ∷ 0 ∷ 7 ∷ 1 ∷ 3 ∷ []) (1 ∷ 0 ∷ 0 ∷ 0 ∷ 0 ∷ []) 60 50 9 ++ held [] (3 ∷ 2 ∷ 0 ∷ 1 ∷ 0 ∷ []) 40 50 18)) (units_a_tick 0) 22 ∷
    refuses "y8-36 set limiter" (lent (grid 4 1 1 2) hundreds (six 0 10 20 30 40 0 ++ six 5 7 11 13 17 19) (held (1 ∷ 3 ∷ 0 ∷ 7 ∷ 1 ∷ 3 ∷ []) (1 ∷ 0 ∷ 0 ∷ 0 ∷ 0 ∷ []) 60 50 9 ++ held [] (3 ∷ 2 ∷ 0 ∷ 1 ∷ 0 ∷ []) 40 50 18)) (set_limiter 0 2 0 0) 22 ∷
    -- y8-38: 22 before 5 in every call with an index; after the books are mended 5
    refuses "y8-38 withdrawal" (lent (grid 4 1 1 2) hundreds (six 0 10 20 30 40 0 ++ six 5 7 11 13 17 19) (plain 100 0 0 ++ plain 71 0 0)) (withdrawal 2 0 0) 22 ∷
    refuses "y8-38 withdrawal 2" (lent (grid 4 1 1 2) hundreds (six 0 10 20 30 40 0 ++ six 5 7 11 13 17 19) (plain 100 0 0 ++ plain 71 0 0)) (withdrawal 0 6 0) 22 ∷
    refuses "y8-38 zonal" (lent (grid 4 1 1 2) hundreds (six 0 10 20 30 40 0 ++ six 5 7 11 13 17 19) (plain 100 0 0 ++ plain 71 0 0)) (zonal 1 0 (four (pos 0) (pos 50) (pos 0) (pos 0))) 22 ∷
    refuses "y8-38 zonal 2" (lent (grid 4 1 1 2) hundreds (six 0 10 20 30 40 0 ++ six 5 7 11 13 17 19) (plain 100 0 0 ++ plain 71 0 0)) (zonal 0 1 (four (pos 0) (pos 50) (pos 0) (pos 0))) 22 ∷
    refuses "y8-38 long zonal" (lent (grid 4 1 1 2) hundreds (six 0 10 20 30 40 0 ++ six 5 7 11 13 17 19) (plain 100 0 0 ++ plain 71 0 0)) (long_zonal 1 0 (four (pos 0) (pos 50) (pos 0) (pos 0))) 22 ∷
    refuses "y8-38 long zonal 2" (lent (grid 4 1 1 2) hundreds (six 0 10 20 30 40 0 ++ six 5 7 11 13 17 19) (plain 100 0 0 ++ plain 71 0 0)) (long_zonal 0 1 (four (pos 0) (pos 50) (pos 0) (pos 0))) 22 ∷
    refuses "y8-38 count zonal" (lent (grid 4 1 1 2) hundreds (six 0 10 20 30 40 0 ++ six 5 7 11 13 17 19) (plain 100 0 0 ++ plain 71 0 0)) (count_zonal 1 0 (four (pos 0) (pos 50) (pos 0) (pos 0))) 22 ∷
    refuses "y8-38 count zonal 2" (lent (grid 4 1 1 2) hundreds (six 0 10 20 30 40 0 ++ six 5 7 11 13 17 19) (plain 100 0 0 ++ plain 71 0 0)) (count_zonal 0 1 (four (pos 0) (pos 50) (pos 0) (pos 0))) 22 ∷
    refuses "y8-38 zonal with count" (lent (grid 4 1 1 2) hundreds (six 0 10 20 30 40 0 ++ six 5 7 11 13 17 19) (plain 100 0 0 ++ plain 71 0 0)) (zonal_with_count 1 0 1 (four (pos 0) (pos 50) (pos 0) (pos 0))) 22 ∷
    refuses "y8-38 zonal with count 2" (lent (grid 4 1 1 2) hundreds (six 0 10 20 30 40 0 ++ six 5 7 11 13 17 19) (plain 100 0 0 ++ plain 71 0 0)) (zonal_with_count 0 1 1 (four (pos 0) (pos 50) (pos 0) (pos 0))) 22 ∷
    refuses "y8-38 meridional" (lent (grid 4 1 1 2) hundreds (six 0 10 20 30 40 0 ++ six 5 7 11 13 17 19) (plain 100 0 0 ++ plain 71 0 0)) (meridional 1 (four (pos 0) (pos 0) (pos 0) (pos 0) ++ four (pos 0) (pos 0) (pos 0) (pos 0))) 22 ∷
    refuses "y8-38 cell" (lent (grid 4 1 1 2) hundreds (six 0 10 20 30 40 0 ++ six 5 7 11 13 17 19) (plain 100 0 0 ++ plain 71 0 0)) (cell 2 0) 22 ∷
    refuses "y8-38 cell 2" (lent (grid 4 1 1 2) hundreds (six 0 10 20 30 40 0 ++ six 5 7 11 13 17 19) (plain 100 0 0 ++ plain 71 0 0)) (cell 0 6) 22 ∷
    refuses "y8-38 add emitter" (lent (grid 4 1 1 2) hundreds (six 0 10 20 30 40 0 ++ six 5 7 11 13 17 19) (plain 100 0 0 ++ plain 71 0 0)) (add_emitter 2 0 8 1) 22 ∷
    refuses "y8-38 add emitter 2" (lent (grid 4 1 1 2) hundreds (six 0 10 20 30 40 0 ++ six 5 7 11 13 17 19) (plain 100 0 0 ++ plain 71 0 0)) (add_emitter 0 6 8 1) 22 ∷
    refuses "y8-38 remove emitter" (lent (grid 4 1 1 2) hundreds (six 0 10 20 30 40 0 ++ six 5 7 11 13 17 19) (plain 100 0 0 ++ plain 71 0 0)) (remove_emitter 2 7) 22 ∷
    refuses "y8-38 tick" (lent (grid 4 1 1 2) hundreds (six 0 10 20 30 40 0 ++ six 5 7 11 13 17 19) (plain 100 0 0 ++ plain 71 0 0)) (tick 2) 22 ∷
    refuses "y8-38 units a tick" (lent (grid 4 1 1 2) hundreds (six 0 10 20 30 40 0 ++ six 5 7 11 13 17 19) (plain 100 0 0 ++ plain 71 0 0)) (units_a_tick 2) 22 ∷
    refuses "y8-38 set limiter" (lent (grid 4 1 1 2) hundreds (six 0 10 20 30 40 0 ++ six 5 7 11 13 17 19) (plain 100 0 0 ++ plain 71 0 0)) (set_limiter 2 2 0 0) 22 ∷
    refuses "y8-38 withdrawal 3" (lent (grid 4 1 1 2) hundreds (six 0 10 20 30 40 0 ++ six 5 7 11 13 17 19) (plain 100 0 0 ++ plain 72 0 0)) (withdrawal 2 0 0) 5 ∷
    refuses "y8-38 withdrawal 4" (lent (grid 4 1 1 2) hundreds (six 0 10 20 30 40 0 ++ six 5 7 11 13 17 19) (plain 100 0 0 ++ plain 72 0 0)) (withdrawal 0 6 0) 5 ∷
    refuses "y8-38 zonal 3" (lent (grid 4 1 1 2) hundreds (six 0 10 20 30 40 0 ++ six 5 7 11 13 17 19) (plain 100 0 0 ++ plain 72 0 0)) (zonal 1 0 (four (pos 0) (pos 50) (pos 0) (pos 0))) 5 ∷
    refuses "y8-38 zonal 4" (lent (grid 4 1 1 2) hundreds (six 0 10 20 30 40 0 ++ six 5 7 11 13 17 19) (plain 100 0 0 ++ plain 72 0 0)) (zonal 0 1 (four (pos 0) (pos 50) (pos 0) (pos 0))) 5 ∷
    refuses "y8-38 long zonal 3" (lent (grid 4 1 1 2) hundreds (six 0 10 20 30 40 0 ++ six 5 7 11 13 17 19) (plain 100 0 0 ++ plain 72 0 0)) (long_zonal 1 0 (four (pos 0) (pos 50) (pos 0) (pos 0))) 5 ∷
    refuses "y8-38 long zonal 4" (lent (grid 4 1 1 2) hundreds (six 0 10 20 30 40 0 ++ six 5 7 11 13 17 19) (plain 100 0 0 ++ plain 72 0 0)) (long_zonal 0 1 (four (pos 0) (pos 50) (pos 0) (pos 0))) 5 ∷
    refuses "y8-38 count zonal 3" (lent (grid 4 1 1 2) hundreds (six 0 10 20 30 40 0 ++ six 5 7 11 13 17 19) (plain 100 0 0 ++ plain 72 0 0)) (count_zonal 1 0 (four (pos 0) (pos 50) (pos 0) (pos 0))) 5 ∷
    refuses "y8-38 count zonal 4" (lent (grid 4 1 1 2) hundreds (six 0 10 20 30 40 0 ++ six 5 7 11 13 17 19) (plain 100 0 0 ++ plain 72 0 0)) (count_zonal 0 1 (four (pos 0) (pos 50) (pos 0) (pos 0))) 5 ∷
    refuses "y8-38 zonal with count 3" (lent (grid 4 1 1 2) hundreds (six 0 10 20 30 40 0 ++ six 5 7 11 13 17 19) (plain 100 0 0 ++ plain 72 0 0)) (zonal_with_count 1 0 1 (four (pos 0) (pos 50) (pos 0) (pos 0))) 5 ∷
    refuses "y8-38 zonal with count 4" (lent (grid 4 1 1 2) hundreds (six 0 10 20 30 40 0 ++ six 5 7 11 13 17 19) (plain 100 0 0 ++ plain 72 0 0)) (zonal_with_count 0 1 1 (four (pos 0) (pos 50) (pos 0) (pos 0))) 5 ∷
    refuses "y8-38 meridional 2" (lent (grid 4 1 1 2) hundreds (six 0 10 20 30 40 0 ++ six 5 7 11 13 17 19) (plain 100 0 0 ++ plain 72 0 0)) (meridional 1 (four (pos 0) (pos 0) (pos 0) (pos 0) ++ four (pos 0) (pos 0) (pos 0) (pos 0))) 5 ∷
    refuses "y8-38 cell 3" (lent (grid 4 1 1 2) hundreds (six 0 10 20 30 40 0 ++ six 5 7 11 13 17 19) (plain 100 0 0 ++ plain 72 0 0)) (cell 2 0) 5 ∷
    refuses "y8-38 cell 4" (lent (grid 4 1 1 2) hundreds (six 0 10 20 30 40 0 ++ six 5 7 11 13 17 19) (plain 100 0 0 ++ plain 72 0 0)) (cell 0 6) 5 ∷
    refuses "y8-38 add emitter 3" (lent (grid 4 1 1 2) hundreds (six 0 10 20 30 40 0 ++ six 5 7 11 13 17 19) (plain 100 0 0 ++ plain 72 0 0)) (add_emitter 2 0 8 1) 5 ∷
    refuses "y8-38 add emitter 4" (lent (grid 4 1 1 2) hundreds (six 0 10 20 30 40 0 ++ six 5 7 11 13 17 19) (plain 100 0 0 ++ plain 72 0 0)) (add_emitter 0 6 8 1) 5 ∷
    refuses "y8-38 remove emitter 2" (lent (grid 4 1 1 2) hundreds (six 0 10 20 30 40 0 ++ six 5 7 11 13 17 19) (plain 100 0 0 ++ plain 72 0 0)) (remove_emitter 2 7) 5 ∷
    refuses "y8-38 tick 2" (lent (grid 4 1 1 2) hundreds (six 0 10 20 30 40 0 ++ six 5 7 11 13 17 19) (plain 100 0 0 ++ plain 72 0 0)) (tick 2) 5 ∷
    refuses "y8-38 units a tick 2" (lent (grid 4 1 1 2) hundreds (six 0 10 20 30 40 0 ++ six 5 7 11 13 17 19) (plain 100 0 0 ++ plain 72 0 0)) (units_a_tick 2) 5 ∷
    refuses "y8-38 set limiter 2" (lent (grid 4 1 1 2) hundreds (six 0 10 20 30 40 0 ++ six 5 7 11 13 17 19) (plain 100 0 0 ++ plain 72 0 0)) (set_limiter 2 2 0 0) 5 ∷
    -- y8-39: 22 before 5 for emitters that are not true, 17 of them, in the calls that test them; after the books are mended 5
    refuses "y8-39 add emitter" (lent (grid 4 1 1 2) hundreds (six 0 10 20 30 40 0 ++ six 5 7 11 13 17 19) (plain 100 0 0 ++ held (17 ∷ 1 ∷ 1 ∷ []) (1 ∷ 0 ∷ 0 ∷ 0 ∷ 0 ∷ []) 71 0 0)) (add_emitter 0 1 7 3) 22 ∷
    refuses "y8-39 remove emitter" (lent (grid 4 1 1 2) hundreds (six 0 10 20 30 40 0 ++ six 5 7 11 13 17 19) (plain 100 0 0 ++ held (17 ∷ 1 ∷ 1 ∷ []) (1 ∷ 0 ∷ 0 ∷ 0 ∷ 0 ∷ []) 71 0 0)) (remove_emitter 0 7) 22 ∷
    refuses "y8-39 tick" (lent (grid 4 1 1 2) hundreds (six 0 10 20 30 40 0 ++ six 5 7 11 13 17 19) (plain 100 0 0 ++ held (17 ∷ 1 ∷ 1 ∷ []) (1 ∷ 0 ∷ 0 ∷ 0 ∷ 0 ∷ []) 71 0 0)) (tick 0) 22 ∷
    refuses "y8-39 units a tick" (lent (grid 4 1 1 2) hundreds (six 0 10 20 30 40 0 ++ six 5 7 11 13 17 19) (plain 100 0 0 ++ held (17 ∷ 1 ∷ 1 ∷ []) (1 ∷ 0 ∷ 0 ∷ 0 ∷ 0 ∷ []) 71 0 0)) (units_a_tick 0) 22 ∷
    refuses "y8-39 add emitter 2" (lent (grid 4 1 1 2) hundreds (six 0 10 20 30 40 0 ++ six 5 7 11 13 17 19) (plain 100 0 0 ++ held (17 ∷ 1 ∷ 1 ∷ []) (1 ∷ 0 ∷ 0 ∷ 0 ∷ 0 ∷ []) 72 0 0)) (add_emitter 0 1 7 3) 5 ∷
    refuses "y8-39 remove emitter 2" (lent (grid 4 1 1 2) hundreds (six 0 10 20 30 40 0 ++ six 5 7 11 13 17 19) (plain 100 0 0 ++ held (17 ∷ 1 ∷ 1 ∷ []) (1 ∷ 0 ∷ 0 ∷ 0 ∷ 0 ∷ []) 72 0 0)) (remove_emitter 0 7) 5 ∷
    refuses "y8-39 tick 2" (lent (grid 4 1 1 2) hundreds (six 0 10 20 30 40 0 ++ six 5 7 11 13 17 19) (plain 100 0 0 ++ held (17 ∷ 1 ∷ 1 ∷ []) (1 ∷ 0 ∷ 0 ∷ 0 ∷ 0 ∷ []) 72 0 0)) (tick 0) 5 ∷
    refuses "y8-39 units a tick 2" (lent (grid 4 1 1 2) hundreds (six 0 10 20 30 40 0 ++ six 5 7 11 13 17 19) (plain 100 0 0 ++ held (17 ∷ 1 ∷ 1 ∷ []) (1 ∷ 0 ∷ 0 ∷ 0 ∷ 0 ∷ []) 72 0 0)) (units_a_tick 0) 5 ∷
    leaves "y8-39 set limiter" (lent (grid 4 1 1 2) hundreds (six 0 10 20 30 40 0 ++ six 5 7 11 13 17 19) (plain 100 0 0 ++ held (17 ∷ 1 ∷ 1 ∷ []) (1 ∷ 0 ∷ 0 ∷ 0 ∷ 0 ∷ []) 72 0 0)) (set_limiter 0 2 0 0) 0 (lent (grid 4 1 1 2) hundreds (six 0 10 20 30 40 0 ++ six 5 7 11 13 17 19) (held [] (2 ∷ 0 ∷ 0 ∷ 0 ∷ 0 ∷ []) 100 0 0 ++ held (17 ∷ 1 ∷ 1 ∷ []) (1 ∷ 0 ∷ 0 ∷ 0 ∷ 0 ∷ []) 72 0 0)) ∷
    reads "y8-39 total" (lent (grid 4 1 1 2) hundreds (six 0 10 20 30 40 0 ++ six 5 7 11 13 17 19) (held [] (2 ∷ 0 ∷ 0 ∷ 0 ∷ 0 ∷ []) 100 0 0 ++ held (17 ∷ 1 ∷ 1 ∷ []) (1 ∷ 0 ∷ 0 ∷ 0 ∷ 0 ∷ []) 72 0 0)) (total 0) 100 ∷
    -- y8-40: 22 before 6, 7, 8, 9, 16, 17, 20, 10, 11, 18, 19 and the given limiter's 21; after the books are mended these
    leaves "y8-40 add emitter" (lent (grid 4 1 1 2) hundreds (six 0 10 20 30 40 0 ++ six 5 7 11 13 17 19) (plain 100 0 0 ++ plain 72 0 0)) (add_emitter 0 1 7 268435356) 0 (lent (grid 4 1 1 2) hundreds (six 0 10 20 30 40 0 ++ six 5 7 11 13 17 19) (held (1 ∷ 268435356 ∷ 0 ∷ 7 ∷ 1 ∷ 268435356 ∷ []) (1 ∷ 0 ∷ 0 ∷ 0 ∷ 0 ∷ []) 100 0 0 ++ plain 72 0 0)) ∷
    refuses "y8-40 emission" (lent (grid 4 1 1 2) hundreds (six 0 10 20 30 40 0 ++ six 5 7 11 13 17 19) (held (1 ∷ 268435356 ∷ 0 ∷ 7 ∷ 1 ∷ 268435356 ∷ []) (1 ∷ 0 ∷ 0 ∷ 0 ∷ 0 ∷ []) 100 0 0 ++ plain 40 50 17)) (emission 0 2 268435356) 22 ∷
    refuses "y8-40 withdrawal" (lent (grid 4 1 1 2) hundreds (six 0 10 20 30 40 0 ++ six 5 7 11 13 17 19) (held (1 ∷ 268435356 ∷ 0 ∷ 7 ∷ 1 ∷ 268435356 ∷ []) (1 ∷ 0 ∷ 0 ∷ 0 ∷ 0 ∷ []) 100 0 0 ++ plain 40 50 17)) (withdrawal 0 2 21) 22 ∷
    refuses "y8-40 zonal" (lent (grid 4 1 1 2) hundreds (six 0 10 20 30 40 0 ++ six 5 7 11 13 17 19) (held (1 ∷ 268435356 ∷ 0 ∷ 7 ∷ 1 ∷ 268435356 ∷ []) (1 ∷ 0 ∷ 0 ∷ 0 ∷ 0 ∷ []) 100 0 0 ++ plain 40 50 17)) (zonal 0 0 (four (pos 1048561) (pos 0) (pos 0) (pos 0))) 22 ∷
    refuses "y8-40 zonal 2" (lent (grid 4 1 1 2) hundreds (six 0 10 20 30 40 0 ++ six 5 7 11 13 17 19) (held (1 ∷ 268435356 ∷ 0 ∷ 7 ∷ 1 ∷ 268435356 ∷ []) (1 ∷ 0 ∷ 0 ∷ 0 ∷ 0 ∷ []) 100 0 0 ++ plain 40 50 17)) (zonal 0 0 (four (pos 0) (pos 100) (pos 0) (pos 0))) 22 ∷
    refuses "y8-40 long zonal" (lent (grid 4 1 1 2) hundreds (six 0 10 20 30 40 0 ++ six 5 7 11 13 17 19) (held (1 ∷ 268435356 ∷ 0 ∷ 7 ∷ 1 ∷ 268435356 ∷ []) (1 ∷ 0 ∷ 0 ∷ 0 ∷ 0 ∷ []) 100 0 0 ++ plain 40 50 17)) (long_zonal 0 0 (four (pos 1048561) (pos 0) (pos 0) (pos 0))) 22 ∷
    refuses "y8-40 long zonal 2" (lent (grid 4 1 1 2) hundreds (six 0 10 20 30 40 0 ++ six 5 7 11 13 17 19) (held (1 ∷ 268435356 ∷ 0 ∷ 7 ∷ 1 ∷ 268435356 ∷ []) (1 ∷ 0 ∷ 0 ∷ 0 ∷ 0 ∷ []) 100 0 0 ++ plain 40 50 17)) (long_zonal 0 0 (four (pos 401) (pos 0) (pos 0) (pos 0))) 22 ∷
    refuses "y8-40 long zonal 3" (lent (grid 4 1 1 2) hundreds (six 0 10 20 30 40 0 ++ six 5 7 11 13 17 19) (held (1 ∷ 268435356 ∷ 0 ∷ 7 ∷ 1 ∷ 268435356 ∷ []) (1 ∷ 0 ∷ 0 ∷ 0 ∷ 0 ∷ []) 100 0 0 ++ plain 40 50 17)) (long_zonal 0 0 (four (pos 100) (pos 0) (pos 0) (pos 0))) 22 ∷
    refuses "y8-40 count zonal" (lent (grid 4 1 1 2) hundreds (six 0 10 20 30 40 0 ++ six 5 7 11 13 17 19) (held (1 ∷ 268435356 ∷ 0 ∷ 7 ∷ 1 ∷ 268435356 ∷ []) (1 ∷ 0 ∷ 0 ∷ 0 ∷ 0 ∷ []) 100 0 0 ++ plain 40 50 17)) (count_zonal 0 0 (four (pos 1048561) (pos 0) (pos 0) (pos 0))) 22 ∷
    refuses "y8-40 count zonal 2" (lent (grid 4 1 1 2) hundreds (six 0 10 20 30 40 0 ++ six 5 7 11 13 17 19) (held (1 ∷ 268435356 ∷ 0 ∷ 7 ∷ 1 ∷ 268435356 ∷ []) (1 ∷ 0 ∷ 0 ∷ 0 ∷ 0 ∷ []) 100 0 0 ++ plain 40 50 17)) (count_zonal 0 0 (four (pos 0) (pos 100) (pos 0) (pos 0))) 22 ∷
    refuses "y8-40 zonal with count" (lent (grid 4 1 1 2) hundreds (six 0 10 20 30 40 0 ++ six 5 7 11 13 17 19) (held (1 ∷ 268435356 ∷ 0 ∷ 7 ∷ 1 ∷ 268435356 ∷ []) (1 ∷ 0 ∷ 0 ∷ 0 ∷ 0 ∷ []) 100 0 0 ++ plain 40 50 17)) (zonal_with_count 0 0 1 (four (pos 1048561) (pos 0) (pos 0) (pos 0))) 22 ∷
    refuses "y8-40 zonal with count 2" (lent (grid 4 1 1 2) hundreds (six 0 10 20 30 40 0 ++ six 5 7 11 13 17 19) (held (1 ∷ 268435356 ∷ 0 ∷ 7 ∷ 1 ∷ 268435356 ∷ []) (1 ∷ 0 ∷ 0 ∷ 0 ∷ 0 ∷ []) 100 0 0 ++ plain 40 50 17)) (zonal_with_count 0 0 1 (four (pos 0) (pos 100) (pos 0) (pos 0))) 22 ∷
    refuses "y8-40 zonal with count 3" (lent (grid 4 1 1 2) hundreds (six 0 10 20 30 40 0 ++ six 5 7 11 13 17 19) (held (1 ∷ 268435356 ∷ 0 ∷ 7 ∷ 1 ∷ 268435356 ∷ []) (1 ∷ 0 ∷ 0 ∷ 0 ∷ 0 ∷ []) 100 0 0 ++ plain 40 50 17)) (zonal_with_count 0 0 2 (four (pos 0) (pos 50) (pos 0) (pos 0))) 22 ∷
    refuses "y8-40 meridional" (lent (grid 4 1 1 2) hundreds (six 0 10 20 30 40 0 ++ six 5 7 11 13 17 19) (held (1 ∷ 268435356 ∷ 0 ∷ 7 ∷ 1 ∷ 268435356 ∷ []) (1 ∷ 0 ∷ 0 ∷ 0 ∷ 0 ∷ []) 100 0 0 ++ plain 40 50 17)) (meridional 0 (four (pos 65536) (pos 0) (pos 0) (pos 0) ++ four (pos 0) (pos 0) (pos 0) (pos 0))) 22 ∷
    refuses "y8-40 meridional 2" (lent (grid 4 1 1 2) hundreds (six 0 10 20 30 40 0 ++ six 5 7 11 13 17 19) (held (1 ∷ 268435356 ∷ 0 ∷ 7 ∷ 1 ∷ 268435356 ∷ []) (1 ∷ 0 ∷ 0 ∷ 0 ∷ 0 ∷ []) 100 0 0 ++ plain 40 50 17)) (meridional 0 (four (pos 100) (pos 0) (pos 0) (pos 0) ++ four (pos 0) (pos 0) (pos 0) (pos 0))) 22 ∷
    refuses "y8-40 remap" (lent (grid 4 1 1 2) hundreds (six 0 10 20 30 40 0 ++ six 5 7 11 13 17 19) (held (1 ∷ 268435356 ∷ 0 ∷ 7 ∷ 1 ∷ 268435356 ∷ []) (1 ∷ 0 ∷ 0 ∷ 0 ∷ 0 ∷ []) 100 0 0 ++ plain 40 50 17)) (remap (0 ∷ 0 ∷ 0 ∷ 65535 ∷ [])) 22 ∷
    refuses "y8-40 add emitter 2" (lent (grid 4 1 1 2) hundreds (six 0 10 20 30 40 0 ++ six 5 7 11 13 17 19) (held (1 ∷ 268435356 ∷ 0 ∷ 7 ∷ 1 ∷ 268435356 ∷ []) (1 ∷ 0 ∷ 0 ∷ 0 ∷ 0 ∷ []) 100 0 0 ++ plain 40 50 17)) (add_emitter 0 1 7 3) 22 ∷
    refuses "y8-40 remove emitter" (lent (grid 4 1 1 2) hundreds (six 0 10 20 30 40 0 ++ six 5 7 11 13 17 19) (held (1 ∷ 268435356 ∷ 0 ∷ 7 ∷ 1 ∷ 268435356 ∷ []) (1 ∷ 0 ∷ 0 ∷ 0 ∷ 0 ∷ []) 100 0 0 ++ plain 40 50 17)) (remove_emitter 0 8) 22 ∷
    refuses "y8-40 tick" (lent (grid 4 1 1 2) hundreds (six 0 10 20 30 40 0 ++ six 5 7 11 13 17 19) (held (1 ∷ 268435356 ∷ 0 ∷ 7 ∷ 1 ∷ 268435356 ∷ []) (1 ∷ 0 ∷ 0 ∷ 0 ∷ 0 ∷ []) 100 0 0 ++ plain 40 50 17)) (tick 0) 22 ∷
    refuses "y8-40 set limiter" (lent (grid 4 1 1 2) hundreds (six 0 10 20 30 40 0 ++ six 5 7 11 13 17 19) (held (1 ∷ 268435356 ∷ 0 ∷ 7 ∷ 1 ∷ 268435356 ∷ []) (1 ∷ 0 ∷ 0 ∷ 0 ∷ 0 ∷ []) 100 0 0 ++ plain 40 50 17)) (set_limiter 0 4 0 0) 22 ∷
    refuses "y8-40 set limiter 2" (lent (grid 4 1 1 2) hundreds (six 0 10 20 30 40 0 ++ six 5 7 11 13 17 19) (held (1 ∷ 268435356 ∷ 0 ∷ 7 ∷ 1 ∷ 268435356 ∷ []) (1 ∷ 0 ∷ 0 ∷ 0 ∷ 0 ∷ []) 100 0 0 ++ plain 40 50 17)) (set_limiter 0 1 1 0) 22 ∷
    refuses "y8-40 emission 2" (lent (grid 4 1 1 2) hundreds (six 0 10 20 30 40 0 ++ six 5 7 11 13 17 19) (held (1 ∷ 268435356 ∷ 0 ∷ 7 ∷ 1 ∷ 268435356 ∷ []) (1 ∷ 0 ∷ 0 ∷ 0 ∷ 0 ∷ []) 100 0 0 ++ plain 40 50 18)) (emission 0 2 268435356) 6 ∷
    refuses "y8-40 withdrawal 2" (lent (grid 4 1 1 2) hundreds (six 0 10 20 30 40 0 ++ six 5 7 11 13 17 19) (held (1 ∷ 268435356 ∷ 0 ∷ 7 ∷ 1 ∷ 268435356 ∷ []) (1 ∷ 0 ∷ 0 ∷ 0 ∷ 0 ∷ []) 100 0 0 ++ plain 40 50 18)) (withdrawal 0 2 21) 7 ∷
    refuses "y8-40 zonal 3" (lent (grid 4 1 1 2) hundreds (six 0 10 20 30 40 0 ++ six 5 7 11 13 17 19) (held (1 ∷ 268435356 ∷ 0 ∷ 7 ∷ 1 ∷ 268435356 ∷ []) (1 ∷ 0 ∷ 0 ∷ 0 ∷ 0 ∷ []) 100 0 0 ++ plain 40 50 18)) (zonal 0 0 (four (pos 1048561) (pos 0) (pos 0) (pos 0))) 8 ∷
    refuses "y8-40 zonal 4" (lent (grid 4 1 1 2) hundreds (six 0 10 20 30 40 0 ++ six 5 7 11 13 17 19) (held (1 ∷ 268435356 ∷ 0 ∷ 7 ∷ 1 ∷ 268435356 ∷ []) (1 ∷ 0 ∷ 0 ∷ 0 ∷ 0 ∷ []) 100 0 0 ++ plain 40 50 18)) (zonal 0 0 (four (pos 0) (pos 100) (pos 0) (pos 0))) 9 ∷
    refuses "y8-40 long zonal 4" (lent (grid 4 1 1 2) hundreds (six 0 10 20 30 40 0 ++ six 5 7 11 13 17 19) (held (1 ∷ 268435356 ∷ 0 ∷ 7 ∷ 1 ∷ 268435356 ∷ []) (1 ∷ 0 ∷ 0 ∷ 0 ∷ 0 ∷ []) 100 0 0 ++ plain 40 50 18)) (long_zonal 0 0 (four (pos 1048561) (pos 0) (pos 0) (pos 0))) 8 ∷
    refuses "y8-40 long zonal 5" (lent (grid 4 1 1 2) hundreds (six 0 10 20 30 40 0 ++ six 5 7 11 13 17 19) (held (1 ∷ 268435356 ∷ 0 ∷ 7 ∷ 1 ∷ 268435356 ∷ []) (1 ∷ 0 ∷ 0 ∷ 0 ∷ 0 ∷ []) 100 0 0 ++ plain 40 50 18)) (long_zonal 0 0 (four (pos 401) (pos 0) (pos 0) (pos 0))) 16 ∷
    refuses "y8-40 long zonal 6" (lent (grid 4 1 1 2) hundreds (six 0 10 20 30 40 0 ++ six 5 7 11 13 17 19) (held (1 ∷ 268435356 ∷ 0 ∷ 7 ∷ 1 ∷ 268435356 ∷ []) (1 ∷ 0 ∷ 0 ∷ 0 ∷ 0 ∷ []) 100 0 0 ++ plain 40 50 18)) (long_zonal 0 0 (four (pos 100) (pos 0) (pos 0) (pos 0))) 17 ∷
    refuses "y8-40 count zonal 3" (lent (grid 4 1 1 2) hundreds (six 0 10 20 30 40 0 ++ six 5 7 11 13 17 19) (held (1 ∷ 268435356 ∷ 0 ∷ 7 ∷ 1 ∷ 268435356 ∷ []) (1 ∷ 0 ∷ 0 ∷ 0 ∷ 0 ∷ []) 100 0 0 ++ plain 40 50 18)) (count_zonal 0 0 (four (pos 1048561) (pos 0) (pos 0) (pos 0))) 8 ∷
    refuses "y8-40 count zonal 4" (lent (grid 4 1 1 2) hundreds (six 0 10 20 30 40 0 ++ six 5 7 11 13 17 19) (held (1 ∷ 268435356 ∷ 0 ∷ 7 ∷ 1 ∷ 268435356 ∷ []) (1 ∷ 0 ∷ 0 ∷ 0 ∷ 0 ∷ []) 100 0 0 ++ plain 40 50 18)) (count_zonal 0 0 (four (pos 0) (pos 100) (pos 0) (pos 0))) 9 ∷
    refuses "y8-40 zonal with count 4" (lent (grid 4 1 1 2) hundreds (six 0 10 20 30 40 0 ++ six 5 7 11 13 17 19) (held (1 ∷ 268435356 ∷ 0 ∷ 7 ∷ 1 ∷ 268435356 ∷ []) (1 ∷ 0 ∷ 0 ∷ 0 ∷ 0 ∷ []) 100 0 0 ++ plain 40 50 18)) (zonal_with_count 0 0 1 (four (pos 1048561) (pos 0) (pos 0) (pos 0))) 8 ∷
    refuses "y8-40 zonal with count 5" (lent (grid 4 1 1 2) hundreds (six 0 10 20 30 40 0 ++ six 5 7 11 13 17 19) (held (1 ∷ 268435356 ∷ 0 ∷ 7 ∷ 1 ∷ 268435356 ∷ []) (1 ∷ 0 ∷ 0 ∷ 0 ∷ 0 ∷ []) 100 0 0 ++ plain 40 50 18)) (zonal_with_count 0 0 1 (four (pos 0) (pos 100) (pos 0) (pos 0))) 9 ∷
    refuses "y8-40 zonal with count 6" (lent (grid 4 1 1 2) hundreds (six 0 10 20 30 40 0 ++ six 5 7 11 13 17 19) (held (1 ∷ 268435356 ∷ 0 ∷ 7 ∷ 1 ∷ 268435356 ∷ []) (1 ∷ 0 ∷ 0 ∷ 0 ∷ 0 ∷ []) 100 0 0 ++ plain 40 50 18)) (zonal_with_count 0 0 2 (four (pos 0) (pos 50) (pos 0) (pos 0))) 20 ∷
    refuses "y8-40 meridional 3" (lent (grid 4 1 1 2) hundreds (six 0 10 20 30 40 0 ++ six 5 7 11 13 17 19) (held (1 ∷ 268435356 ∷ 0 ∷ 7 ∷ 1 ∷ 268435356 ∷ []) (1 ∷ 0 ∷ 0 ∷ 0 ∷ 0 ∷ []) 100 0 0 ++ plain 40 50 18)) (meridional 0 (four (pos 65536) (pos 0) (pos 0) (pos 0) ++ four (pos 0) (pos 0) (pos 0) (pos 0))) 8 ∷
    refuses "y8-40 meridional 4" (lent (grid 4 1 1 2) hundreds (six 0 10 20 30 40 0 ++ six 5 7 11 13 17 19) (held (1 ∷ 268435356 ∷ 0 ∷ 7 ∷ 1 ∷ 268435356 ∷ []) (1 ∷ 0 ∷ 0 ∷ 0 ∷ 0 ∷ []) 100 0 0 ++ plain 40 50 18)) (meridional 0 (four (pos 100) (pos 0) (pos 0) (pos 0) ++ four (pos 0) (pos 0) (pos 0) (pos 0))) 10 ∷
    refuses "y8-40 remap 2" (lent (grid 4 1 1 2) hundreds (six 0 10 20 30 40 0 ++ six 5 7 11 13 17 19) (held (1 ∷ 268435356 ∷ 0 ∷ 7 ∷ 1 ∷ 268435356 ∷ []) (1 ∷ 0 ∷ 0 ∷ 0 ∷ 0 ∷ []) 100 0 0 ++ plain 40 50 18)) (remap (0 ∷ 0 ∷ 0 ∷ 65535 ∷ [])) 11 ∷
    refuses "y8-40 add emitter 3" (lent (grid 4 1 1 2) hundreds (six 0 10 20 30 40 0 ++ six 5 7 11 13 17 19) (held (1 ∷ 268435356 ∷ 0 ∷ 7 ∷ 1 ∷ 268435356 ∷ []) (1 ∷ 0 ∷ 0 ∷ 0 ∷ 0 ∷ []) 100 0 0 ++ plain 40 50 18)) (add_emitter 0 1 7 3) 18 ∷
    refuses "y8-40 remove emitter 2" (lent (grid 4 1 1 2) hundreds (six 0 10 20 30 40 0 ++ six 5 7 11 13 17 19) (held (1 ∷ 268435356 ∷ 0 ∷ 7 ∷ 1 ∷ 268435356 ∷ []) (1 ∷ 0 ∷ 0 ∷ 0 ∷ 0 ∷ []) 100 0 0 ++ plain 40 50 18)) (remove_emitter 0 8) 19 ∷
    refuses "y8-40 tick 2" (lent (grid 4 1 1 2) hundreds (six 0 10 20 30 40 0 ++ six 5 7 11 13 17 19) (held (1 ∷ 268435356 ∷ 0 ∷ 7 ∷ 1 ∷ 268435356 ∷ []) (1 ∷ 0 ∷ 0 ∷ 0 ∷ 0 ∷ []) 100 0 0 ++ plain 40 50 18)) (tick 0) 6 ∷
    refuses "y8-40 set limiter 3" (lent (grid 4 1 1 2) hundreds (six 0 10 20 30 40 0 ++ six 5 7 11 13 17 19) (held (1 ∷ 268435356 ∷ 0 ∷ 7 ∷ 1 ∷ 268435356 ∷ []) (1 ∷ 0 ∷ 0 ∷ 0 ∷ 0 ∷ []) 100 0 0 ++ plain 40 50 18)) (set_limiter 0 4 0 0) 21 ∷
    refuses "y8-40 set limiter 4" (lent (grid 4 1 1 2) hundreds (six 0 10 20 30 40 0 ++ six 5 7 11 13 17 19) (held (1 ∷ 268435356 ∷ 0 ∷ 7 ∷ 1 ∷ 268435356 ∷ []) (1 ∷ 0 ∷ 0 ∷ 0 ∷ 0 ∷ []) 100 0 0 ++ plain 40 50 18)) (set_limiter 0 1 1 0) 21 ∷
    -- y8-43: 3 before 22 in every call
    leaves "y8-43 add emitter" (lent (grid 4 1 1 2) hundreds (six 0 10 20 30 40 0 ++ six 5 7 11 13 17 19) (plain 100 0 0 ++ plain 72 0 0)) (add_emitter 0 1 7 3) 0 (lent (grid 4 1 1 2) hundreds (six 0 10 20 30 40 0 ++ six 5 7 11 13 17 19) (held (1 ∷ 3 ∷ 0 ∷ 7 ∷ 1 ∷ 3 ∷ []) (1 ∷ 0 ∷ 0 ∷ 0 ∷ 0 ∷ []) 100 0 0 ++ plain 72 0 0)) ∷
    refuses "y8-43 emission" (lent (grid 4 1 1 2) (six 100 100 100 100 100 0) (six 0 10 20 30 40 0 ++ six 5 7 11 13 17 19) (held (1 ∷ 3 ∷ 0 ∷ 7 ∷ 1 ∷ 3 ∷ []) (1 ∷ 0 ∷ 0 ∷ 0 ∷ 0 ∷ []) 100 0 0 ++ plain 71 0 0)) (emission 0 2 5) 3 ∷
    refuses "y8-43 withdrawal" (lent (grid 4 1 1 2) (six 100 100 100 100 100 0) (six 0 10 20 30 40 0 ++ six 5 7 11 13 17 19) (held (1 ∷ 3 ∷ 0 ∷ 7 ∷ 1 ∷ 3 ∷ []) (1 ∷ 0 ∷ 0 ∷ 0 ∷ 0 ∷ []) 100 0 0 ++ plain 71 0 0)) (withdrawal 0 2 5) 3 ∷
    refuses "y8-43 zonal" (lent (grid 4 1 1 2) (six 100 100 100 100 100 0) (six 0 10 20 30 40 0 ++ six 5 7 11 13 17 19) (held (1 ∷ 3 ∷ 0 ∷ 7 ∷ 1 ∷ 3 ∷ []) (1 ∷ 0 ∷ 0 ∷ 0 ∷ 0 ∷ []) 100 0 0 ++ plain 71 0 0)) (zonal 0 0 (four (pos 0) (pos 20) (pos 0) (pos 0))) 3 ∷
    refuses "y8-43 long zonal" (lent (grid 4 1 1 2) (six 100 100 100 100 100 0) (six 0 10 20 30 40 0 ++ six 5 7 11 13 17 19) (held (1 ∷ 3 ∷ 0 ∷ 7 ∷ 1 ∷ 3 ∷ []) (1 ∷ 0 ∷ 0 ∷ 0 ∷ 0 ∷ []) 100 0 0 ++ plain 71 0 0)) (long_zonal 0 0 (four (pos 0) (neg_ℤ (pos 20)) (pos 0) (pos 0))) 3 ∷
    refuses "y8-43 count zonal" (lent (grid 4 1 1 2) (six 100 100 100 100 100 0) (six 0 10 20 30 40 0 ++ six 5 7 11 13 17 19) (held (1 ∷ 3 ∷ 0 ∷ 7 ∷ 1 ∷ 3 ∷ []) (1 ∷ 0 ∷ 0 ∷ 0 ∷ 0 ∷ []) 100 0 0 ++ plain 71 0 0)) (count_zonal 0 0 (four (pos 0) (pos 20) (pos 0) (pos 0))) 3 ∷
    refuses "y8-43 zonal with count" (lent (grid 4 1 1 2) (six 100 100 100 100 100 0) (six 0 10 20 30 40 0 ++ six 5 7 11 13 17 19) (held (1 ∷ 3 ∷ 0 ∷ 7 ∷ 1 ∷ 3 ∷ []) (1 ∷ 0 ∷ 0 ∷ 0 ∷ 0 ∷ []) 100 0 0 ++ plain 71 0 0)) (zonal_with_count 0 0 1 (four (pos 0) (pos 20) (pos 0) (pos 0))) 3 ∷
    refuses "y8-43 meridional" (lent (grid 4 1 1 2) (six 100 100 100 100 100 0) (six 0 10 20 30 40 0 ++ six 5 7 11 13 17 19) (held (1 ∷ 3 ∷ 0 ∷ 7 ∷ 1 ∷ 3 ∷ []) (1 ∷ 0 ∷ 0 ∷ 0 ∷ 0 ∷ []) 100 0 0 ++ plain 71 0 0)) (meridional 0 (four (pos 0) (pos 0) (pos 0) (pos 0) ++ four (pos 9) (pos 0) (pos 0) (pos 0))) 3 ∷
    refuses "y8-43 remap" (lent (grid 4 1 1 2) (six 100 100 100 100 100 0) (six 0 10 20 30 40 0 ++ six 5 7 11 13 17 19) (held (1 ∷ 3 ∷ 0 ∷ 7 ∷ 1 ∷ 3 ∷ []) (1 ∷ 0 ∷ 0 ∷ 0 ∷ 0 ∷ []) 100 0 0 ++ plain 71 0 0)) (remap (0 ∷ 0 ∷ 0 ∷ 65536 ∷ [])) 3 ∷
    refuses "y8-43 total" (lent (grid 4 1 1 2) (six 100 100 100 100 100 0) (six 0 10 20 30 40 0 ++ six 5 7 11 13 17 19) (held (1 ∷ 3 ∷ 0 ∷ 7 ∷ 1 ∷ 3 ∷ []) (1 ∷ 0 ∷ 0 ∷ 0 ∷ 0 ∷ []) 100 0 0 ++ plain 71 0 0)) (total 0) 3 ∷
    refuses "y8-43 cell" (lent (grid 4 1 1 2) (six 100 100 100 100 100 0) (six 0 10 20 30 40 0 ++ six 5 7 11 13 17 19) (held (1 ∷ 3 ∷ 0 ∷ 7 ∷ 1 ∷ 3 ∷ []) (1 ∷ 0 ∷ 0 ∷ 0 ∷ 0 ∷ []) 100 0 0 ++ plain 71 0 0)) (cell 0 2) 3 ∷
    refuses "y8-43 add emitter 2" (lent (grid 4 1 1 2) (six 100 100 100 100 100 0) (six 0 10 20 30 40 0 ++ six 5 7 11 13 17 19) (held (1 ∷ 3 ∷ 0 ∷ 7 ∷ 1 ∷ 3 ∷ []) (1 ∷ 0 ∷ 0 ∷ 0 ∷ 0 ∷ []) 100 0 0 ++ plain 71 0 0)) (add_emitter 0 3 8 1) 3 ∷
    refuses "y8-43 remove emitter" (lent (grid 4 1 1 2) (six 100 100 100 100 100 0) (six 0 10 20 30 40 0 ++ six 5 7 11 13 17 19) (held (1 ∷ 3 ∷ 0 ∷ 7 ∷ 1 ∷ 3 ∷ []) (1 ∷ 0 ∷ 0 ∷ 0 ∷ 0 ∷ []) 100 0 0 ++ plain 71 0 0)) (remove_emitter 0 7) 3 ∷
    refuses "y8-43 tick" (lent (grid 4 1 1 2) (six 100 100 100 100 100 0) (six 0 10 20 30 40 0 ++ six 5 7 11 13 17 19) (held (1 ∷ 3 ∷ 0 ∷ 7 ∷ 1 ∷ 3 ∷ []) (1 ∷ 0 ∷ 0 ∷ 0 ∷ 0 ∷ []) 100 0 0 ++ plain 71 0 0)) (tick 0) 3 ∷
    refuses "y8-43 units a tick" (lent (grid 4 1 1 2) (six 100 100 100 100 100 0) (six 0 10 20 30 40 0 ++ six 5 7 11 13 17 19) (held (1 ∷ 3 ∷ 0 ∷ 7 ∷ 1 ∷ 3 ∷ []) (1 ∷ 0 ∷ 0 ∷ 0 ∷ 0 ∷ []) 100 0 0 ++ plain 71 0 0)) (units_a_tick 0) 3 ∷
    refuses "y8-43 set limiter" (lent (grid 4 1 1 2) (six 100 100 100 100 100 0) (six 0 10 20 30 40 0 ++ six 5 7 11 13 17 19) (held (1 ∷ 3 ∷ 0 ∷ 7 ∷ 1 ∷ 3 ∷ []) (1 ∷ 0 ∷ 0 ∷ 0 ∷ 0 ∷ []) 100 0 0 ++ plain 71 0 0)) (set_limiter 0 2 0 0) 3 ∷
    refuses "y8-43 total 2" (lent (grid 4 1 1 2) (six 65536 100 100 100 100 100) (six 0 10 20 30 40 0 ++ six 5 7 11 13 17 19) (held (1 ∷ 3 ∷ 0 ∷ 7 ∷ 1 ∷ 3 ∷ []) (1 ∷ 0 ∷ 0 ∷ 0 ∷ 0 ∷ []) 100 0 0 ++ plain 71 0 0)) (total 0) 3 ∷
    refuses "y8-43 total 3" (lent (grid 4 1 1 2) hundreds (six 0 10 20 30 40 0 ++ six 5 7 11 13 17 19) (held (1 ∷ 3 ∷ 0 ∷ 7 ∷ 1 ∷ 3 ∷ []) (1 ∷ 0 ∷ 0 ∷ 0 ∷ 0 ∷ []) 100 0 0 ++ plain 71 0 0)) (total 0) 22 ∷
    -- y8-44: 4 before 22 in every call, with books that do not agree and with books that do
    refuses "y8-44 emission" (lent (grid 4 1 1 2) hundreds (six 0 10 20 30 40 0 ++ six 5 7 11 13 17 268435403) (plain 100 0 0 ++ plain 72 0 0)) (emission 0 2 5) 4 ∷
    refuses "y8-44 withdrawal" (lent (grid 4 1 1 2) hundreds (six 0 10 20 30 40 0 ++ six 5 7 11 13 17 268435403) (plain 100 0 0 ++ plain 72 0 0)) (withdrawal 0 2 5) 4 ∷
    refuses "y8-44 zonal" (lent (grid 4 1 1 2) hundreds (six 0 10 20 30 40 0 ++ six 5 7 11 13 17 268435403) (plain 100 0 0 ++ plain 72 0 0)) (zonal 0 0 (four (pos 0) (pos 20) (pos 0) (pos 0))) 4 ∷
    refuses "y8-44 long zonal" (lent (grid 4 1 1 2) hundreds (six 0 10 20 30 40 0 ++ six 5 7 11 13 17 268435403) (plain 100 0 0 ++ plain 72 0 0)) (long_zonal 0 0 (four (pos 0) (neg_ℤ (pos 20)) (pos 0) (pos 0))) 4 ∷
    refuses "y8-44 count zonal" (lent (grid 4 1 1 2) hundreds (six 0 10 20 30 40 0 ++ six 5 7 11 13 17 268435403) (plain 100 0 0 ++ plain 72 0 0)) (count_zonal 0 0 (four (pos 0) (pos 20) (pos 0) (pos 0))) 4 ∷
    refuses "y8-44 zonal with count" (lent (grid 4 1 1 2) hundreds (six 0 10 20 30 40 0 ++ six 5 7 11 13 17 268435403) (plain 100 0 0 ++ plain 72 0 0)) (zonal_with_count 0 0 1 (four (pos 0) (pos 20) (pos 0) (pos 0))) 4 ∷
    refuses "y8-44 meridional" (lent (grid 4 1 1 2) hundreds (six 0 10 20 30 40 0 ++ six 5 7 11 13 17 268435403) (plain 100 0 0 ++ plain 72 0 0)) (meridional 0 (four (pos 0) (pos 0) (pos 0) (pos 0) ++ four (pos 9) (pos 0) (pos 0) (pos 0))) 4 ∷
    refuses "y8-44 remap" (lent (grid 4 1 1 2) hundreds (six 0 10 20 30 40 0 ++ six 5 7 11 13 17 268435403) (plain 100 0 0 ++ plain 72 0 0)) (remap (0 ∷ 0 ∷ 0 ∷ 65536 ∷ [])) 4 ∷
    refuses "y8-44 total" (lent (grid 4 1 1 2) hundreds (six 0 10 20 30 40 0 ++ six 5 7 11 13 17 268435403) (plain 100 0 0 ++ plain 72 0 0)) (total 0) 4 ∷
    refuses "y8-44 cell" (lent (grid 4 1 1 2) hundreds (six 0 10 20 30 40 0 ++ six 5 7 11 13 17 268435403) (plain 100 0 0 ++ plain 72 0 0)) (cell 0 2) 4 ∷
    refuses "y8-44 add emitter" (lent (grid 4 1 1 2) hundreds (six 0 10 20 30 40 0 ++ six 5 7 11 13 17 268435403) (plain 100 0 0 ++ plain 72 0 0)) (add_emitter 0 3 8 1) 4 ∷
    refuses "y8-44 remove emitter" (lent (grid 4 1 1 2) hundreds (six 0 10 20 30 40 0 ++ six 5 7 11 13 17 268435403) (plain 100 0 0 ++ plain 72 0 0)) (remove_emitter 0 7) 4 ∷
    refuses "y8-44 tick" (lent (grid 4 1 1 2) hundreds (six 0 10 20 30 40 0 ++ six 5 7 11 13 17 268435403) (plain 100 0 0 ++ plain 72 0 0)) (tick 0) 4 ∷
    refuses "y8-44 units a tick" (lent (grid 4 1 1 2) hundreds (six 0 10 20 30 40 0 ++ six 5 7 11 13 17 268435403) (plain 100 0 0 ++ plain 72 0 0)) (units_a_tick 0) 4 ∷
    refuses "y8-44 set limiter" (lent (grid 4 1 1 2) hundreds (six 0 10 20 30 40 0 ++ six 5 7 11 13 17 268435403) (plain 100 0 0 ++ plain 72 0 0)) (set_limiter 0 2 0 0) 4 ∷
    refuses "y8-44 total 2" (lent (grid 4 1 1 2) hundreds (six 0 10 20 30 40 0 ++ six 5 7 11 13 17 268435403) (plain 100 0 0 ++ plain 268435456 0 0)) (total 0) 4 ∷
    refuses "y8-44 tick 2" (lent (grid 4 1 1 2) hundreds (six 0 10 20 30 40 0 ++ six 5 7 11 13 17 268435403) (plain 100 0 0 ++ plain 268435456 0 0)) (tick 0) 4 ∷
    refuses "y8-44 zonal 2" (lent (grid 4 1 1 2) hundreds (six 0 10 20 30 40 0 ++ six 5 7 11 13 17 268435403) (plain 100 0 0 ++ plain 268435456 0 0)) (zonal 0 0 (four (pos 0) (pos 50) (pos 0) (pos 0))) 4 ∷
    -- y8-45: 2 before 22: a ledger one short or one long, of the old length 56 for each tracer, of one block; air, tracers, fluxes or a table of another length
    refuses "y8-45 total" (lent (grid 4 1 1 2) hundreds (six 0 10 20 30 40 0 ++ six 5 7 11 13 17 19) (replicate 51 0 ++ six 1 0 0 0 0 99 ++ replicate 53 0 ++ six 1 0 0 0 0 72 ++ (0 ∷ []))) (total 0) 2 ∷
    refuses "y8-45 zonal" (lent (grid 4 1 1 2) hundreds (six 0 10 20 30 40 0 ++ six 5 7 11 13 17 19) (replicate 51 0 ++ six 1 0 0 0 0 99 ++ replicate 53 0 ++ six 1 0 0 0 0 72 ++ (0 ∷ []))) (zonal 0 0 (four (pos 0) (pos 50) (pos 0) (pos 0))) 2 ∷
    refuses "y8-45 load" (lent (grid 4 1 1 2) hundreds (six 0 10 20 30 40 0 ++ six 5 7 11 13 17 19) (replicate 51 0 ++ six 1 0 0 0 0 99 ++ replicate 53 0 ++ six 1 0 0 0 0 72 ++ (0 ∷ []))) load 2 ∷
    refuses "y8-45 total 2" (lent (grid 4 1 1 2) hundreds (six 0 10 20 30 40 0 ++ six 5 7 11 13 17 19) (replicate 51 0 ++ six 1 0 0 0 0 99 ++ replicate 53 0 ++ six 1 0 0 0 0 72 ++ (0 ∷ 0 ∷ 0 ∷ []))) (total 0) 2 ∷
    refuses "y8-45 zonal 2" (lent (grid 4 1 1 2) hundreds (six 0 10 20 30 40 0 ++ six 5 7 11 13 17 19) (replicate 51 0 ++ six 1 0 0 0 0 99 ++ replicate 53 0 ++ six 1 0 0 0 0 72 ++ (0 ∷ 0 ∷ 0 ∷ []))) (zonal 0 0 (four (pos 0) (pos 50) (pos 0) (pos 0))) 2 ∷
    refuses "y8-45 load 2" (lent (grid 4 1 1 2) hundreds (six 0 10 20 30 40 0 ++ six 5 7 11 13 17 19) (replicate 51 0 ++ six 1 0 0 0 0 99 ++ replicate 53 0 ++ six 1 0 0 0 0 72 ++ (0 ∷ 0 ∷ 0 ∷ []))) load 2 ∷
    refuses "y8-45 total 3" (lent (grid 4 1 1 2) hundreds (six 0 10 20 30 40 0 ++ six 5 7 11 13 17 19) (replicate 51 0 ++ (1 ∷ []) ++ replicate 55 0 ++ (1 ∷ 0 ∷ 0 ∷ 0 ∷ 0 ∷ []))) (total 0) 2 ∷
    refuses "y8-45 zonal 3" (lent (grid 4 1 1 2) hundreds (six 0 10 20 30 40 0 ++ six 5 7 11 13 17 19) (replicate 51 0 ++ (1 ∷ []) ++ replicate 55 0 ++ (1 ∷ 0 ∷ 0 ∷ 0 ∷ 0 ∷ []))) (zonal 0 0 (four (pos 0) (pos 50) (pos 0) (pos 0))) 2 ∷
    refuses "y8-45 load 3" (lent (grid 4 1 1 2) hundreds (six 0 10 20 30 40 0 ++ six 5 7 11 13 17 19) (replicate 51 0 ++ (1 ∷ []) ++ replicate 55 0 ++ (1 ∷ 0 ∷ 0 ∷ 0 ∷ 0 ∷ []))) load 2 ∷
    refuses "y8-45 total 4" (lent (grid 4 1 1 2) hundreds (six 0 10 20 30 40 0 ++ six 5 7 11 13 17 19) (replicate 51 0 ++ six 1 0 0 0 0 99 ++ (0 ∷ 0 ∷ []))) (total 0) 2 ∷
    refuses "y8-45 zonal 4" (lent (grid 4 1 1 2) hundreds (six 0 10 20 30 40 0 ++ six 5 7 11 13 17 19) (replicate 51 0 ++ six 1 0 0 0 0 99 ++ (0 ∷ 0 ∷ []))) (zonal 0 0 (four (pos 0) (pos 50) (pos 0) (pos 0))) 2 ∷
    refuses "y8-45 load 4" (lent (grid 4 1 1 2) hundreds (six 0 10 20 30 40 0 ++ six 5 7 11 13 17 19) (replicate 51 0 ++ six 1 0 0 0 0 99 ++ (0 ∷ 0 ∷ []))) load 2 ∷
    refuses "y8-45 total 5" (lent (grid 4 1 1 2) hundreds (six 0 10 20 30 40 0 ++ six 5 7 11 13 17 19) []) (total 0) 2 ∷
    refuses "y8-45 zonal 5" (lent (grid 4 1 1 2) hundreds (six 0 10 20 30 40 0 ++ six 5 7 11 13 17 19) []) (zonal 0 0 (four (pos 0) (pos 50) (pos 0) (pos 0))) 2 ∷
    refuses "y8-45 load 5" (lent (grid 4 1 1 2) hundreds (six 0 10 20 30 40 0 ++ six 5 7 11 13 17 19) []) load 2 ∷
    refuses "y8-45 zonal 6" (lent (grid 4 1 1 2) hundreds (six 0 10 20 30 40 0 ++ six 5 7 11 13 17 19) (plain 99 0 0 ++ plain 72 0 0)) (zonal 0 0 (pos 0 ∷ pos 50 ∷ pos 0 ∷ [])) 2 ∷
    refuses "y8-45 meridional" (lent (grid 4 1 1 2) hundreds (six 0 10 20 30 40 0 ++ six 5 7 11 13 17 19) (plain 99 0 0 ++ plain 72 0 0)) (meridional 0 (pos 0 ∷ pos 0 ∷ pos 0 ∷ pos 0 ∷ pos 0 ∷ pos 0 ∷ pos 0 ∷ [])) 2 ∷
    refuses "y8-45 remap" (lent (grid 4 1 1 2) hundreds (six 0 10 20 30 40 0 ++ six 5 7 11 13 17 19) (plain 99 0 0 ++ plain 72 0 0)) (remap (0 ∷ 0 ∷ 0 ∷ [])) 2 ∷
    refuses "y8-45 total 6" (lent (grid 4 1 1 2) hundreds (six 0 10 20 30 40 0 ++ six 5 7 11 13 17 19) (plain 99 0 0 ++ plain 72 0 0)) (total 0) 22 ∷
    refuses "y8-45 total 7" (lent (grid 4 1 1 2) (100 ∷ 100 ∷ 100 ∷ 100 ∷ 100 ∷ []) (six 0 10 20 30 40 0 ++ six 5 7 11 13 17 19) (plain 99 0 0 ++ plain 72 0 0)) (total 0) 2 ∷
    refuses "y8-45 load 6" (lent (grid 4 1 1 2) (100 ∷ 100 ∷ 100 ∷ 100 ∷ 100 ∷ []) (six 0 10 20 30 40 0 ++ six 5 7 11 13 17 19) (plain 99 0 0 ++ plain 72 0 0)) load 2 ∷
    refuses "y8-45 total 8" (lent (grid 4 1 1 2) hundreds (six 0 10 20 30 40 0 ++ six 5 7 11 13 17 19 ++ (0 ∷ [])) (plain 99 0 0 ++ plain 72 0 0)) (total 0) 2 ∷
    refuses "y8-45 load 7" (lent (grid 4 1 1 2) hundreds (six 0 10 20 30 40 0 ++ six 5 7 11 13 17 19 ++ (0 ∷ [])) (plain 99 0 0 ++ plain 72 0 0)) load 2 ∷
    -- y8-47: a load over broken books of every tracer: accepted; loaded is the total, emitted and withdrawn are 0
    refuses "y8-47 total" (lent (grid 4 1 1 2) hundreds (six 0 10 20 30 40 0 ++ six 5 7 11 13 17 19) (plain 7 8 9 ++ plain 4294967295 4294967295 4294967295)) (total 0) 22 ∷
    reads "y8-47 total 2" (lent (grid 4 1 1 2) hundreds (six 0 10 20 30 40 0 ++ six 5 7 11 13 17 19) (plain 100 0 0 ++ plain 72 0 0)) (total 0) 100 ∷
    reads "y8-47 total 3" (lent (grid 4 1 1 2) hundreds (six 0 10 20 30 40 0 ++ six 5 7 11 13 17 19) (plain 100 0 0 ++ plain 72 0 0)) (total 1) 72 ∷
    -- y8-49: a load after emissions, a withdrawal and a tick: loaded is the present total, and books begin anew
    reads "y8-49 load" (lent (grid 4 1 1 2) hundreds (six 0 10 20 30 40 0 ++ six 5 7 11 13 17 19) (plain 100 0 0 ++ plain 72 0 0)) load 0 ∷
    leaves "y8-49 emission" (lent (grid 4 1 1 2) hundreds (six 0 10 20 30 40 0 ++ six 5 7 11 13 17 19) (plain 100 0 0 ++ plain 72 0 0)) (emission 0 2 50) 0 (lent (grid 4 1 1 2) hundreds (six 0 10 70 30 40 0 ++ six 5 7 11 13 17 19) (plain 100 50 0 ++ plain 72 0 0)) ∷
    leaves "y8-49 withdrawal" (lent (grid 4 1 1 2) hundreds (six 0 10 70 30 40 0 ++ six 5 7 11 13 17 19) (plain 100 50 0 ++ plain 72 0 0)) (withdrawal 1 5 19) 0 (lent (grid 4 1 1 2) hundreds (six 0 10 70 30 40 0 ++ six 5 7 11 13 17 0) (plain 100 50 0 ++ plain 72 0 19)) ∷
    leaves "y8-49 add emitter" (lent (grid 4 1 1 2) hundreds (six 0 10 70 30 40 0 ++ six 5 7 11 13 17 0) (plain 100 50 0 ++ plain 72 0 19)) (add_emitter 1 0 7 4) 0 (lent (grid 4 1 1 2) hundreds (six 0 10 70 30 40 0 ++ six 5 7 11 13 17 0) (plain 100 50 0 ++ held (1 ∷ 4 ∷ 0 ∷ 7 ∷ 0 ∷ 4 ∷ []) (1 ∷ 0 ∷ 0 ∷ 0 ∷ 0 ∷ []) 72 0 19)) ∷
    leaves "y8-49 tick" (lent (grid 4 1 1 2) hundreds (six 0 10 70 30 40 0 ++ six 5 7 11 13 17 0) (plain 100 50 0 ++ held (1 ∷ 4 ∷ 0 ∷ 7 ∷ 0 ∷ 4 ∷ []) (1 ∷ 0 ∷ 0 ∷ 0 ∷ 0 ∷ []) 72 0 19)) (tick 1) 0 (lent (grid 4 1 1 2) hundreds (six 0 10 70 30 40 0 ++ six 9 7 11 13 17 0) (plain 100 50 0 ++ held (1 ∷ 4 ∷ 0 ∷ 7 ∷ 0 ∷ 4 ∷ []) (1 ∷ 0 ∷ 0 ∷ 0 ∷ 0 ∷ []) 72 4 19)) ∷
    leaves "y8-49 zonal" (lent (grid 4 1 1 2) hundreds (six 0 10 70 30 40 0 ++ six 9 7 11 13 17 0) (plain 100 50 0 ++ held (1 ∷ 4 ∷ 0 ∷ 7 ∷ 0 ∷ 4 ∷ []) (1 ∷ 0 ∷ 0 ∷ 0 ∷ 0 ∷ []) 72 4 19)) (zonal 0 0 (four (pos 0) (pos 50) (pos 0) (pos 0))) 1 (lent (grid 4 1 1 2) (six 100 100 50 150 100 100) (six 0 10 35 65 40 0 ++ six 9 7 6 18 17 0) (plain 100 50 0 ++ held (1 ∷ 4 ∷ 0 ∷ 7 ∷ 0 ∷ 4 ∷ []) (1 ∷ 0 ∷ 0 ∷ 0 ∷ 0 ∷ []) 72 4 19)) ∷
    leaves "y8-49 load 2" (lent (grid 4 1 1 2) (six 100 100 50 150 100 100) (six 0 10 35 65 40 0 ++ six 9 7 6 18 17 0) (plain 100 50 0 ++ held (1 ∷ 4 ∷ 0 ∷ 7 ∷ 0 ∷ 4 ∷ []) (1 ∷ 0 ∷ 0 ∷ 0 ∷ 0 ∷ []) 72 4 19)) load 0 (lent (grid 4 1 1 2) (six 100 100 50 150 100 100) (six 0 10 35 65 40 0 ++ six 9 7 6 18 17 0) (plain 150 0 0 ++ plain 57 0 0)) ∷
    reads "y8-49 tick 2" (lent (grid 4 1 1 2) (six 100 100 50 150 100 100) (six 0 10 35 65 40 0 ++ six 9 7 6 18 17 0) (plain 150 0 0 ++ plain 57 0 0)) (tick 1) 0 ∷
    leaves "y8-49 emission 2" (lent (grid 4 1 1 2) (six 100 100 50 150 100 100) (six 0 10 35 65 40 0 ++ six 9 7 6 18 17 0) (plain 150 0 0 ++ plain 57 0 0)) (emission 0 2 1) 0 (lent (grid 4 1 1 2) (six 100 100 50 150 100 100) (six 0 10 36 65 40 0 ++ six 9 7 6 18 17 0) (plain 150 1 0 ++ plain 57 0 0)) ∷
    leaves "y8-49 load 3" (lent (grid 4 1 1 2) (six 100 100 50 150 100 100) (six 0 10 36 65 40 0 ++ six 9 7 6 18 17 0) (plain 150 1 0 ++ plain 57 0 0)) load 0 (lent (grid 4 1 1 2) (six 100 100 50 150 100 100) (six 0 10 36 65 40 0 ++ six 9 7 6 18 17 0) (plain 151 0 0 ++ plain 57 0 0)) ∷
    -- y8-52: refused loads leave the books: 3, 4, 2, with books that agree and with others
    refuses "y8-52 load" (lent (grid 4 1 1 2) (six 100 0 100 100 100 100) (six 0 10 20 30 40 0 ++ six 5 7 11 13 17 19) (plain 60 50 10 ++ plain 7 8 9)) load 3 ∷
    refuses "y8-52 load 2" (lent (grid 4 1 1 2) hundreds (six 0 10 20 30 40 0 ++ six 268435455 1 0 0 0 0) (plain 60 50 10 ++ plain 7 8 9)) load 4 ∷
    refuses "y8-52 load 3" (lent (grid 4 1 1 2) hundreds (six 0 10 20 30 40 0 ++ six 5 7 11 13 17 19 ++ (0 ∷ [])) (plain 60 50 10 ++ plain 7 8 9)) load 2 ∷
    -- y8-56: 6 by the total and by the sum: at both limits at once, past both, past the total alone, past the sum alone
    refuses "y8-56 emission" (lent (grid 4 1 1 1) hundreds (six 0 0 268435450 0 0 0) (plain 268435450 4294967290 4294967290)) (emission 0 0 6) 6 ∷
    refuses "y8-56 emission 2" (lent (grid 4 1 1 1) hundreds (six 0 0 268435450 0 0 0) (plain 268435450 4294967290 4294967290)) (emission 0 0 4294967295) 6 ∷
    leaves "y8-56 emission 3" (lent (grid 4 1 1 1) hundreds (six 0 0 268435450 0 0 0) (plain 268435450 4294967290 4294967290)) (emission 0 0 5) 0 (lent (grid 4 1 1 1) hundreds (six 5 0 268435450 0 0 0) (plain 268435450 4294967295 4294967290)) ∷
    refuses "y8-56 emission 4" (lent (grid 4 1 1 1) hundreds (six 5 0 268435450 0 0 0) (plain 268435450 4294967295 4294967290)) (emission 0 0 1) 6 ∷
    reads "y8-56 emission 5" (lent (grid 4 1 1 1) hundreds (six 5 0 268435450 0 0 0) (plain 268435450 4294967295 4294967290)) (emission 0 0 0) 0 ∷
    refuses "y8-56 emission 6" (lent (grid 4 1 1 1) hundreds (six 0 0 268435455 0 0 0) (plain 268435455 4294967285 4294967285)) (emission 0 0 1) 6 ∷
    refuses "y8-56 emission 7" (lent (grid 4 1 1 1) hundreds (six 0 0 268435455 0 0 0) (plain 268435455 4294967285 4294967285)) (emission 0 0 11) 6 ∷
    reads "y8-56 emission 8" (lent (grid 4 1 1 1) hundreds (six 0 0 268435455 0 0 0) (plain 268435455 4294967285 4294967285)) (emission 0 0 0) 0 ∷
    refuses "y8-56 emission 9" (lent (grid 4 1 1 1) hundreds (six 0 0 268435355 0 0 0) (plain 268435355 4294967295 4294967295)) (emission 0 0 1) 6 ∷
    refuses "y8-56 emission 10" (lent (grid 4 1 1 1) hundreds (six 0 0 268435355 0 0 0) (plain 268435355 4294967295 4294967295)) (emission 0 0 100) 6 ∷
    refuses "y8-56 emission 11" (lent (grid 4 1 1 1) hundreds (six 0 0 268435355 0 0 0) (plain 268435355 4294967295 4294967295)) (emission 0 0 101) 6 ∷
    reads "y8-56 emission 12" (lent (grid 4 1 1 1) hundreds (six 0 0 268435355 0 0 0) (plain 268435355 4294967295 4294967295)) (emission 0 0 0) 0 ∷
    -- y8-60: each sum has its own limit: loaded and emitted together may pass 2^32-1, and a full withdrawn does not stop an emission
    leaves "y8-60 emission" (lent (grid 4 1 1 1) hundreds (six 0 10 20 30 40 0) (plain 4294967295 0 4294967195)) (emission 0 2 5) 0 (lent (grid 4 1 1 1) hundreds (six 0 10 25 30 40 0) (plain 4294967295 5 4294967195)) ∷
    leaves "y8-60 emission 2" (lent (grid 4 1 1 1) hundreds (six 0 10 25 30 40 0) (plain 4294967295 105 4294967295)) (emission 0 2 5) 0 (lent (grid 4 1 1 1) hundreds (six 0 10 30 30 40 0) (plain 4294967295 110 4294967295)) ∷
    refuses "y8-60 withdrawal" (lent (grid 4 1 1 1) hundreds (six 0 10 30 30 40 0) (plain 4294967295 110 4294967295)) (withdrawal 0 2 1) 7 ∷
    reads "y8-60 withdrawal 2" (lent (grid 4 1 1 1) hundreds (six 0 10 30 30 40 0) (plain 4294967295 110 4294967295)) (withdrawal 0 2 0) 0 ∷
    -- y8-61: a full emitted sum does not stop a withdrawal; a sum of 268435455 is not full
    leaves "y8-61 withdrawal" (lent (grid 4 1 1 1) hundreds (six 0 10 20 30 40 0) (plain 0 4294967295 4294967195)) (withdrawal 0 2 5) 0 (lent (grid 4 1 1 1) hundreds (six 0 10 15 30 40 0) (plain 0 4294967295 4294967200)) ∷
    refuses "y8-61 emission" (lent (grid 4 1 1 1) hundreds (six 0 10 15 30 40 0) (plain 0 4294967295 4294967200)) (emission 0 2 1) 6 ∷
    leaves "y8-61 emission 2" (lent (grid 4 1 1 1) hundreds (six 0 10 15 30 40 0) (plain 0 268435455 268435360)) (emission 0 2 5) 0 (lent (grid 4 1 1 1) hundreds (six 0 10 20 30 40 0) (plain 0 268435460 268435360)) ∷
    leaves "y8-61 withdrawal 2" (lent (grid 4 1 1 1) hundreds (six 0 10 20 30 40 0) (plain 0 268435460 268435360)) (withdrawal 0 2 5) 0 (lent (grid 4 1 1 1) hundreds (six 0 10 15 30 40 0) (plain 0 268435460 268435365)) ∷
    leaves "y8-61 withdrawal 3" (lent (grid 4 1 1 1) hundreds (six 0 10 15 30 40 0) (plain 268435550 0 268435455)) (withdrawal 0 2 5) 0 (lent (grid 4 1 1 1) hundreds (six 0 10 10 30 40 0) (plain 268435550 0 268435460)) ∷
    -- y8-62: the other tracer's sums are full: an emission and a withdrawal are accepted
    leaves "y8-62 emission" (lent (grid 4 1 1 2) hundreds (six 0 10 20 30 40 0 ++ six 5 7 11 13 17 19) (plain 100 4294967295 4294967295 ++ plain 72 0 0)) (emission 1 2 5) 0 (lent (grid 4 1 1 2) hundreds (six 0 10 20 30 40 0 ++ six 5 7 16 13 17 19) (plain 100 4294967295 4294967295 ++ plain 72 5 0)) ∷
    leaves "y8-62 withdrawal" (lent (grid 4 1 1 2) hundreds (six 0 10 20 30 40 0 ++ six 5 7 16 13 17 19) (plain 100 4294967295 4294967295 ++ plain 72 5 0)) (withdrawal 1 2 5) 0 (lent (grid 4 1 1 2) hundreds (six 0 10 20 30 40 0 ++ six 5 7 11 13 17 19) (plain 100 4294967295 4294967295 ++ plain 72 5 5)) ∷
    refuses "y8-62 emission 2" (lent (grid 4 1 1 2) hundreds (six 0 10 20 30 40 0 ++ six 5 7 11 13 17 19) (plain 100 4294967295 4294967295 ++ plain 72 5 5)) (emission 0 2 5) 6 ∷
    refuses "y8-62 withdrawal 2" (lent (grid 4 1 1 2) hundreds (six 0 10 20 30 40 0 ++ six 5 7 11 13 17 19) (plain 100 4294967295 4294967295 ++ plain 72 5 5)) (withdrawal 0 2 5) 7 ∷
    -- y8-63: 5 before 6 and 7 by the sum: an absent tracer, an absent cell, a false record of emitters
    refuses "y8-63 emission" (lent (grid 4 1 1 2) hundreds (six 0 10 20 30 40 0 ++ six 5 7 11 13 17 19) (held (1 ∷ 4 ∷ 0 ∷ 7 ∷ 1 ∷ 3 ∷ []) (1 ∷ 0 ∷ 0 ∷ 0 ∷ 0 ∷ []) 100 4294967295 4294967295 ++ plain 72 0 0)) (emission 2 0 1) 5 ∷
    refuses "y8-63 emission 2" (lent (grid 4 1 1 2) hundreds (six 0 10 20 30 40 0 ++ six 5 7 11 13 17 19) (held (1 ∷ 4 ∷ 0 ∷ 7 ∷ 1 ∷ 3 ∷ []) (1 ∷ 0 ∷ 0 ∷ 0 ∷ 0 ∷ []) 100 4294967295 4294967295 ++ plain 72 0 0)) (emission 0 6 1) 5 ∷
    refuses "y8-63 withdrawal" (lent (grid 4 1 1 2) hundreds (six 0 10 20 30 40 0 ++ six 5 7 11 13 17 19) (held (1 ∷ 4 ∷ 0 ∷ 7 ∷ 1 ∷ 3 ∷ []) (1 ∷ 0 ∷ 0 ∷ 0 ∷ 0 ∷ []) 100 4294967295 4294967295 ++ plain 72 0 0)) (withdrawal 2 0 1) 5 ∷
    refuses "y8-63 withdrawal 2" (lent (grid 4 1 1 2) hundreds (six 0 10 20 30 40 0 ++ six 5 7 11 13 17 19) (held (1 ∷ 4 ∷ 0 ∷ 7 ∷ 1 ∷ 3 ∷ []) (1 ∷ 0 ∷ 0 ∷ 0 ∷ 0 ∷ []) 100 4294967295 4294967295 ++ plain 72 0 0)) (withdrawal 0 6 1) 5 ∷
    refuses "y8-63 tick" (lent (grid 4 1 1 2) hundreds (six 0 10 20 30 40 0 ++ six 5 7 11 13 17 19) (held (1 ∷ 4 ∷ 0 ∷ 7 ∷ 1 ∷ 3 ∷ []) (1 ∷ 0 ∷ 0 ∷ 0 ∷ 0 ∷ []) 100 4294967295 4294967295 ++ plain 72 0 0)) (tick 2) 5 ∷
    refuses "y8-63 tick 2" (lent (grid 4 1 1 2) hundreds (six 0 10 20 30 40 0 ++ six 5 7 11 13 17 19) (held (1 ∷ 4 ∷ 0 ∷ 7 ∷ 1 ∷ 3 ∷ []) (1 ∷ 0 ∷ 0 ∷ 0 ∷ 0 ∷ []) 100 4294967295 4294967295 ++ plain 72 0 0)) (tick 0) 5 ∷
    refuses "y8-63 emission 3" (lent (grid 4 1 1 2) hundreds (six 0 10 20 30 40 0 ++ six 5 7 11 13 17 19) (held (1 ∷ 4 ∷ 0 ∷ 7 ∷ 1 ∷ 3 ∷ []) (1 ∷ 0 ∷ 0 ∷ 0 ∷ 0 ∷ []) 100 4294967295 4294967295 ++ plain 72 0 0)) (emission 0 2 1) 6 ∷
    refuses "y8-63 withdrawal 3" (lent (grid 4 1 1 2) hundreds (six 0 10 20 30 40 0 ++ six 5 7 11 13 17 19) (held (1 ∷ 4 ∷ 0 ∷ 7 ∷ 1 ∷ 3 ∷ []) (1 ∷ 0 ∷ 0 ∷ 0 ∷ 0 ∷ []) 100 4294967295 4294967295 ++ plain 72 0 0)) (withdrawal 0 2 1) 7 ∷
    -- y8-64: a tick of 5 units where 4294967290 are emitted: accepted, and the next is 6
    leaves "y8-64 add emitter" (lent (grid 4 1 1 1) hundreds (six 0 10 20 30 40 0) (plain 100 0 0)) (add_emitter 0 1 7 2) 0 (lent (grid 4 1 1 1) hundreds (six 0 10 20 30 40 0) (held (1 ∷ 2 ∷ 0 ∷ 7 ∷ 1 ∷ 2 ∷ []) (1 ∷ 0 ∷ 0 ∷ 0 ∷ 0 ∷ []) 100 0 0)) ∷
    leaves "y8-64 add emitter 2" (lent (grid 4 1 1 1) hundreds (six 0 10 20 30 40 0) (held (1 ∷ 2 ∷ 0 ∷ 7 ∷ 1 ∷ 2 ∷ []) (1 ∷ 0 ∷ 0 ∷ 0 ∷ 0 ∷ []) 100 0 0)) (add_emitter 0 3 8 3) 0 (lent (grid 4 1 1 1) hundreds (six 0 10 20 30 40 0) (held (2 ∷ 5 ∷ 0 ∷ 7 ∷ 1 ∷ 2 ∷ 8 ∷ 3 ∷ 3 ∷ []) (1 ∷ 0 ∷ 0 ∷ 0 ∷ 0 ∷ []) 100 0 0)) ∷
    leaves "y8-64 tick" (lent (grid 4 1 1 1) hundreds (six 0 10 20 30 40 0) (held (2 ∷ 5 ∷ 0 ∷ 7 ∷ 1 ∷ 2 ∷ 8 ∷ 3 ∷ 3 ∷ []) (1 ∷ 0 ∷ 0 ∷ 0 ∷ 0 ∷ []) 100 4294967290 4294967290)) (tick 0) 0 (lent (grid 4 1 1 1) hundreds (six 0 12 20 33 40 0) (held (2 ∷ 5 ∷ 0 ∷ 7 ∷ 1 ∷ 2 ∷ 8 ∷ 3 ∷ 3 ∷ []) (1 ∷ 0 ∷ 0 ∷ 0 ∷ 0 ∷ []) 100 4294967295 4294967290)) ∷
    refuses "y8-64 tick 2" (lent (grid 4 1 1 1) hundreds (six 0 12 20 33 40 0) (held (2 ∷ 5 ∷ 0 ∷ 7 ∷ 1 ∷ 2 ∷ 8 ∷ 3 ∷ 3 ∷ []) (1 ∷ 0 ∷ 0 ∷ 0 ∷ 0 ∷ []) 100 4294967295 4294967290)) (tick 0) 6 ∷
    -- y8-65: a tick of 6 units there: 6, whole, though each of the two emitters would fit alone
    leaves "y8-65 add emitter" (lent (grid 4 1 1 1) hundreds (six 0 10 20 30 40 0) (plain 100 0 0)) (add_emitter 0 1 7 3) 0 (lent (grid 4 1 1 1) hundreds (six 0 10 20 30 40 0) (held (1 ∷ 3 ∷ 0 ∷ 7 ∷ 1 ∷ 3 ∷ []) (1 ∷ 0 ∷ 0 ∷ 0 ∷ 0 ∷ []) 100 0 0)) ∷
    leaves "y8-65 add emitter 2" (lent (grid 4 1 1 1) hundreds (six 0 10 20 30 40 0) (held (1 ∷ 3 ∷ 0 ∷ 7 ∷ 1 ∷ 3 ∷ []) (1 ∷ 0 ∷ 0 ∷ 0 ∷ 0 ∷ []) 100 0 0)) (add_emitter 0 3 8 3) 0 (lent (grid 4 1 1 1) hundreds (six 0 10 20 30 40 0) (held (2 ∷ 6 ∷ 0 ∷ 7 ∷ 1 ∷ 3 ∷ 8 ∷ 3 ∷ 3 ∷ []) (1 ∷ 0 ∷ 0 ∷ 0 ∷ 0 ∷ []) 100 0 0)) ∷
    leaves "y8-65 remove emitter" (lent (grid 4 1 1 1) hundreds (six 0 10 20 30 40 0) (held (2 ∷ 6 ∷ 0 ∷ 7 ∷ 1 ∷ 3 ∷ 8 ∷ 3 ∷ 3 ∷ []) (1 ∷ 0 ∷ 0 ∷ 0 ∷ 0 ∷ []) 100 4294967290 4294967290)) (remove_emitter 0 8) 0 (lent (grid 4 1 1 1) hundreds (six 0 10 20 30 40 0) (held (1 ∷ 3 ∷ 0 ∷ 7 ∷ 1 ∷ 3 ∷ []) (1 ∷ 0 ∷ 0 ∷ 0 ∷ 0 ∷ []) 100 4294967290 4294967290)) ∷
    -- y8-66: a tick of 1 at a full sum is 6; of 0 units, and with none standing, accepted
    reads "y8-66 tick" (lent (grid 4 1 1 1) hundreds (six 0 10 20 30 40 0) (plain 100 4294967295 4294967295)) (tick 0) 0 ∷
    leaves "y8-66 add emitter" (lent (grid 4 1 1 1) hundreds (six 0 10 20 30 40 0) (plain 100 4294967295 4294967295)) (add_emitter 0 1 7 0) 0 (lent (grid 4 1 1 1) hundreds (six 0 10 20 30 40 0) (held (1 ∷ 0 ∷ 0 ∷ 7 ∷ 1 ∷ []) (1 ∷ 0 ∷ 0 ∷ 0 ∷ 0 ∷ []) 100 4294967295 4294967295)) ∷
    reads "y8-66 tick 2" (lent (grid 4 1 1 1) hundreds (six 0 10 20 30 40 0) (held (1 ∷ 0 ∷ 0 ∷ 7 ∷ 1 ∷ []) (1 ∷ 0 ∷ 0 ∷ 0 ∷ 0 ∷ []) 100 4294967295 4294967295)) (tick 0) 0 ∷
    leaves "y8-66 add emitter 2" (lent (grid 4 1 1 1) hundreds (six 0 10 20 30 40 0) (held (1 ∷ 0 ∷ 0 ∷ 7 ∷ 1 ∷ []) (1 ∷ 0 ∷ 0 ∷ 0 ∷ 0 ∷ []) 100 4294967295 4294967295)) (add_emitter 0 1 8 1) 0 (lent (grid 4 1 1 1) hundreds (six 0 10 20 30 40 0) (held (2 ∷ 1 ∷ 0 ∷ 7 ∷ 1 ∷ 0 ∷ 8 ∷ 1 ∷ 1 ∷ []) (1 ∷ 0 ∷ 0 ∷ 0 ∷ 0 ∷ []) 100 4294967295 4294967295)) ∷
    refuses "y8-66 tick 3" (lent (grid 4 1 1 1) hundreds (six 0 10 20 30 40 0) (held (2 ∷ 1 ∷ 0 ∷ 7 ∷ 1 ∷ 0 ∷ 8 ∷ 1 ∷ 1 ∷ []) (1 ∷ 0 ∷ 0 ∷ 0 ∷ 0 ∷ []) 100 4294967295 4294967295)) (tick 0) 6 ∷
    reads "y8-66 units a tick" (lent (grid 4 1 1 1) hundreds (six 0 10 20 30 40 0) (held (2 ∷ 1 ∷ 0 ∷ 7 ∷ 1 ∷ 0 ∷ 8 ∷ 1 ∷ 1 ∷ []) (1 ∷ 0 ∷ 0 ∷ 0 ∷ 0 ∷ []) 100 4294967295 4294967295)) (units_a_tick 0) 1 ∷
    -- y8-69: a short list, with the ledger after each call
    reads "y8-69 load" (lent (grid 4 1 1 2) hundreds (six 0 10 20 30 40 0 ++ six 5 7 11 13 17 19) (plain 100 0 0 ++ plain 72 0 0)) load 0 ∷
    leaves "y8-69 emission" (lent (grid 4 1 1 2) hundreds (six 0 10 20 30 40 0 ++ six 5 7 11 13 17 19) (plain 100 0 0 ++ plain 72 0 0)) (emission 0 2 5) 0 (lent (grid 4 1 1 2) hundreds (six 0 10 25 30 40 0 ++ six 5 7 11 13 17 19) (plain 100 5 0 ++ plain 72 0 0)) ∷
    leaves "y8-69 emission 2" (lent (grid 4 1 1 2) hundreds (six 0 10 25 30 40 0 ++ six 5 7 11 13 17 19) (plain 100 5 0 ++ plain 72 0 0)) (emission 1 0 7) 0 (lent (grid 4 1 1 2) hundreds (six 0 10 25 30 40 0 ++ six 12 7 11 13 17 19) (plain 100 5 0 ++ plain 72 7 0)) ∷
    leaves "y8-69 emission 3" (lent (grid 4 1 1 2) hundreds (six 0 10 25 30 40 0 ++ six 12 7 11 13 17 19) (plain 100 5 0 ++ plain 72 7 0)) (emission 0 5 6) 0 (lent (grid 4 1 1 2) hundreds (six 0 10 25 30 40 6 ++ six 12 7 11 13 17 19) (plain 100 11 0 ++ plain 72 7 0)) ∷
    leaves "y8-69 withdrawal" (lent (grid 4 1 1 2) hundreds (six 0 10 25 30 40 6 ++ six 12 7 11 13 17 19) (plain 100 11 0 ++ plain 72 7 0)) (withdrawal 0 4 40) 0 (lent (grid 4 1 1 2) hundreds (six 0 10 25 30 0 6 ++ six 12 7 11 13 17 19) (plain 100 11 40 ++ plain 72 7 0)) ∷
    leaves "y8-69 withdrawal 2" (lent (grid 4 1 1 2) hundreds (six 0 10 25 30 0 6 ++ six 12 7 11 13 17 19) (plain 100 11 40 ++ plain 72 7 0)) (withdrawal 1 5 2) 0 (lent (grid 4 1 1 2) hundreds (six 0 10 25 30 0 6 ++ six 12 7 11 13 17 17) (plain 100 11 40 ++ plain 72 7 2)) ∷
    leaves "y8-69 add emitter" (lent (grid 4 1 1 2) hundreds (six 0 10 25 30 0 6 ++ six 12 7 11 13 17 17) (plain 100 11 40 ++ plain 72 7 2)) (add_emitter 0 1 7 3) 0 (lent (grid 4 1 1 2) hundreds (six 0 10 25 30 0 6 ++ six 12 7 11 13 17 17) (held (1 ∷ 3 ∷ 0 ∷ 7 ∷ 1 ∷ 3 ∷ []) (1 ∷ 0 ∷ 0 ∷ 0 ∷ 0 ∷ []) 100 11 40 ++ plain 72 7 2)) ∷
    leaves "y8-69 add emitter 2" (lent (grid 4 1 1 2) hundreds (six 0 10 25 30 0 6 ++ six 12 7 11 13 17 17) (held (1 ∷ 3 ∷ 0 ∷ 7 ∷ 1 ∷ 3 ∷ []) (1 ∷ 0 ∷ 0 ∷ 0 ∷ 0 ∷ []) 100 11 40 ++ plain 72 7 2)) (add_emitter 0 1 8 4) 0 (lent (grid 4 1 1 2) hundreds (six 0 10 25 30 0 6 ++ six 12 7 11 13 17 17) (held (2 ∷ 7 ∷ 0 ∷ 7 ∷ 1 ∷ 3 ∷ 8 ∷ 1 ∷ 4 ∷ []) (1 ∷ 0 ∷ 0 ∷ 0 ∷ 0 ∷ []) 100 11 40 ++ plain 72 7 2)) ∷
    leaves "y8-69 add emitter 3" (lent (grid 4 1 1 2) hundreds (six 0 10 25 30 0 6 ++ six 12 7 11 13 17 17) (held (2 ∷ 7 ∷ 0 ∷ 7 ∷ 1 ∷ 3 ∷ 8 ∷ 1 ∷ 4 ∷ []) (1 ∷ 0 ∷ 0 ∷ 0 ∷ 0 ∷ []) 100 11 40 ++ plain 72 7 2)) (add_emitter 1 2 7 10) 0 (lent (grid 4 1 1 2) hundreds (six 0 10 25 30 0 6 ++ six 12 7 11 13 17 17) (held (2 ∷ 7 ∷ 0 ∷ 7 ∷ 1 ∷ 3 ∷ 8 ∷ 1 ∷ 4 ∷ []) (1 ∷ 0 ∷ 0 ∷ 0 ∷ 0 ∷ []) 100 11 40 ++ held (1 ∷ 10 ∷ 0 ∷ 7 ∷ 2 ∷ 10 ∷ []) (1 ∷ 0 ∷ 0 ∷ 0 ∷ 0 ∷ []) 72 7 2)) ∷
    leaves "y8-69 tick" (lent (grid 4 1 1 2) hundreds (six 0 10 25 30 0 6 ++ six 12 7 11 13 17 17) (held (2 ∷ 7 ∷ 0 ∷ 7 ∷ 1 ∷ 3 ∷ 8 ∷ 1 ∷ 4 ∷ []) (1 ∷ 0 ∷ 0 ∷ 0 ∷ 0 ∷ []) 100 11 40 ++ held (1 ∷ 10 ∷ 0 ∷ 7 ∷ 2 ∷ 10 ∷ []) (1 ∷ 0 ∷ 0 ∷ 0 ∷ 0 ∷ []) 72 7 2)) (tick 0) 0 (lent (grid 4 1 1 2) hundreds (six 0 17 25 30 0 6 ++ six 12 7 11 13 17 17) (held (2 ∷ 7 ∷ 0 ∷ 7 ∷ 1 ∷ 3 ∷ 8 ∷ 1 ∷ 4 ∷ []) (1 ∷ 0 ∷ 0 ∷ 0 ∷ 0 ∷ []) 100 18 40 ++ held (1 ∷ 10 ∷ 0 ∷ 7 ∷ 2 ∷ 10 ∷ []) (1 ∷ 0 ∷ 0 ∷ 0 ∷ 0 ∷ []) 72 7 2)) ∷
    leaves "y8-69 tick 2" (lent (grid 4 1 1 2) hundreds (six 0 17 25 30 0 6 ++ six 12 7 11 13 17 17) (held (2 ∷ 7 ∷ 0 ∷ 7 ∷ 1 ∷ 3 ∷ 8 ∷ 1 ∷ 4 ∷ []) (1 ∷ 0 ∷ 0 ∷ 0 ∷ 0 ∷ []) 100 18 40 ++ held (1 ∷ 10 ∷ 0 ∷ 7 ∷ 2 ∷ 10 ∷ []) (1 ∷ 0 ∷ 0 ∷ 0 ∷ 0 ∷ []) 72 7 2)) (tick 1) 0 (lent (grid 4 1 1 2) hundreds (six 0 17 25 30 0 6 ++ six 12 7 21 13 17 17) (held (2 ∷ 7 ∷ 0 ∷ 7 ∷ 1 ∷ 3 ∷ 8 ∷ 1 ∷ 4 ∷ []) (1 ∷ 0 ∷ 0 ∷ 0 ∷ 0 ∷ []) 100 18 40 ++ held (1 ∷ 10 ∷ 0 ∷ 7 ∷ 2 ∷ 10 ∷ []) (1 ∷ 0 ∷ 0 ∷ 0 ∷ 0 ∷ []) 72 17 2)) ∷
    leaves "y8-69 tick 3" (lent (grid 4 1 1 2) hundreds (six 0 17 25 30 0 6 ++ six 12 7 21 13 17 17) (held (2 ∷ 7 ∷ 0 ∷ 7 ∷ 1 ∷ 3 ∷ 8 ∷ 1 ∷ 4 ∷ []) (1 ∷ 0 ∷ 0 ∷ 0 ∷ 0 ∷ []) 100 18 40 ++ held (1 ∷ 10 ∷ 0 ∷ 7 ∷ 2 ∷ 10 ∷ []) (1 ∷ 0 ∷ 0 ∷ 0 ∷ 0 ∷ []) 72 17 2)) (tick 0) 0 (lent (grid 4 1 1 2) hundreds (six 0 24 25 30 0 6 ++ six 12 7 21 13 17 17) (held (2 ∷ 7 ∷ 0 ∷ 7 ∷ 1 ∷ 3 ∷ 8 ∷ 1 ∷ 4 ∷ []) (1 ∷ 0 ∷ 0 ∷ 0 ∷ 0 ∷ []) 100 25 40 ++ held (1 ∷ 10 ∷ 0 ∷ 7 ∷ 2 ∷ 10 ∷ []) (1 ∷ 0 ∷ 0 ∷ 0 ∷ 0 ∷ []) 72 17 2)) ∷
    leaves "y8-69 remove emitter" (lent (grid 4 1 1 2) hundreds (six 0 24 25 30 0 6 ++ six 12 7 21 13 17 17) (held (2 ∷ 7 ∷ 0 ∷ 7 ∷ 1 ∷ 3 ∷ 8 ∷ 1 ∷ 4 ∷ []) (1 ∷ 0 ∷ 0 ∷ 0 ∷ 0 ∷ []) 100 25 40 ++ held (1 ∷ 10 ∷ 0 ∷ 7 ∷ 2 ∷ 10 ∷ []) (1 ∷ 0 ∷ 0 ∷ 0 ∷ 0 ∷ []) 72 17 2)) (remove_emitter 0 7) 0 (lent (grid 4 1 1 2) hundreds (six 0 24 25 30 0 6 ++ six 12 7 21 13 17 17) (held (1 ∷ 4 ∷ 0 ∷ 8 ∷ 1 ∷ 4 ∷ []) (1 ∷ 0 ∷ 0 ∷ 0 ∷ 0 ∷ []) 100 25 40 ++ held (1 ∷ 10 ∷ 0 ∷ 7 ∷ 2 ∷ 10 ∷ []) (1 ∷ 0 ∷ 0 ∷ 0 ∷ 0 ∷ []) 72 17 2)) ∷
    leaves "y8-69 tick 4" (lent (grid 4 1 1 2) hundreds (six 0 24 25 30 0 6 ++ six 12 7 21 13 17 17) (held (1 ∷ 4 ∷ 0 ∷ 8 ∷ 1 ∷ 4 ∷ []) (1 ∷ 0 ∷ 0 ∷ 0 ∷ 0 ∷ []) 100 25 40 ++ held (1 ∷ 10 ∷ 0 ∷ 7 ∷ 2 ∷ 10 ∷ []) (1 ∷ 0 ∷ 0 ∷ 0 ∷ 0 ∷ []) 72 17 2)) (tick 0) 0 (lent (grid 4 1 1 2) hundreds (six 0 28 25 30 0 6 ++ six 12 7 21 13 17 17) (held (1 ∷ 4 ∷ 0 ∷ 8 ∷ 1 ∷ 4 ∷ []) (1 ∷ 0 ∷ 0 ∷ 0 ∷ 0 ∷ []) 100 29 40 ++ held (1 ∷ 10 ∷ 0 ∷ 7 ∷ 2 ∷ 10 ∷ []) (1 ∷ 0 ∷ 0 ∷ 0 ∷ 0 ∷ []) 72 17 2)) ∷
    leaves "y8-69 withdrawal 3" (lent (grid 4 1 1 2) hundreds (six 0 28 25 30 0 6 ++ six 12 7 21 13 17 17) (held (1 ∷ 4 ∷ 0 ∷ 8 ∷ 1 ∷ 4 ∷ []) (1 ∷ 0 ∷ 0 ∷ 0 ∷ 0 ∷ []) 100 29 40 ++ held (1 ∷ 10 ∷ 0 ∷ 7 ∷ 2 ∷ 10 ∷ []) (1 ∷ 0 ∷ 0 ∷ 0 ∷ 0 ∷ []) 72 17 2)) (withdrawal 0 1 9) 0 (lent (grid 4 1 1 2) hundreds (six 0 19 25 30 0 6 ++ six 12 7 21 13 17 17) (held (1 ∷ 4 ∷ 0 ∷ 8 ∷ 1 ∷ 4 ∷ []) (1 ∷ 0 ∷ 0 ∷ 0 ∷ 0 ∷ []) 100 29 49 ++ held (1 ∷ 10 ∷ 0 ∷ 7 ∷ 2 ∷ 10 ∷ []) (1 ∷ 0 ∷ 0 ∷ 0 ∷ 0 ∷ []) 72 17 2)) ∷
    leaves "y8-69 load 2" (lent (grid 4 1 1 2) hundreds (six 0 19 25 30 0 6 ++ six 12 7 21 13 17 17) (held (1 ∷ 4 ∷ 0 ∷ 8 ∷ 1 ∷ 4 ∷ []) (1 ∷ 0 ∷ 0 ∷ 0 ∷ 0 ∷ []) 100 29 49 ++ held (1 ∷ 10 ∷ 0 ∷ 7 ∷ 2 ∷ 10 ∷ []) (1 ∷ 0 ∷ 0 ∷ 0 ∷ 0 ∷ []) 72 17 2)) load 0 (lent (grid 4 1 1 2) hundreds (six 0 19 25 30 0 6 ++ six 12 7 21 13 17 17) (plain 80 0 0 ++ plain 87 0 0)) ∷
    -- y8-70: the same amount emitted and withdrawn stands in both sums
    leaves "y8-70 emission" (lent (grid 4 1 1 1) hundreds (six 0 10 20 30 40 0) (plain 100 0 0)) (emission 0 0 30) 0 (lent (grid 4 1 1 1) hundreds (six 30 10 20 30 40 0) (plain 100 30 0)) ∷
    leaves "y8-70 withdrawal" (lent (grid 4 1 1 1) hundreds (six 30 10 20 30 40 0) (plain 100 30 0)) (withdrawal 0 0 30) 0 (lent (grid 4 1 1 1) hundreds (six 0 10 20 30 40 0) (plain 100 30 30)) ∷
    leaves "y8-70 emission 2" (lent (grid 4 1 1 1) hundreds (six 0 10 20 30 40 0) (plain 100 30 30)) (emission 0 5 1) 0 (lent (grid 4 1 1 1) hundreds (six 0 10 20 30 40 1) (plain 100 31 30)) ∷
    leaves "y8-70 withdrawal 2" (lent (grid 4 1 1 1) hundreds (six 0 10 20 30 40 1) (plain 100 31 30)) (withdrawal 0 5 1) 0 (lent (grid 4 1 1 1) hundreds (six 0 10 20 30 40 0) (plain 100 31 31)) ∷
    -- y8-72: sweeps, the count call and a remap leave the books
    leaves "y8-72 zonal" (lent (grid 4 1 1 2) hundreds (six 0 10 20 30 40 0 ++ six 5 7 11 13 17 19) (plain 60 50 10 ++ plain 40 50 18)) (zonal 0 0 (four (pos 0) (pos 50) (pos 0) (pos 0))) 1 (lent (grid 4 1 1 2) (six 100 100 50 150 100 100) (six 0 10 9 41 40 0 ++ six 5 7 6 18 17 19) (plain 60 50 10 ++ plain 40 50 18)) ∷
    leaves "y8-72 long zonal" (lent (grid 4 1 1 2) (six 100 100 50 150 100 100) (six 0 10 9 41 40 0 ++ six 5 7 6 18 17 19) (plain 60 50 10 ++ plain 40 50 18)) (long_zonal 0 0 (four (pos 0) (neg_ℤ (pos 20)) (pos 0) (pos 0))) 0 (lent (grid 4 1 1 2) (six 100 100 70 130 100 100) (six 0 10 13 37 40 0 ++ six 5 7 8 16 17 19) (plain 60 50 10 ++ plain 40 50 18)) ∷
    reads "y8-72 count zonal" (lent (grid 4 1 1 2) (six 100 100 70 130 100 100) (six 0 10 13 37 40 0 ++ six 5 7 8 16 17 19) (plain 60 50 10 ++ plain 40 50 18)) (count_zonal 0 0 (four (pos 150) (pos 150) (pos 150) (pos 150))) 3 ∷
    leaves "y8-72 zonal with count" (lent (grid 4 1 1 2) (six 100 100 70 130 100 100) (six 0 10 13 37 40 0 ++ six 5 7 8 16 17 19) (plain 60 50 10 ++ plain 40 50 18)) (zonal_with_count 0 0 1 (four (pos 9) (pos 9) (pos 9) (pos 9))) 1 (lent (grid 4 1 1 2) (six 100 100 70 130 100 100) (six 0 13 11 36 40 0 ++ six 5 8 7 16 17 19) (plain 60 50 10 ++ plain 40 50 18)) ∷
    leaves "y8-72 meridional" (lent (grid 4 1 1 2) (six 100 100 70 130 100 100) (six 0 13 11 36 40 0 ++ six 5 8 7 16 17 19) (plain 60 50 10 ++ plain 40 50 18)) (meridional 0 (four (pos 0) (neg_ℤ (pos 9)) (pos 0) (pos 0) ++ four (pos 0) (pos 9) (pos 0) (pos 0))) 1 (lent (grid 4 1 1 2) (six 109 100 52 130 100 109) (six 1 13 9 36 40 1 ++ six 5 8 6 16 17 20) (plain 60 50 10 ++ plain 40 50 18)) ∷
    reads "y8-72 remap" (lent (grid 4 1 1 2) (six 109 100 52 130 100 109) (six 1 13 9 36 40 1 ++ six 5 8 6 16 17 20) (plain 60 50 10 ++ plain 40 50 18)) (remap (0 ∷ 0 ∷ 0 ∷ 65536 ∷ [])) 6 ∷
    reads "y8-72 total" (lent (grid 4 1 1 2) (six 109 100 52 130 100 109) (six 1 13 9 36 40 1 ++ six 5 8 6 16 17 20) (plain 60 50 10 ++ plain 40 50 18)) (total 0) 100 ∷
    reads "y8-72 total 2" (lent (grid 4 1 1 2) (six 109 100 52 130 100 109) (six 1 13 9 36 40 1 ++ six 5 8 6 16 17 20) (plain 60 50 10 ++ plain 40 50 18)) (total 1) 72 ∷
    -- y8-73: emitters, limiters and readings leave the books
    leaves "y8-73 add emitter" (lent (grid 4 1 1 2) hundreds (six 0 10 20 30 40 0 ++ six 5 7 11 13 17 19) (plain 60 50 10 ++ plain 40 50 18)) (add_emitter 1 2 7 9) 0 (lent (grid 4 1 1 2) hundreds (six 0 10 20 30 40 0 ++ six 5 7 11 13 17 19) (plain 60 50 10 ++ held (1 ∷ 9 ∷ 0 ∷ 7 ∷ 2 ∷ 9 ∷ []) (1 ∷ 0 ∷ 0 ∷ 0 ∷ 0 ∷ []) 40 50 18)) ∷
    leaves "y8-73 remove emitter" (lent (grid 4 1 1 2) hundreds (six 0 10 20 30 40 0 ++ six 5 7 11 13 17 19) (plain 60 50 10 ++ held (1 ∷ 9 ∷ 0 ∷ 7 ∷ 2 ∷ 9 ∷ []) (1 ∷ 0 ∷ 0 ∷ 0 ∷ 0 ∷ []) 40 50 18)) (remove_emitter 1 7) 0 (lent (grid 4 1 1 2) hundreds (six 0 10 20 30 40 0 ++ six 5 7 11 13 17 19) (plain 60 50 10 ++ plain 40 50 18)) ∷
    leaves "y8-73 set limiter" (lent (grid 4 1 1 2) hundreds (six 0 10 20 30 40 0 ++ six 5 7 11 13 17 19) (plain 60 50 10 ++ plain 40 50 18)) (set_limiter 1 3 4294967301 38654705670) 0 (lent (grid 4 1 1 2) hundreds (six 0 10 20 30 40 0 ++ six 5 7 11 13 17 19) (plain 60 50 10 ++ held [] (3 ∷ 5 ∷ 1 ∷ 6 ∷ 9 ∷ []) 40 50 18)) ∷
    reads "y8-73 total" (lent (grid 4 1 1 2) hundreds (six 0 10 20 30 40 0 ++ six 5 7 11 13 17 19) (plain 60 50 10 ++ held [] (3 ∷ 5 ∷ 1 ∷ 6 ∷ 9 ∷ []) 40 50 18)) (total 1) 72 ∷
    reads "y8-73 cell" (lent (grid 4 1 1 2) hundreds (six 0 10 20 30 40 0 ++ six 5 7 11 13 17 19) (plain 60 50 10 ++ held [] (3 ∷ 5 ∷ 1 ∷ 6 ∷ 9 ∷ []) 40 50 18)) (cell 1 2) 11 ∷
    reads "y8-73 units a tick" (lent (grid 4 1 1 2) hundreds (six 0 10 20 30 40 0 ++ six 5 7 11 13 17 19) (plain 60 50 10 ++ held [] (3 ∷ 5 ∷ 1 ∷ 6 ∷ 9 ∷ []) 40 50 18)) (units_a_tick 1) 0 ∷
    -- y8-74: refused emissions, withdrawals and ticks book nothing: by 5, by 6 and 7, by a false record of emitters
    leaves "y8-74 add emitter" (lent (grid 4 1 1 2) hundreds (six 0 10 20 30 40 0 ++ six 5 7 11 13 17 19) (plain 60 50 10 ++ plain 40 50 18)) (add_emitter 0 1 7 268435356) 0 (lent (grid 4 1 1 2) hundreds (six 0 10 20 30 40 0 ++ six 5 7 11 13 17 19) (held (1 ∷ 268435356 ∷ 0 ∷ 7 ∷ 1 ∷ 268435356 ∷ []) (1 ∷ 0 ∷ 0 ∷ 0 ∷ 0 ∷ []) 60 50 10 ++ plain 40 50 18)) ∷
    refuses "y8-74 emission" (lent (grid 4 1 1 2) hundreds (six 0 10 20 30 40 0 ++ six 5 7 11 13 17 19) (held (1 ∷ 268435356 ∷ 0 ∷ 7 ∷ 1 ∷ 268435356 ∷ []) (1 ∷ 0 ∷ 0 ∷ 0 ∷ 0 ∷ []) 60 50 10 ++ plain 40 50 18)) (emission 2 0 5) 5 ∷
    refuses "y8-74 emission 2" (lent (grid 4 1 1 2) hundreds (six 0 10 20 30 40 0 ++ six 5 7 11 13 17 19) (held (1 ∷ 268435356 ∷ 0 ∷ 7 ∷ 1 ∷ 268435356 ∷ []) (1 ∷ 0 ∷ 0 ∷ 0 ∷ 0 ∷ []) 60 50 10 ++ plain 40 50 18)) (emission 0 6 5) 5 ∷
    refuses "y8-74 withdrawal" (lent (grid 4 1 1 2) hundreds (six 0 10 20 30 40 0 ++ six 5 7 11 13 17 19) (held (1 ∷ 268435356 ∷ 0 ∷ 7 ∷ 1 ∷ 268435356 ∷ []) (1 ∷ 0 ∷ 0 ∷ 0 ∷ 0 ∷ []) 60 50 10 ++ plain 40 50 18)) (withdrawal 2 0 5) 5 ∷
    refuses "y8-74 withdrawal 2" (lent (grid 4 1 1 2) hundreds (six 0 10 20 30 40 0 ++ six 5 7 11 13 17 19) (held (1 ∷ 268435356 ∷ 0 ∷ 7 ∷ 1 ∷ 268435356 ∷ []) (1 ∷ 0 ∷ 0 ∷ 0 ∷ 0 ∷ []) 60 50 10 ++ plain 40 50 18)) (withdrawal 0 6 5) 5 ∷
    refuses "y8-74 tick" (lent (grid 4 1 1 2) hundreds (six 0 10 20 30 40 0 ++ six 5 7 11 13 17 19) (held (1 ∷ 268435356 ∷ 0 ∷ 7 ∷ 1 ∷ 268435356 ∷ []) (1 ∷ 0 ∷ 0 ∷ 0 ∷ 0 ∷ []) 60 50 10 ++ plain 40 50 18)) (tick 2) 5 ∷
    refuses "y8-74 emission 3" (lent (grid 4 1 1 2) hundreds (six 0 10 20 30 40 0 ++ six 5 7 11 13 17 19) (held (1 ∷ 268435356 ∷ 0 ∷ 7 ∷ 1 ∷ 268435356 ∷ []) (1 ∷ 0 ∷ 0 ∷ 0 ∷ 0 ∷ []) 60 50 10 ++ plain 40 50 18)) (emission 0 2 268435356) 6 ∷
    refuses "y8-74 withdrawal 3" (lent (grid 4 1 1 2) hundreds (six 0 10 20 30 40 0 ++ six 5 7 11 13 17 19) (held (1 ∷ 268435356 ∷ 0 ∷ 7 ∷ 1 ∷ 268435356 ∷ []) (1 ∷ 0 ∷ 0 ∷ 0 ∷ 0 ∷ []) 60 50 10 ++ plain 40 50 18)) (withdrawal 0 2 21) 7 ∷
    refuses "y8-74 tick 2" (lent (grid 4 1 1 2) hundreds (six 0 10 20 30 40 0 ++ six 5 7 11 13 17 19) (held (1 ∷ 268435356 ∷ 0 ∷ 7 ∷ 1 ∷ 268435356 ∷ []) (1 ∷ 0 ∷ 0 ∷ 0 ∷ 0 ∷ []) 60 50 10 ++ plain 40 50 18)) (tick 0) 6 ∷
    refuses "y8-74 tick 3" (lent (grid 4 1 1 2) hundreds (six 0 10 20 30 40 0 ++ six 5 7 11 13 17 19) (held (1 ∷ 4 ∷ 0 ∷ 7 ∷ 1 ∷ 3 ∷ []) (1 ∷ 0 ∷ 0 ∷ 0 ∷ 0 ∷ []) 60 50 10 ++ plain 40 50 18)) (tick 0) 5 ∷
    refuses "y8-74 tick 4" (lent (grid 4 1 1 2) hundreds (six 0 10 20 30 40 0 ++ six 5 7 11 13 17 19) (held (1 ∷ 4 ∷ 0 ∷ 7 ∷ 1 ∷ 3 ∷ []) (1 ∷ 0 ∷ 0 ∷ 0 ∷ 0 ∷ []) 60 50 10 ++ plain 40 50 18)) (tick 1) 5 ∷
    -- y8-75: emissions, withdrawals and ticks of the tracers apart, the last of three too
    leaves "y8-75 emission" (lent (grid 4 1 1 3) hundreds (six 0 10 20 30 40 0 ++ six 5 7 11 13 17 19 ++ six 21 22 23 24 25 26) (plain 100 0 0 ++ plain 72 0 0 ++ plain 141 0 0)) (emission 2 5 1000) 0 (lent (grid 4 1 1 3) hundreds (six 0 10 20 30 40 0 ++ six 5 7 11 13 17 19 ++ six 21 22 23 24 25 1026) (plain 100 0 0 ++ plain 72 0 0 ++ plain 141 1000 0)) ∷
    leaves "y8-75 withdrawal" (lent (grid 4 1 1 3) hundreds (six 0 10 20 30 40 0 ++ six 5 7 11 13 17 19 ++ six 21 22 23 24 25 1026) (plain 100 0 0 ++ plain 72 0 0 ++ plain 141 1000 0)) (withdrawal 0 4 3) 0 (lent (grid 4 1 1 3) hundreds (six 0 10 20 30 37 0 ++ six 5 7 11 13 17 19 ++ six 21 22 23 24 25 1026) (plain 100 0 3 ++ plain 72 0 0 ++ plain 141 1000 0)) ∷
    leaves "y8-75 add emitter" (lent (grid 4 1 1 3) hundreds (six 0 10 20 30 37 0 ++ six 5 7 11 13 17 19 ++ six 21 22 23 24 25 1026) (plain 100 0 3 ++ plain 72 0 0 ++ plain 141 1000 0)) (add_emitter 1 0 7 20) 0 (lent (grid 4 1 1 3) hundreds (six 0 10 20 30 37 0 ++ six 5 7 11 13 17 19 ++ six 21 22 23 24 25 1026) (plain 100 0 3 ++ held (1 ∷ 20 ∷ 0 ∷ 7 ∷ 0 ∷ 20 ∷ []) (1 ∷ 0 ∷ 0 ∷ 0 ∷ 0 ∷ []) 72 0 0 ++ plain 141 1000 0)) ∷
    leaves "y8-75 tick" (lent (grid 4 1 1 3) hundreds (six 0 10 20 30 37 0 ++ six 5 7 11 13 17 19 ++ six 21 22 23 24 25 1026) (plain 100 0 3 ++ held (1 ∷ 20 ∷ 0 ∷ 7 ∷ 0 ∷ 20 ∷ []) (1 ∷ 0 ∷ 0 ∷ 0 ∷ 0 ∷ []) 72 0 0 ++ plain 141 1000 0)) (tick 1) 0 (lent (grid 4 1 1 3) hundreds (six 0 10 20 30 37 0 ++ six 25 7 11 13 17 19 ++ six 21 22 23 24 25 1026) (plain 100 0 3 ++ held (1 ∷ 20 ∷ 0 ∷ 7 ∷ 0 ∷ 20 ∷ []) (1 ∷ 0 ∷ 0 ∷ 0 ∷ 0 ∷ []) 72 20 0 ++ plain 141 1000 0)) ∷
    leaves "y8-75 withdrawal 2" (lent (grid 4 1 1 3) hundreds (six 0 10 20 30 37 0 ++ six 25 7 11 13 17 19 ++ six 21 22 23 24 25 1026) (plain 100 0 3 ++ held (1 ∷ 20 ∷ 0 ∷ 7 ∷ 0 ∷ 20 ∷ []) (1 ∷ 0 ∷ 0 ∷ 0 ∷ 0 ∷ []) 72 20 0 ++ plain 141 1000 0)) (withdrawal 2 0 21) 0 (lent (grid 4 1 1 3) hundreds (six 0 10 20 30 37 0 ++ six 25 7 11 13 17 19 ++ six 0 22 23 24 25 1026) (plain 100 0 3 ++ held (1 ∷ 20 ∷ 0 ∷ 7 ∷ 0 ∷ 20 ∷ []) (1 ∷ 0 ∷ 0 ∷ 0 ∷ 0 ∷ []) 72 20 0 ++ plain 141 1000 21)) ∷
    leaves "y8-75 emission 2" (lent (grid 4 1 1 3) hundreds (six 0 10 20 30 37 0 ++ six 25 7 11 13 17 19 ++ six 0 22 23 24 25 1026) (plain 100 0 3 ++ held (1 ∷ 20 ∷ 0 ∷ 7 ∷ 0 ∷ 20 ∷ []) (1 ∷ 0 ∷ 0 ∷ 0 ∷ 0 ∷ []) 72 20 0 ++ plain 141 1000 21)) (emission 1 1 300) 0 (lent (grid 4 1 1 3) hundreds (six 0 10 20 30 37 0 ++ six 25 307 11 13 17 19 ++ six 0 22 23 24 25 1026) (plain 100 0 3 ++ held (1 ∷ 20 ∷ 0 ∷ 7 ∷ 0 ∷ 20 ∷ []) (1 ∷ 0 ∷ 0 ∷ 0 ∷ 0 ∷ []) 72 320 0 ++ plain 141 1000 21)) ∷
    reads "y8-75 total" (lent (grid 4 1 1 3) hundreds (six 0 10 20 30 37 0 ++ six 25 307 11 13 17 19 ++ six 0 22 23 24 25 1026) (plain 100 0 3 ++ held (1 ∷ 20 ∷ 0 ∷ 7 ∷ 0 ∷ 20 ∷ []) (1 ∷ 0 ∷ 0 ∷ 0 ∷ 0 ∷ []) 72 320 0 ++ plain 141 1000 21)) (total 0) 97 ∷
    reads "y8-75 total 2" (lent (grid 4 1 1 3) hundreds (six 0 10 20 30 37 0 ++ six 25 307 11 13 17 19 ++ six 0 22 23 24 25 1026) (plain 100 0 3 ++ held (1 ∷ 20 ∷ 0 ∷ 7 ∷ 0 ∷ 20 ∷ []) (1 ∷ 0 ∷ 0 ∷ 0 ∷ 0 ∷ []) 72 320 0 ++ plain 141 1000 21)) (total 1) 392 ∷
    reads "y8-75 total 3" (lent (grid 4 1 1 3) hundreds (six 0 10 20 30 37 0 ++ six 25 307 11 13 17 19 ++ six 0 22 23 24 25 1026) (plain 100 0 3 ++ held (1 ∷ 20 ∷ 0 ∷ 7 ∷ 0 ∷ 20 ∷ []) (1 ∷ 0 ∷ 0 ∷ 0 ∷ 0 ∷ []) 72 320 0 ++ plain 141 1000 21)) (total 2) 1120 ∷
    -- y8-78: loaded at 0, emission and withdrawal of 268435455 in turn: the 17th emission is 6; then 16 is 6, 15 is accepted, then 1 is 6 and 0 accepted
    reads "y8-78 load" (lent (grid 4 1 1 1) hundreds (six 0 0 0 0 0 0) (plain 0 0 0)) load 0 ∷
    leaves "y8-78 emission" (lent (grid 4 1 1 1) hundreds (six 0 0 0 0 0 0) (plain 0 0 0)) (emission 0 2 268435455) 0 (lent (grid 4 1 1 1) hundreds (six 0 0 268435455 0 0 0) (plain 0 268435455 0)) ∷
    leaves "y8-78 withdrawal" (lent (grid 4 1 1 1) hundreds (six 0 0 268435455 0 0 0) (plain 0 268435455 0)) (withdrawal 0 2 268435455) 0 (lent (grid 4 1 1 1) hundreds (six 0 0 0 0 0 0) (plain 0 268435455 268435455)) ∷
    leaves "y8-78 emission 2" (lent (grid 4 1 1 1) hundreds (six 0 0 0 0 0 0) (plain 0 268435455 268435455)) (emission 0 2 268435455) 0 (lent (grid 4 1 1 1) hundreds (six 0 0 268435455 0 0 0) (plain 0 536870910 268435455)) ∷
    leaves "y8-78 withdrawal 2" (lent (grid 4 1 1 1) hundreds (six 0 0 268435455 0 0 0) (plain 0 536870910 268435455)) (withdrawal 0 2 268435455) 0 (lent (grid 4 1 1 1) hundreds (six 0 0 0 0 0 0) (plain 0 536870910 536870910)) ∷
    leaves "y8-78 emission 3" (lent (grid 4 1 1 1) hundreds (six 0 0 0 0 0 0) (plain 0 536870910 536870910)) (emission 0 2 268435455) 0 (lent (grid 4 1 1 1) hundreds (six 0 0 268435455 0 0 0) (plain 0 805306365 536870910)) ∷
    leaves "y8-78 withdrawal 3" (lent (grid 4 1 1 1) hundreds (six 0 0 268435455 0 0 0) (plain 0 805306365 536870910)) (withdrawal 0 2 268435455) 0 (lent (grid 4 1 1 1) hundreds (six 0 0 0 0 0 0) (plain 0 805306365 805306365)) ∷
    leaves "y8-78 emission 4" (lent (grid 4 1 1 1) hundreds (six 0 0 0 0 0 0) (plain 0 805306365 805306365)) (emission 0 2 268435455) 0 (lent (grid 4 1 1 1) hundreds (six 0 0 268435455 0 0 0) (plain 0 1073741820 805306365)) ∷
    leaves "y8-78 withdrawal 4" (lent (grid 4 1 1 1) hundreds (six 0 0 268435455 0 0 0) (plain 0 1073741820 805306365)) (withdrawal 0 2 268435455) 0 (lent (grid 4 1 1 1) hundreds (six 0 0 0 0 0 0) (plain 0 1073741820 1073741820)) ∷
    leaves "y8-78 emission 5" (lent (grid 4 1 1 1) hundreds (six 0 0 0 0 0 0) (plain 0 1073741820 1073741820)) (emission 0 2 268435455) 0 (lent (grid 4 1 1 1) hundreds (six 0 0 268435455 0 0 0) (plain 0 1342177275 1073741820)) ∷
    leaves "y8-78 withdrawal 5" (lent (grid 4 1 1 1) hundreds (six 0 0 268435455 0 0 0) (plain 0 1342177275 1073741820)) (withdrawal 0 2 268435455) 0 (lent (grid 4 1 1 1) hundreds (six 0 0 0 0 0 0) (plain 0 1342177275 1342177275)) ∷
    leaves "y8-78 emission 6" (lent (grid 4 1 1 1) hundreds (six 0 0 0 0 0 0) (plain 0 1342177275 1342177275)) (emission 0 2 268435455) 0 (lent (grid 4 1 1 1) hundreds (six 0 0 268435455 0 0 0) (plain 0 1610612730 1342177275)) ∷
    leaves "y8-78 withdrawal 6" (lent (grid 4 1 1 1) hundreds (six 0 0 268435455 0 0 0) (plain 0 1610612730 1342177275)) (withdrawal 0 2 268435455) 0 (lent (grid 4 1 1 1) hundreds (six 0 0 0 0 0 0) (plain 0 1610612730 1610612730)) ∷
    leaves "y8-78 emission 7" (lent (grid 4 1 1 1) hundreds (six 0 0 0 0 0 0) (plain 0 1610612730 1610612730)) (emission 0 2 268435455) 0 (lent (grid 4 1 1 1) hundreds (six 0 0 268435455 0 0 0) (plain 0 1879048185 1610612730)) ∷
    leaves "y8-78 withdrawal 7" (lent (grid 4 1 1 1) hundreds (six 0 0 268435455 0 0 0) (plain 0 1879048185 1610612730)) (withdrawal 0 2 268435455) 0 (lent (grid 4 1 1 1) hundreds (six 0 0 0 0 0 0) (plain 0 1879048185 1879048185)) ∷
    leaves "y8-78 emission 8" (lent (grid 4 1 1 1) hundreds (six 0 0 0 0 0 0) (plain 0 1879048185 1879048185)) (emission 0 2 268435455) 0 (lent (grid 4 1 1 1) hundreds (six 0 0 268435455 0 0 0) (plain 0 2147483640 1879048185)) ∷
    leaves "y8-78 withdrawal 8" (lent (grid 4 1 1 1) hundreds (six 0 0 268435455 0 0 0) (plain 0 2147483640 1879048185)) (withdrawal 0 2 268435455) 0 (lent (grid 4 1 1 1) hundreds (six 0 0 0 0 0 0) (plain 0 2147483640 2147483640)) ∷
    leaves "y8-78 emission 9" (lent (grid 4 1 1 1) hundreds (six 0 0 0 0 0 0) (plain 0 2147483640 2147483640)) (emission 0 2 268435455) 0 (lent (grid 4 1 1 1) hundreds (six 0 0 268435455 0 0 0) (plain 0 2415919095 2147483640)) ∷
    leaves "y8-78 withdrawal 9" (lent (grid 4 1 1 1) hundreds (six 0 0 268435455 0 0 0) (plain 0 2415919095 2147483640)) (withdrawal 0 2 268435455) 0 (lent (grid 4 1 1 1) hundreds (six 0 0 0 0 0 0) (plain 0 2415919095 2415919095)) ∷
    leaves "y8-78 emission 10" (lent (grid 4 1 1 1) hundreds (six 0 0 0 0 0 0) (plain 0 2415919095 2415919095)) (emission 0 2 268435455) 0 (lent (grid 4 1 1 1) hundreds (six 0 0 268435455 0 0 0) (plain 0 2684354550 2415919095)) ∷
    leaves "y8-78 withdrawal 10" (lent (grid 4 1 1 1) hundreds (six 0 0 268435455 0 0 0) (plain 0 2684354550 2415919095)) (withdrawal 0 2 268435455) 0 (lent (grid 4 1 1 1) hundreds (six 0 0 0 0 0 0) (plain 0 2684354550 2684354550)) ∷
    leaves "y8-78 emission 11" (lent (grid 4 1 1 1) hundreds (six 0 0 0 0 0 0) (plain 0 2684354550 2684354550)) (emission 0 2 268435455) 0 (lent (grid 4 1 1 1) hundreds (six 0 0 268435455 0 0 0) (plain 0 2952790005 2684354550)) ∷
    leaves "y8-78 withdrawal 11" (lent (grid 4 1 1 1) hundreds (six 0 0 268435455 0 0 0) (plain 0 2952790005 2684354550)) (withdrawal 0 2 268435455) 0 (lent (grid 4 1 1 1) hundreds (six 0 0 0 0 0 0) (plain 0 2952790005 2952790005)) ∷
    leaves "y8-78 emission 12" (lent (grid 4 1 1 1) hundreds (six 0 0 0 0 0 0) (plain 0 2952790005 2952790005)) (emission 0 2 268435455) 0 (lent (grid 4 1 1 1) hundreds (six 0 0 268435455 0 0 0) (plain 0 3221225460 2952790005)) ∷
    leaves "y8-78 withdrawal 12" (lent (grid 4 1 1 1) hundreds (six 0 0 268435455 0 0 0) (plain 0 3221225460 2952790005)) (withdrawal 0 2 268435455) 0 (lent (grid 4 1 1 1) hundreds (six 0 0 0 0 0 0) (plain 0 3221225460 3221225460)) ∷
    leaves "y8-78 emission 13" (lent (grid 4 1 1 1) hundreds (six 0 0 0 0 0 0) (plain 0 3221225460 3221225460)) (emission 0 2 268435455) 0 (lent (grid 4 1 1 1) hundreds (six 0 0 268435455 0 0 0) (plain 0 3489660915 3221225460)) ∷
    leaves "y8-78 withdrawal 13" (lent (grid 4 1 1 1) hundreds (six 0 0 268435455 0 0 0) (plain 0 3489660915 3221225460)) (withdrawal 0 2 268435455) 0 (lent (grid 4 1 1 1) hundreds (six 0 0 0 0 0 0) (plain 0 3489660915 3489660915)) ∷
    leaves "y8-78 emission 14" (lent (grid 4 1 1 1) hundreds (six 0 0 0 0 0 0) (plain 0 3489660915 3489660915)) (emission 0 2 268435455) 0 (lent (grid 4 1 1 1) hundreds (six 0 0 268435455 0 0 0) (plain 0 3758096370 3489660915)) ∷
    leaves "y8-78 withdrawal 14" (lent (grid 4 1 1 1) hundreds (six 0 0 268435455 0 0 0) (plain 0 3758096370 3489660915)) (withdrawal 0 2 268435455) 0 (lent (grid 4 1 1 1) hundreds (six 0 0 0 0 0 0) (plain 0 3758096370 3758096370)) ∷
    leaves "y8-78 emission 15" (lent (grid 4 1 1 1) hundreds (six 0 0 0 0 0 0) (plain 0 3758096370 3758096370)) (emission 0 2 268435455) 0 (lent (grid 4 1 1 1) hundreds (six 0 0 268435455 0 0 0) (plain 0 4026531825 3758096370)) ∷
    leaves "y8-78 withdrawal 15" (lent (grid 4 1 1 1) hundreds (six 0 0 268435455 0 0 0) (plain 0 4026531825 3758096370)) (withdrawal 0 2 268435455) 0 (lent (grid 4 1 1 1) hundreds (six 0 0 0 0 0 0) (plain 0 4026531825 4026531825)) ∷
    leaves "y8-78 emission 16" (lent (grid 4 1 1 1) hundreds (six 0 0 0 0 0 0) (plain 0 4026531825 4026531825)) (emission 0 2 268435455) 0 (lent (grid 4 1 1 1) hundreds (six 0 0 268435455 0 0 0) (plain 0 4294967280 4026531825)) ∷
    leaves "y8-78 withdrawal 16" (lent (grid 4 1 1 1) hundreds (six 0 0 268435455 0 0 0) (plain 0 4294967280 4026531825)) (withdrawal 0 2 268435455) 0 (lent (grid 4 1 1 1) hundreds (six 0 0 0 0 0 0) (plain 0 4294967280 4294967280)) ∷
    refuses "y8-78 emission 17" (lent (grid 4 1 1 1) hundreds (six 0 0 0 0 0 0) (plain 0 4294967280 4294967280)) (emission 0 2 268435455) 6 ∷
    refuses "y8-78 emission 18" (lent (grid 4 1 1 1) hundreds (six 0 0 0 0 0 0) (plain 0 4294967280 4294967280)) (emission 0 2 16) 6 ∷
    leaves "y8-78 emission 19" (lent (grid 4 1 1 1) hundreds (six 0 0 0 0 0 0) (plain 0 4294967280 4294967280)) (emission 0 2 15) 0 (lent (grid 4 1 1 1) hundreds (six 0 0 15 0 0 0) (plain 0 4294967295 4294967280)) ∷
    refuses "y8-78 emission 20" (lent (grid 4 1 1 1) hundreds (six 0 0 15 0 0 0) (plain 0 4294967295 4294967280)) (emission 0 2 1) 6 ∷
    reads "y8-78 emission 21" (lent (grid 4 1 1 1) hundreds (six 0 0 15 0 0 0) (plain 0 4294967295 4294967280)) (emission 0 2 0) 0 ∷
    reads "y8-78 total" (lent (grid 4 1 1 1) hundreds (six 0 0 15 0 0 0) (plain 0 4294967295 4294967280)) (total 0) 15 ∷
    leaves "y8-78 withdrawal 17" (lent (grid 4 1 1 1) hundreds (six 0 0 15 0 0 0) (plain 0 4294967295 4294967280)) (withdrawal 0 2 15) 0 (lent (grid 4 1 1 1) hundreds (six 0 0 0 0 0 0) (plain 0 4294967295 4294967295)) ∷
    reads "y8-78 withdrawal 18" (lent (grid 4 1 1 1) hundreds (six 0 0 0 0 0 0) (plain 0 4294967295 4294967295)) (withdrawal 0 2 0) 0 ∷
    refuses "y8-78 emission 22" (lent (grid 4 1 1 1) hundreds (six 0 0 0 0 0 0) (plain 0 4294967295 4294967295)) (emission 0 2 1) 6 ∷
    reads "y8-78 total 2" (lent (grid 4 1 1 1) hundreds (six 0 0 0 0 0 0) (plain 0 4294967295 4294967295)) (total 0) 0 ∷
    -- y8-79: loaded at 268435455, withdrawal and emission in turn: the 17th withdrawal is 7; then 16 is 7, 15 is accepted, then 1 is 7 and 0 accepted
    reads "y8-79 load" (lent (grid 4 1 1 1) hundreds (six 0 0 268435455 0 0 0) (plain 268435455 0 0)) load 0 ∷
    leaves "y8-79 withdrawal" (lent (grid 4 1 1 1) hundreds (six 0 0 268435455 0 0 0) (plain 268435455 0 0)) (withdrawal 0 2 268435455) 0 (lent (grid 4 1 1 1) hundreds (six 0 0 0 0 0 0) (plain 268435455 0 268435455)) ∷
    leaves "y8-79 emission" (lent (grid 4 1 1 1) hundreds (six 0 0 0 0 0 0) (plain 268435455 0 268435455)) (emission 0 2 268435455) 0 (lent (grid 4 1 1 1) hundreds (six 0 0 268435455 0 0 0) (plain 268435455 268435455 268435455)) ∷
    leaves "y8-79 withdrawal 2" (lent (grid 4 1 1 1) hundreds (six 0 0 268435455 0 0 0) (plain 268435455 268435455 268435455)) (withdrawal 0 2 268435455) 0 (lent (grid 4 1 1 1) hundreds (six 0 0 0 0 0 0) (plain 268435455 268435455 536870910)) ∷
    leaves "y8-79 emission 2" (lent (grid 4 1 1 1) hundreds (six 0 0 0 0 0 0) (plain 268435455 268435455 536870910)) (emission 0 2 268435455) 0 (lent (grid 4 1 1 1) hundreds (six 0 0 268435455 0 0 0) (plain 268435455 536870910 536870910)) ∷
    leaves "y8-79 withdrawal 3" (lent (grid 4 1 1 1) hundreds (six 0 0 268435455 0 0 0) (plain 268435455 536870910 536870910)) (withdrawal 0 2 268435455) 0 (lent (grid 4 1 1 1) hundreds (six 0 0 0 0 0 0) (plain 268435455 536870910 805306365)) ∷
    leaves "y8-79 emission 3" (lent (grid 4 1 1 1) hundreds (six 0 0 0 0 0 0) (plain 268435455 536870910 805306365)) (emission 0 2 268435455) 0 (lent (grid 4 1 1 1) hundreds (six 0 0 268435455 0 0 0) (plain 268435455 805306365 805306365)) ∷
    leaves "y8-79 withdrawal 4" (lent (grid 4 1 1 1) hundreds (six 0 0 268435455 0 0 0) (plain 268435455 805306365 805306365)) (withdrawal 0 2 268435455) 0 (lent (grid 4 1 1 1) hundreds (six 0 0 0 0 0 0) (plain 268435455 805306365 1073741820)) ∷
    leaves "y8-79 emission 4" (lent (grid 4 1 1 1) hundreds (six 0 0 0 0 0 0) (plain 268435455 805306365 1073741820)) (emission 0 2 268435455) 0 (lent (grid 4 1 1 1) hundreds (six 0 0 268435455 0 0 0) (plain 268435455 1073741820 1073741820)) ∷
    leaves "y8-79 withdrawal 5" (lent (grid 4 1 1 1) hundreds (six 0 0 268435455 0 0 0) (plain 268435455 1073741820 1073741820)) (withdrawal 0 2 268435455) 0 (lent (grid 4 1 1 1) hundreds (six 0 0 0 0 0 0) (plain 268435455 1073741820 1342177275)) ∷
    leaves "y8-79 emission 5" (lent (grid 4 1 1 1) hundreds (six 0 0 0 0 0 0) (plain 268435455 1073741820 1342177275)) (emission 0 2 268435455) 0 (lent (grid 4 1 1 1) hundreds (six 0 0 268435455 0 0 0) (plain 268435455 1342177275 1342177275)) ∷
    leaves "y8-79 withdrawal 6" (lent (grid 4 1 1 1) hundreds (six 0 0 268435455 0 0 0) (plain 268435455 1342177275 1342177275)) (withdrawal 0 2 268435455) 0 (lent (grid 4 1 1 1) hundreds (six 0 0 0 0 0 0) (plain 268435455 1342177275 1610612730)) ∷
    leaves "y8-79 emission 6" (lent (grid 4 1 1 1) hundreds (six 0 0 0 0 0 0) (plain 268435455 1342177275 1610612730)) (emission 0 2 268435455) 0 (lent (grid 4 1 1 1) hundreds (six 0 0 268435455 0 0 0) (plain 268435455 1610612730 1610612730)) ∷
    leaves "y8-79 withdrawal 7" (lent (grid 4 1 1 1) hundreds (six 0 0 268435455 0 0 0) (plain 268435455 1610612730 1610612730)) (withdrawal 0 2 268435455) 0 (lent (grid 4 1 1 1) hundreds (six 0 0 0 0 0 0) (plain 268435455 1610612730 1879048185)) ∷
    leaves "y8-79 emission 7" (lent (grid 4 1 1 1) hundreds (six 0 0 0 0 0 0) (plain 268435455 1610612730 1879048185)) (emission 0 2 268435455) 0 (lent (grid 4 1 1 1) hundreds (six 0 0 268435455 0 0 0) (plain 268435455 1879048185 1879048185)) ∷
    leaves "y8-79 withdrawal 8" (lent (grid 4 1 1 1) hundreds (six 0 0 268435455 0 0 0) (plain 268435455 1879048185 1879048185)) (withdrawal 0 2 268435455) 0 (lent (grid 4 1 1 1) hundreds (six 0 0 0 0 0 0) (plain 268435455 1879048185 2147483640)) ∷
    leaves "y8-79 emission 8" (lent (grid 4 1 1 1) hundreds (six 0 0 0 0 0 0) (plain 268435455 1879048185 2147483640)) (emission 0 2 268435455) 0 (lent (grid 4 1 1 1) hundreds (six 0 0 268435455 0 0 0) (plain 268435455 2147483640 2147483640)) ∷
    leaves "y8-79 withdrawal 9" (lent (grid 4 1 1 1) hundreds (six 0 0 268435455 0 0 0) (plain 268435455 2147483640 2147483640)) (withdrawal 0 2 268435455) 0 (lent (grid 4 1 1 1) hundreds (six 0 0 0 0 0 0) (plain 268435455 2147483640 2415919095)) ∷
    leaves "y8-79 emission 9" (lent (grid 4 1 1 1) hundreds (six 0 0 0 0 0 0) (plain 268435455 2147483640 2415919095)) (emission 0 2 268435455) 0 (lent (grid 4 1 1 1) hundreds (six 0 0 268435455 0 0 0) (plain 268435455 2415919095 2415919095)) ∷
    leaves "y8-79 withdrawal 10" (lent (grid 4 1 1 1) hundreds (six 0 0 268435455 0 0 0) (plain 268435455 2415919095 2415919095)) (withdrawal 0 2 268435455) 0 (lent (grid 4 1 1 1) hundreds (six 0 0 0 0 0 0) (plain 268435455 2415919095 2684354550)) ∷
    leaves "y8-79 emission 10" (lent (grid 4 1 1 1) hundreds (six 0 0 0 0 0 0) (plain 268435455 2415919095 2684354550)) (emission 0 2 268435455) 0 (lent (grid 4 1 1 1) hundreds (six 0 0 268435455 0 0 0) (plain 268435455 2684354550 2684354550)) ∷
    leaves "y8-79 withdrawal 11" (lent (grid 4 1 1 1) hundreds (six 0 0 268435455 0 0 0) (plain 268435455 2684354550 2684354550)) (withdrawal 0 2 268435455) 0 (lent (grid 4 1 1 1) hundreds (six 0 0 0 0 0 0) (plain 268435455 2684354550 2952790005)) ∷
    leaves "y8-79 emission 11" (lent (grid 4 1 1 1) hundreds (six 0 0 0 0 0 0) (plain 268435455 2684354550 2952790005)) (emission 0 2 268435455) 0 (lent (grid 4 1 1 1) hundreds (six 0 0 268435455 0 0 0) (plain 268435455 2952790005 2952790005)) ∷
    leaves "y8-79 withdrawal 12" (lent (grid 4 1 1 1) hundreds (six 0 0 268435455 0 0 0) (plain 268435455 2952790005 2952790005)) (withdrawal 0 2 268435455) 0 (lent (grid 4 1 1 1) hundreds (six 0 0 0 0 0 0) (plain 268435455 2952790005 3221225460)) ∷
    leaves "y8-79 emission 12" (lent (grid 4 1 1 1) hundreds (six 0 0 0 0 0 0) (plain 268435455 2952790005 3221225460)) (emission 0 2 268435455) 0 (lent (grid 4 1 1 1) hundreds (six 0 0 268435455 0 0 0) (plain 268435455 3221225460 3221225460)) ∷
    leaves "y8-79 withdrawal 13" (lent (grid 4 1 1 1) hundreds (six 0 0 268435455 0 0 0) (plain 268435455 3221225460 3221225460)) (withdrawal 0 2 268435455) 0 (lent (grid 4 1 1 1) hundreds (six 0 0 0 0 0 0) (plain 268435455 3221225460 3489660915)) ∷
    leaves "y8-79 emission 13" (lent (grid 4 1 1 1) hundreds (six 0 0 0 0 0 0) (plain 268435455 3221225460 3489660915)) (emission 0 2 268435455) 0 (lent (grid 4 1 1 1) hundreds (six 0 0 268435455 0 0 0) (plain 268435455 3489660915 3489660915)) ∷
    leaves "y8-79 withdrawal 14" (lent (grid 4 1 1 1) hundreds (six 0 0 268435455 0 0 0) (plain 268435455 3489660915 3489660915)) (withdrawal 0 2 268435455) 0 (lent (grid 4 1 1 1) hundreds (six 0 0 0 0 0 0) (plain 268435455 3489660915 3758096370)) ∷
    leaves "y8-79 emission 14" (lent (grid 4 1 1 1) hundreds (six 0 0 0 0 0 0) (plain 268435455 3489660915 3758096370)) (emission 0 2 268435455) 0 (lent (grid 4 1 1 1) hundreds (six 0 0 268435455 0 0 0) (plain 268435455 3758096370 3758096370)) ∷
    leaves "y8-79 withdrawal 15" (lent (grid 4 1 1 1) hundreds (six 0 0 268435455 0 0 0) (plain 268435455 3758096370 3758096370)) (withdrawal 0 2 268435455) 0 (lent (grid 4 1 1 1) hundreds (six 0 0 0 0 0 0) (plain 268435455 3758096370 4026531825)) ∷
    leaves "y8-79 emission 15" (lent (grid 4 1 1 1) hundreds (six 0 0 0 0 0 0) (plain 268435455 3758096370 4026531825)) (emission 0 2 268435455) 0 (lent (grid 4 1 1 1) hundreds (six 0 0 268435455 0 0 0) (plain 268435455 4026531825 4026531825)) ∷
    leaves "y8-79 withdrawal 16" (lent (grid 4 1 1 1) hundreds (six 0 0 268435455 0 0 0) (plain 268435455 4026531825 4026531825)) (withdrawal 0 2 268435455) 0 (lent (grid 4 1 1 1) hundreds (six 0 0 0 0 0 0) (plain 268435455 4026531825 4294967280)) ∷
    leaves "y8-79 emission 16" (lent (grid 4 1 1 1) hundreds (six 0 0 0 0 0 0) (plain 268435455 4026531825 4294967280)) (emission 0 2 268435455) 0 (lent (grid 4 1 1 1) hundreds (six 0 0 268435455 0 0 0) (plain 268435455 4294967280 4294967280)) ∷
    refuses "y8-79 withdrawal 17" (lent (grid 4 1 1 1) hundreds (six 0 0 268435455 0 0 0) (plain 268435455 4294967280 4294967280)) (withdrawal 0 2 268435455) 7 ∷
    refuses "y8-79 withdrawal 18" (lent (grid 4 1 1 1) hundreds (six 0 0 268435455 0 0 0) (plain 268435455 4294967280 4294967280)) (withdrawal 0 2 16) 7 ∷
    leaves "y8-79 withdrawal 19" (lent (grid 4 1 1 1) hundreds (six 0 0 268435455 0 0 0) (plain 268435455 4294967280 4294967280)) (withdrawal 0 2 15) 0 (lent (grid 4 1 1 1) hundreds (six 0 0 268435440 0 0 0) (plain 268435455 4294967280 4294967295)) ∷
    refuses "y8-79 withdrawal 20" (lent (grid 4 1 1 1) hundreds (six 0 0 268435440 0 0 0) (plain 268435455 4294967280 4294967295)) (withdrawal 0 2 1) 7 ∷
    reads "y8-79 withdrawal 21" (lent (grid 4 1 1 1) hundreds (six 0 0 268435440 0 0 0) (plain 268435455 4294967280 4294967295)) (withdrawal 0 2 0) 0 ∷
    reads "y8-79 total" (lent (grid 4 1 1 1) hundreds (six 0 0 268435440 0 0 0) (plain 268435455 4294967280 4294967295)) (total 0) 268435440 ∷
    leaves "y8-79 emission 17" (lent (grid 4 1 1 1) hundreds (six 0 0 268435440 0 0 0) (plain 268435455 4294967280 4294967295)) (emission 0 3 15) 0 (lent (grid 4 1 1 1) hundreds (six 0 0 268435440 15 0 0) (plain 268435455 4294967295 4294967295)) ∷
    reads "y8-79 emission 18" (lent (grid 4 1 1 1) hundreds (six 0 0 268435440 15 0 0) (plain 268435455 4294967295 4294967295)) (emission 0 3 0) 0 ∷
    refuses "y8-79 withdrawal 22" (lent (grid 4 1 1 1) hundreds (six 0 0 268435440 15 0 0) (plain 268435455 4294967295 4294967295)) (withdrawal 0 3 1) 7 ∷
    reads "y8-79 total 2" (lent (grid 4 1 1 1) hundreds (six 0 0 268435440 15 0 0) (plain 268435455 4294967295 4294967295)) (total 0) 268435455 ∷
    []

pub further_book_cases_hold : Hold further_book_cases
unfolding further_book_cases computes
further_book_cases_hold = hold further_book_cases refl
