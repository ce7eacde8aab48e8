-- Cases of y8-1 to y8-80 for document 02, Slip 8: books on the record, as one table with one theorem about `step`: those that edits of the model break. The others are one table in crates/books.
-- Assumes nothing. Inputs, numbers and labels are the second implementation's (reference/cases/books.txt). Cells sum to 100 unless the case says otherwise.
use Rattle.std.specs.Prelude.{ℕ, ◌-◌, List, [], ◌∷◌, ◌++◌, refl, pos, neg_ℤ, length, replicate}
use Prim.Native.String.{String}
use Rattle.model.specs.Basic.{zeros}
use Rattle.model.specs.World.{Grid, World}
use Rattle.model.specs.Step.{Call, load, emission, withdrawal, zonal, long_zonal, meridional, remap, total, cell, add_emitter, remove_emitter, tick, units_a_tick, count_zonal, zonal_with_count, set_limiter}
use Rattle.model.proofs.Cases.{Case, Hold, hold, computes}
use Rattle.model.proofs.Cases.Marked.{grid, four, six, refuses, hundreds}

-- a block: emitters, limiter and book; and one without emitters, with the first limiter
abbrev pub held : List ℕ → List ℕ → ℕ → ℕ → ℕ → List ℕ
held emitters limiter loaded emitted withdrawn = emitters ++ zeros (51 - length emitters) ++ limiter ++ loaded ∷ emitted ∷ withdrawn ∷ []

abbrev pub plain : ℕ → ℕ → ℕ → List ℕ
plain loaded emitted withdrawn = held [] (1 ∷ 0 ∷ 0 ∷ 0 ∷ 0 ∷ []) loaded emitted withdrawn

abbrev pub lent : Grid → List ℕ → List ℕ → List ℕ → World
lent g air tracers ledger = record { grid = g; air = air; tracers = tracers; ledger = ledger }

-- an accepted call that leaves another world, or the same
abbrev pub leaves : String → World → Call → ℕ → World → Case
leaves label w call count next =
    record { label = label; world = w; call = call; expected = record { answer = 0; count = count; next = next } }

abbrev pub reads : String → World → Call → ℕ → Case
reads label w call count = leaves label w call count w

pub book_cases : List Case
book_cases =
    -- y8-3: loaded 0, emitted 0, withdrawn 4294967196: 22; the left side is negative, and 100 if it wraps
    refuses "y8-3 total" (lent (grid 4 1 1 1) hundreds (six 0 10 20 30 40 0) (plain 0 0 4294967196)) (total 0) 22 ∷
    refuses "y8-3 emission" (lent (grid 4 1 1 1) hundreds (six 0 10 20 30 40 0) (plain 0 0 4294967196)) (emission 0 2 5) 22 ∷
    -- y8-4: 4294967295, 101, 0: 22; the left side is 4294967396, and 100 if it wraps
    refuses "y8-4 total" (lent (grid 4 1 1 1) hundreds (six 0 10 20 30 40 0) (plain 4294967295 101 0)) (total 0) 22 ∷
    refuses "y8-4 emission" (lent (grid 4 1 1 1) hundreds (six 0 10 20 30 40 0) (plain 4294967295 101 0)) (emission 0 2 5) 22 ∷
    -- y8-6: 4294967295, 101, 4294967295 with cells 101: accepted, an emission of 1 too, and a withdrawal of 1 is 7
    reads "y8-6 total" (lent (grid 4 1 1 1) hundreds (six 0 10 20 30 41 0) (plain 4294967295 101 4294967295)) (total 0) 101 ∷
    -- y8-17: 22 in every call but a load: loaded one up in tracer 1 of 2, which no call names
    refuses "y8-17 emission" (lent (grid 4 1 1 2) hundreds (six 0 10 20 30 40 0 ++ six 5 7 11 13 17 19) (held (1 ∷ 3 ∷ 0 ∷ 7 ∷ 1 ∷ 3 ∷ []) (1 ∷ 0 ∷ 0 ∷ 0 ∷ 0 ∷ []) 60 50 10 ++ plain 41 50 18)) (emission 0 2 5) 22 ∷
    refuses "y8-17 zonal" (lent (grid 4 1 1 2) hundreds (six 0 10 20 30 40 0 ++ six 5 7 11 13 17 19) (held (1 ∷ 3 ∷ 0 ∷ 7 ∷ 1 ∷ 3 ∷ []) (1 ∷ 0 ∷ 0 ∷ 0 ∷ 0 ∷ []) 60 50 10 ++ plain 41 50 18)) (zonal 0 0 (four (pos 0) (pos 20) (pos 0) (pos 0))) 22 ∷
    refuses "y8-17 remap" (lent (grid 4 1 1 2) hundreds (six 0 10 20 30 40 0 ++ six 5 7 11 13 17 19) (held (1 ∷ 3 ∷ 0 ∷ 7 ∷ 1 ∷ 3 ∷ []) (1 ∷ 0 ∷ 0 ∷ 0 ∷ 0 ∷ []) 60 50 10 ++ plain 41 50 18)) (remap (0 ∷ 0 ∷ 0 ∷ 65536 ∷ [])) 22 ∷
    refuses "y8-17 total" (lent (grid 4 1 1 2) hundreds (six 0 10 20 30 40 0 ++ six 5 7 11 13 17 19) (held (1 ∷ 3 ∷ 0 ∷ 7 ∷ 1 ∷ 3 ∷ []) (1 ∷ 0 ∷ 0 ∷ 0 ∷ 0 ∷ []) 60 50 10 ++ plain 41 50 18)) (total 0) 22 ∷
    -- y8-35: 21 before 22 in the sweeps, the count call and the remap, and no 21 in the other calls: a broken limiter of tracer 0, broken books of tracer 1
    refuses "y8-35 zonal" (lent (grid 4 1 1 2) hundreds (six 0 10 20 30 40 0 ++ six 5 7 11 13 17 19) (held (1 ∷ 3 ∷ 0 ∷ 7 ∷ 1 ∷ 3 ∷ []) (3 ∷ 2 ∷ 0 ∷ 1 ∷ 0 ∷ []) 60 50 10 ++ plain 40 50 17)) (zonal 0 0 (four (pos 0) (pos 20) (pos 0) (pos 0))) 21 ∷
    refuses "y8-35 remap" (lent (grid 4 1 1 2) hundreds (six 0 10 20 30 40 0 ++ six 5 7 11 13 17 19) (held (1 ∷ 3 ∷ 0 ∷ 7 ∷ 1 ∷ 3 ∷ []) (3 ∷ 2 ∷ 0 ∷ 1 ∷ 0 ∷ []) 60 50 10 ++ plain 40 50 17)) (remap (0 ∷ 0 ∷ 0 ∷ 65536 ∷ [])) 21 ∷
    refuses "y8-35 set limiter" (lent (grid 4 1 1 2) hundreds (six 0 10 20 30 40 0 ++ six 5 7 11 13 17 19) (held (1 ∷ 3 ∷ 0 ∷ 7 ∷ 1 ∷ 3 ∷ []) (3 ∷ 2 ∷ 0 ∷ 1 ∷ 0 ∷ []) 60 50 10 ++ plain 40 50 17)) (set_limiter 0 2 0 0) 22 ∷
    -- y8-38: 22 before 5 in every call with an index; after the books are mended 5
    refuses "y8-38 emission" (lent (grid 4 1 1 2) hundreds (six 0 10 20 30 40 0 ++ six 5 7 11 13 17 19) (plain 100 0 0 ++ plain 71 0 0)) (emission 2 0 5) 22 ∷
    refuses "y8-38 emission 2" (lent (grid 4 1 1 2) hundreds (six 0 10 20 30 40 0 ++ six 5 7 11 13 17 19) (plain 100 0 0 ++ plain 71 0 0)) (emission 0 6 5) 22 ∷
    refuses "y8-38 total" (lent (grid 4 1 1 2) hundreds (six 0 10 20 30 40 0 ++ six 5 7 11 13 17 19) (plain 100 0 0 ++ plain 71 0 0)) (total 2) 22 ∷
    refuses "y8-38 emission 3" (lent (grid 4 1 1 2) hundreds (six 0 10 20 30 40 0 ++ six 5 7 11 13 17 19) (plain 100 0 0 ++ plain 72 0 0)) (emission 2 0 5) 5 ∷
    refuses "y8-38 emission 4" (lent (grid 4 1 1 2) hundreds (six 0 10 20 30 40 0 ++ six 5 7 11 13 17 19) (plain 100 0 0 ++ plain 72 0 0)) (emission 0 6 5) 5 ∷
    refuses "y8-38 total 2" (lent (grid 4 1 1 2) hundreds (six 0 10 20 30 40 0 ++ six 5 7 11 13 17 19) (plain 100 0 0 ++ plain 72 0 0)) (total 2) 5 ∷
    -- y8-41: 22 before 11 and 12 in two layers; after the books are mended these
    refuses "y8-41 remap" (lent (grid 4 1 2 1) (replicate 12 100) (six 5 0 10 20 30 5 ++ six 5 7 3 6 4 5) (plain 101 0 0)) (remap (0 ∷ 0 ∷ 0 ∷ 32768 ∷ 0 ∷ 65535 ∷ [])) 22 ∷
    refuses "y8-41 remap 2" (lent (grid 4 1 2 1) (replicate 12 100) (six 5 0 10 20 30 5 ++ six 5 7 3 6 4 5) (plain 101 0 0)) (remap (0 ∷ 0 ∷ 0 ∷ 0 ∷ 0 ∷ 65536 ∷ [])) 22 ∷
    refuses "y8-41 remap 3" (lent (grid 4 1 2 1) (replicate 12 100) (six 5 0 10 20 30 5 ++ six 5 7 3 6 4 5) (plain 101 0 0)) (remap (0 ∷ 0 ∷ 0 ∷ 32768 ∷ 0 ∷ 65536 ∷ [])) 22 ∷
    refuses "y8-41 remap 4" (lent (grid 4 1 2 1) (replicate 12 100) (six 5 0 10 20 30 5 ++ six 5 7 3 6 4 5) (plain 100 0 0)) (remap (0 ∷ 0 ∷ 0 ∷ 32768 ∷ 0 ∷ 65535 ∷ [])) 11 ∷
    refuses "y8-41 remap 5" (lent (grid 4 1 2 1) (replicate 12 100) (six 5 0 10 20 30 5 ++ six 5 7 3 6 4 5) (plain 100 0 0)) (remap (0 ∷ 0 ∷ 0 ∷ 0 ∷ 0 ∷ 65536 ∷ [])) 12 ∷
    reads "y8-41 remap 6" (lent (grid 4 1 2 1) (replicate 12 100) (six 5 0 10 20 30 5 ++ six 5 7 3 6 4 5) (plain 100 0 0)) (remap (0 ∷ 0 ∷ 0 ∷ 32768 ∷ 0 ∷ 65536 ∷ [])) 12 ∷
    -- y8-42: the setting call with broken books, an absent tracer and a broken limiter given: 22; after the books are mended 5; with the tracer present 21; with a good limiter accepted. A broken limiter stands, which it does not test
    refuses "y8-42 set limiter" (lent (grid 4 1 1 2) hundreds (six 0 10 20 30 40 0 ++ six 5 7 11 13 17 19) (plain 100 0 0 ++ held [] (3 ∷ 2 ∷ 0 ∷ 1 ∷ 0 ∷ []) 72 0 1)) (set_limiter 2 0 1 0) 22 ∷
    refuses "y8-42 set limiter 2" (lent (grid 4 1 1 2) hundreds (six 0 10 20 30 40 0 ++ six 5 7 11 13 17 19) (plain 100 0 0 ++ held [] (3 ∷ 2 ∷ 0 ∷ 1 ∷ 0 ∷ []) 72 0 1)) (set_limiter 1 0 1 0) 22 ∷
    refuses "y8-42 set limiter 3" (lent (grid 4 1 1 2) hundreds (six 0 10 20 30 40 0 ++ six 5 7 11 13 17 19) (plain 100 0 0 ++ held [] (3 ∷ 2 ∷ 0 ∷ 1 ∷ 0 ∷ []) 72 0 1)) (set_limiter 1 2 0 0) 22 ∷
    refuses "y8-42 set limiter 4" (lent (grid 4 1 1 2) hundreds (six 0 10 20 30 40 0 ++ six 5 7 11 13 17 19) (plain 100 0 0 ++ held [] (3 ∷ 2 ∷ 0 ∷ 1 ∷ 0 ∷ []) 72 1 1)) (set_limiter 2 0 1 0) 5 ∷
    refuses "y8-42 set limiter 5" (lent (grid 4 1 1 2) hundreds (six 0 10 20 30 40 0 ++ six 5 7 11 13 17 19) (plain 100 0 0 ++ held [] (3 ∷ 2 ∷ 0 ∷ 1 ∷ 0 ∷ []) 72 1 1)) (set_limiter 1 0 1 0) 21 ∷
    leaves "y8-42 set limiter 6" (lent (grid 4 1 1 2) hundreds (six 0 10 20 30 40 0 ++ six 5 7 11 13 17 19) (plain 100 0 0 ++ held [] (3 ∷ 2 ∷ 0 ∷ 1 ∷ 0 ∷ []) 72 1 1)) (set_limiter 1 2 0 0) 0 (lent (grid 4 1 1 2) hundreds (six 0 10 20 30 40 0 ++ six 5 7 11 13 17 19) (plain 100 0 0 ++ held [] (2 ∷ 0 ∷ 0 ∷ 0 ∷ 0 ∷ []) 72 1 1)) ∷
    -- y8-47: a load over broken books of every tracer: accepted; loaded is the total, emitted and withdrawn are 0
    leaves "y8-47 load" (lent (grid 4 1 1 2) hundreds (six 0 10 20 30 40 0 ++ six 5 7 11 13 17 19) (plain 7 8 9 ++ plain 4294967295 4294967295 4294967295)) load 0 (lent (grid 4 1 1 2) hundreds (six 0 10 20 30 40 0 ++ six 5 7 11 13 17 19) (plain 100 0 0 ++ plain 72 0 0)) ∷
    -- y8-54: 10, 4294967290, 4294967290 with cells 10: an emission of 6 is 6, of 5 accepted, then of 1 is 6 and of 0 accepted; a withdrawal of 6 is 7, of 5 accepted, then of 1 is 7 and of 0 accepted
    refuses "y8-54 emission" (lent (grid 4 1 1 1) hundreds (six 0 0 10 0 0 0) (plain 10 4294967290 4294967290)) (emission 0 3 6) 6 ∷
    leaves "y8-54 emission 2" (lent (grid 4 1 1 1) hundreds (six 0 0 10 0 0 0) (plain 10 4294967290 4294967290)) (emission 0 3 5) 0 (lent (grid 4 1 1 1) hundreds (six 0 0 10 5 0 0) (plain 10 4294967295 4294967290)) ∷
    refuses "y8-54 emission 3" (lent (grid 4 1 1 1) hundreds (six 0 0 10 5 0 0) (plain 10 4294967295 4294967290)) (emission 0 3 1) 6 ∷
    reads "y8-54 emission 4" (lent (grid 4 1 1 1) hundreds (six 0 0 10 5 0 0) (plain 10 4294967295 4294967290)) (emission 0 3 0) 0 ∷
    refuses "y8-54 withdrawal" (lent (grid 4 1 1 1) hundreds (six 0 0 10 5 0 0) (plain 10 4294967295 4294967290)) (withdrawal 0 2 6) 7 ∷
    leaves "y8-54 withdrawal 2" (lent (grid 4 1 1 1) hundreds (six 0 0 10 5 0 0) (plain 10 4294967295 4294967290)) (withdrawal 0 2 5) 0 (lent (grid 4 1 1 1) hundreds (six 0 0 5 5 0 0) (plain 10 4294967295 4294967295)) ∷
    refuses "y8-54 withdrawal 3" (lent (grid 4 1 1 1) hundreds (six 0 0 5 5 0 0) (plain 10 4294967295 4294967295)) (withdrawal 0 2 1) 7 ∷
    reads "y8-54 withdrawal 4" (lent (grid 4 1 1 1) hundreds (six 0 0 5 5 0 0) (plain 10 4294967295 4294967295)) (withdrawal 0 2 0) 0 ∷
    reads "y8-54 total" (lent (grid 4 1 1 1) hundreds (six 0 0 5 5 0 0) (plain 10 4294967295 4294967295)) (total 0) 10 ∷
    -- y8-58: 7 by the sum: 4294967280 withdrawn, 15 more are accepted, 16 not, though the cell has 40
    refuses "y8-58 withdrawal" (lent (grid 4 1 1 1) hundreds (six 0 10 20 30 40 0) (plain 100 4294967280 4294967280)) (withdrawal 0 4 16) 7 ∷
    refuses "y8-58 withdrawal 2" (lent (grid 4 1 1 1) hundreds (six 0 10 20 30 40 0) (plain 100 4294967280 4294967280)) (withdrawal 0 4 40) 7 ∷
    leaves "y8-58 withdrawal 3" (lent (grid 4 1 1 1) hundreds (six 0 10 20 30 40 0) (plain 100 4294967280 4294967280)) (withdrawal 0 4 15) 0 (lent (grid 4 1 1 1) hundreds (six 0 10 20 30 25 0) (plain 100 4294967280 4294967295)) ∷
    refuses "y8-58 withdrawal 4" (lent (grid 4 1 1 1) hundreds (six 0 10 20 30 25 0) (plain 100 4294967280 4294967295)) (withdrawal 0 3 1) 7 ∷
    reads "y8-58 withdrawal 5" (lent (grid 4 1 1 1) hundreds (six 0 10 20 30 25 0) (plain 100 4294967280 4294967295)) (withdrawal 0 3 0) 0 ∷
    -- y8-65: a tick of 6 units there: 6, whole, though each of the two emitters would fit alone
    refuses "y8-65 tick" (lent (grid 4 1 1 1) hundreds (six 0 10 20 30 40 0) (held (2 ∷ 6 ∷ 0 ∷ 7 ∷ 1 ∷ 3 ∷ 8 ∷ 3 ∷ 3 ∷ []) (1 ∷ 0 ∷ 0 ∷ 0 ∷ 0 ∷ []) 100 4294967290 4294967290)) (tick 0) 6 ∷
    leaves "y8-65 tick 2" (lent (grid 4 1 1 1) hundreds (six 0 10 20 30 40 0) (held (1 ∷ 3 ∷ 0 ∷ 7 ∷ 1 ∷ 3 ∷ []) (1 ∷ 0 ∷ 0 ∷ 0 ∷ 0 ∷ []) 100 4294967290 4294967290)) (tick 0) 0 (lent (grid 4 1 1 1) hundreds (six 0 13 20 30 40 0) (held (1 ∷ 3 ∷ 0 ∷ 7 ∷ 1 ∷ 3 ∷ []) (1 ∷ 0 ∷ 0 ∷ 0 ∷ 0 ∷ []) 100 4294967293 4294967290)) ∷
    []

pub book_cases_hold : Hold book_cases
unfolding book_cases computes
book_cases_hold = hold book_cases refl
