-- Request 2 of document 02, the emitters: cases as one table with one theorem about `step`. The numbers are the second implementation's (reference/cases/emitters.txt, same labels).
-- Assumes nothing.
use Rattle.std.specs.Prelude.{ℕ, ◌+◌, ◌-◌, ◌%◌, List, [], ◌∷◌, ◌++◌, refl, pos, neg_ℤ, length, set}
use Prim.Native.String.{String}
use Rattle.model.specs.Basic.{joined, tab, zeros}
use Rattle.model.specs.World.{World, with_amounts, with_ledger}
use Rattle.model.specs.Step.{Call, load, emission, withdrawal, zonal, long_zonal, meridional, remap, total, cell, add_emitter, remove_emitter, tick, units_a_tick}
use Rattle.model.proofs.Cases.{Case, Hold, hold, computes, on_record, exchanging}
use Rattle.model.proofs.Cases.Marked.{grid, four, six, hundreds, refuses}

-- ---- ledgers
-- an emitter: id, cell, units a tick
abbrev one : ℕ → ℕ → ℕ → List ℕ
one id c units = id ∷ c ∷ units ∷ []

-- a block of 56 numbers, without its book: how many stand, the two halves of their sum, the emitters, and 0; then the first limiter
abbrev holding : ℕ → ℕ → ℕ → List (List ℕ) → List ℕ
holding n low high emitters =
    let numbers : List ℕ = joined emitters in
    n ∷ low ∷ high ∷ numbers ++ zeros (48 - length numbers) ++ 1 ∷ 0 ∷ 0 ∷ 0 ∷ 0 ∷ []

abbrev none : List ℕ
none = holding 0 0 0 []

abbrev single : List ℕ
single = holding 1 250 0 (one 7 3 250 ∷ [])

abbrev three : List ℕ
three = holding 3 300 0 (one 7 3 250 ∷ one 8 1 20 ∷ one 9 5 30 ∷ [])

-- the first n of a run of emitters 10, 11, .. in the cells 0 to 5 in turn
abbrev run : ℕ → List (List ℕ)
run n = tab n (λ i. one (10 + i) (i % 6) (100 + i))

abbrev fifteen : List ℕ
fifteen = holding 15 1605 0 (run 15)

abbrev sixteen : List ℕ
sixteen = holding 16 1720 0 (run 16)

-- numbers that stand past the emitters that stand
abbrev remains : List (List ℕ)
remains = one 7 6 500 ∷ one 7 4294967295 4294967295 ∷ one 66 2 9 ∷ []

-- two false records
abbrev false_sum : List ℕ
false_sum = set (set three 1 0) 2 0

abbrev seventeen : List ℕ
seventeen = set sixteen 0 17

-- ---- worlds of grid 4, 1, 1, 2, with two blocks
abbrev gases : List ℕ
gases = six 0 0 100 200 100 0 ++ six 5 7 11 13 17 19

abbrev having : List ℕ → List ℕ → World
having tracers ledger = record { grid = grid 4 1 1 2; air = hundreds; tracers = tracers; ledger = on_record (grid 4 1 1 2) tracers ledger }

abbrev two : List ℕ → List ℕ → World
two first second = having gases (first ++ second)

-- two layers, grid 4, 1, 2, 2, and a block with emitters in the second one
abbrev deep : List ℕ → World
deep ledger =
    let tracers : List ℕ = gases ++ six 21 22 23 24 25 26 ++ six 27 28 29 30 31 32 in
    record { grid = grid 4 1 2 2; air = hundreds ++ hundreds; tracers = tracers; ledger = on_record (grid 4 1 2 2) tracers ledger }

-- three tracers
abbrev thrice : List ℕ → World
thrice ledger =
    let tracers : List ℕ = gases ++ six 21 22 23 24 25 26 in
    record { grid = grid 4 1 1 3; air = hundreds; tracers = tracers; ledger = on_record (grid 4 1 1 3) tracers ledger }

-- one with a cell without air
abbrev hollow : List ℕ → List ℕ → World
hollow tracers ledger = with_amounts (having tracers ledger) (set hundreds 0 0) tracers

abbrev second : List ℕ
second = holding 2 70 0 (one 1 6 30 ∷ one 2 11 40 ∷ [])

-- ---- cases: an accepted call that changes the ledger, the tracers, nothing
abbrev leaves : String → World → Call → ℕ → World → Case
leaves label w call count next =
    record { label = label; world = w; call = call; expected = record { answer = 0; count = count; next = next } }

abbrev enters : String → World → Call → List ℕ → Case
enters label w call ledger = leaves label w call 0 (with_ledger w (on_record w.grid w.tracers ledger))

abbrev emits : String → World → Call → List ℕ → Case
emits label w call tracers = leaves label w call 0 (exchanging w tracers)

abbrev reads : String → World → Call → ℕ → Case
reads label w call count = leaves label w call count w

-- ---- an emitter added and removed
abbrev changed : List Case
changed =
    enters "y2-1" (two none none) (add_emitter 0 3 7 250) (single ++ none) ∷
    enters "y2-2" (two single (holding 1 4294967295 0 (one 7 2 4294967295 ∷ []))) (add_emitter 1 5 9 4294967295)
    (single ++ holding 2 4294967294 1 (one 7 2 4294967295 ∷ one 9 5 4294967295 ∷ [])) ∷
    refuses "y2-3" (two sixteen none) (add_emitter 0 3 99 100) 18 ∷
    enters "y2-4" (two none sixteen) (remove_emitter 1 15)
    (none ++ holding 15 1615 0 (run 5 ++ (one 25 3 115 ∷ []) ++ tab 9 (λ i. one (16 + i) (i % 6) (106 + i)))) ∷
    enters "y2-5" (two fifteen single) (add_emitter 0 4 77 1) (holding 16 1606 0 (run 15 ++ (one 77 4 1 ∷ [])) ++ single) ∷
    refuses "y2-6 first" (two three none) (add_emitter 0 2 7 250) 18 ∷
    refuses "y2-6 last" (two three none) (add_emitter 0 0 9 0) 18 ∷
    refuses "y2-7" (two sixteen none) (add_emitter 0 0 25 1) 18 ∷
    enters "y2-8" (two single none) (add_emitter 1 3 7 250) (single ++ single) ∷
    enters "y2-16" (two (holding 1 0 0 (one 0 5 0 ∷ [])) none) (add_emitter 0 5 4294967295 4294967295)
    (holding 2 4294967295 0 (one 0 5 0 ∷ one 4294967295 5 4294967295 ∷ []) ++ none) ∷
    enters "y2-17" (two three single) (remove_emitter 0 7) (holding 2 50 0 (one 9 5 30 ∷ one 8 1 20 ∷ []) ++ single) ∷
    enters "y2-18" (two three single) (remove_emitter 0 8) (holding 2 280 0 (one 7 3 250 ∷ one 9 5 30 ∷ []) ++ single) ∷
    enters "y2-19" (two three single) (remove_emitter 0 9) (holding 2 270 0 (one 7 3 250 ∷ one 8 1 20 ∷ []) ++ single) ∷
    enters "y2-20" (two three single) (remove_emitter 1 7) (three ++ none) ∷
    enters "y2-22" (two (holding 2 4 1 (one 1 2 5 ∷ one 2 3 4294967295 ∷ [])) none) (remove_emitter 0 1)
    (holding 1 4294967295 0 (one 2 3 4294967295 ∷ []) ++ none) ∷
    refuses "y2-24" (two none none) (remove_emitter 0 0) 19 ∷
    refuses "y2-25" (two three single) (remove_emitter 1 8) 19 ∷
    enters "y2-27" (two (holding 1 250 0 (one 7 3 250 ∷ remains)) single) (add_emitter 0 2 66 1)
    (holding 2 251 0 (one 7 3 250 ∷ one 66 2 1 ∷ one 7 4294967295 4294967295 ∷ one 66 2 9 ∷ []) ++ single) ∷
    enters "y2-28" (two (holding 2 270 0 (one 7 3 250 ∷ one 8 1 20 ∷ remains)) single) (remove_emitter 0 7)
    (holding 1 20 0 (one 8 1 20 ∷ one 0 0 0 ∷ remains) ++ single) ∷
    []

-- ---- a tick, and the reading
abbrev ticks : List Case
ticks =
    reads "y2-9 reading" (two (holding 16 4294967280 15 (tab 16 (λ i. one i 0 4294967295))) none) (units_a_tick 0) 68719476720 ∷
    refuses "y2-9 tick" (two (holding 16 4294967280 15 (tab 16 (λ i. one i 0 4294967295))) none) (tick 0) 6 ∷
    emits "y2-10 to the limit" (having (six 0 0 268435215 0 140 0 ++ six 5 7 11 13 17 19) (holding 2 100 0 (one 1 2 60 ∷ one 2 4 40 ∷ []) ++ none)) (tick 0)
    (six 0 0 268435275 0 180 0 ++ six 5 7 11 13 17 19) ∷
    refuses "y2-10 past it" (having (six 0 0 268435275 0 180 0 ++ six 5 7 11 13 17 19) (holding 2 100 0 (one 1 2 60 ∷ one 2 4 40 ∷ []) ++ none)) (tick 0) 6 ∷
    refuses "y2-11" (having (six 0 0 268435305 0 0 0 ++ six 5 7 11 13 17 19) (holding 2 200 0 (one 1 2 100 ∷ one 2 4 100 ∷ []) ++ none)) (tick 0) 6 ∷
    refuses "y2-12" (two none (holding 2 0 1 (one 1 2 4294967295 ∷ one 2 3 1 ∷ []))) (tick 1) 6 ∷
    emits "y2-13"
    (having (six 0 0 268435455 0 0 0 ++ six 5 7 11 13 17 19) (holding 1 4 0 (one 1 0 4 ∷ []) ++ holding 4 437 0 (one 1 2 30 ∷ one 2 5 7 ∷ one 3 2 400 ∷ one 4 0 0 ∷ [])))
    (tick 1)
    (six 0 0 268435455 0 0 0 ++ six 5 7 441 13 17 26) ∷
    emits "y2-14" (two sixteen single) (tick 0) (six 318 321 424 527 314 216 ++ six 5 7 11 13 17 19) ∷
    reads "y2-15 none" (having (six 0 0 268435455 0 0 0 ++ six 5 7 11 13 17 19) (none ++ none)) (tick 0) 0 ∷
    reads "y2-15 sum 0" (having (six 0 0 268435455 0 0 0 ++ six 5 7 11 13 17 19) (holding 1 0 0 (one 1 2 0 ∷ []) ++ none)) (tick 0) 0 ∷
    refuses "y2-15 sum 1" (having (six 0 0 268435455 0 0 0 ++ six 5 7 11 13 17 19) (holding 2 1 0 (one 1 2 0 ∷ one 2 2 1 ∷ []) ++ none)) (tick 0) 6 ∷
    reads "y2-26 reading" (two (holding 1 250 0 (one 7 3 250 ∷ remains)) single) (units_a_tick 0) 250 ∷
    emits "y2-26 tick" (two (holding 1 250 0 (one 7 3 250 ∷ remains)) single) (tick 0) (six 0 0 100 450 100 0 ++ six 5 7 11 13 17 19) ∷
    refuses "y2-26 removal" (two (holding 1 250 0 (one 7 3 250 ∷ remains)) single) (remove_emitter 0 66) 19 ∷
    enters "y2-70 last cell" (deep (none ++ holding 1 30 0 (one 1 6 30 ∷ []))) (add_emitter 1 11 2 40) (none ++ second) ∷
    refuses "y2-70 absent" (deep (none ++ second)) (add_emitter 1 12 3 50) 5 ∷
    emits "y2-70 tick" (deep (none ++ second)) (tick 1) (gases ++ six 21 22 23 24 25 26 ++ six 57 28 29 30 31 72) ∷
    emits "y2-76" (thrice (single ++ three ++ holding 2 259 0 (one 7 3 250 ∷ one 50 4 9 ∷ []))) (tick 2)
    (gases ++ six 21 22 23 274 34 26) ∷
    []

-- ---- 5: a record with each of the four faults, in the tracer that the call does not name and in the one that it names; what is absent; and its place in the order
abbrev faults : List Case
faults =
    refuses "y2-29" (two single seventeen) (add_emitter 0 0 50 1) 5 ∷
    refuses "y2-30" (two single (set sixteen 0 4294967295)) (tick 0) 5 ∷
    refuses "y2-31" (two single (holding 2 270 0 (one 7 3 250 ∷ one 8 6 20 ∷ []))) (remove_emitter 0 7) 5 ∷
    refuses "y2-33" (two single (holding 3 300 0 (one 7 3 250 ∷ one 8 1 20 ∷ one 7 5 30 ∷ []))) (tick 0) 5 ∷
    refuses "y2-34" (two single (holding 3 300 0 (one 7 3 250 ∷ one 8 1 20 ∷ one 8 5 30 ∷ []))) (units_a_tick 0) 5 ∷
    refuses "y2-35" (two single (set three 1 301)) (units_a_tick 0) 5 ∷
    refuses "y2-36" (two single (set three 1 299)) (add_emitter 0 0 50 1) 5 ∷
    refuses "y2-37" (two single (set three 2 1)) (remove_emitter 0 7) 5 ∷
    refuses "y2-39" (two single (set none 1 1)) (tick 0) 5 ∷
    refuses "y2-40" (two seventeen single) (remove_emitter 1 7) 5 ∷
    refuses "y2-44" (two (set three 2 1) single) (units_a_tick 1) 5 ∷
    refuses "y2-45" (two seventeen single) (tick 0) 5 ∷
    refuses "y2-46" (two (holding 2 270 0 (one 7 3 250 ∷ one 8 6 20 ∷ [])) single) (add_emitter 0 0 50 1) 5 ∷
    refuses "y2-47" (two (holding 3 300 0 (one 7 3 250 ∷ one 8 1 20 ∷ one 7 5 30 ∷ [])) single) (remove_emitter 0 7) 5 ∷
    refuses "y2-48" (two (set three 1 301) single) (units_a_tick 0) 5 ∷
    refuses "y2-50" (two single (set sixteen 49 6)) (tick 0) 5 ∷
    refuses "y2-51 added" (two single single) (add_emitter 2 0 50 1) 5 ∷
    refuses "y2-51 removed" (two single single) (remove_emitter 2 7) 5 ∷
    refuses "y2-51 tick" (two single single) (tick 2) 5 ∷
    refuses "y2-51 reading" (two single single) (units_a_tick 2) 5 ∷
    refuses "y2-52" (two single single) (add_emitter 0 6 50 1) 5 ∷
    enters "y2-52 last cell" (two single single) (add_emitter 0 5 50 1) (holding 2 251 0 (one 7 3 250 ∷ one 50 5 1 ∷ []) ++ single) ∷
    refuses "y2-53" (two sixteen false_sum) (add_emitter 0 0 50 1) 5 ∷
    refuses "y2-54" (two sixteen single) (add_emitter 0 6 50 1) 5 ∷
    refuses "y2-55" (two single false_sum) (remove_emitter 0 50) 5 ∷
    refuses "y2-56" (having (six 0 0 268435455 0 0 0 ++ six 5 7 11 13 17 19) (single ++ false_sum)) (tick 0) 5 ∷
    refuses "y2-62" (hollow (set gases 0 268435455) (false_sum ++ seventeen)) (tick 2) 3 ∷
    refuses "y2-63" (having (set gases 0 268435455) (false_sum ++ seventeen)) (units_a_tick 2) 4 ∷
    refuses "y2-77" (record { grid = grid 4 1 33 2; air = hundreds; tracers = gases; ledger = single ++ single }) (add_emitter 0 0 50 1) 1 ∷
    refuses "y2-75" (thrice (single ++ single ++ false_sum)) (tick 1) 5 ∷
    []

-- ---- 2: a ledger of another length than the grid's, in every call
abbrev lent : ℕ → World
lent n = with_ledger (two none none) (zeros n)

abbrev lengths : List Case
lengths =
    refuses "y2-57 load" (lent 117) load 2 ∷
    refuses "y2-57 emission" (lent 117) (emission 0 3 7) 2 ∷
    refuses "y2-57 withdrawal" (lent 117) (withdrawal 0 3 7) 2 ∷
    refuses "y2-57 zonal" (lent 117) (zonal 0 0 (four (pos 0) (pos 50) (pos 0) (pos 0))) 2 ∷
    refuses "y2-57 long" (lent 117) (long_zonal 0 0 (four (pos 0) (pos 0) (pos 50) (pos 0))) 2 ∷
    refuses "y2-57 meridional" (lent 117) (meridional 0 (four (pos 10) (pos 0) (pos 0) (pos 0) ++ four (pos 0) (pos 0) (pos 0) (neg_ℤ (pos 10)))) 2 ∷
    refuses "y2-57 remap" (lent 117) (remap (four 0 0 0 65536)) 2 ∷
    refuses "y2-57 total" (lent 117) (total 0) 2 ∷
    refuses "y2-57 cell" (lent 117) (cell 0 3) 2 ∷
    refuses "y2-57 added" (lent 117) (add_emitter 0 0 50 1) 2 ∷
    refuses "y2-57 removed" (lent 117) (remove_emitter 0 7) 2 ∷
    refuses "y2-57 tick" (lent 117) (tick 0) 2 ∷
    refuses "y2-57 reading" (lent 117) (units_a_tick 0) 2 ∷
    refuses "y2-58" (lent 119) (emission 0 3 7) 2 ∷
    refuses "y2-59" (lent 59) (tick 0) 2 ∷
    refuses "y2-60" (record { grid = grid 3 1 1 2; air = hundreds; tracers = gases; ledger = [] }) load 1 ∷
    refuses "y2-61" (record { grid = grid 4 1 1 2; air = set hundreds 0 0; tracers = gases; ledger = [] }) load 2 ∷
    []

-- ---- a load, and the other calls, over a broken record
abbrev broken : World
broken = two false_sum seventeen

abbrev others : List Case
others =
    enters "y2-64" (two (holding 3 0 0 (one 7 3 250 ∷ one 8 1 20 ∷ one 9 5 30 ∷ remains)) (holding 17 80 0 (tab 16 (λ i. one 5 5 5)))) load (none ++ none) ∷
    enters "y2-65" (two three single) load (none ++ none) ∷
    refuses "y2-66" (hollow gases (three ++ single)) load 3 ∷
    refuses "y2-67" (having (set gases 0 268435455) (false_sum ++ seventeen)) load 4 ∷
    emits "y2-68 emission" broken (emission 0 3 7) (six 0 0 100 207 100 0 ++ six 5 7 11 13 17 19) ∷
    emits "y2-68 withdrawal" (having (six 0 0 100 207 100 0 ++ six 5 7 11 13 17 19) (false_sum ++ seventeen)) (withdrawal 0 3 7) gases ∷
    leaves "y2-68 zonal" broken (zonal 0 0 (four (pos 0) (pos 50) (pos 0) (pos 0))) 1
    (with_amounts broken (six 100 100 50 150 100 100) (six 0 0 38 262 100 0 ++ six 5 7 6 18 17 19)) ∷
    leaves "y2-68 long" (with_amounts broken (six 100 100 50 150 100 100) (six 0 0 38 262 100 0 ++ six 5 7 6 18 17 19)) (long_zonal 0 0 (four (pos 0) (pos 0) (pos 50) (pos 0))) 0
    (with_amounts broken (six 100 100 50 100 150 100) (six 0 0 38 174 188 0 ++ six 5 7 6 12 23 19)) ∷
    leaves "y2-68 meridional" (with_amounts broken (six 100 100 50 100 150 100) (six 0 0 38 174 188 0 ++ six 5 7 6 12 23 19))
    (meridional 0 (four (pos 10) (pos 0) (pos 0) (pos 0) ++ four (pos 0) (pos 0) (pos 0) (neg_ℤ (pos 10))))
    1
    (with_amounts broken (six 90 110 50 100 160 90) (six 0 0 38 174 188 0 ++ six 5 7 6 12 24 18)) ∷
    reads "y2-68 remap" broken (remap (four 0 0 0 65536)) 6 ∷
    reads "y2-68 total" broken (total 0) 400 ∷
    reads "y2-68 cell" broken (cell 0 3) 200 ∷
    []

pub emitter_cases : List Case
emitter_cases = changed ++ ticks ++ faults ++ lengths ++ others

pub emitter_cases_hold : Hold emitter_cases
unfolding emitter_cases computes
emitter_cases_hold = hold emitter_cases refl
