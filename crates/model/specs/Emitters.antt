-- Document 02, Slip 2: the standing emitters of a tracer, as its block of the ledger holds them. Total on lists of any length and numbers.
use Rattle.std.specs.Prelude.{ℕ, zero, suc, ◌+◌, ◌*◌, ◌-◌, ◌/◌, ◌%◌, List, Bool, true, false, not, ◌&&◌, leb, ltb, eqb, set}
use Rattle.model.specs.Limits.{most_emitters}
use Rattle.model.specs.Basic.{at, sum, every, some}

-- "Keep up to 16 standing emitters for each tracer: cell and units a tick. They can be added under an id of 32 bits": number 0 of a block is how many stand; 1 and 2 are the low and the high half of the sum of their units a tick; from 3 on each has an id, a cell and its units. Those that stand come first
abbrev pub standing : List ℕ → ℕ
standing b = at b 0

abbrev pub emitter_id : List ℕ → ℕ → ℕ
emitter_id b i = at b (3 + 3 * i)

abbrev pub emitter_cell : List ℕ → ℕ → ℕ
emitter_cell b i = at b (4 + 3 * i)

abbrev pub emitter_units : List ℕ → ℕ → ℕ
emitter_units b i = at b (5 + 3 * i)

-- "Units are 32-bit, the reading 64-bit": 2^32, by which the two halves of the sum are told apart
abbrev pub half : ℕ
half = 4294967296

-- "the tracer's units a tick, kept up to date", and "the sum over the emitters present"
abbrev pub kept_units : List ℕ → ℕ
kept_units b = at b 1 + half * at b 2

abbrev pub present_units : List ℕ → ℕ
present_units b = sum (standing b) (emitter_units b)

-- whether the tracer has an emitter of that id
abbrev pub has_id : List ℕ → ℕ → Bool
has_id b id = some (standing b) (λ i. eqb (emitter_id b i) id)

-- "an absent cell, an id twice, more than 16 entries or a false sum": none of these, in a world of so many cells
unfoldable pub record_fits : ℕ → List ℕ → Bool
record_fits cells b =
    leb (standing b) most_emitters &&
    every (standing b) (λ i. ltb (emitter_cell b i) cells) &&
    every (standing b) (λ i. every i (λ j. not (eqb (emitter_id b j) (emitter_id b i)))) &&
    eqb (kept_units b) (present_units b)

-- a block with another number of emitters and another sum, and one with another emitter in place i
abbrev pub with_head : List ℕ → ℕ → ℕ → List ℕ
with_head b n units = set (set (set b 0 n) 1 (units % half)) 2 (units / half)

abbrev pub with_emitter : List ℕ → (i id c units : ℕ) → List ℕ
with_emitter b i id c units = set (set (set b (3 + 3 * i) id) (4 + 3 * i) c) (5 + 3 * i) units

-- "They can be added under an id of 32 bits": after the last one
abbrev pub emitter_added : List ℕ → (id c units : ℕ) → List ℕ
emitter_added b id c units =
    with_emitter (with_head b (standing b + 1) (kept_units b + units)) (standing b) id c units

-- the place of the emitter of that id, among the first n
unfoldable pub place_of : List ℕ → ℕ → ℕ → ℕ
place_of b id zero = 0
place_of b id (suc n) = elim (eqb (emitter_id b n) id) [ true ↦ n | false ↦ place_of b id n ]

-- "A removed one's place is used again.": the block without the emitter in place i, in whose place the last one stands; 0 is written over the last one's own
abbrev pub removed_at : List ℕ → ℕ → List ℕ
removed_at b i =
    let last : ℕ = standing b - 1 in
    let head : List ℕ = with_head b last (kept_units b - emitter_units b i) in
    with_emitter (with_emitter head i (emitter_id b last) (emitter_cell b last) (emitter_units b last)) last 0 0 0

-- "They can be added under an id of 32 bits and removed by it."
abbrev pub emitter_removed : List ℕ → ℕ → List ℕ
emitter_removed b id = removed_at b (place_of b id (standing b))

-- "A tick .. emits all its emitters": the amounts of a tracer after the first n of them, one after the other
unfoldable pub ticked : List ℕ → ℕ → List ℕ → List ℕ
ticked b zero had = had
ticked b (suc n) had =
    let c : ℕ = emitter_cell b n in
    let so_far : List ℕ = ticked b n had in
    set so_far c (at so_far c + emitter_units b n)
