-- Document 01, "Refusals by place of checking" and "Emission, withdrawal, load, readings", and the long sweep, the emitters, the two presses, the limiters and the books of document 02: a call, what it means, and `step`, what it answers and leaves.
-- Total in any world and any arguments. A place's test is computed only when it is reached.
use Rattle.std.specs.Prelude.{ℕ, zero, suc, ◌+◌, ◌*◌, ◌-◌, List, [], ◌∷◌, ◌++◌, Bool, true, false, not, ◌&&◌, ◌||◌, leb, ltb, eqb, length, set, ℤ, nat_abs}
use Rattle.model.specs.Limits.{most_columns, most_rows, most_layers, most_tracers, table_scale, total_limit, zonal_limit, meridional_limit, table_limit, most_emitters, sum_limit, block_numbers}
use Rattle.model.specs.Basic.{at, part, every, tab, joined}
use Rattle.model.specs.World.{Grid, World, layer_cells, world_cells, layer_start, row_start, tracer_start, with_amounts, with_ledger, gas, with_gas, block, with_block, gas_total, air_fits}
use Rattle.model.specs.Limiters.{Limiter, limiter_fits, with_limiter, limiter_of, rule_of}
use Rattle.model.specs.Books.{emitted_sum, withdrawn_sum, balances, entered, fresh_block}
use Rattle.model.specs.Sweep.{Mesh, ring, layer, flux, air_after, gas_after, serves, substep_count, swept}
use Rattle.model.specs.Remap.{air_above, remap_serves, remap_count, remapped}
use Rattle.model.specs.Long.{long_air_fits, long_swept}
use Rattle.model.specs.Range.{SweepInRange, RemapInRange, LongInRange}
use Rattle.model.specs.Emitters.{standing, kept_units, has_id, record_fits, emitter_added, emitter_removed, ticked}

-- A call, with its arguments as lent
pub data Call : Type 0 where
  load : Call
  emission : (t c amount : ℕ) → Call
  withdrawal : (t c amount : ℕ) → Call
  zonal : (k r : ℕ) → List ℤ → Call
  long_zonal : (k r : ℕ) → List ℤ → Call
  meridional : (k : ℕ) → List ℤ → Call
  remap : List ℕ → Call
  total : (t : ℕ) → Call
  cell : (t c : ℕ) → Call
  add_emitter : (t c id units : ℕ) → Call
  remove_emitter : (t id : ℕ) → Call
  tick : (t : ℕ) → Call
  units_a_tick : (t : ℕ) → Call
  count_zonal : (k r : ℕ) → List ℤ → Call
  zonal_with_count : (k r n : ℕ) → List ℤ → Call
  set_limiter : (t number lo hi : ℕ) → Call

-- A place: its number, and the test of whether it applies
pub record Place : Type 0 where
  pub number : ℕ
  pub applies : World → Bool

abbrev pub place : ℕ → (World → Bool) → Place
place number applies = record { number = number; applies = applies }

-- "the first that applies is given": its number, or 0 where none applies
unfoldable pub first_of : List Place → World → ℕ
first_of [] w = 0
first_of (p ∷ ps) w = elim (p.applies w) [ true ↦ p.number | false ↦ first_of ps w ]

-- 1: "W, R, K or N outside its range"
abbrev pub within : ℕ → ℕ → ℕ → Bool
within low n high = leb low n && leb n high

abbrev pub grid_fits : Grid → Bool
grid_fits g =
    within 4 g.W most_columns && within 1 g.R most_rows && within 1 g.K most_layers &&
    within 1 g.N most_tracers

-- 5: "tracer, cell, layer or row absent": its number is not below the grid's
abbrev pub absent : ℕ → (Grid → ℕ) → Place
absent i many = place 5 (λ w. not (ltb i (many w.grid)))

-- .. and (02) "An emitter record handed in with, for any tracer, an absent cell, an id twice, more than 16 entries or a false sum is refused by 5 in this slip's calls; no other call tests it."
abbrev pub broken_record : Place
broken_record = place 5 (λ w. not (every w.grid.N (λ t. record_fits (world_cells w.grid) (block w t))))

-- 21 (02): "when a tracer's limiter is unknown or its lo exceeds its hi"
abbrev pub broken_limiter : Place
broken_limiter = place 21 (λ w. not (every w.grid.N (λ t. limiter_fits (limiter_of w t))))

-- 22 (02): "Every call but a load tests for each tracer that loaded + emitted − withdrawn equals the summed cells"; "when that test fails or the left side is negative"
abbrev pub broken_book : Place
broken_book = place 22 (λ w. not (every w.grid.N (λ t. balances (block w t) (gas_total w t))))

-- no flux's size exceeds a limit
abbrev pub fluxes_within : List ℤ → ℕ → Bool
fluxes_within fluxes limit = every (length fluxes) (λ f. leb (nat_abs (flux fluxes f)) limit)

-- 8: "size above 1,048,560 (zonal) or 65,535 (meridional)"
abbrev pub flux_too_large : List ℤ → ℕ → Place
flux_too_large fluxes limit = place 8 (λ w. not (fluxes_within fluxes limit))

-- 11: "first pair not (0, 0), last not (0, 65,536), an a above 2,097,120, a b above 65,536"
abbrev pub table_fits : ℕ → List ℕ → Bool
table_fits K table =
    eqb (at table 0) 0 && eqb (at table 1) 0 &&
    eqb (at table (2 * K)) 0 && eqb (at table (2 * K + 1)) table_scale &&
    every (K + 1) (λ j. leb (at table (2 * j)) table_limit && leb (at table (2 * j + 1)) table_scale)

-- the air of a row, and of a layer with its caps, and the substep count of a zonal sweep
abbrev pub row_air : World → ℕ → ℕ → List ℕ
row_air w k r = part w.air (row_start w.grid k r) w.grid.W

abbrev pub layer_air : World → ℕ → List ℕ
layer_air w k = part w.air (layer_start w.grid k) (layer_cells w.grid)

abbrev pub zonal_count : World → ℕ → ℕ → List ℤ → ℕ
zonal_count w k r fluxes = substep_count (ring w.grid.W) fluxes (row_air w k r)

-- the amount of tracer t in cell c, numbered over all layers
abbrev pub amount_at : World → ℕ → ℕ → ℕ
amount_at w t c = at (gas w t) c

-- What a call gives: the answer (0 or the refusal's number), the count, and the world afterwards
pub record Result : Type 0 where
  pub answer : ℕ
  pub count : ℕ
  pub next : World

-- The world with another amount of tracer t in cell c
abbrev pub with_amount : World → ℕ → ℕ → ℕ → World
with_amount w t c amount = with_amounts w w.air (set w.tracers (tracer_start w.grid t + c) amount)

-- (02) "A load leaves none standing", "gives every tracer the first limiter, with both bounds 0", and writes the books: the world with the ledger that a load leaves
abbrev pub cleared : World → World
cleared w = with_ledger w (joined (tab w.grid.N (λ t. fresh_block (gas_total w t))))

-- The units of one tracer that come in and go out
pub record Exchange : Type 0 where
  pub emitted : ℕ
  pub withdrawn : ℕ

abbrev pub no_exchange : Exchange
no_exchange = record { emitted = 0; withdrawn = 0 }

-- (02) "The world's record gains these three 32-bit sums": the world with what is exchanged of tracer t entered in its book
abbrev pub booked : World → ℕ → Exchange → World
booked w t x = with_block w t (entered (block w t) x.emitted x.withdrawn)

-- 6: "total would pass 268,435,455"; (02) "also .. when a sum would pass 4,294,967,295": of an emission and of a tick of so many units
abbrev pub no_room : ℕ → (World → ℕ) → Place
no_room t units =
    place 6 (λ w. ltb total_limit (gas_total w t + units w) || ltb sum_limit (emitted_sum (block w t) + units w))

-- 7: "cell has less than the amount", and (02) the same of the sum withdrawn
abbrev pub too_little : ℕ → ℕ → ℕ → Place
too_little t c amount =
    place 7 (λ w. ltb (amount_at w t c) amount || ltb sum_limit (withdrawn_sum (block w t) + amount))

-- The tracer that a call names, if it names one
pub data Named : Type 0 where
  nobody : Named
  tracer : ℕ → Named

-- What a call means: whether a list of calls may hold it; whether the list that it lends has the grid's length; whether it tests the limiters, and the books; its own places, in the table's order; where it is accepted, its count and the world afterwards; the tracer that it names; what it exchanges of tracer t, and the range that it promises for tracer t from the world before it to the world afterwards, where it is accepted
pub record Meaning : Type 1 where
  pub listed : Bool
  pub lent : Grid → Bool
  pub limiters : Bool
  pub books : Bool
  pub places : List Place
  pub count : World → ℕ
  pub next : World → World
  pub names : Named
  pub exchange : World → ℕ → Exchange
  pub range : World → World → ℕ → Type 0

-- a call that reads: it leaves the world as it is
abbrev pub reads : Named → List Place → (World → ℕ) → Meaning
reads names places count =
    record {
      listed = true;
      lent = λ g. true;
      limiters = false;
      books = true;
      places = places;
      count = count;
      next = λ w. w;
      names = names;
      exchange = λ w t. no_exchange;
      range = λ w next t. Unit {0};
    }

-- one that changes the amount of tracer t in cell c, and exchanges x of that tracer, which is booked. "Counts not named are 0."
abbrev pub changes : ℕ → ℕ → Place → (ℕ → ℕ) → Exchange → Meaning
changes t c refusing new x =
    record {
      listed = true;
      lent = λ g. true;
      limiters = false;
      books = true;
      places = absent t (λ g. g.N) ∷ absent c world_cells ∷ refusing ∷ [];
      count = λ w. 0;
      next = λ w. booked (with_amount w t c (new (amount_at w t c))) t x;
      names = tracer t;
      exchange = λ w t'. elim (eqb t t') [ true ↦ x | false ↦ no_exchange ];
      range = λ w next t'. Unit {0};
    }

-- one that changes tracer t's block of the ledger: its emitters, or its limiter
abbrev pub enters : ℕ → List Place → (List ℕ → List ℕ) → Meaning
enters t places new =
    record {
      listed = true;
      lent = λ g. true;
      limiters = false;
      books = true;
      places = places;
      count = λ w. 0;
      next = λ w. with_block w t (new (block w t));
      names = tracer t;
      exchange = λ w t'. no_exchange;
      range = λ w next t'. Unit {0};
    }

-- one that sweeps the cells of a mesh, from cell `start` on
abbrev pub sweeps : (Grid → Mesh) → (Grid → ℕ) → List ℤ → (World → ℕ) → (Grid → Bool) → List Place → Meaning
sweeps mesh start fluxes count lent places =
    let cells : World → List ℕ → List ℕ = λ w l. part l (start w.grid) (mesh w.grid).cells in
    record {
      listed = true;
      lent = lent;
      limiters = true;
      books = true;
      places = places;
      count = count;
      next = λ w. swept w (mesh w.grid) (start w.grid) fluxes (count w);
      names = nobody;
      exchange = λ w t. no_exchange;
      range =
          λ w next t.
          SweepInRange w next (mesh w.grid) (start w.grid) (count w) t
          (air_after (mesh w.grid) fluxes (count w) (cells w w.air))
          (gas_after (rule_of w t) (mesh w.grid) fluxes (count w) (cells w w.air) (cells w (gas w t)));
    }

-- 20 (02): "when the given count differs from the smallest that serves"
abbrev pub other_count : ℕ → ℕ → ℕ → List ℤ → Place
other_count k r n fluxes = place 20 (λ w. not (eqb n (zonal_count w k r fluxes)))

-- a zonal sweep of row r in layer k, with `count w` substeps in the world w; `more` are the places that it has after 9. 9: "no n from 1 to 16 serves"
abbrev pub sweeps_row : ℕ → ℕ → List ℤ → (World → ℕ) → List Place → Meaning
sweeps_row k r fluxes count more =
    sweeps (λ g. ring g.W) (λ g. row_start g k r) fluxes count (λ g. eqb (length fluxes) g.W)
    (absent k (λ g. g.K) ∷ absent r (λ g. g.R) ∷ flux_too_large fluxes zonal_limit ∷ place 9 (λ w. eqb (zonal_count w k r fluxes) 0) ∷ more)

-- one that has the places of another, and "gives the count and writes nothing"
abbrev pub counts : Meaning → Meaning
counts m =
    record {
      listed = m.listed;
      lent = m.lent;
      limiters = m.limiters;
      books = m.books;
      places = m.places;
      count = m.count;
      next = λ before. before;
      names = m.names;
      exchange = λ w t. no_exchange;
      range = λ w next t. Unit {0};
    }

abbrev pub meaning : Call → Meaning
-- "A load checks lent air and tracers, changes nothing in them, and they are the world from then on."
-- (02) "A load leaves none standing, and doesn't test the old ones."; "A load gives every tracer the first limiter" and tests none either, nor the books. It begins a list and stands in none.
meaning load =
    record {
      listed = false;
      lent = λ g. true;
      limiters = false;
      books = false;
      places = [];
      count = λ w. 0;
      next = cleared;
      names = nobody;
      exchange = λ w t. no_exchange;
      range = λ w next t. Unit {0};
    }
-- "Emission adds, and withdrawal takes, an amount"
meaning (emission t c amount) = changes t c (no_room t (λ w. amount)) (λ T. T + amount) (record { emitted = amount; withdrawn = 0 })
meaning (withdrawal t c amount) = changes t c (too_little t c amount) (λ T. T - amount) (record { emitted = 0; withdrawn = amount })
-- "the sweep uses the smallest n from 1 to 16, and that n is its count"
meaning (zonal k r fluxes) = sweeps_row k r fluxes (λ w. zonal_count w k r fluxes) []
-- 16: "when a flux's size exceeds the row's air", 17: "when air afterwards leaves 1 to 65,535", "in that order after 8, with its zonal limit, in a long sweep"
meaning (long_zonal k r fluxes) =
    record {
      listed = true;
      lent = λ g. eqb (length fluxes) g.W;
      limiters = true;
      books = true;
      places =
          absent k (λ g. g.K) ∷ absent r (λ g. g.R) ∷ flux_too_large fluxes zonal_limit ∷
          place 16 (λ w. not (fluxes_within fluxes (air_above (row_air w k r) w.grid.W))) ∷
          place 17 (λ w. not (long_air_fits w.grid.W fluxes (row_air w k r))) ∷ [];
      count = λ w. 0;
      next = λ w. long_swept w (row_start w.grid k r) fluxes;
      names = nobody;
      exchange = λ w t. no_exchange;
      range = λ w next t. LongInRange w next (row_start w.grid k r) fluxes t;
    }
-- 10: "its substep is not allowed": a meridional sweep "is one substep under the same rules, with count 1"
meaning (meridional k fluxes) =
    sweeps (λ g. layer g.W g.R) (λ g. layer_start g k) fluxes (λ w. 1) (λ g. eqb (length fluxes) (g.W * (g.R + 1)))
    (absent k (λ g. g.K) ∷ flux_too_large fluxes meridional_limit ∷ place 10 (λ w. not (serves (layer w.grid.W w.grid.R) fluxes (layer_air w k) 1)) ∷ [])
meaning (remap table) =
    record {
      listed = true;
      lent = λ g. eqb (length table) (2 * (g.K + 1));
      limiters = true;
      books = true;
      places = place 11 (λ w. not (table_fits w.grid.K table)) ∷ place 12 (λ w. not (remap_serves w table)) ∷ [];
      count = λ w. remap_count w table;
      next = λ w. remapped w table;
      names = nobody;
      exchange = λ w t. no_exchange;
      range = λ w next t. RemapInRange w next table t;
    }
-- "Readings give a tracer's total or one cell's amount as the count."
meaning (total t) = reads (tracer t) (absent t (λ g. g.N) ∷ []) (λ w. gas_total w t)
meaning (cell t c) = reads (tracer t) (absent t (λ g. g.N) ∷ absent c world_cells ∷ []) (λ w. amount_at w t c)
-- (02) 18: "when the tracer has 16 emitters or already has that id, 19 when the id is absent, each after 5 in its call"
meaning (add_emitter t c id units) =
    enters t
    (absent t (λ g. g.N) ∷ absent c world_cells ∷ broken_record ∷ place 18 (λ w. leb most_emitters (standing (block w t)) || has_id (block w t) id) ∷ [])
    (λ b. emitter_added b id c units)
meaning (remove_emitter t id) =
    enters t
    (absent t (λ g. g.N) ∷ broken_record ∷ place 19 (λ w. not (has_id (block w t) id)) ∷ [])
    (λ b. emitter_removed b id)
-- (02) "A tick names one tracer and emits all its emitters, or is refused whole by 6."; "a tick counts there as an emission of that sum"
meaning (tick t) =
    let emits : World → Exchange = λ w. record { emitted = kept_units (block w t); withdrawn = 0 } in
    record {
      listed = true;
      lent = λ g. true;
      limiters = false;
      books = true;
      places = absent t (λ g. g.N) ∷ broken_record ∷ no_room t (λ w. kept_units (block w t)) ∷ [];
      count = λ w. 0;
      next = λ w. booked (with_gas w t (ticked (block w t) (standing (block w t)) (gas w t))) t (emits w);
      names = tracer t;
      exchange = λ w t'. elim (eqb t t') [ true ↦ emits w | false ↦ no_exchange ];
      range = λ w next t'. Unit {0};
    }
-- (02) "A reading gives the tracer's units a tick, kept up to date"
meaning (units_a_tick t) = reads (tracer t) (absent t (λ g. g.N) ∷ broken_record ∷ []) (λ w. kept_units (block w t))
-- (02) "Add a call that gives the count and writes nothing, and a second that carries the sweep out with a count given to it."
-- 20 is "tested after 9 in the second call"
meaning (count_zonal k r fluxes) = counts (sweeps_row k r fluxes (λ w. zonal_count w k r fluxes) [])
meaning (zonal_with_count k r n fluxes) = sweeps_row k r fluxes (λ w. n) (other_count k r n fluxes ∷ [])
-- (02) "a new call sets one tracer's limiter and bounds"; 21 "after 5, for the given ones only, in the setting call"
meaning (set_limiter t number lo hi) =
    let given : Limiter = record { number = number; lo = lo; hi = hi } in
    enters t (absent t (λ g. g.N) ∷ place 21 (λ w. not (limiter_fits given)) ∷ []) (λ b. with_limiter b given)

-- 2: "a lent length is not the grid's"; a sweep's fluxes and a remap's table are lent too
abbrev pub lent_fits : Grid → Call → Bool
lent_fits g call = (meaning call).lent g

abbrev pub lengths_fit : World → Call → Bool
lengths_fit w call =
    eqb (length w.air) (world_cells w.grid) &&
    eqb (length w.tracers) (w.grid.N * world_cells w.grid) &&
    eqb (length w.ledger) (w.grid.N * block_numbers) &&
    lent_fits w.grid call

-- "every call": places 1 to 4. 3: "a cell's air is 0 or above 65,535". 4: "a tracer's total above 268,435,455"
unfoldable pub common_places : Call → List Place
common_places call =
    place 1 (λ w. not (grid_fits w.grid)) ∷
    place 2 (λ w. not (lengths_fit w call)) ∷
    place 3 (λ w. not (every (length w.air) (λ i. air_fits (at w.air i)))) ∷
    place 4 (λ w. not (every w.grid.N (λ t. leb (gas_total w t) total_limit))) ∷
    []

-- a place that only some calls have
abbrev pub place_if : Bool → Place → List Place
place_if has p = elim has [ true ↦ p ∷ [] | false ↦ [] ]

-- 21 (02): "after 4 in calls that move air and in Slip 5's count call"
unfoldable pub limiter_places : Call → List Place
limiter_places call = place_if (meaning call).limiters broken_limiter

-- 22 (02): "before 5, and after 21 where a call tests 21 there"
unfoldable pub book_places : Call → List Place
book_places call = place_if (meaning call).books broken_book

unfoldable pub own_places : Call → List Place
own_places call = (meaning call).places

-- An accepted call
unfoldable pub accepted : World → Call → Result
accepted w call = record { answer = 0; count = (meaning call).count w; next = (meaning call).next w }

-- "Each refusal returns its number with count 0 and changes no lent buffer."
unfoldable pub refused : World → ℕ → Result
refused w number = record { answer = number; count = 0; next = w }

-- The refusal that a call gets, 0 where it is accepted
unfoldable pub refusal : World → Call → ℕ
refusal w call = first_of (common_places call ++ (limiter_places call ++ (book_places call ++ own_places call))) w

-- What a call does in a world
unfoldable pub step : World → Call → Result
step w call = elim (refusal w call) [ zero ↦ accepted w call | suc n ↦ refused w (suc n) ]
