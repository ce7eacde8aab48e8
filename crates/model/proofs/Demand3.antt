-- Demand 3, one theorem about the list: after an accepted load, whatever calls are made, refused ones included, four things hold at each point.
-- Assumes only that `step` accepts the load, and that the list holds no other.
use Rattle.std.specs.Prelude.{ℕ, suc, ◌+◌, ◌≤◌, ◌<◌, List, [], ◌∷◌, ◌++◌, Bool, true, false, ◌≡◌, refl, pos, neg_ℤ, take, replicate}
use Rattle.std.proofs.lemmas.Bool.{false≢true}
use Rattle.std.proofs.Common.{◌∙◌}
use Rattle.model.specs.Basic.{tab}
use Rattle.model.specs.World.{World, block, gas_total, air_total}
use Rattle.model.specs.Emitters.{present_units}
use Rattle.model.specs.Step.{Call, load, emission, withdrawal, zonal, long_zonal, meridional, remap, total, cell, add_emitter, remove_emitter, tick, units_a_tick, count_zonal, zonal_with_count, set_limiter, broken_record, first_of, meaning, lent_fits, own_places, refusal, step}
use Rattle.model.specs.Lists.{Loaded, loaded_world, listed, call_at, after, point, history, HasRatio, CallInRange, has_first, LoadedAlike, Alike, names_no_other, SameReply}
use Rattle.model.proofs.Laws.Step.{Reached, answer_is, own_refusal, loaded_reached, loaded_alike}
use Rattle.model.proofs.Laws.Keeps.{Kept, MeaningKeeps, StepKeeps, step_keeps, names_grid}
use Rattle.model.proofs.Laws.Lists.{listed_take, listed_at, point_range, list_kept, list_alike, points_ratio}
use Rattle.model.proofs.Laws.Amounts.{emission_keeps, withdrawal_keeps, total_keeps, cell_keeps}
use Rattle.model.proofs.Laws.Standing.{record_sound, record_left, no_place_lem, add_keeps, remove_keeps, limiter_keeps, tick_keeps, units_keeps, reading_is_sum}
use Rattle.model.proofs.Laws.Zonal.{zonal_keeps, count_keeps, with_count_keeps}
use Rattle.model.proofs.Laws.LongZonal.{long_keeps}
use Rattle.model.proofs.Laws.Meridional.{meridional_keeps}
use Rattle.model.proofs.Laws.Remap.{remap_keeps}
use Rattle.model.proofs.Cases.{computes}
use Rattle.model.proofs.Cases.Marked.{four, peak, stair}

-- What demand 3 says at point i of a list of calls that starts at the world `start`, which an accepted load left
pub record HoldsAt (start : World) (calls : List Call) (i : ℕ) : Type 0 where
  -- "Each gas total equals its loaded amount plus its accepted emissions less its accepted withdrawals, and total air is unchanged."
  pub gas_kept :
      (t : ℕ) → t < start.grid.N →
      gas_total (point start calls i) t + (history start t (take i calls)).withdrawn ≡ gas_total start t + (history start t (take i calls)).emitted
  pub air_kept : air_total (point start calls i) ≡ air_total start
  -- "A gas at the same whole-number ratio to air in every cell keeps that ratio exactly while none of it is emitted or withdrawn": at each later point j. The sums of `history` only grow, so where they are equal, no unit came or went between the two points
  pub ratio_kept :
      (t z j : ℕ) → t < start.grid.N → i ≤ j → HasRatio (point start calls i) t z →
      history start t (take j calls) ≡ history start t (take i calls) → HasRatio (point start calls j) t z
  -- "Each substep of a sweep leaves each cell it writes within its old neighbourhood's range of ratios, .. and a remap", and a long sweep: the call made at this point, if it is accepted, for a tracer that has the first limiter there; it leads to the next point
  pub in_range :
      (t : ℕ) → t < start.grid.N → has_first (point start calls i) t ≡ true → (step (point start calls i) (call_at calls i)).answer ≡ 0 →
      CallInRange (point start calls i) (point start calls (suc i)) t (call_at calls i)
  -- "After any other accepted load that differs only in the other gases, the same list gives the same amounts of one gas and the same answers to calls that name no other gas": for a set of gases `own`
  pub independent :
      (own : ℕ → Bool) (v : World) → Loaded v → LoadedAlike own start (loaded_world v) →
      Alike own (point start calls i) (point (loaded_world v) calls i) × (names_no_other own start (call_at calls i) ≡ true → SameReply (point start calls i) (point (loaded_world v) calls i) (call_at calls i))

-- what each call keeps, but a load
pub call_keeps : (call : Call) → (meaning call).listed ≡ true → MeaningKeeps (meaning call)
call_keeps load e = absurd (false≢true e)
call_keeps (emission t c amount) e = emission_keeps t c amount
call_keeps (withdrawal t c amount) e = withdrawal_keeps t c amount
call_keeps (zonal k r fluxes) e = zonal_keeps k r fluxes
call_keeps (long_zonal k r fluxes) e = long_keeps k r fluxes
call_keeps (meridional k fluxes) e = meridional_keeps k fluxes
call_keeps (remap table) e = remap_keeps table
call_keeps (total t) e = total_keeps t
call_keeps (cell t c) e = cell_keeps t c
call_keeps (add_emitter t c id units) e = add_keeps t c id units
call_keeps (remove_emitter t id) e = remove_keeps t id
call_keeps (tick t) e = tick_keeps t
call_keeps (units_a_tick t) e = units_keeps t
call_keeps (count_zonal k r fluxes) e = count_keeps k r fluxes
call_keeps (zonal_with_count k r n fluxes) e = with_count_keeps k r n fluxes
call_keeps (set_limiter t number lo hi) e = limiter_keeps t number lo hi

pub any_keeps : (call : Call) → (meaning call).listed ≡ true → (w : World) → Reached w → StepKeeps w call
any_keeps call e = step_keeps call (call_keeps call e)

-- what any list keeps, from a world that calls reach
pub calls_keep : (w : World) (calls : List Call) → listed calls ≡ true → Reached w → Kept w (after w calls) (λ t. history w t calls)
calls_keep = list_kept any_keeps

pub demand_3 : (w : World) (calls : List Call) → Loaded w → listed calls ≡ true → (i : ℕ) → HoldsAt (loaded_world w) calls i
demand_3 w calls loaded no_loads i =
    let start = loaded_world w in
    let reached = loaded_reached w loaded in
    let so_far = listed_take i calls no_loads in
    let kept = calls_keep start (take i calls) so_far reached in
    let here = any_keeps (call_at calls i) (listed_at calls i no_loads) (point start calls i) kept.reached in
    record {
      gas_kept = kept.gas_kept;
      air_kept = kept.air_kept;
      ratio_kept = λ t z j h le. points_ratio any_keeps i j start calls no_loads reached le t z h;
      in_range = λ t h first e. point_range start calls i t (here.in_range t (rw kept.same_grid h) first e);
      independent =
          λ own v other alike.
          let vv = loaded_reached v other in
          let now = list_alike any_keeps own start (loaded_world v) (take i calls) so_far reached vv (loaded_alike w v loaded other own alike) in
          let same = here.independent own (point (loaded_world v) calls i) (calls_keep (loaded_world v) (take i calls) so_far vv).reached now in
          (now, λ named. same.1 (names_grid own (point start calls i) start kept.same_grid (meaning (call_at calls i)).names ∙ named));
    }

-- A world that calls reach from an accepted load never meets the refusals 1 to 4 again, nor 22, nor 21 for what stands, but 2 for the list that a call itself lends: the refusal is that of the call's own places alone
pub reached :
    (w : World) (calls : List Call) → Loaded w → listed calls ≡ true → (i : ℕ) →
    Reached (point (loaded_world w) calls i) × ((call : Call) → lent_fits (loaded_world w).grid call ≡ true → refusal (point (loaded_world w) calls i) call ≡ first_of (own_places call) (point (loaded_world w) calls i))
reached w calls start no_loads i =
    let kept = calls_keep (loaded_world w) (take i calls) (listed_take i calls no_loads) (loaded_reached w start) in (
      kept.reached,
      λ call lent. own_refusal (point (loaded_world w) calls i) call kept.reached (rw kept.same_grid lent),
    )

-- There no record of emitters is broken, so that 5 is never given for one; the reading of the units a tick is accepted, and gives the sum over the emitters present
pub emitters_reached :
    (w : World) (calls : List Call) → Loaded w → listed calls ≡ true → (i : ℕ) →
    let now = point (loaded_world w) calls i in
    (broken_record.applies now ≡ false)
    × ((t : ℕ) → t < (loaded_world w).grid.N → ((step now (units_a_tick t)).answer ≡ 0) × ((step now (units_a_tick t)).count ≡ present_units (block now t)))
unfolding own_places
emitters_reached w calls start no_loads i =
    let now = point (loaded_world w) calls i in
    let kept = calls_keep (loaded_world w) (take i calls) (listed_take i calls no_loads) (loaded_reached w start) in (
      record_sound kept.reached,
      λ t h.
          let answer : (step now (units_a_tick t)).answer ≡ 0 =
          answer_is now (units_a_tick t) ∙ own_refusal now (units_a_tick t) kept.reached refl ∙
          record_left now kept.reached t (rw kept.same_grid h) [] ∙ no_place_lem now in
          (answer, reading_is_sum now t answer),
    )

-- Two lists that meet the premises, their answers, counts and totals by computation, so that the theorem is not empty: calls of every kind, on the world of m9 and on that of m1, eight of them refused.
abbrev worked : List Call
worked =
    emission 0 1 268433655 ∷ emission 0 1 1 ∷ withdrawal 0 1 268433600 ∷ emission 0 3 20 ∷
    zonal 1 0 (four (pos 0) (pos 50) (pos 0) (pos 0)) ∷
    meridional 2 (four (pos 30) (pos 0) (pos 7) (neg_ℤ (pos 20)) ++ four (pos 10) (pos 10) (pos 0) (neg_ℤ (pos 5))) ∷
    zonal 1 0 (four (pos 0) (pos 1000) (pos 0) (pos 0)) ∷
    long_zonal 1 0 (four (neg_ℤ (pos 330)) (neg_ℤ (pos 300)) (neg_ℤ (pos 310)) (neg_ℤ (pos 320))) ∷
    long_zonal 1 0 (four (pos 0) (pos 1000) (pos 0) (pos 0)) ∷
    remap (0 ∷ 0 ∷ 0 ∷ 32768 ∷ 200 ∷ 0 ∷ 0 ∷ 65536 ∷ []) ∷
    remap (0 ∷ 0 ∷ 200 ∷ 0 ∷ 200 ∷ 0 ∷ 0 ∷ 65536 ∷ []) ∷
    total 0 ∷
    cell 0 8 ∷
    []

abbrev ticks : List Call
ticks =
    add_emitter 0 3 77 5 ∷ add_emitter 0 2 77 6 ∷ tick 0 ∷ tick 0 ∷ units_a_tick 0 ∷ remove_emitter 0 77 ∷ remove_emitter 0 77 ∷
    cell 0 3 ∷
    count_zonal 0 0 (replicate 4 (pos 150)) ∷ zonal_with_count 0 0 1 (replicate 4 (pos 150)) ∷ zonal_with_count 0 0 2 (replicate 4 (pos 150)) ∷
    set_limiter 0 4 0 0 ∷ set_limiter 0 2 0 0 ∷ zonal 0 0 (four (pos 0) (pos 50) (pos 0) (pos 0)) ∷
    []

pub worked_start : Loaded stair × Loaded peak
unfolding computes
worked_start = (refl, refl)

pub worked_listed : (listed worked ≡ true) × (listed ticks ≡ true)
unfolding listed
worked_listed = (refl, refl)

pub worked_answers :
    (tab 13 (λ i. (step (point (loaded_world stair) worked i) (call_at worked i)).answer) ≡ 0 ∷ 6 ∷ 0 ∷ 0 ∷ 0 ∷ 0 ∷ 9 ∷ 0 ∷ 16 ∷ 0 ∷ 12 ∷ 0 ∷ 0 ∷ [])
    × (tab 14 (λ i. (step (point (loaded_world peak) ticks i) (call_at ticks i)).answer) ≡ 0 ∷ 18 ∷ 0 ∷ 0 ∷ 0 ∷ 0 ∷ 19 ∷ 0 ∷ 0 ∷ 20 ∷ 0 ∷ 21 ∷ 0 ∷ 0 ∷ [])
unfolding computes after
worked_answers = (refl, refl)

pub worked_counts :
    (tab 13 (λ i. (step (point (loaded_world stair) worked i) (call_at worked i)).count) ≡ 0 ∷ 0 ∷ 0 ∷ 0 ∷ 1 ∷ 1 ∷ 0 ∷ 0 ∷ 0 ∷ 28 ∷ 0 ∷ 1875 ∷ 177 ∷ [])
    × (tab 14 (λ i. (step (point (loaded_world peak) ticks i) (call_at ticks i)).count) ≡ 0 ∷ 0 ∷ 0 ∷ 0 ∷ 5 ∷ 0 ∷ 0 ∷ 210 ∷ 2 ∷ 0 ∷ 2 ∷ 0 ∷ 0 ∷ 1 ∷ [])
unfolding computes after
worked_counts = (refl, refl)

pub worked_totals :
    (tab 14 (λ i. gas_total (point (loaded_world stair) worked i) 0) ≡ 1800 ∷ 268435455 ∷ 268435455 ∷ 1855 ∷ replicate 10 1875)
    × (tab 15 (λ i. gas_total (point (loaded_world peak) ticks i) 0) ≡ 400 ∷ 400 ∷ 400 ∷ 405 ∷ replicate 11 410)
unfolding computes after
worked_totals = (refl, refl)

pub worked_air : tab 14 (λ i. air_total (point (loaded_world stair) worked i)) ≡ replicate 14 1800
unfolding computes after
worked_air = refl

pub worked_emitted :
    (tab 14 (λ i. (history (loaded_world stair) 0 (take i worked)).emitted) ≡ 0 ∷ replicate 3 268433655 ++ replicate 10 268433675)
    × (tab 15 (λ i. (history (loaded_world peak) 0 (take i ticks)).emitted) ≡ 0 ∷ 0 ∷ 0 ∷ 5 ∷ replicate 11 10)
unfolding computes history
worked_emitted = (refl, refl)

pub worked_withdrawn : tab 14 (λ i. (history (loaded_world stair) 0 (take i worked)).withdrawn) ≡ replicate 3 0 ++ replicate 11 268433600
unfolding computes history
worked_withdrawn = refl

pub worked_holds : ((i : ℕ) → HoldsAt (loaded_world stair) worked i) × ((i : ℕ) → HoldsAt (loaded_world peak) ticks i)
worked_holds = (demand_3 stair worked worked_start.0 worked_listed.0, demand_3 peak ticks worked_start.1 worked_listed.1)
