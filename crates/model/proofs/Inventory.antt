-- What follows for an inventory of emissions: a stack comes into service, emits with each tick, and closes.
-- Assumes an accepted load, and a total that stays within its limit.
use Rattle.std.specs.Prelude.{ℕ, suc, ◌+◌, ◌*◌, ◌≤◌, ◌<◌, Bool, true, false, ◌&&◌, ◌≡◌}
use mathlib.Core.List.{List, [], ◌∷◌, ◌++◌}
use Rattle.std.proofs.Math.Bool.{and-eq-true_iff}
use Rattle.std.proofs.Math.Path.{refl}
use Rattle.std.proofs.Common.{sym, ◌∙◌, ap, ap₂, zero-add, zero-mul, le-ltb, eq-eqb}
use Rattle.std.proofs.Math.Nat.{add-zero}
use native.Mathlib.Omega.{arith}
use Rattle.std.proofs.Math.ListN.{length}
use Rattle.model.specs.Limits.{total_limit, sum_limit, most_emitters}
use Rattle.model.specs.Basic.{sum, some, tab_from}
use Rattle.model.specs.World.{World, world_cells, block, gas_total}
use Rattle.model.specs.Emitters.{standing, kept_units, present_units, has_id, emitter_added, emitter_removed}
use Rattle.model.specs.Step.{Call, add_emitter, remove_emitter, tick, Exchange, no_exchange, meaning, own_places, step}
use Rattle.model.specs.Lists.{Loaded, loaded_world, after, exchanged}
use Rattle.model.specs.Books.{emitted_sum, entered, fresh_block}
use Rattle.model.proofs.Laws.Basic.{both_false}
use Rattle.model.proofs.Laws.World.{block_changed}
use Rattle.model.proofs.Laws.Emitters.{Sound, kept_is, none_room, none_sound, fresh_emitted, entered_rest, entered_emitted, entered_nothing, entered_twice, entered_sound, entered_added, length_added, added_present, added_behind, added_has, add_remove}
use Rattle.model.proofs.Laws.OneTracer.{booked_own}
use Rattle.model.proofs.Laws.Step.{Reached, passes, answer_is, own_refusal, loaded_is, loaded_block, loaded_reached}
use Rattle.model.proofs.Laws.Keeps.{exchange_accepted}
use Rattle.model.proofs.Laws.Lists.{after_append}
use Rattle.model.proofs.Laws.Standing.{record_left, no_place_lem, step_next, can_remove, can_be_added, names_not, step_beside}
use Rattle.model.proofs.Demand3.{any_keeps}

-- calls that name another tracer than t, or none, as sweeps and remaps do; no loads
unfoldable pub besides : ℕ → List Call → Bool
besides t [] = true
besides t (call ∷ calls) = (meaning call).listed && names_not t (meaning call).names && besides t calls

-- a tick of tracer t for each entry of a list, and after it the calls of that entry
unfoldable pub ticking : ℕ → List (List Call) → List Call
ticking t [] = []
ticking t (calls ∷ rest) = tick t ∷ calls ++ ticking t rest

unfoldable pub all_beside : ℕ → List (List Call) → Bool
all_beside t [] = true
all_beside t (calls ∷ rest) = besides t calls && all_beside t rest

-- tracer t's block after a load of so many units, with so much emitted since
abbrev pub emitted_block : (loaded given : ℕ) → List ℕ
emitted_block loaded given = entered (fresh_block loaded) given 0

module _ (t c id units loaded : ℕ) where
  bare_sound : (given cells : ℕ) → Sound cells (emitted_block loaded given)
  bare_sound given cells = entered_sound (none_sound loaded cells) given 0

  bare_room : (given : ℕ) → standing (emitted_block loaded given) < most_emitters
  bare_room given = rw (entered_rest (fresh_block loaded) given 0 0 (omega arith) (omega arith)) (none_room loaded)

  bare_has : (given : ℕ) → has_id (emitted_block loaded given) id ≡ false
  unfolding tab_from some
  bare_has given = refl

  bare_present : (given : ℕ) → present_units (emitted_block loaded given) ≡ 0
  unfolding tab_from sum
  bare_present given = refl

  abbrev stack : ℕ → List ℕ
  stack given = emitter_added (emitted_block loaded given) id c units

  -- a world in which tracer t has this emitter and no other, which has given so much
  record Stands (given : ℕ) (w : World) : Type 0 where
    reached : Reached w
    there : t < w.grid.N
    inside : c < world_cells w.grid
    only : block w t ≡ stack given
    total_is : gas_total w t ≡ loaded + given

  units_kept : {given : ℕ} {w : World} → Stands given w → kept_units (block w t) ≡ units
  units_kept {given} {w} s =
      kept_is (s.reached.blocks t s.there) ∙ ap present_units s.only ∙
      added_present (emitted_block loaded given) (bare_sound given 0).many id c units (bare_room given) ∙
      ap (λ (x : ℕ). x + units) (bare_present given) ∙
      omega arith

  -- what its book has as emitted
  given_is : {given : ℕ} {w : World} → Stands given w → emitted_sum (block w t) ≡ given
  given_is {given} {w} s =
      ap emitted_sum s.only ∙ added_behind (emitted_block loaded given) (bare_sound given 0).many id c units (bare_room given) 57 (omega arith) ∙
      entered_emitted (fresh_block loaded) given 0 (none_sound loaded 0).many ∙ ap (λ (x : ℕ). x + given) (fresh_emitted loaded) ∙ omega arith

  -- calls beside it leave it, and the total
  one_beside : {given : ℕ} {w : World} (call : Call) → (meaning call).listed ≡ true → names_not t (meaning call).names ≡ true → Stands given w → Stands given (step w call).next
  one_beside {given} {w} call held other s =
      let same = step_beside t call held other w s.reached in
      let kept = (any_keeps call held w s.reached).kept in
      record {
        reached = kept.reached;
        there = rw kept.same_grid s.there;
        inside = rw kept.same_grid s.inside;
        only = same.0 ∙ s.only;
        total_is =
            omega (
              arith,
              kept.gas_kept t s.there,
              ap (λ (x : Exchange). x.emitted) same.1,
              ap (λ (x : Exchange). x.withdrawn) same.1,
              s.total_is,
            );
      }

  all_beside_lem : {given : ℕ} {w : World} (calls : List Call) → besides t calls ≡ true → Stands given w → Stands given (after w calls)
  unfolding besides after
  all_beside_lem [] e s = s
  all_beside_lem {given = given} {w = w} (call ∷ calls) e s =
      let p = (and-eq-true_iff ((meaning call).listed && names_not t (meaning call).names) (besides t calls)).0 e in
      let q = (and-eq-true_iff (meaning call).listed (names_not t (meaning call).names)).0 p.0 in
      all_beside_lem {given = given} {w = (step w call).next} calls p.1 (one_beside call q.0 q.1 s)

  -- a tick is accepted, and the total is higher by its units
  tick_accepted : {given : ℕ} {w : World} → Stands given w → loaded + given + units ≤ total_limit → (step w (tick t)).answer ≡ 0
  unfolding own_places
  tick_accepted {given} {w} s room =
      answer_is w (tick t) ∙ own_refusal w (tick t) s.reached refl ∙ record_left w s.reached t s.there _ ∙
      passes _ [] w
      (both_false
      (le-ltb total_limit (gas_total w t + kept_units (block w t)) (omega (arith, s.total_is, units_kept s)))
      (le-ltb sum_limit (emitted_sum (block w t) + kept_units (block w t)) (omega (arith, given_is s, units_kept s)))) ∙
      no_place_lem w

  one_tick : {given : ℕ} {w : World} → Stands given w → loaded + given + units ≤ total_limit → Stands (given + units) (step w (tick t)).next
  one_tick {given} {w} s room =
      let accepted = tick_accepted s room in
      let kept = (any_keeps (tick t) refl w s.reached).kept in
      let x : Exchange = record { emitted = kept_units (block w t); withdrawn = 0 } in
      let emits : exchanged w t (tick t) ≡ x = exchange_accepted w (tick t) accepted t ∙ ap (λ (b : Bool). elim b [ true ↦ x | false ↦ no_exchange ]) (eq-eqb t t refl) in
      record {
        reached = kept.reached;
        there = rw kept.same_grid s.there;
        inside = rw kept.same_grid s.inside;
        only =
            ap (λ (v : World). block v t) (step_next w (tick t) accepted).0 ∙
            booked_own w s.reached.fits.ledger_length t s.there (record { emitted = kept_units (block w t); withdrawn = 0 }) ∙
            ap₂ (λ (b : List ℕ) (x : ℕ). entered b x 0) s.only (units_kept s) ∙
            entered_added (emitted_block loaded given) units 0 id c units (bare_room given) ∙
            ap (λ (b : List ℕ). emitter_added b id c units) (entered_twice (fresh_block loaded) (none_sound loaded 0).many given 0 units 0);
        total_is =
            omega (
              arith,
              kept.gas_kept t s.there,
              ap (λ (x : Exchange). x.emitted) emits,
              ap (λ (x : Exchange). x.withdrawn) emits,
              s.total_is,
              units_kept s,
            );
      }

  all_ticks :
      {given : ℕ} {w : World} (rest : List (List Call)) → all_beside t rest ≡ true → loaded + given + length rest * units ≤ total_limit →
      Stands given w → Stands (given + length rest * units) (after w (ticking t rest))
  unfolding ticking all_beside after
  all_ticks {given} {w} [] e room s = rw (zero-mul units, add-zero given) s
  all_ticks {given} {w} (calls ∷ rest) e room s =
      let p = (and-eq-true_iff (besides t calls) (all_beside t rest)).0 e in
      let first = one_tick s (omega arith) in
      let between = all_beside_lem calls p.0 first in
      let last = all_ticks {given = given + units} rest p.1 (omega arith) between in
      let sum : given + units + length rest * units ≡ given + (suc (length rest)) * units = omega arith in
      rw (after_append (step w (tick t)).next calls (ticking t rest)) (rw sum at last)

  -- its removal leaves the tracer without emitters, and the total as it is
  removal : {given : ℕ} {w : World} → Stands given w → (gas_total (step w (remove_emitter t id)).next t ≡ loaded + given) × (block (step w (remove_emitter t id)).next t ≡ emitted_block loaded given)
  removal {given} {w} s =
      let none = bare_sound given (world_cells w.grid) in
      let has : has_id (block w t) id ≡ true = rw s.only (added_has none id c units (bare_room given) s.inside (bare_has given)) in
      let accepted : (step w (remove_emitter t id)).answer ≡ 0 = answer_is w (remove_emitter t id) ∙ can_remove w s.reached t id s.there has in
      let is = (step_next w (remove_emitter t id) accepted).0 in
      let left : emitter_removed (block w t) id ≡ emitted_block loaded given = ap (λ (b : List ℕ). emitter_removed b id) s.only ∙ add_remove none id c units (bare_room given) s.inside (bare_has given) in (
        ap (λ (v : World). gas_total v t) is ∙ s.total_is,
        ap (λ (v : World). block v t) is ∙ block_changed w s.reached.fits.ledger_length t s.there (emitter_removed (block w t) id) (rw left none.many) ∙ left,
      )

-- After a load, a stack added, n ticks and its removal, whatever sweeps and remaps come between, the gas's total is n times its units higher, its book has them as emitted, and none stands: with `first` before the first tick and one entry of `rest` after each
pub inventory :
    (w : World) (t c id units : ℕ) (first : List Call) (rest : List (List Call)) → Loaded w →
    let start = loaded_world w in
    let end = after start ((add_emitter t c id units ∷ first) ++ ticking t rest ++ (remove_emitter t id ∷ [])) in
    t < start.grid.N → c < world_cells start.grid → besides t first ≡ true → all_beside t rest ≡ true →
    gas_total start t + length rest * units ≤ total_limit →
    (gas_total end t ≡ gas_total start t + length rest * units) × (block end t ≡ emitted_block (gas_total start t) (length rest * units))
unfolding after
inventory w t c id units first rest loaded there inside beside_first beside-rest room =
    let before = all_beside_lem t c id units loaded_units first beside_first added in
    let ticked = rw (zero-add (length rest * units)) at (all_ticks t c id units loaded_units rest beside-rest (omega arith) before) in
    let service : List Call = add_emitter t c id units ∷ first in
    rw (after_append start (service ++ ticking t rest) (remove_emitter t id ∷ []), after_append start service (ticking t rest))
    (removal t c id units loaded_units ticked)
  where
    start : World
    start = loaded_world w

    reached : Reached start
    reached = loaded_reached w loaded

    loaded_units : ℕ
    loaded_units = gas_total start t

    none : block start t ≡ emitted_block loaded_units 0
    none =
        loaded_block w loaded t (rw (loaded_is w loaded) at there) ∙ ap fresh_block (sym (ap (λ (v : World). gas_total v t) (loaded_is w loaded))) ∙
        sym (entered_nothing (fresh_block loaded_units))

    free : standing (block start t) < most_emitters
    free = rw none (bare_room t c id units loaded_units 0)

    accepted : (step start (add_emitter t c id units)).answer ≡ 0
    accepted =
        answer_is start (add_emitter t c id units) ∙
        can_be_added start reached t c id units there inside free (rw none (bare_has t c id units loaded_units 0))

    -- the world with it
    added : Stands t c id units loaded_units 0 (step start (add_emitter t c id units)).next
    added =
        let is = (step_next start (add_emitter t c id units) accepted).0 in
        let kept = (any_keeps (add_emitter t c id units) refl start reached).kept in
        record {
          reached = kept.reached;
          there = rw kept.same_grid there;
          inside = rw kept.same_grid inside;
          only =
              ap (λ (v : World). block v t) is ∙
              block_changed start reached.fits.ledger_length t there (emitter_added (block start t) id c units) (length_added (block start t) (reached.blocks t there).many id c units) ∙
              ap (λ (b : List ℕ). emitter_added b id c units) none;
          total_is = ap (λ (v : World). gas_total v t) is ∙ sym (add-zero loaded_units);
        }
