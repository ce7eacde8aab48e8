-- What `emitter_place` finds: the named tracer's total, and that its record fits; and the calls that are tested so.
-- Assumes of a call only that it lends no list of its own.
use Rattle.std.specs.Prelude.{ℕ, ◌+◌, ◌*◌, ◌-◌, ◌≤◌, ◌<◌, List, [], ◌∷◌, Bool, true, false, not, ◌||◌, ◌≡◌, leb, length, Result}
use Rattle.std.proofs.Math.Path.{refl}
use Rattle.std.proofs.Common.{sym, ap, ◌∙◌, lit<}
use Rattle.std.proofs.lemmas.Bool.{not-false}
use Rattle.model.specs.Limits.{total_limit, most_emitters, block_numbers}
use Rattle.model.specs.Basic.{part, every}
use Rattle.model.specs.World.{World, world_cells, block, gas_total}
use Rattle.model.specs.Emitters.{standing, emitter_cell, kept_units, has_id, record_fits}
use Rattle.model.specs.Step.{Call, Place, place, absent, no_room, broken_record, meaning, first_of, own_places, lent_fits, refusal, add_emitter, remove_emitter, tick, units_a_tick}
use Rattle.model.proofs.Laws.Basic.{every_at, length_part}
use Rattle.model.proofs.Laws.Grid.{in_range_lem}
use Rattle.model.proofs.Laws.Standing.{no_place_lem}
use Rattle.model.proofs.Laws.Step.{Fits, passes, stops, passed, accepted_passed}
use Rattle.model.proofs.Laws.Step as steps
use Rattle.units.specs.declared.Refusal.{Refusal}
use Rattle.units.specs.Lent.{part_lent}
use Rattle.books.specs.Lent.{BlockThere, block_there}
use Rattle.ledger.specs.Block.{Kept, record_kept}
use Rattle.places.specs.declared.Lent.TheVariants.{Nothing}
use Rattle.places.specs.Walk.{Left, IsPlaced}
use Rattle.places.specs.Tested.{Passed}

-- ---- the calls that are refused first where tracer t is absent or a record broken, and then by the places `rest`
pub record Names (w : World) (t : ℕ) (call : Call) (rest : List Place) : Type 0 where
  pub lent : lent_fits w.grid call ≡ true
  pub limiters : (meaning call).limiters ≡ false
  pub books : (meaning call).books ≡ true
  pub places : first_of (own_places call) w ≡ first_of (absent t (λ g. g.N) ∷ broken_record ∷ rest) w

abbrev pub named : ℕ → List Place
named t = absent t (λ g. g.N) ∷ broken_record ∷ []

module _ {w : World} {t : ℕ} where
  pub names_left : {totals : List ℕ} → Passed w Nothing totals → Left w (Names w t) (named t)
  names_left passed =
      record { is = λ call rest names. passed.left.is call (own_places call) (record { fit = names.lent; limiters = names.limiters; books = names.books; own = refl }) ∙ names.places }

-- ---- what is found: the tracer's total, and that its block lies in the ledger, with a record that fits
pub record EmittersFound (w : World) (t total : ℕ) : Type 0 where
  pub left : Left w (Names w t) []
  pub fits : Fits w
  pub there : t < w.grid.N
  pub there_block : BlockThere w.ledger t
  pub record_fits_lem : record_fits (world_cells w.grid) (block w t) ≡ true
  pub kept : Kept (block w t)
  pub cells : (i : ℕ) → i < standing (block w t) → emitter_cell (block w t) i < world_cells w.grid
  pub is : total ≡ gas_total w t
  pub limit : total ≤ total_limit

abbrev pub IsEmitterPlace : World → ℕ → Result ℕ Refusal → Type 0
IsEmitterPlace w t = IsPlaced w (Names w t) (EmittersFound w t)

-- the tracer's part of the ledger as a call lends it on: it is the block, of 59 numbers
abbrev pub lent_block : World → ℕ → List ℕ
lent_block w t = part w.ledger (t * block_numbers) (t * block_numbers + block_numbers - t * block_numbers)

pub block_lent : (w : World) (t : ℕ) → lent_block w t ≡ block w t
block_lent w t = part_lent w.ledger (t * block_numbers) block_numbers

pub lent_long : {w : World} {t total : ℕ} → EmittersFound w t total → length (lent_block w t) ≡ block_numbers
lent_long {w} {t} found = ap length (block_lent w t) ∙ length_part w.ledger (t * block_numbers) block_numbers found.there_block.inside

-- the records' test, with the code's number of cells
pub records_test : (w : World) {cells : ℕ} {r : Bool} → cells ≡ world_cells w.grid →
    r ≡ every w.grid.N (λ t. record_fits cells (block w t)) → r ≡ every w.grid.N (λ t. record_fits (world_cells w.grid) (block w t))
records_test w {cells} same is = is ∙ ap (λ (c : ℕ). every w.grid.N (λ t. record_fits c (block w t))) same

pub emitters_found : {w : World} {t total : ℕ} → Left w (Names w t) [] → Fits w → t < w.grid.N →
    every w.grid.N (λ t. record_fits (world_cells w.grid) (block w t)) ≡ true → total ≡ gas_total w t → EmittersFound w t total
emitters_found {w} {t} left fits there all is =
    let record_is = every_at _ _ all t there in
    let tested = record_kept (world_cells w.grid) (block w t) record_is in
    record {
      left = left;
      fits = fits;
      there = there;
      there_block = block_there w.ledger fits.ledger_length (in_range_lem w.grid fits.grid).high_n there;
      record_fits_lem = record_is;
      kept = tested.0;
      cells = tested.1;
      is = is;
      limit = rw is (fits.totals t there);
    }

-- ---- the calls that `emitter_place` serves, each with the places that it has behind these
abbrev pub no_place : ℕ → ℕ → Place
no_place t id = place 18 (λ w. leb most_emitters (standing (block w t)) || has_id (block w t) id)

abbrev pub no_such : ℕ → ℕ → Place
no_such t id = place 19 (λ w. not (has_id (block w t) id))

abbrev pub over_limit : ℕ → Place
over_limit t = no_room t (λ w. kept_units (block w t))

-- two places of one number may be tested in either order
swapped : (p q : Place) (ps : List Place) (w : World) → p.number ≡ q.number → first_of (p ∷ q ∷ ps) w ≡ first_of (q ∷ p ∷ ps) w
swapped p q ps w same = go (p.applies w) (q.applies w) refl refl
  where
    go : (a b : Bool) → p.applies w ≡ a → q.applies w ≡ b → first_of (p ∷ q ∷ ps) w ≡ first_of (q ∷ p ∷ ps) w
    go true true e f = stops p _ w e ∙ same ∙ sym (stops q _ w f)
    go true false e f = stops p _ w e ∙ sym (passes q _ w f ∙ stops p ps w e)
    go false true e f = passes p _ w e ∙ stops q ps w f ∙ sym (stops q _ w f)
    go false false e f = passes p _ w e ∙ passes q ps w f ∙ sym (passes q _ w f ∙ passes p ps w e)

behind : (p : Place) (ps qs : List Place) (w : World) → first_of ps w ≡ first_of qs w → first_of (p ∷ ps) w ≡ first_of (p ∷ qs) w
unfolding first_of
behind p ps qs w e = ap (λ (n : ℕ). elim (p.applies w) [ true ↦ p.number | false ↦ n ]) e

module _ {w : World} {t : ℕ} where
  -- the cell is tested before the records by `step`, and after them by the code: both places have the number 5
  pub add_names : {c id units : ℕ} → Names w t (add_emitter t c id units) (absent c world_cells ∷ no_place t id ∷ [])
  unfolding own_places
  add_names {c} {id} =
      record {
        lent = refl;
        limiters = refl;
        books = refl;
        places = behind (absent t (λ g. g.N)) _ _ w (swapped (absent c world_cells) broken_record (no_place t id ∷ []) w refl);
      }

  pub remove_names : {id : ℕ} → Names w t (remove_emitter t id) (no_such t id ∷ [])
  unfolding own_places
  remove_names = record { lent = refl; limiters = refl; books = refl; places = refl }

  pub tick_names : Names w t (tick t) (over_limit t ∷ [])
  unfolding own_places
  tick_names = record { lent = refl; limiters = refl; books = refl; places = refl }

  pub units_names : Names w t (units_a_tick t) []
  unfolding own_places
  units_names = record { lent = refl; limiters = refl; books = refl; places = refl }

-- where no place is left, not even to the reading of the units, the named tracer's record passed its test
pub record_tested : {w : World} {t : ℕ} → Left w (Names w t) [] → t < w.grid.N → record_fits (world_cells w.grid) (block w t) ≡ true
record_tested {w} {t} left there =
    let names : Names w t (units_a_tick t) [] = units_names in
    let e : refusal w (units_a_tick t) ≡ 0 = left.is (units_a_tick t) [] names ∙ no_place_lem w in
    let own : first_of (named t) w ≡ 0 = sym names.places ∙ (accepted_passed w (units_a_tick t) e).2 in
    let records = passed broken_record [] w (lit< tt) (steps.found t (λ g. g.N) (broken_record ∷ []) w own).1 in
    every_at w.grid.N (λ t. record_fits (world_cells w.grid) (block w t)) (not-false _ records.0) t there

-- the places that are left to a call
pub places_left : {w : World} {t total : ℕ} → EmittersFound w t total → {call : Call} {rest : List Place} → Names w t call rest → refusal w call ≡ first_of rest w
places_left found {call} {rest} names = found.left.is call rest names
