-- A cell's amount of a tracer: where it stands, and what the calls that name it answer and leave.
use Rattle.std.specs.Prelude.{ℕ, suc, ◌+◌, ◌*◌, ◌-◌, ◌≤◌, ◌<◌, List, [], ◌∷◌, Bool, true, false, not, ◌&&◌, ◌||◌, ◌≡◌, refl, leb, ltb, length, set, Result, Ok, Err}
use Rattle.std.proofs.Common.{sym, ap, ap₂, ◌∙◌, mul-le-mul_right, arith}
use Rattle.std.proofs.lemmas.Bool.{not-true, not-false}
use Rattle.model.specs.Limits.{total_limit, sum_limit, most_amounts, block_numbers}
use Rattle.model.specs.Basic.{at, written, joined, tab}
use Rattle.model.specs.World.{World, world_cells, with_amounts, with_ledger, tracer_start, gas, block, gas_total}
use Rattle.model.specs.Books.{emitted_sum, withdrawn_sum, entered, fresh_block}
use Rattle.model.specs.Step.{no_room, too_little, amount_at, first_of, limiter_places, book_places, own_places, load, emission, withdrawal, cell}
use Rattle.model.proofs.Laws.Basic.{tab_ext, at_part, term_le_sum}
use Rattle.model.proofs.Laws.Grid.{in_range_lem, amounts_most}
use Rattle.model.proofs.Laws.Step.{Fits}
use Rattle.units.specs.declared.Refusal.{Refusal}
use Rattle.units.specs.declared.Refusal.TheVariants.{Emission, Withdrawal}
use Rattle.units.specs.Answer.{Agrees}
use Rattle.units.specs.Agrees.{accepted_agrees}
use Rattle.places.specs.declared.Lent.TheVariants.{Nothing}
use Rattle.places.specs.Walk.{Left, IsPlaced, Like, next, resume, none, refuse}
use Rattle.places.specs.Tested.{WorldPassed}
use Rattle.books.specs.Lent.{BlockThere, block_there, both_within}
use Rattle.amounts.specs.declared.CellPlace.{CellPlace}

-- ---- what `amount_place` finds: where the amount stands among all tracers' amounts, and the tracer's total
pub record CellFound (w : World) (t c : ℕ) (p : CellPlace) : Type 0 where
  pub left : Left w (Like w (cell t c)) []
  pub start : p.index ≡ tracer_start w.grid t + c
  pub inside : p.index < length w.tracers
  pub near : p.index < most_amounts
  pub amount : at w.tracers p.index ≡ amount_at w t c
  pub total : p.total ≡ gas_total w t
  pub limit : p.total ≤ total_limit
  pub share : at w.tracers p.index ≤ p.total
  pub block : BlockThere w.ledger t

abbrev pub IsCellPlace : World → ℕ → ℕ → Result CellPlace Refusal → Type 0
IsCellPlace w t c = IsPlaced w (Like w (cell t c)) (CellFound w t c)

module _ {w : World} (fits : Fits w) {t c cells : ℕ} (tracer_in : t < w.grid.N) (cell_in : c < cells) (same : cells ≡ world_cells w.grid) where
  pub amount_room : (t * cells + c < length w.tracers) × (t * cells + c < most_amounts)
  amount_room =
      let below : suc t * cells ≤ w.grid.N * cells = mul-le-mul_right cells tracer_in in
      let all : w.grid.N * cells ≡ w.grid.N * world_cells w.grid = ap (λ (n : ℕ). w.grid.N * n) same in
      (omega (arith, fits.tracers_length), omega (arith, amounts_most (in_range_lem w.grid fits.grid)))

  pub cell_found : {p : CellPlace} → Left w (Like w (cell t c)) [] → p.index ≡ t * cells + c → p.total ≡ gas_total w t → CellFound w t c p
  cell_found {p} left is total =
      let here : c < world_cells w.grid = rw same at cell_in in
      let start : p.index ≡ tracer_start w.grid t + c = is ∙ ap (λ (n : ℕ). t * n + c) same in
      let amount : at w.tracers p.index ≡ amount_at w t c =
      ap (at w.tracers) start ∙ sym (at_part w.tracers (tracer_start w.grid t) (world_cells w.grid) c here) in
      record {
        left = left;
        start = start;
        inside = rw is amount_room.0;
        near = rw is amount_room.1;
        amount = amount;
        total = total;
        limit = rw total (fits.totals t tracer_in);
        share = rw (amount, total) (term_le_sum (world_cells w.grid) (at (gas w t)) c here);
        block = block_there w.ledger fits.ledger_length (in_range_lem w.grid fits.grid).high_n tracer_in;
      }

-- ---- load
pub load_agrees : {w : World} {totals ledger : List ℕ} → WorldPassed w Nothing totals →
    ledger ≡ joined (tab w.grid.N (λ t. fresh_block (at totals t))) → Agrees w load (Ok 0) (with_ledger w ledger)
unfolding limiter_places book_places own_places first_of
load_agrees {w} passed renewed =
    accepted_agrees (passed.left.is load [] (record { fit = refl; behind = refl })) refl refl
    (ap (with_ledger w) (renewed ∙ ap joined (tab_ext w.grid.N _ _ (λ t h. ap fresh_block (passed.total t h)))))

-- ---- emission and withdrawal, each with its last place
pub emission_like : {w : World} {t c amount : ℕ} → Like w (cell t c) (emission t c amount) (no_room t (λ w. amount) ∷ [])
emission_like = record { lent = refl; limiters = refl; books = refl; places = refl }

pub withdrawal_like : {w : World} {t c amount : ℕ} → Like w (cell t c) (withdrawal t c amount) (too_little t c amount ∷ [])
withdrawal_like = record { lent = refl; limiters = refl; books = refl; places = refl }

module _ {w : World} {t c : ℕ} {p : CellPlace} (found : CellFound w t c p) where
  -- the world with another amount in the cell, and another block of the tracer
  abbrev with : ℕ → List ℕ → World
  with x new = with_ledger (with_amounts w w.air (set w.tracers p.index x)) (written w.ledger (t * block_numbers) new)

  module _ (amount : ℕ) {fit : Bool} (is : fit ≡ leb (p.total + amount) total_limit && leb (emitted_sum (block w t) + amount) sum_limit) where
    room_is : fit ≡ not (ltb total_limit (gas_total w t + amount) || ltb sum_limit (emitted_sum (block w t) + amount))
    room_is =
        is ∙ ap (λ (total : ℕ). leb (total + amount) total_limit && leb (emitted_sum (block w t) + amount) sum_limit) found.total ∙
        both_within (gas_total w t + amount) total_limit (emitted_sum (block w t) + amount) sum_limit

    pub emission_refused : fit ≡ false → Agrees w (emission t c amount) (Err Emission) w
    emission_refused left = refuse (resume found.left emission_like) (not-false _ (sym room_is ∙ left)) refl

    pub emission_agrees : fit ≡ true → Agrees w (emission t c amount) (Ok 0) (with (at w.tracers p.index + amount) (entered (block w t) amount 0))
    emission_agrees taken =
        accepted_agrees (none (next (resume found.left emission_like) (not-true _ (sym room_is ∙ taken)))) refl refl
        (ap₂ (λ (j x : ℕ). with_ledger (with_amounts w w.air (set w.tracers j (x + amount))) (written w.ledger (t * block_numbers) (entered (block w t) amount 0))) found.start found.amount)

  module _ (amount : ℕ) {fit : Bool} (is : fit ≡ leb amount (at w.tracers p.index) && leb (withdrawn_sum (block w t) + amount) sum_limit) where
    taken_is : fit ≡ not (ltb (amount_at w t c) amount || ltb sum_limit (withdrawn_sum (block w t) + amount))
    taken_is =
        is ∙ ap (λ (had : ℕ). leb amount had && leb (withdrawn_sum (block w t) + amount) sum_limit) found.amount ∙
        both_within amount (amount_at w t c) (withdrawn_sum (block w t) + amount) sum_limit

    pub withdrawal_refused : fit ≡ false → Agrees w (withdrawal t c amount) (Err Withdrawal) w
    withdrawal_refused left = refuse (resume found.left withdrawal_like) (not-false _ (sym taken_is ∙ left)) refl

    pub withdrawal_agrees : fit ≡ true → Agrees w (withdrawal t c amount) (Ok 0) (with (at w.tracers p.index - amount) (entered (block w t) 0 amount))
    withdrawal_agrees taken =
        accepted_agrees (none (next (resume found.left withdrawal_like) (not-true _ (sym taken_is ∙ taken)))) refl refl
        (ap₂ (λ (j x : ℕ). with_ledger (with_amounts w w.air (set w.tracers j (x - amount))) (written w.ledger (t * block_numbers) (entered (block w t) 0 amount))) found.start found.amount)

-- ---- the reading
pub cell_agrees : {w : World} {t c : ℕ} {p : CellPlace} → CellFound w t c p → Agrees w (cell t c) (Ok (at w.tracers p.index)) w
cell_agrees found = accepted_agrees (none found.left) refl found.amount refl
