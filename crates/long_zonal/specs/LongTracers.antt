-- The row of every tracer swept over the same air by its own limiter, one tracer after the other. W is the row's length.
use Rattle.std.specs.Prelude.{ℕ, ◌+◌, ◌*◌, ◌-◌, ◌≤◌, ◌<◌, List, ◌≡◌, length}
use Rattle.std.proofs.Common.{sym, ap, ap₂, ◌∙◌, le_trans, mul-le-mul, le_of_eq, arith}
use borrow.Rule.Slice.PartMut.{put_mid}
use Rattle.model.specs.Limits.{total_limit, most_cells, most_tracers, most_amounts, block_numbers}
use Rattle.model.specs.Basic.{at, part, written, sum, joined, tab}
use Rattle.model.specs.Limiters.{Limiter}
use Rattle.model.proofs.Laws.Basic.{length_part, length_tab, length_written}
use Rattle.model.proofs.Laws.Entries.{part_sum_le}
use Rattle.units.specs.Limiter.{limiter_at}
use Rattle.units.specs.Limiter as units
use Rattle.units.specs.EachTracer.{Changes, changed_up_to, gas_inside, length_gas, part_kept, part_more}
use Rattle.units.specs.Lent.{part_lent, put_back}
use Rattle.long_row.specs.Air.{DeparturesServe}
use Rattle.long_row.specs.Gas.{LongGasNeed, gas_by}

-- n tracers of `cells` amounts and a block each, a row from cell `first` on inside them, and its departures
pub record RowsNeed (tracers ledger air e : List ℕ) (first cells n : ℕ) : Type 0 where
  pub departures : DeparturesServe air e
  pub few : n ≤ most_tracers
  pub few_cells : cells ≤ most_cells
  pub long : length tracers ≡ n * cells
  pub blocks : length ledger ≡ n * block_numbers
  pub inside : first + length air ≤ cells
  pub totals : (t : ℕ) → t < n → sum cells (at (part tracers (t * cells) cells)) ≤ total_limit

-- what tracer t shall have, and all of them
abbrev pub row_swept : ℕ → ℕ → List ℕ → List ℕ → List ℕ → List ℕ → ℕ → List ℕ
row_swept cells first ledger e air tracers t =
    written (part tracers (t * cells) cells) first
    (gas_by (limiter_at ledger t) e air (part (part tracers (t * cells) cells) first (length air)))

abbrev pub rows_swept : ℕ → ℕ → ℕ → List ℕ → List ℕ → List ℕ → List ℕ → List ℕ
rows_swept n cells first ledger e air tracers = joined (tab n (row_swept cells first ledger e air tracers))

-- the rows of the first t tracers swept
abbrev pub swept_up_to : ℕ → ℕ → ℕ → List ℕ → List ℕ → List ℕ → List ℕ → List ℕ
swept_up_to t cells first ledger e air tracers = changed_up_to tracers cells (row_swept cells first ledger e air tracers) t

module _ {tracers ledger air e : List ℕ} {first cells n : ℕ} (need : RowsNeed tracers ledger air e first cells n) where
  abbrev W : ℕ
  W = length air

  length_swept : (l : Limiter) (gas : List ℕ) → length (gas_by l e air gas) ≡ W
  length_swept l gas = length_tab W _

  pub rows_change : Changes tracers n cells (row_swept cells first ledger e air tracers)
  rows_change =
      record {
        long = need.long;
        sized = λ t h. length_written _ _ first W cells (length_gas tracers n cells need.long h) (length_swept _ _) need.inside;
      }

  -- where tracer t's row ends
  pub row_room : {t : ℕ} → t < n → (t * cells + first + W ≤ length tracers) × (t * cells + first + W ≤ most_amounts)
  row_room {t} h =
      let most : n * cells ≤ most_amounts = mul-le-mul {n₂ = most_tracers} {m₂ = most_cells} need.few need.few_cells in
      let inside = gas_inside tracers n cells need.long h in
      (omega (arith, need.inside), omega (arith, need.inside, need.long))

  -- where its block ends
  pub block_room : {t : ℕ} → t < n → (t * block_numbers + block_numbers ≤ length ledger) × (t < most_tracers)
  block_room h = units.block_room ledger (le_of_eq (sym need.blocks)) need.few h

  -- tracer t's row as it is lent, `&mut tracers[a..end]` with end = a + W, when those before it are swept
  module _ {t : ℕ} (h : t < n) {now : List ℕ} (before : now ≡ swept_up_to t cells first ledger e air tracers) where
    abbrev a : ℕ
    a = t * cells + first

    abbrev had : List ℕ
    had = part (part tracers (t * cells) cells) first W

    lent_is : part now a (a + W - a) ≡ had
    lent_is = part_lent now a W ∙ part_kept rows_change h before first W need.inside

    pub gas_need : LongGasNeed (part now a (a + W - a)) air e
    gas_need =
        let whole = length_gas tracers n cells need.long h in
        rw lent_is
        record {
          departures = need.departures;
          long = length_part (part tracers (t * cells) cells) first W (rw whole need.inside);
          total = le_trans (part_sum_le cells (part tracers (t * cells) cells) first W need.inside) (need.totals t h);
        }

    pub swept_more :
        {l : Limiter} → l ≡ limiter_at ledger t → {new : List ℕ} → new ≡ gas_by l e air (part now a (a + W - a)) →
        put_mid a (a + W - a) now new ≡ swept_up_to (t + 1) cells first ledger e air tracers
    swept_more {l} own {new} is =
        let same : new ≡ gas_by (limiter_at ledger t) e air had = is ∙ ap₂ (λ (l : Limiter). gas_by l e air) own lent_is in
        let long : length new ≡ W = ap length same ∙ length_swept (limiter_at ledger t) had in
        put_back now new a W long ∙
        part_more rows_change h before new first (rw long need.inside) (ap (written (part tracers (t * cells) cells) first) same)
