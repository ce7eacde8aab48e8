-- All tracers in one column, each by its own limiter: what `move_column` requires and ensures, and its loop, which lends each tracer its part of the amounts.
use Rattle.std.specs.Prelude.{ℕ, suc, ◌+◌, ◌*◌, ◌-◌, ◌≤◌, ◌<◌, List, ◌≡◌, refl, length}
use Rattle.std.proofs.Common.{⊎_elim, sym, ap, ◌∙◌, mul-le-mul, mul-le-mul_right, eq-or-lt_of_le, le_of_eq, arith}
use borrow.Rule.Slice.PartMut.{put_mid}
use Rattle.model.specs.Limits.{total_limit, most_layers, most_layer_cells, most_cells, most_tracers, most_amounts, block_numbers}
use Rattle.model.specs.Basic.{at, part, written, sum}
use Rattle.model.specs.Limiters.{Limiter}
use Rattle.model.specs.Walk.{budget}
use Rattle.model.proofs.Laws.Basic.{length_rewritten, part_rewritten, part_not_rewritten}
use Rattle.units.specs.Limiter.{limiter_at}
use Rattle.units.specs.Limiter as units
use Rattle.units.specs.EachTracer.{length_gas}
use Rattle.units.specs.Lent.{part_lent, put_back}
use Rattle.column.specs.Gas.{Spans, IsCounted}
use Rattle.remap.specs.Columns.{column_of}
use Rattle.remap.specs.Gas.{GasNeed, IsGasMoved}

-- tracer t's part of all amounts
abbrev pub gas_of : ℕ → ℕ → List ℕ → ℕ → List ℕ
gas_of k cells tracers t = part tracers (t * (k * cells)) (k * cells)

pub record ColumnTracersNeed (tracers ledger air e : List ℕ) (c cells k n : ℕ) : Type 0 where
  pub spans : Spans k air e
  pub place : c < cells
  pub few_cells : cells ≤ most_layer_cells
  pub some_tracers : 1 ≤ n
  pub few_tracers : n ≤ most_tracers
  pub long : length tracers ≡ n * (k * cells)
  pub blocks : length ledger ≡ n * block_numbers
  pub totals : (t : ℕ) → t < n → sum k (at (column_of k cells (gas_of k cells tracers t) c)) ≤ total_limit

-- the column is remapped in each tracer
pub record AreTracersMoved (tracers ledger air e : List ℕ) (c cells k n : ℕ) (next : List ℕ) : Type 0 where
  pub long : length next ≡ length tracers
  pub each : (t : ℕ) → t < n → IsGasMoved (limiter_at ledger t) (gas_of k cells tracers t) air e c cells k (gas_of k cells next t)

-- in each of the first t, by a walk of one step less than the budget; the last of them has passed so many ends
pub record TracersUpto (tracers ledger air e : List ℕ) (c cells k n t : ℕ) (now : List ℕ) (steps ends : ℕ) : Type 0 where
  pub inside : t ≤ n
  pub long : length now ≡ length tracers
  pub done : (u : ℕ) → u < t → IsGasMoved (limiter_at ledger u) (gas_of k cells tracers u) air e c cells k (gas_of k cells now u)
  pub left : (u : ℕ) → t ≤ u → u < n → gas_of k cells now u ≡ gas_of k cells tracers u
  pub made : steps + t ≡ t * budget k
  pub counted : 1 ≤ t → IsCounted k air e ends

module _ {tracers ledger air e : List ℕ} {c cells k n : ℕ} (need : ColumnTracersNeed tracers ledger air e c cells k n) where
  abbrev m : ℕ
  m = k * cells

  pub tracers_none : TracersUpto tracers ledger air e c cells k n 0 tracers 0 0
  tracers_none =
      record {
        inside = omega arith;
        long = refl;
        done = λ u h. absurd (omega arith);
        left = λ u h p. refl;
        made = omega arith;
        counted = λ h. absurd (omega arith);
      }

  module _ {t : ℕ} (h : t < n) {now : List ℕ} {steps ends : ℕ} (upto : TracersUpto tracers ledger air e c cells k n t now steps ends) where
    -- where tracer t's part ends, and what is lent of it, `&mut tracers[a..b]` with b = a + m
    pub tracer_room : (t * m + m ≤ length now) × (t * m + m ≤ most_amounts)
    tracer_room =
        let below : suc t * m ≤ n * m = mul-le-mul_right m h in
        let cells_most : m ≤ most_cells = mul-le-mul {n₂ = most_layers} {m₂ = most_layer_cells} need.spans.fit need.few_cells in
        let most : n * m ≤ most_amounts = mul-le-mul {n₂ = most_tracers} {m₂ = most_cells} need.few_tracers cells_most in
        (omega (arith, upto.long, need.long), omega arith)

    -- where its block ends
    pub block_room : (t * block_numbers + block_numbers ≤ length ledger) × (t < most_tracers)
    block_room = units.block_room ledger (le_of_eq (sym need.blocks)) need.few_tracers h

    lent_is : part now (t * m) (t * m + m - t * m) ≡ gas_of k cells tracers t
    lent_is = part_lent now (t * m) m ∙ upto.left t (omega arith) h

    pub lent_need : GasNeed (part now (t * m) (t * m + m - t * m)) air e c cells k
    lent_need =
        rw lent_is
        record {
          column = record { fit = need.spans.fit; few = need.few_cells; place = need.place; long = length_gas tracers n m need.long h };
          spans = need.spans;
          total = need.totals t h;
        }

    -- the sum of the steps fits
    pub column_steps : (s : ℕ) → s + 1 ≡ budget k → steps + s ≤ most_tracers * budget most_layers
    column_steps s made =
        let most : suc t * budget k ≤ most_tracers * budget most_layers =
        mul-le-mul {n₂ = most_tracers} {m₂ = budget most_layers} (omega (arith, need.few_tracers)) (omega (arith, need.spans.fit)) in
        omega (arith, upto.made)

    module _
        {l : Limiter} (own : l ≡ limiter_at ledger t) {new : List ℕ}
        (moved : IsGasMoved l (part now (t * m) (t * m + m - t * m)) air e c cells k new) where
      size : length new ≡ m
      size = moved.long ∙ ap length lent_is ∙ length_gas tracers n m need.long h

      whole : length now ≡ n * m
      whole = upto.long ∙ need.long

      abbrev next : List ℕ
      next = put_mid (t * m) (t * m + m - t * m) now new

      back : next ≡ written now (t * m) new
      back = put_back now new (t * m) m size

      next_own : gas_of k cells next t ≡ new
      next_own = ap (λ (l : List ℕ). part l (t * m) m) back ∙ part_rewritten now new n m t whole size h

      next_other : (u : ℕ) → (u ≡ t → ⊥) → gas_of k cells next u ≡ gas_of k cells now u
      next_other u other = ap (λ (l : List ℕ). part l (u * m) m) back ∙ part_not_rewritten now new n m t whole size h u other

      pub tracers_more : (s : ℕ) {own : ℕ} → s + 1 ≡ budget k → IsCounted k air e own → TracersUpto tracers ledger air e c cells k n (t + 1) next (steps + s) own
      tracers_more s made counted =
          record {
            inside = omega arith;
            long = ap length back ∙ length_rewritten now new n m t whole size h ∙ sym need.long;
            done =
                λ u p.
                ⊎_elim
                (λ (q : u ≡ t). rw (q, next_own, ← lent_is) (rw own at moved))
                (λ (q : u < t). rw (next_other u (λ (z : u ≡ t). omega arith)) (upto.done u q))
                (eq-or-lt_of_le (omega arith));
            left = λ u p q. next_other u (λ (z : u ≡ t). omega arith) ∙ upto.left u (omega arith) q;
            made = omega (arith, upto.made);
            counted = λ p. counted;
          }

  pub tracers_all : {t : ℕ} {now : List ℕ} {steps ends : ℕ} → n ≤ t → TracersUpto tracers ledger air e c cells k n t now steps ends →
      AreTracersMoved tracers ledger air e c cells k n now × (steps + n ≡ n * budget k) × IsCounted k air e ends
  tracers_all {t} all upto =
      let same : t ≡ n = omega (arith, upto.inside) in
      (record { long = upto.long; each = λ u h. upto.done u (omega arith) }, rw same at upto.made, upto.counted (omega (arith, need.some_tracers)))
