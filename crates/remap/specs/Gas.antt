-- One tracer in one column: what `move_gas` requires and ensures, in terms of the column's air and edges.
use Rattle.std.specs.Prelude.{ℕ, suc, ◌+◌, ◌≤◌, List, Bool, ◌||◌, ◌≡◌, eqb, length}
use Rattle.std.proofs.Common.{sym, ap, ap₂, ◌∙◌, add-one, arith}
use Rattle.units.specs.declared.Mismatch as code
use Rattle.model.specs.Limits.{total_limit}
use Rattle.model.specs.Basic.{at, sum}
use Rattle.model.specs.Limiters.{Limiter, rule_for}
use Rattle.model.specs.Remap.{air_above, new_tracer, layers}
use Rattle.model.proofs.Laws.Basic.{sum_tab}
use Rattle.substep.specs.Pieces.{HasAir, AreRatios}
use Rattle.column.specs.Column.{firsts, AreEdges}
use Rattle.column.specs.Gas.{Spans, ColumnGasNeed, IsRemapped}
use Rattle.remap.specs.Columns.{ColumnNeed, column_of, column_set, set_length, set_ext}

abbrev pub cap_at : ℕ → ℕ → Bool
cap_at cells c = eqb c 0 || eqb (suc c) cells

-- what new layer i shall have, by a limiter, in the column at place c, whose old air is a
abbrev pub layer_new : Limiter → ℕ → ℕ → List ℕ → List ℕ → List ℕ → ℕ → ℕ → ℕ
layer_new l k cells table a gas c i = new_tracer table (air_above a k) (layers (rule_for l) (cap_at cells c) k a (column_of k cells gas c)) i

-- air, edges that serve, and a tracer within the limit
pub record GasNeed (gas air e : List ℕ) (c cells k : ℕ) : Type 0 where
  pub column : ColumnNeed gas c cells k
  pub spans : Spans k air e
  pub total : sum k (at (column_of k cells gas c)) ≤ total_limit

-- the column is remapped, whatever table the edges are of, and all else is as it was
pub record IsGasMoved (l : Limiter) (gas air e : List ℕ) (c cells k : ℕ) (next : List ℕ) : Type 0 where
  pub long : length next ≡ length gas
  pub is :
      (table : List ℕ) → AreEdges table (air_above (firsts k air) k) k e →
      next ≡ column_set cells gas c (layer_new l k cells table (firsts k air) gas c) k

-- room for the ratios of the column's layers, which have air
pub ratios_need :
    {gas air e : List ℕ} {c cells k : ℕ} → GasNeed gas air e c cells k → (column q : List ℕ) → k ≤ length column → k ≤ length q → HasAir k air column q
ratios_need need column q room_gas room =
    record { air_long = need.spans.room_air; gas_long = room_gas; room = room; some = need.spans.least }

module _
    {gas air e : List ℕ} {c cells k : ℕ} (need : GasNeed gas air e c cells k) (old : List ℕ)
    (loaded : firsts k old ≡ column_of k cells gas c) where
  pub gas_need :
      {q : List ℕ} {slopes : List code.Mismatch} {new : List ℕ} → AreRatios k air old q → k ≤ length old → k ≤ length q → k ≤ length slopes →
      k ≤ length new → ColumnGasNeed k air old q slopes e new
  gas_need ratios room_gas room_ratios room_slopes room =
      let own : sum k (at old) ≡ sum k (at (column_of k cells gas c)) = sym (sum_tab k (at old)) ∙ ap (λ (l : List ℕ). sum k (at l)) loaded in
      record {
        spans = need.spans;
        total = omega (arith, own, need.total);
        room_gas = room_gas;
        room_ratios = room_ratios;
        ratios = ratios;
        room_slopes = room_slopes;
        room = room;
      }

  pub gas_moved_lem :
      {l : Limiter} {cap : Bool} {new next : List ℕ} {steps ends : ℕ} → cap ≡ eqb c 0 || eqb (c + 1) cells →
      IsRemapped l cap k air old e new steps ends → next ≡ column_set cells gas c (at new) k → IsGasMoved l gas air e c cells k next
  gas_moved_lem {l} {cap} {new} cap-is made stored =
      record {
        long = ap length stored ∙ set_length cells gas c (at new) k;
        is =
            λ table are.
            stored ∙
            set_ext cells gas c (at new) (layer_new l k cells table (firsts k air) gas c) k
            (λ i h.
            made.is table are i h ∙
            ap₂ (λ (b : Bool) (amounts : List ℕ). new_tracer table (air_above (firsts k air) k) (layers (rule_for l) b k (firsts k air) amounts) i)
            (cap-is ∙ ap (λ (n : ℕ). eqb c 0 || eqb n cells) (add-one c))
            loaded);
      }
