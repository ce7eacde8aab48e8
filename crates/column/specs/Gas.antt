-- A tracer's remap in one column, and its pairs: what the functions require and ensure.
use Rattle.std.specs.Prelude.{ℕ, suc, ◌+◌, ◌-◌, ◌≤◌, ◌<◌, List, Bool, true, false, ◌||◌, ◌≡◌, eqb, length}
use Rattle.model.specs.Limits.{air_limit, total_limit}
use Rattle.model.specs.Basic.{at, sum}
use Rattle.model.specs.Scheme.{Mismatch, plain}
use Rattle.units.specs.declared.Mismatch as code
use Rattle.model.specs.Limiters.{Limiter, rule_for}
use Rattle.model.specs.Remap.{air_above, layers, new_tracer, column_count}
use Rattle.model.specs.Walk.{column_walk, budget, Passes}
use Rattle.substep.specs.Pieces.{AreRatios}
use Rattle.line.specs.Slopes.{SlopesTo}
use Rattle.column.specs.Column.{firsts, AreEdges}

-- ---- mismatches
-- none, or the mismatch that a limiter gives from three ratios; that of layer i of k by the layers' ratios
unfoldable pub mismatch_unless : Limiter → Bool → ℕ → ℕ → ℕ → Mismatch
mismatch_unless l none qa q qb = elim none [ true ↦ plain | false ↦ rule_for l qa q qb ]

unfoldable pub slope_at : Limiter → Bool → ℕ → List ℕ → ℕ → Mismatch
slope_at l cap k q i = mismatch_unless l (cap || eqb i 0 || eqb (suc i) k) (at q (i - 1)) (at q i) (at q (suc i))

-- room for the mismatches of 1 to 32 layers
pub record SlopesNeed (k : ℕ) (q : List ℕ) (slopes : List code.Mismatch) : Type 0 where
  pub some : 1 ≤ k
  pub fit : k ≤ 32
  pub room_ratios : k ≤ length q
  pub room_slopes : k ≤ length slopes

-- the list holds those of all layers
pub record AreSlopes (l : Limiter) (cap : Bool) (k : ℕ) (q : List ℕ) (slopes : List code.Mismatch) : Type 0 where
  pub room_slopes : k ≤ length slopes
  pub all : SlopesTo (slope_at l cap k q) k slopes

-- ---- a tracer's remap
-- 1 to 32 layers with air in range, and edges that rise from 0 to their sum
pub record Spans (k : ℕ) (air e : List ℕ) : Type 0 where
  pub some : 1 ≤ k
  pub fit : k ≤ 32
  pub room_air : k ≤ length air
  pub room_edges : k < length e
  pub least : (i : ℕ) → i < k → 1 ≤ at air i
  pub most : (i : ℕ) → i < k → at air i ≤ air_limit
  pub first : at e 0 ≡ 0
  pub last : at e k ≡ air_above (firsts k air) k
  pub rises : (j : ℕ) → j < k → at e j < at e (suc j)

-- such layers and edges, tracer within the limit, its ratios, and room for the mismatches and the new amounts
pub record ColumnGasNeed (k : ℕ) (air gas q : List ℕ) (slopes : List code.Mismatch) (e newgas : List ℕ) : Type 0 where
  pub spans : Spans k air e
  pub total : sum k (at gas) ≤ total_limit
  pub room_gas : k ≤ length gas
  pub room_ratios : k ≤ length q
  pub ratios : AreRatios k air gas q
  pub room_slopes : k ≤ length slopes
  pub room : k ≤ length newgas

-- whatever table the edges are of, the pairs of an old and a new layer that share air are exactly 2k less the `ends`
pub record IsCounted (k : ℕ) (air e : List ℕ) (ends : ℕ) : Type 0 where
  pub is : (table : List ℕ) → AreEdges table (air_above (firsts k air) k) k e → column_count k table (firsts k air) + ends ≡ budget k

-- whatever table the edges are of, r has the new layers' tracer, and `steps` are those of the definition's walk, one after another: one less
-- than its budget, they reach the last edge, and one of them passes each new layer's lower edge, whose amount the mark then gains;
-- the pairs of an old and a new layer that share air are exactly 2k less the `ends`
pub record IsRemapped (l : Limiter) (cap : Bool) (k : ℕ) (air gas e r : List ℕ) (steps ends : ℕ) : Type 0 where
  pub most : steps ≤ budget k
  pub exact : steps + 1 ≡ budget k
  pub reaches :
      (table : List ℕ) → AreEdges table (air_above (firsts k air) k) k e →
      (column_walk (rule_for l) cap k table (firsts k air) (firsts k gas) steps).edges ≡ k
  pub walked :
      (table : List ℕ) → AreEdges table (air_above (firsts k air) k) k e → (j : ℕ) → j < k →
      (s : ℕ) × (s < steps) × Passes (column_walk (rule_for l) cap k table (firsts k air) (firsts k gas)) j (at r j) s
  pub is :
      (table : List ℕ) → AreEdges table (air_above (firsts k air) k) k e → (j : ℕ) → j < k →
      at r j ≡ new_tracer table (air_above (firsts k air) k) (layers (rule_for l) cap k (firsts k air) (firsts k gas)) j
  pub counted : IsCounted k air e ends
