-- Document 02, Slip 3: the walk down a column that keeps "the running amount from edge to edge", step by step.
-- For any layers and edges: layer k is f k, edge j is e j, and m is the last edge's number. Edge 0 is the start and no step.
use Rattle.std.specs.Prelude.{ℕ, zero, suc, ◌+◌, ◌*◌, ◌-◌, ◌≤◌, ◌<◌, List, Bool, true, false, ◌&&◌, ◌≡◌, leb, ltb, eqb}
use Rattle.model.specs.Basic.{at, how_many}
use Rattle.model.specs.Scheme.{Rule, low_piece}
use Rattle.model.specs.Remap.{ColumnLayer, air_above, edge, layer_mismatch, amount_above}

-- Where a walk stands: how many old layers it has passed, their air, and their tracer, "the running amount";
-- the number of the edge passed last, after which the next is due, and the tracer above that edge, its mark
pub record Walk : Type 0 where
  pub layers : ℕ
  pub above : ℕ
  pub amount : ℕ
  pub edges : ℕ
  pub mark : ℕ

abbrev pub at_top : Walk
at_top = record { layers = 0; above = 0; amount = 0; edges = 0; mark = 0 }

-- A step that passes layer l "adding .. one layer's amount"
abbrev pub pass_layer : ColumnLayer → Walk → Walk
pass_layer l w =
    record { layers = suc w.layers; above = w.above + l.air; amount = w.amount + l.tracer; edges = w.edges; mark = w.mark }

-- A step that passes an edge at x in layer l, adding one piece
abbrev pub pass_edge : ColumnLayer → ℕ → Walk → Walk
pass_edge l x w =
    record {
      layers = w.layers;
      above = w.above;
      amount = w.amount;
      edges = suc w.edges;
      mark = w.amount + low_piece l.slope l.air l.tracer (x - w.above);
    }

-- "steps, each passing one edge or one old layer": an edge in a layer, or at its end, before the layer. Past the last edge there is no step
unfoldable pub walk_step : (ℕ → ColumnLayer) → (ℕ → ℕ) → ℕ → Walk → Walk
walk_step f e m w =
    elim (ltb w.edges m) [
      | true ↦
          elim (leb (e (suc w.edges)) (w.above + (f w.layers).air)) [
            | true ↦ pass_edge (f w.layers) (e (suc w.edges)) w
            | false ↦ pass_layer (f w.layers) w
          ]
      | false ↦ w
    ]

-- Where a walk stands after s steps from the top
unfoldable pub walk : (ℕ → ColumnLayer) → (ℕ → ℕ) → ℕ → ℕ → Walk
walk f e m zero = at_top
walk f e m (suc s) = walk_step f e m (walk f e m s)

-- Whether the step from w passes an edge that lies where the layer ends; how many of the first s steps do. No part of `step`: the remap's count is found by it
abbrev pub passes_end : (ℕ → ColumnLayer) → (ℕ → ℕ) → ℕ → Walk → Bool
passes_end f e m w = ltb w.edges m && eqb (e (suc w.edges)) (w.above + (f w.layers).air)

abbrev pub ends_passed : (ℕ → ColumnLayer) → (ℕ → ℕ) → ℕ → ℕ → ℕ
ends_passed f e m s = how_many s (λ t. passes_end f e m (walk f e m t))

-- A tracer's walk down a column, by the table's edges in it
abbrev pub layer_of : Rule → Bool → ℕ → List ℕ → List ℕ → ℕ → ColumnLayer
layer_of rule cap K air gas k = record { air = at air k; tracer = at gas k; slope = layer_mismatch rule cap K air gas k }

abbrev pub column_walk : Rule → Bool → ℕ → List ℕ → List ℕ → List ℕ → ℕ → Walk
column_walk rule cap K table air gas = walk (layer_of rule cap K air gas) (edge table (air_above air K)) K

-- "a budget of 2K steps"
abbrev pub budget : ℕ → ℕ
budget K = 2 * K

-- Step s passes the lower edge of new layer j, and the mark gains `amount`
pub record Passes (walked : ℕ → Walk) (j amount s : ℕ) : Type 0 where
  pub before : (walked s).edges ≡ j
  pub after : (walked (suc s)).edges ≡ suc j
  pub gained : amount ≡ (walked (suc s)).mark - (walked s).mark

-- "a budget of 2K steps .. always reaches the last edge" of a walk by K edges e through the layers ls; after s steps so many edges and old layers together are passed.
-- "Every result .. is as before.": the marks are G at the edges, and each new layer's tracer, G(edge(j+1)) − G(edge(j)), is what the mark gains in one step.
-- The exact number is 2K − 1, since an edge is passed before a layer that ends at it; no smaller one serves
pub record InBudget (walked : ℕ → Walk) (K : ℕ) (ls : List ColumnLayer) (e : ℕ → ℕ) : Type 0 where
  pub reaches : (walked (budget K)).edges ≡ K
  pub each : (s : ℕ) → s < budget K → (walked s).layers + (walked s).edges ≡ s
  pub marks : (s : ℕ) → (walked s).mark ≡ amount_above ls (e (walked s).edges)
  pub results : (j : ℕ) → j < K → (s : ℕ) × (s < budget K) × Passes walked j (amount_above ls (e (suc j)) - amount_above ls (e j)) s
  pub from : (s : ℕ) → budget K ≤ s + 1 → (walked s).edges ≡ K
  pub not_before : (s : ℕ) → s + 1 < budget K → (walked s).edges < K
