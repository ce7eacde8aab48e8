-- The code's grid and a call's world as the model's, and what is there in a grid.
use Rattle.std.specs.Prelude.{ℕ, ◌<◌, true, List, ◌≡◌}
use Rattle.model.specs.World as model
use Rattle.model.specs.Step.{grid_fits}
use Rattle.model.proofs.Laws.Grid as bounds
use Rattle.units.specs.declared.Grid as declared
use Rattle.units.specs.declared.World as declared_world

abbrev pub grid_of : declared.Grid → model.Grid
grid_of g = record { W = g.w; R = g.r; K = g.k; N = g.n }

-- the world of a call: the grid, and the lent lists
abbrev pub world_of : declared.Grid → (air tracers ledger : List ℕ) → model.World
world_of g air tracers ledger = record { grid = grid_of g; air = air; tracers = tracers; ledger = ledger }

-- .. that a call reads
abbrev pub world_in : declared_world.World → model.World
world_in w = world_of w.grid w.air.now w.tracers.now w.ledger.now

-- W, R, K and N are in their ranges
abbrev pub InRange : declared.Grid → Type 0
InRange g = bounds.InRange (grid_of g)

pub in_range_lem : (g : declared.Grid) → grid_fits (grid_of g) ≡ true → InRange g
in_range_lem g = bounds.in_range_lem (grid_of g)

-- layer k, and row r of layer k, are there
pub record LayerThere (g : declared.Grid) (k : ℕ) : Type 0 where
  pub range : InRange g
  pub layer : k < g.k

pub record RowThere (g : declared.Grid) (k r : ℕ) : Type 0 where
  pub range : InRange g
  pub layer : k < g.k
  pub row : r < g.r
