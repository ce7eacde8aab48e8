-- A grid and an amount as a body holds them.
use Rattle.std.specs.Prelude.{ℕ, List, ◌≡◌}
use Rattle.model.specs.Basic.{at}
use Rattle.model.specs.World as model
use Rattle.program.specs.Bytes.{number_at}

-- the grid and the amount that a body holds
abbrev pub grid_at : List ℕ → model.Grid
grid_at body = record { W = at body 0; R = at body 1; K = at body 2; N = at body 3 }

pub record IsAmount (body : List ℕ) (tracer cell amount : ℕ) : Type 0 where
  pub tracer_is : tracer ≡ at body 0
  pub cell_is : cell ≡ number_at body 1 2
  pub amount_is : amount ≡ number_at body 3 4
