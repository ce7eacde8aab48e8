-- `units::layer_start` meets its contract: a layer's cells lie inside the world's.
use Rattle.std.proofs.Common.{◌≡◌, ◌*◌, ℕ, ap, arith}
use Rattle.model.specs.World.{layer_start}
use Rattle.model.proofs.Laws.Grid.{layer_inside}
use Rattle.units.specs.Grid.{grid_of}
use Rattle.units.proofs.layer_start.Goals as goal

pub returns : goal.returns
returns c =
    let start_is : c.args.k * c.layer_cells.result ≡ layer_start (grid_of c.args.g) c.args.k = ap (λ (n : ℕ). c.args.k * n) c.layer_cells.ensures.0 in
    let inside = layer_inside (grid_of c.args.g) _ c.requires.layer in
    (start_is, omega (arith, start_is, inside))
