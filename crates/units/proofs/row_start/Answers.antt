-- `units::row_start` meets its contract: a row's cells lie inside the world's.
use Rattle.std.proofs.Common.{◌≡◌, ◌+◌, ◌*◌, ℕ, ap, arith}
use Rattle.model.specs.World.{row_start}
use Rattle.model.proofs.Laws.Grid.{row_inside_lem}
use Rattle.units.specs.Grid.{grid_of}
use Rattle.units.proofs.row_start.Goals as goal

pub returns : goal.returns
returns c =
    let start_is : c.args.k * c.layer_cells.result + (1 + c.args.r * c.args.g.w) ≡ row_start (grid_of c.args.g) c.args.k c.args.r =
    ap (λ (n : ℕ). c.args.k * n + (1 + c.args.r * c.args.g.w)) c.layer_cells.ensures.0 in
    let inside = row_inside_lem (grid_of c.args.g) _ _ c.requires.layer c.requires.row in
    (start_is, omega (arith, start_is, inside))
