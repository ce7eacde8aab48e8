-- `meridional::layer_permits` meets its contract: the flow is filled, and the layer's air is lent with it.
use Rattle.std.proofs.Common.{rules}
use Rattle.units.specs.Grid.{grid_of}
use Rattle.meridional.specs.LayerPlace.{layer_fit, permit}
use Rattle.meridional.proofs.layer_permits.Goals as goal

pub returns : goal.returns
returns c =
    permit c.requires c.layer_cells.ensures.0 c.fill_parts.ensures (rw (c.lent.ensures.0, c.lent.ensures.1, c.of.ensures.0, c.of.ensures.1) at c.layer_allowed.ensures)

pub layer_allowed-requires : goal.layer_allowed-requires
layer_allowed-requires c =
    let a = c.args in
    rw (c.of.ensures.0, c.of.ensures.1)
    (layer_fit (grid_of a.g) c.layer_cells.ensures.0 a.air.now a.first c.requires.range (search rules) (rw c.layer_cells.ensures.0 c.requires.inside))
