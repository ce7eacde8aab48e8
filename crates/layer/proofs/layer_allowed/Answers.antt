-- `layer::layer_allowed` meets its contract: the south cap's test, the rows' and the north cap's are every cell's.
use Rattle.std.proofs.Common.{◌&&◌, ◌∙◌}
use Rattle.substep.specs.Faces.{flow_of}
use Rattle.substep.specs.Cells.{cell_allows}
use Rattle.layer.specs.Cells.{south_cell, north_cell, allowed_cells}
use Rattle.layer.proofs.layer_allowed.Goals as goal

pub returns : goal.returns
returns c =
    let a = c.args in
    let w = a.shape.w in
    let rows = a.shape.rows in
    let up = a.flow.up.now in
    let down = a.flow.down.now in
    let south = rw c.new.ensures at c.cell_allows-at_south.ensures ∙ cell_allows (south_cell w rows up down c.cap-south_in.ensures c.cap-south_out.ensures) a.air.now in
    let north = rw c.new-2.ensures at c.cell_allows-at_north.ensures ∙ cell_allows (north_cell w rows up down c.cap-north_in.ensures c.cap-north_out.ensures) a.air.now in
    (λ i. south i && c.rows_allow.ensures i && north i) ∙ allowed_cells w rows (flow_of up down) a.air.now
