-- `zonal::sweep_row` meets its contract: the row's air swept, and every tracer's row loaded, swept and stored, are the model's.
use Rattle.zonal.specs.RowSwept.{rows_sweep, all_swept}
use Rattle.zonal.proofs.sweep_row.Goals as goal

pub sweep_rows-swept-requires : goal.sweep_rows-swept-requires
sweep_rows-swept-requires c = rows_sweep c.requires c.world_cells.ensures.0 c.load_rows-rows.ensures

pub returns : goal.returns
returns c =
    all_swept c.requires c.world_cells.ensures.0 c.load_rows-rows.ensures c.sweep_rows-swept.ensures c.store_rows.ensures
