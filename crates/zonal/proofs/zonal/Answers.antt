-- `zonal::zonal` meets its contract: the row found by `zonal_place`, swept in the air and in all tracers.
use Rattle.places.specs.Walk.{itself, hands_on}
use Rattle.zonal.specs.RowSwept.{row_ready, zonal_agrees}
use Rattle.zonal.proofs.zonal.Goals as goal

pub returns-in_err-found : goal.returns-in_err-found
returns-in_err-found c = hands_on c.from_residual.ensures.1 c.in_err-found.ensures itself

pub sweep_row-requires : goal.sweep_row-requires
sweep_row-requires c = row_ready c.in_ok-found.ensures

pub returns : goal.returns
returns c = zonal_agrees c.in_ok-found.ensures c.sweep_row.ensures
