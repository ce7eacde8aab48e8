-- `long_zonal::long_zonal` meets its contract: the row found by `long_place`, swept in all tracers and in the air.
use Rattle.places.specs.Walk.{itself, hands_on}
use Rattle.long_zonal.specs.LongSwept.{row_ready, long_agrees}
use Rattle.long_zonal.proofs.long_zonal.Goals as goal

pub returns-in_err-first : goal.returns-in_err-first
returns-in_err-first c = hands_on c.from_residual.ensures.1 c.in_err-first.ensures itself

pub sweep_row-requires : goal.sweep_row-requires
sweep_row-requires c = row_ready c.in_ok-first.ensures

pub returns : goal.returns
returns c = long_agrees c.in_ok-first.ensures c.sweep_row.ensures
