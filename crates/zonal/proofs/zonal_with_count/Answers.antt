-- `zonal::zonal_with_count` meets its contract: the row found by `zonal_place`, swept if the count found was given.
use Rattle.places.specs.Walk.{hands_on}
use Rattle.zonal.specs.ZonalPlace.{given_like}
use Rattle.zonal.specs.RowSwept.{row_ready, given_agrees, given_refused}
use Rattle.zonal.proofs.zonal_with_count.Goals as goal

pub returns-in_err-found : goal.returns-in_err-found
returns-in_err-found c = hands_on c.from_residual.ensures.1 c.in_err-found.ensures given_like

pub returns-then-given-found : goal.returns-then-given-found
returns-then-given-found c = given_refused c.in_ok-found.ensures c.if-given-found.true

pub sweep_row-requires : goal.sweep_row-requires
sweep_row-requires c = row_ready c.in_ok-found.ensures

pub returns : goal.returns
returns c = given_agrees c.in_ok-found.ensures c.sweep_row.ensures c.if-given-found.false
