-- `zonal::count_zonal` meets its contract: the answer of `zonal_place`, with its count alone.
use Rattle.std.specs.Prelude.{Ok}
use Rattle.places.specs.Walk.{hands_on}
use Rattle.zonal.specs.ZonalPlace.{count_like, count_agrees}
use Rattle.zonal.proofs.count_zonal.Goals as goal

pub returns-in_err-zonal_place : goal.returns-in_err-zonal_place
returns-in_err-zonal_place c = hands_on c.from_residual.ensures.1 c.in_err-zonal_place.ensures count_like

pub returns : goal.returns
returns c = count_agrees (Ok _) c.in_ok-zonal_place.ensures
