-- `long_row::air_serves` meets its contract: the test of the departures is that of the air afterwards.
use Rattle.std.proofs.Common.{◌∙◌}
use Rattle.long_row.specs.Air.{serves_is}
use Rattle.long_row.proofs.air_serves.Goals as goal

pub returns : goal.returns
returns c = c.edges_serve.ensures ∙ serves_is c.requires c.fill_departures.ensures
