-- `long_row::move_air` meets its contract: the air between the departures.
use Rattle.std.proofs.Common.{rules}
use Rattle.long_row.specs.Air.{faces_serve, air_by_lem}
use Rattle.long_row.proofs.move_air.Goals as goal

pub new_air-requires : goal.new_air-requires
new_air-requires c = (faces_serve c.requires, search rules)

pub returns : goal.returns
returns c = air_by_lem c.requires (search rules) c.new_air.ensures
