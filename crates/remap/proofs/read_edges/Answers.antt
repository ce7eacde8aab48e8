-- `remap::read_edges` meets its contract.
use Rattle.std.proofs.Common.{arith}
use Rattle.remap.specs.Served.{air_need, column_is}
use Rattle.remap.proofs.read_edges.Goals as goal

pub air_sum-sum-requires : goal.air_sum-sum-requires
air_sum-sum-requires c = air_need c.requires _ c.read_column.ensures (omega (arith, c.requires.column.fit))

pub returns : goal.returns
returns c = column_is c.requires _ c.read_column.ensures (omega (arith, c.requires.column.fit)) (omega (arith, c.requires.column.fit)) c.air_sum-sum.ensures c.fill_edges.ensures
