-- `column::remap_gas` meets its contract: the mismatches, and the walk.
use Rattle.column.specs.Walk.{line_need, remapped_is}
use Rattle.column.proofs.remap_gas.Goals as goal

pub tracer_between-requires : goal.tracer_between-requires
tracer_between-requires c = line_need c.requires c.fill_slopes.ensures

pub returns : goal.returns
returns c = remapped_is c.requires c.fill_slopes.ensures c.tracer_between.ensures
