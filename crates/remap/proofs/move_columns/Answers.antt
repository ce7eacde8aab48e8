-- `remap::move_columns` meets its contract.
use Rattle.std.proofs.Common.{arith}
use Rattle.remap.specs.Moved.{moved_none, air_read, air_served, tracers_need, moved_more, moved_all}
use Rattle.remap.proofs.move_columns.Goals as goal

pub loop-c-init : goal.loop-c-init
loop-c-init c = moved_none c.requires

pub read_edges-requires : goal.read_edges-requires
read_edges-requires c = air_read c.requires.moves c.loop-c-test.true c.loop-c.invariant.air_upto

pub move_column-walked-requires : goal.move_column-walked-requires
move_column-walked-requires c = tracers_need c.requires c.loop-c-test.true c.loop-c.invariant c.read_edges.ensures

pub new_air-requires : goal.new_air-requires
new_air-requires c =
    let column = c.read_edges.ensures in
    (air_served c.requires.moves c.loop-c-test.true c.loop-c.invariant.air_upto column, column.room_air)

pub loop-c-preserved : goal.loop-c-preserved
loop-c-preserved c =
    let moved = c.move_column-walked.ensures in
    moved_more c.requires c.loop-c-test.true c.loop-c.invariant c.read_edges.ensures _ moved.0 moved.1 moved.2 c.new_air.ensures
    c.write_column.ensures

pub returns : goal.returns
returns c = moved_all c.requires (omega arith) c.loop-c.invariant
