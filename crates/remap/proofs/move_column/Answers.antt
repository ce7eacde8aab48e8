-- `remap::move_column` meets its contract.
use Rattle.remap.specs.Tracers.{tracers_more}
use Rattle.remap.proofs.move_column.Goals as goal

pub loop-t-preserved : goal.loop-t-preserved
loop-t-preserved c =
    let moved = c.move_gas-walked.ensures in
    tracers_more c.requires c.loop-t-test.true c.loop-t.invariant c.limiter_at-l.ensures moved.0 _ moved.1 moved.2
