-- `rows::load_rows` meets its contract.
use Rattle.rows.specs.Rows.{loading_none, loading_more}
use Rattle.rows.proofs.load_rows.Goals as goal

pub loop-t-init : goal.loop-t-init
loop-t-init c = loading_none

pub loop-t-preserved : goal.loop-t-preserved
loop-t-preserved c = loading_more c.requires c.loop-t-test.true c.loop-t.invariant c.copy_from_slice.ensures.after
