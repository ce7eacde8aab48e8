-- `rows::store_rows` meets its contract.
use Rattle.rows.specs.Rows.{stored_none, stored_more}
use Rattle.rows.proofs.store_rows.Goals as goal

pub loop-t-init : goal.loop-t-init
loop-t-init c = stored_none c.requires

pub loop-t-preserved : goal.loop-t-preserved
loop-t-preserved c = stored_more c.requires c.loop-t.t c.loop-t-test.true c.loop-t.invariant c.copy_from_slice.ensures.after
