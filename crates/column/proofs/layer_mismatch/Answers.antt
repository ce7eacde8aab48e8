-- `column::layer_mismatch` meets its contract: the two cases of `mismatch_unless`.
use Rattle.column.specs.Gas.{mismatch_unless}
use Rattle.column.proofs.layer_mismatch.Goals as goal

pub returns-then-none : goal.returns-then-none
unfolding mismatch_unless
returns-then-none c = rw (c.if-none.true, mismatch_unless)

pub returns-else-none : goal.returns-else-none
unfolding mismatch_unless
returns-else-none c = rw (c.if-none.false, mismatch_unless) c.mismatch.ensures.is
