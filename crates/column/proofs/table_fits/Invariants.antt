-- The tests passed, of the pairs passed.
use Rattle.std.proofs.Common.{◌≡◌}
use Rattle.model.specs.Basic.{every}
use Rattle.column.specs.Laws.{pair_fits}
use Rattle.column.proofs.table_fits.Given as goal

abbrev pub invariant-loop-j : goal.invariant-loop-j
invariant-loop-j l = l.ok ≡ every l.j (pair_fits l.table)
