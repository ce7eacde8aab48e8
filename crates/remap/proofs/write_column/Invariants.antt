-- The cells passed are written.
use Rattle.std.proofs.Common.{◌≡◌}
use Rattle.model.specs.Basic.{at}
use Rattle.remap.specs.Columns.{column_set}
use Rattle.remap.proofs.write_column.Given as goal

abbrev pub invariant-loop-i : goal.invariant-loop-i
invariant-loop-i l = l.list ≡ column_set l.p.cells l.fn.list l.p.c (at l.column) l.i
