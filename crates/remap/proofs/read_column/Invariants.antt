-- The entries passed are those of the column.
use Rattle.std.proofs.Common.{ℕ, ◌+◌, ◌*◌, ◌≡◌, ◌<◌}
use Rattle.model.specs.Basic.{at}
use Rattle.remap.proofs.read_column.Given as goal

abbrev pub invariant-loop-i : goal.invariant-loop-i
invariant-loop-i l = (n : ℕ) → n < l.i → at l.column n ≡ at l.list (n * l.p.cells + l.p.c)
