-- The edges passed are the model's.
use Rattle.std.proofs.Common.{ℕ, ◌≡◌, ◌<◌}
use Rattle.model.specs.Basic.{at}
use Rattle.model.specs.Remap.{edge}
use Rattle.column.proofs.fill_edges.Given as goal

abbrev pub invariant-loop-j : goal.invariant-loop-j
invariant-loop-j l = (t : ℕ) → t < l.j → at l.e t ≡ edge l.table l.p.0 t
