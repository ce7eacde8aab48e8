-- The entries passed are those of the column, and have their ratios.
use Rattle.std.proofs.Common.{ℕ, ◌+◌, ◌*◌, ◌≡◌, ◌<◌}
use Rattle.model.specs.Basic.{at}
use Rattle.model.specs.Scheme.{ratio}
use Rattle.remap.proofs.read_ratios.Given as goal

abbrev pub invariant-loop-i : goal.invariant-loop-i
invariant-loop-i l = record {
  amounts : (n : ℕ) → n < l.i → at l.column n ≡ at l.gas (n * l.p.cells + l.p.c);
  ratios : (n : ℕ) → n < l.i → at l.q n ≡ ratio (at l.air n) (at l.gas (n * l.p.cells + l.p.c));
}
