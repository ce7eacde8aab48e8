-- The cells passed have the air between their edges.
use Rattle.std.proofs.Common.{ℕ, suc, ◌-◌, ◌≡◌, ◌<◌}
use Rattle.model.specs.Basic.{at}
use Rattle.line.proofs.new_air.Given as goal

abbrev pub invariant-loop-j : goal.invariant-loop-j
invariant-loop-j l = (t : ℕ) → t < l.j → at l.newair t ≡ at l.e (suc t) - at l.e t
