-- The tests passed, of the edges passed.
use Rattle.std.proofs.Common.{◌≡◌}
use Rattle.model.specs.Basic.{every}
use Rattle.line.specs.Line.{serves_at}
use Rattle.line.proofs.edges_serve.Given as goal

abbrev pub invariant-loop-j : goal.invariant-loop-j
invariant-loop-j l = l.ok ≡ every l.j (serves_at l.e)
