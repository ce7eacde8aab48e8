-- Laws of the parser: a body's length, and a command of a kind that is told.
use Rattle.std.specs.Prelude.{ℕ, ◌≤◌, List, ◌≡◌, length}
use Rattle.std.proofs.Common.{sym, subst}
use Rattle.program.specs.Records as program
use Rattle.kinds.specs.declared.Kind as code
use Rattle.kinds.specs.Kind.{kind_is}
use Rattle.commands.specs.declared.Command.{Command}
use Rattle.commands.specs.Command.{ParseNeed, Parses}

module _ {kind k : code.Kind} (e : kind ≡ k) {body : List ℕ} where
  -- a record's body is as long as its kind asks
  pub whole_of : (need : ParseNeed (kind_is kind) body) → program.body_length need.grid (kind_is k) ≤ length body
  whole_of need = subst (λ (x : code.Kind). program.body_length need.grid (kind_is x) ≤ length body) e need.whole

  pub parses_as : {c : Command} → Parses (kind_is k) body c → Parses (kind_is kind) body c
  parses_as {c} p = subst (λ (x : code.Kind). Parses (kind_is x) body c) (sym e) p
