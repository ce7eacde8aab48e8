-- `ledger::renew_block` meets its contract: a block of zeros, then the first limiter and what was loaded.
use Rattle.std.proofs.Common.{ℕ, List, set, ap, ◌∙◌, rules}
use Rattle.model.specs.Basic.{zeros}
use Rattle.model.specs.Limiters.{first_limiter, with_limiter}
use Rattle.ledger.specs.Block.{replicate_zeros}
use Rattle.ledger.proofs.renew_block.Goals as goal

pub returns : goal.returns
returns c =
    let cleared = c.fill.ensures.after (λ y e. e) ∙ replicate_zeros _ ∙ ap zeros (search rules) in
    ap (λ (b : List ℕ). set b 56 c.args.total) (c.write_limiter.ensures ∙ ap (λ (b : List ℕ). with_limiter b first_limiter) cleared)
