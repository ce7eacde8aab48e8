-- `ledger::has_among` meets its contract: `any` over the emitters is `some`.
use Rattle.std.proofs.Common.{rules, tests}
use Rattle.limiters.specs.Every.{some_from_any}
use Rattle.ledger.proofs.has_among.Goals as goal

pub returns : goal.returns
returns c = some_from_any c.args.n _ c.any.ensures.ran (λ x b q k. search (rules, tests))
