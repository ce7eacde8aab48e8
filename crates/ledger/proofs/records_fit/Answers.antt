-- `ledger::records_fit` meets its contract: `all` over the tracers is `every`.
use Rattle.std.proofs.Common.{rules, tests}
use Rattle.limiters.specs.Every.{every_from_all}
use Rattle.ledger.proofs.records_fit.Goals as goal

pub returns : goal.returns
returns c = every_from_all c.args.n _ c.all.ensures.ran (λ x b q k. search (rules, tests))
