-- `books::books_balance` meets its contract: each total is within its limit, and `all` over the tracers is `every`.
use Rattle.std.proofs.Common.{ℕ, ◌<◌, ◌≤◌, rules, tests, leb-true}
use Rattle.std.proofs.iter.Serving.{serving}
use Rattle.model.specs.Limits.{total_limit}
use Rattle.model.specs.Basic.{at}
use Rattle.model.proofs.Laws.Basic.{every_at}
use Rattle.limiters.specs.Every.{every_from_all}
use Rattle.books.proofs.books_balance.Goals as goal

pub all-requires-clause-callable : goal.all-requires-clause-callable
all-requires-clause-callable c =
    let within : (t : ℕ) → t < c.args.n → at c.args.totals t ≤ total_limit = λ t h. leb-true _ _ (every_at _ _ c.requires.2 t h) in
    grind (serving, within)

pub returns : goal.returns
returns c = every_from_all c.args.n _ c.all.ensures.ran (λ x b q k. search (rules, tests))
