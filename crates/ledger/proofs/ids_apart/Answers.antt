-- `ledger::ids_apart` meets its contract: `all` over the emitters is `every`, and that not one before has the id is that each has another.
use Rattle.std.proofs.Common.{ℕ, List, Bool, not, eqb, rules, tests, sym, ◌∙◌}
use Rattle.model.specs.Basic.{some}
use Rattle.model.specs.Emitters.{emitter_id}
use Rattle.model.proofs.Laws.Basic.{every_ext}
use Rattle.limiters.specs.Every.{every_from_all}
use Rattle.ledger.specs.Block.{none_has}
use Rattle.ledger.proofs.ids_apart.Goals as goal

abbrev same : List ℕ → ℕ → ℕ → Bool
same b i j = eqb (emitter_id b j) (emitter_id b i)

pub returns : goal.returns
returns c =
    every_from_all c.args.n (λ i. not (some i (same c.args.block.now i))) c.all.ensures.ran (λ x b q k. search (rules, tests)) ∙
    every_ext c.args.n _ _ (λ i h. sym (none_has i (same c.args.block.now i)))
