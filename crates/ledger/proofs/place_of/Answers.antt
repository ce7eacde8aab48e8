-- `ledger::place_of` meets its contract: the search one entry further.
use Rattle.std.proofs.Common.{sym, ◌∙◌}
use Rattle.ledger.specs.Block.{searched_none, searched_here, searched_past}
use Rattle.ledger.proofs.place_of.Goals as goal
use Rattle.ledger.proofs.place_of.Goals.{then-emitter_at-id, else-emitter_at-id}

pub loop-i-init : goal.loop-i-init
loop-i-init c = searched_none _ _

pub loop-i-preserved : goal.loop-i-preserved
loop-i-preserved c =
    elim c.if-emitter_at-id.branch [
      | then-emitter_at-id w ↦ rw w.place-is (searched_here _ _ _ (sym c.emitter_at.ensures.id ∙ w.if-emitter_at-id.true))
      | else-emitter_at-id w ↦ rw w.place-is (searched_past _ _ _ _ c.loop-i.invariant (λ e. w.if-emitter_at-id.false (c.emitter_at.ensures.id ∙ e)))
    ]
