-- `ledger::renew` meets its contract: each tracer's block lies in the ledger as it is now, and is renewed with its total, which passed place 4.
use Rattle.std.proofs.Common.{◌*◌, ◌∙◌, ap, length, leb-true}
use Rattle.model.specs.Limits.{block_numbers}
use Rattle.model.proofs.Laws.Basic.{every_at}
use Rattle.units.specs.EachTracer.{changed_none, length_gas}
use Rattle.units.specs.Lent.{part_lent, put_back}
use Rattle.ledger.specs.Block.{renews, renewed_more, length_fresh}
use Rattle.ledger.proofs.renew.Goals as goal

pub loop-t-init : goal.loop-t-init
loop-t-init c = changed_none (renews c.args.ledger.now c.args.totals c.requires.0)

pub renew_block-requires : goal.renew_block-requires
renew_block-requires c = (
  ap length (part_lent c.loop-t.ledger (c.loop-t.t * block_numbers) block_numbers) ∙
      length_gas c.loop-t.ledger c.args.n block_numbers (c.loop-t.auto.ledger ∙ c.requires.0) c.loop-t-test.true,
  leb-true _ _ (every_at _ _ c.requires.2 c.loop-t.t c.loop-t-test.true),
)

pub loop-t-preserved : goal.loop-t-preserved
loop-t-preserved c =
    put_back c.loop-t.ledger c.renew_block.new.part (c.loop-t.t * block_numbers) block_numbers (ap length c.renew_block.ensures ∙ length_fresh _) ∙
    renewed_more c.args.ledger.now c.args.totals c.requires.0 c.loop-t-test.true c.loop-t.invariant c.renew_block.ensures
