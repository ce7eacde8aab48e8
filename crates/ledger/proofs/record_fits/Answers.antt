-- `ledger::record_fits` meets its contract: the four tests in their order.
use Rattle.ledger.specs.Block.{too_many, tests_fit}
use Rattle.ledger.proofs.record_fits.Goals as goal

pub returns-then-n-gt-MOST_EMITTERS : goal.returns-then-n-gt-MOST_EMITTERS
returns-then-n-gt-MOST_EMITTERS c = too_many c.args.cells c.args.block.now c.standing_in-n.ensures c.if-n-gt-MOST_EMITTERS.true

pub returns : goal.returns
returns c =
    tests_fit c.args.cells c.args.block.now c.standing_in-n.ensures c.if-n-gt-MOST_EMITTERS.false c.cells_there.ensures c.ids_apart.ensures c.kept_units.ensures
    c.present_units.ensures
