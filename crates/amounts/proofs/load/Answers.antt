-- `amounts::load` meets its contract: places 1 to 4 are all that a load tests, and the ledger is then as a load leaves it.
use Rattle.units.specs.Grid.{in_range_lem}
use Rattle.places.specs.Tested.{small_totals}
use Rattle.amounts.specs.Amount.{load_agrees}
use Rattle.amounts.proofs.load.Goals as goal

-- places 1, 2 and 4 tell the ledger's length and the totals' limit
pub renew-requires : goal.renew-requires
renew-requires c =
    let passed = c.in_ok-totals.ensures in
    (passed.fits.ledger_length, (in_range_lem c.args.g passed.fits.grid).high_n, small_totals passed)

pub returns : goal.returns
returns c = load_agrees c.in_ok-totals.ensures c.renew.ensures
