-- `amounts::emission` meets its contract: the cell's amount is at most the total, so the sum is below the limit; the entry is within its own.
use Rattle.std.proofs.Common.{◌*◌}
use Rattle.model.specs.Limits.{block_numbers}
use Rattle.units.specs.Lent.{part_lent, put_back}
use Rattle.places.specs.Walk.{hands_on}
use Rattle.amounts.specs.Amount.{emission_like, emission_refused, emission_agrees}
use Rattle.amounts.proofs.emission.Goals as goal

pub returns-in_err-place : goal.returns-in_err-place
returns-in_err-place c = hands_on c.from_residual.ensures.1 c.in_err-place.ensures emission_like

pub returns-then-not-emission_fits : goal.returns-then-not-emission_fits
returns-then-not-emission_fits c =
    let is = rw (c.block_at.ensures, c.from.ensures) at c.emission_fits.ensures in
    emission_refused c.in_ok-place.ensures c.args.amount is c.if-not-emission_fits.true

pub returns : goal.returns
returns c =
    let is = rw (c.block_at.ensures, c.from.ensures) at c.emission_fits.ensures in
    rw (put_back c.args.ledger.now _ (c.args.tracer * block_numbers) block_numbers c.enter_emitted_in.ensures.1, c.enter_emitted_in.ensures.0, part_lent c.args.ledger.now (c.args.tracer * block_numbers) block_numbers)
    (emission_agrees c.in_ok-place.ensures c.args.amount is c.if-not-emission_fits.false)
