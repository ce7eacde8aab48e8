-- `amounts::withdrawal` meets its contract: what is taken is at most the cell's amount, and the entry is within its limit.
use Rattle.std.proofs.Common.{◌*◌}
use Rattle.model.specs.Limits.{block_numbers}
use Rattle.units.specs.Lent.{part_lent, put_back}
use Rattle.places.specs.Walk.{hands_on}
use Rattle.amounts.specs.Amount.{withdrawal_like, withdrawal_refused, withdrawal_agrees}
use Rattle.amounts.proofs.withdrawal.Goals as goal

pub returns-in_err-place : goal.returns-in_err-place
returns-in_err-place c = hands_on c.from_residual.ensures.1 c.in_err-place.ensures withdrawal_like

pub returns-then-not-withdrawal_fits : goal.returns-then-not-withdrawal_fits
returns-then-not-withdrawal_fits c =
    withdrawal_refused c.in_ok-place.ensures c.args.amount (rw c.block_at.ensures at c.withdrawal_fits.ensures) c.if-not-withdrawal_fits.true

pub returns : goal.returns
returns c =
    let is = rw c.block_at.ensures at c.withdrawal_fits.ensures in
    rw (put_back c.args.ledger.now _ (c.args.tracer * block_numbers) block_numbers c.enter_withdrawn_in.ensures.1, c.enter_withdrawn_in.ensures.0, part_lent c.args.ledger.now (c.args.tracer * block_numbers) block_numbers)
    (withdrawal_agrees c.in_ok-place.ensures c.args.amount is c.if-not-withdrawal_fits.false)
