-- `amounts::cell` meets its contract: the amount where `amount_place` found it.
use Rattle.places.specs.Walk.{itself, hands_on}
use Rattle.amounts.specs.Amount.{cell_agrees}
use Rattle.amounts.proofs.cell.Goals as goal

pub returns-in_err-place : goal.returns-in_err-place
returns-in_err-place c = hands_on c.from_residual.ensures.1 c.in_err-place.ensures itself

pub returns : goal.returns
returns c = cell_agrees c.in_ok-place.ensures
