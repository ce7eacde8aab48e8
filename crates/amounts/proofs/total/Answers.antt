-- `amounts::total` meets its contract.
use Rattle.std.proofs.Common.{refl}
use Rattle.units.specs.Agrees.{accepted_agrees}
use Rattle.places.specs.Walk.{next, there, missing, none, refuse}
use Rattle.places.specs.Tested.{own_left}
use Rattle.amounts.proofs.total.Goals as goal

pub returns-then-tracer-g : goal.returns-then-tracer-g
returns-then-tracer-g c = refuse (own_left c.in_ok-totals.ensures refl refl refl) (missing c.if-tracer-g.true) refl

pub returns : goal.returns
returns c =
    let passed = c.in_ok-totals.ensures in
    accepted_agrees (none (next (own_left passed refl refl refl) (there c.if-tracer-g.false))) refl (passed.total c.args.tracer c.if-tracer-g.false) refl
