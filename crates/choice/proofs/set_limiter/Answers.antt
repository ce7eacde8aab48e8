-- `choice::set_limiter` meets its contract: each answer from the tests that led there.
use Rattle.std.proofs.Common.{◌*◌, ◌∙◌, ap, length}
use Rattle.model.specs.Limits.{block_numbers}
use Rattle.model.proofs.Laws.Basic.{length_part}
use Rattle.units.specs.Lent.{part_lent, put_back}
use Rattle.choice.specs.Chosen.{block_inside, no_tracer, no_limiter, chosen}
use Rattle.choice.proofs.set_limiter.Goals as goal

pub returns-then-tracer-g : goal.returns-then-tracer-g
returns-then-tracer-g c = no_tracer c.in_ok-common_places.ensures c.if-tracer-g.true

pub returns-then-not-limiter_fits : goal.returns-then-not-limiter_fits
returns-then-not-limiter_fits c = no_limiter c.in_ok-common_places.ensures c.if-tracer-g.false c.limiter_fits.ensures c.if-not-limiter_fits.true

pub slice_bounds-write_in-end : goal.slice_bounds-write_in-end
slice_bounds-write_in-end c = (block_inside c.in_ok-common_places.ensures c.if-tracer-g.false).0

pub write_in-requires : goal.write_in-requires
write_in-requires c =
    let inside = (block_inside c.in_ok-common_places.ensures c.if-tracer-g.false).0 in
    ap length (part_lent c.args.ledger.now (c.args.tracer * block_numbers) block_numbers) ∙ length_part c.args.ledger.now (c.args.tracer * block_numbers) block_numbers inside

pub returns : goal.returns
returns c =
    rw (put_back c.args.ledger.now _ (c.args.tracer * block_numbers) block_numbers c.write_in.ensures.1, c.write_in.ensures.0, part_lent c.args.ledger.now (c.args.tracer * block_numbers) block_numbers)
    (chosen c.in_ok-common_places.ensures c.if-tracer-g.false c.limiter_fits.ensures c.if-not-limiter_fits.false)
