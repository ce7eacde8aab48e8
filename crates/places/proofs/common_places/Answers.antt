-- `places::common_places` meets its contract: each answer from the tests that led there.
use Rattle.std.proofs.Common.{sym, refl, ◌∙◌, le_of_eq}
use Rattle.units.specs.Grid.{in_range_lem}
use Rattle.places.specs.Walk.{next, stop, fits, fails}
use Rattle.places.specs.Tested.{behind_world, past_limiters, stop_limiters, small_totals, books_test_lem}
use Rattle.places.proofs.common_places.Goals as goal

pub returns-then-not-limiters_serve : goal.returns-then-not-limiters_serve
returns-then-not-limiters_serve c =
    stop_limiters c.args.lent (behind_world c.in_ok-sums.ensures.left) (sym c.limiters_serve.ensures ∙ c.if-not-limiters_serve.true)

pub books_balance-requires : goal.books_balance-requires
books_balance-requires c =
    let passed = c.in_ok-sums.ensures in
    (le_of_eq (sym passed.fits.ledger_length), (in_range_lem c.args.w.grid passed.fits.grid).high_n, small_totals passed)

pub returns-then-not-books_balance : goal.returns-then-not-books_balance
returns-then-not-books_balance c =
    let passed = c.in_ok-sums.ensures in
    let left = past_limiters c.args.lent (behind_world passed.left) (sym c.limiters_serve.ensures ∙ c.if-not-limiters_serve.false) in
    stop left (fails (c.books_balance.ensures ∙ books_test_lem passed) c.if-not-books_balance.true) refl

pub returns : goal.returns
returns c =
    let passed = c.in_ok-sums.ensures in
    let sound = sym c.limiters_serve.ensures ∙ c.if-not-limiters_serve.false in
    record {
      left = next (past_limiters c.args.lent (behind_world passed.left) sound) (fits (c.books_balance.ensures ∙ books_test_lem passed) c.if-not-books_balance.false);
      fits = passed.fits;
      lent_fit = passed.lent_fit;
      limiters = sound;
      total = passed.total;
    }
