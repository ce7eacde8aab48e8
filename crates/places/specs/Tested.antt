-- What `world_places` and `common_places` give: the first of places 1 to 4, and then of 21, where the call tests it, and 22, that applies, and, where none does, what they tell of the world.
use Rattle.std.specs.Prelude.{◌≡◌, ℕ, ◌+◌, ◌*◌, ◌<◌, ◌≤◌, Bool, true, false, not, ◌&&◌, List, [], ◌∷◌, ◌++◌, length, ◌==◌, nat_le, Result}
use Rattle.std.proofs.Common.{append_assoc, true≢false, sym, ap₂, ◌∙◌, le_of_eq, eqb-true, leb-true, le-leb}
use Rattle.std.proofs.Math.Bool.{and-eq-true_iff}
use Rattle.std.proofs.Math.Path.{refl, ap}
use Rattle.model.specs.Limits.{total_limit, most_cells, most_tracers, block_numbers}
use Rattle.model.specs.Basic.{at, every}
use Rattle.model.specs.World.{Grid, World, world_cells, block, gas_total, air_fits}
use Rattle.model.specs.Limiters.{limiter_fits}
use Rattle.model.specs.Books.{balances}
use Rattle.model.specs.Step.{Call, Place, place, broken_limiter, broken_book, meaning, first_of, common_places, place_if, limiter_places, book_places, own_places, refusal, grid_fits, lengths_fit, lent_fits}
use Rattle.model.proofs.Laws.Basic.{every_at, every_true, every_ext}
use Rattle.model.proofs.Laws.Step.{Fits}
use Rattle.units.specs.declared.Refusal.{Refusal}
use Rattle.units.specs.declared.Refusal.TheVariants.{Limiters}
use Rattle.units.specs.Limiter.{limiter_at}
use Rattle.places.specs.Totals.{TracersFit, AreTotals}
use Rattle.places.specs.Walk.{Left, Refuses, IsPlaced, next, stop, Like}
use Rattle.places.specs.declared.Lent.{Lent}
use Rattle.places.specs.declared.Lent.TheVariants.{Nothing, RowFluxes, LayerFluxes, Table}

-- place 2, by the length of what else is lent
abbrev pub lent_serves : Grid → Lent → Bool
lent_serves g Nothing = true
lent_serves g (RowFluxes n) = n == g.W
lent_serves g (LayerFluxes n) = n == g.W * (g.R + 1)
lent_serves g (Table n) = n == 2 * (g.K + 1)

-- place 21, in the calls that lend fluxes or a table: those that move air, and the count before a sweep
abbrev pub limiters_tested : Lent → Bool
limiters_tested Nothing = false
limiters_tested (RowFluxes n) = true
limiters_tested (LayerFluxes n) = true
limiters_tested (Table n) = true

abbrev pub ledger_fits : List ℕ → ℕ → Bool
ledger_fits ledger n = every n (λ t. limiter_fits (limiter_at ledger t))

abbrev pub ledger_serves : List ℕ → ℕ → Lent → Bool
ledger_serves ledger n lent = elim (limiters_tested lent) [ true ↦ ledger_fits ledger n | false ↦ true ]

abbrev pub limiters_fit : World → Bool
limiters_fit w = ledger_fits w.ledger w.grid.N

abbrev pub limiters_serve : World → Lent → Bool
limiters_serve w lent = ledger_serves w.ledger w.grid.N lent

-- .. and of the world's lists
abbrev pub world_serves : World → Bool
world_serves w =
    (length w.air == world_cells w.grid) &&
    (length w.tracers == w.grid.N * world_cells w.grid) &&
    (length w.ledger == w.grid.N * block_numbers)

abbrev pub lengths_serve : World → Lent → Bool
lengths_serve w lent = world_serves w && lent_serves w.grid lent

-- the tests of places 3 and 4
abbrev pub air_test : World → Bool
air_test w = every (length w.air) (λ i. air_fits (at w.air i))

abbrev pub totals_test : World → Bool
totals_test w = every w.grid.N (λ t. nat_le (gas_total w t) total_limit)

-- the test of place 22, and of the totals that were summed for place 4
abbrev pub books_test : World → Bool
books_test w = every w.grid.N (λ t. balances (block w t) (gas_total w t))

-- ---- the walk through places 1 to 4, of every call that is lent a list of the length `lent`
pub record LendsList (w : World) (lent : Lent) (call : Call) (rest : List Place) : Type 0 where
  pub fit : lent_fits w.grid call ≡ lent_serves w.grid lent
  pub behind : rest ≡ limiter_places call ++ (book_places call ++ own_places call)

abbrev pub from_totals : Lent → List Place
from_totals lent = place 4 (λ w. not (totals_test w)) ∷ []

abbrev pub from_air : Lent → List Place
from_air lent = place 3 (λ w. not (air_test w)) ∷ from_totals lent

abbrev pub from_lengths : Lent → List Place
from_lengths lent = place 2 (λ w. not (lengths_serve w lent)) ∷ from_air lent

abbrev pub from_grid : Lent → List Place
from_grid lent = place 1 (λ w. not (grid_fits w.grid)) ∷ from_lengths lent

-- place 2 is the same for each of them
lengths_same : (w : World) (lent : Lent) (call : Call) → lent_fits w.grid call ≡ lent_serves w.grid lent →
    lengths_fit w call ≡ lengths_serve w lent
lengths_same w lent call fit = ap (λ (b : Bool). world_serves w && b) fit

pub all_left : (w : World) (lent : Lent) → Left w (LendsList w lent) (from_grid lent)
unfolding refusal common_places first_of
all_left w lent =
    record {
      is =
          λ call rest lends.
          ap
          (λ (b : Bool).
          elim (not (grid_fits w.grid)) [
            | true ↦ 1
            | false ↦
                elim (not b) [
                  | true ↦ 2
                  | false ↦
                      elim (not (air_test w)) [
                        | true ↦ 3
                        | false ↦ elim (not (totals_test w)) [ true ↦ 4 | false ↦ first_of (limiter_places call ++ (book_places call ++ own_places call)) w ]
                      ]
                ]
          ])
          (lengths_same w lent call lends.fit) ∙
          ap (λ (l : List Place). first_of (from_grid lent ++ l) w) (sym lends.behind);
    }

-- ---- .. and then through 21 and 22, of those that test the books
pub record Lends (w : World) (lent : Lent) (call : Call) (rest : List Place) : Type 0 where
  pub fit : lent_fits w.grid call ≡ lent_serves w.grid lent
  pub limiters : (meaning call).limiters ≡ limiters_tested lent
  pub books : (meaning call).books ≡ true
  pub own : rest ≡ own_places call

abbrev pub from_limiters : Lent → List Place
from_limiters lent = place_if (limiters_tested lent) broken_limiter ++ (broken_book ∷ [])

pub behind_world : {w : World} {lent : Lent} → Left w (LendsList w lent) [] → Left w (Lends w lent) (from_limiters lent)
unfolding limiter_places book_places
behind_world {w} {lent} left =
    record {
      is =
          λ call rest lends.
          left.is call (limiter_places call ++ (book_places call ++ own_places call)) (record { fit = lends.fit; behind = refl }) ∙
          ap₂ (λ (tests books : Bool). first_of (place_if tests broken_limiter ++ (place_if books broken_book ++ own_places call)) w) lends.limiters lends.books ∙
          ap (λ (l : List Place). first_of l w) (sym (append_assoc (place_if (limiters_tested lent) broken_limiter) (broken_book ∷ []) (own_places call))) ∙
          ap (λ (l : List Place). first_of (from_limiters lent ++ l) w) (sym lends.own);
    }

-- the limiters, where they are tested: none is broken, or one is
module _ {w : World} {Calls : Call → List Place → Type 0} where
  pub past_limiters : (lent : Lent) → Left w Calls (from_limiters lent) → limiters_serve w lent ≡ true → Left w Calls (broken_book ∷ [])
  past_limiters lent = go (limiters_tested lent)
    where
      go : (tests : Bool) → Left w Calls (place_if tests broken_limiter ++ (broken_book ∷ [])) →
          elim tests [ true ↦ limiters_fit w | false ↦ true ] ≡ true → Left w Calls (broken_book ∷ [])
      go true left e = next left (ap not e)
      go false left e = left

  pub stop_limiters : (lent : Lent) → Left w Calls (from_limiters lent) → limiters_serve w lent ≡ false → Refuses w Calls Limiters
  stop_limiters lent = go (limiters_tested lent)
    where
      go : (tests : Bool) → Left w Calls (place_if tests broken_limiter ++ (broken_book ∷ [])) →
          elim tests [ true ↦ limiters_fit w | false ↦ true ] ≡ false → Refuses w Calls Limiters
      go true left e = stop left (ap not e) refl
      go false left e = absurd (true≢false e)

-- what places 1 to 4 tell of a world, with its totals
pub record WorldPassed (w : World) (lent : Lent) (totals : List ℕ) : Type 0 where
  pub left : Left w (LendsList w lent) []
  pub fits : Fits w
  pub lent_fit : lent_serves w.grid lent ≡ true
  pub total : (t : ℕ) → t < w.grid.N → at totals t ≡ gas_total w t

abbrev pub IsWorldTested : World → Lent → Result (List ℕ) Refusal → Type 0
IsWorldTested w lent = IsPlaced w (LendsList w lent) (WorldPassed w lent)

-- the totals are within their limit, and the test of the books with them is place 22's
module _ {w : World} {lent : Lent} {totals : List ℕ} (passed : WorldPassed w lent totals) where
  pub small_totals : every w.grid.N (λ t. nat_le (at totals t) total_limit) ≡ true
  small_totals = every_true _ _ (λ t h. rw (passed.total t h) (le-leb _ _ (passed.fits.totals t h)))

  pub books_test_lem : every w.grid.N (λ t. balances (block w t) (at totals t)) ≡ books_test w
  books_test_lem = every_ext w.grid.N _ _ (λ t h. ap (balances (block w t)) (passed.total t h))

-- .. and what all these places tell
pub record Passed (w : World) (lent : Lent) (totals : List ℕ) : Type 0 where
  pub left : Left w (Lends w lent) []
  pub fits : Fits w
  pub lent_fit : lent_serves w.grid lent ≡ true
  pub limiters : limiters_serve w lent ≡ true
  pub total : (t : ℕ) → t < w.grid.N → at totals t ≡ gas_total w t

-- refused by places 1 to 4
pub world_refused : {w : World} {lent : Lent} {r : Refusal} → Refuses w (LendsList w lent) r → Refuses w (Lends w lent) r
world_refused refused call rest lends =
    refused call (limiter_places call ++ (book_places call ++ own_places call)) (record { fit = lends.fit; behind = refl })

abbrev pub IsTested : World → Lent → Result (List ℕ) Refusal → Type 0
IsTested w lent = IsPlaced w (Lends w lent) (Passed w lent)

-- what the passed lengths tell
pub record Lengths (w : World) (lent : Lent) : Type 0 where
  pub air : length w.air ≡ world_cells w.grid
  pub tracers : length w.tracers ≡ w.grid.N * world_cells w.grid
  pub ledger : length w.ledger ≡ w.grid.N * block_numbers
  pub other : lent_serves w.grid lent ≡ true

module _ (w : World) (lent : Lent) (b : lengths_serve w lent ≡ true) where
  pub lengths_true : Lengths w lent
  lengths_true =
      let all = (and-eq-true_iff _ (lent_serves w.grid lent)).0 b in
      let lists = (and-eq-true_iff _ (length w.ledger == w.grid.N * block_numbers)).0 all.0 in
      let amounts = (and-eq-true_iff (length w.air == world_cells w.grid) _).0 lists.0 in
      record {
        air = eqb-true _ _ amounts.0;
        tracers = eqb-true _ _ amounts.1;
        ledger = eqb-true _ _ lists.1;
        other = all.1;
      }

  pub tracers_fit : (cells : ℕ) → cells ≡ world_cells w.grid → cells ≤ most_cells → w.grid.N ≤ most_tracers → TracersFit w.tracers cells w.grid.N
  tracers_fit cells e few n =
      record {
        few_cells = few;
        few_tracers = n;
        long = le_of_eq (ap (λ (k : ℕ). w.grid.N * k) e ∙ sym lengths_true.tracers);
      }

  -- .. with the other tests
  pub passed_fits : grid_fits w.grid ≡ true → air_test w ≡ true → totals_test w ≡ true → Fits w
  passed_fits a c d =
      record {
        grid = a;
        air_length = lengths_true.air;
        tracers_length = lengths_true.tracers;
        ledger_length = lengths_true.ledger;
        air = λ i h. every_at _ _ c i (rw lengths_true.air h);
        totals = λ t h. leb-true _ _ (every_at _ _ d t h);
      }

-- the totals are the gas totals, and their test is place 4's
module _ (w : World) (cells : ℕ) (e : cells ≡ world_cells w.grid) (sums : List ℕ) (sure : AreTotals w.tracers cells w.grid.N sums) where
  pub gas_totals : (t : ℕ) → t < w.grid.N → at sums t ≡ gas_total w t
  gas_totals t h = rw e at (sure.each t h)

  pub totals_test_lem : every w.grid.N (λ t. nat_le (at sums t) total_limit) ≡ totals_test w
  totals_test_lem =
      every_ext w.grid.N (λ t. nat_le (at sums t) total_limit) (λ t. nat_le (gas_total w t) total_limit)
      (λ t h. ap (λ (x : ℕ). nat_le x total_limit) (gas_totals t h))

-- ---- a call that is lent such a list: its own places are left, or it is refused by those before them
module _ {w : World} {lent : Lent} {call : Call} where
  pub own_left : {totals : List ℕ} → Passed w lent totals → lent_fits w.grid call ≡ lent_serves w.grid lent → (meaning call).limiters ≡ limiters_tested lent →
      (meaning call).books ≡ true → Left w (Like w call) (meaning call).places
  unfolding own_places
  own_left passed e l b =
      record {
        is =
            λ other rest like.
            passed.left.is other (own_places other) (record { fit = like.lent ∙ e; limiters = like.limiters ∙ l; books = like.books ∙ b; own = refl }) ∙
            ap (λ (l : List Place). first_of l w) like.places;
      }

  pub common_refused : {r : Refusal} → Refuses w (Lends w lent) r → lent_fits w.grid call ≡ lent_serves w.grid lent →
      (meaning call).limiters ≡ limiters_tested lent → (meaning call).books ≡ true → Refuses w (Like w call) r
  common_refused refused e l b other rest like =
      refused other (own_places other) (record { fit = like.lent ∙ e; limiters = like.limiters ∙ l; books = like.books ∙ b; own = refl })
