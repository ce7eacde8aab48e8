-- What the call that sets a limiter answers and leaves, from what the places before its own tell of the world.
use Rattle.std.specs.Prelude.{ℕ, ◌+◌, ◌*◌, ◌≤◌, ◌<◌, List, [], ◌∷◌, Bool, true, false, not, ◌≡◌, refl, length, Ok, Err}
use Rattle.std.proofs.Common.{arith}
use Rattle.model.specs.Limits.{most_tracers, block_numbers}
use Rattle.model.specs.World.{World, with_block, block}
use Rattle.model.specs.Limiters.{Limiter, limiter_fits, with_limiter}
use Rattle.model.specs.Step.{Place, place, set_limiter}
use Rattle.model.proofs.Laws.Grid.{in_range_lem}
use Rattle.units.specs.declared.Refusal.TheVariants.{Index, Limiters}
use Rattle.units.specs.Answer.{Agrees}
use Rattle.units.specs.Agrees.{accepted_agrees}
use Rattle.units.specs.EachTracer.{gas_inside}
use Rattle.places.specs.declared.Lent.TheVariants.{Nothing}
use Rattle.places.specs.Walk.{Left, Like, next, none, refuse, there, missing, fits, fails}
use Rattle.places.specs.Tested.{Passed, own_left}

-- the tracer's block lies in the ledger
pub block_inside : {w : World} {totals : List ℕ} → Passed w Nothing totals → {t : ℕ} → t < w.grid.N → (t * block_numbers + block_numbers ≤ length w.ledger) × (t < most_tracers)
block_inside {w} passed present =
    (gas_inside w.ledger w.grid.N block_numbers passed.fits.ledger_length present, omega (arith, (in_range_lem w.grid passed.fits.grid).high_n))

-- what is given, and 21, for the given ones only
abbrev given : (number lo hi : ℕ) → Limiter
given number lo hi = record { number = number; lo = lo; hi = hi }

abbrev unfit : Limiter → Place
unfit l = place 21 (λ w. not (limiter_fits l))

-- its places, and the ledger that it leaves
module _ {w : World} {totals : List ℕ} (passed : Passed w Nothing totals) {t number lo hi : ℕ} where
  pub no_tracer : w.grid.N ≤ t → Agrees w (set_limiter t number lo hi) (Err Index) w
  no_tracer outside = refuse (own_left passed refl refl refl) (missing outside) refl

  module _ (present : t < w.grid.N) where
    behind_tracer : Left w (Like w (set_limiter t number lo hi)) (unfit (given number lo hi) ∷ [])
    behind_tracer = next (own_left passed refl refl refl) (there present)

    pub no_limiter : {sound : Bool} → sound ≡ limiter_fits (given number lo hi) → sound ≡ false → Agrees w (set_limiter t number lo hi) (Err Limiters) w
    no_limiter is left = refuse behind_tracer (fails is left) refl

    pub chosen : {sound : Bool} → sound ≡ limiter_fits (given number lo hi) → sound ≡ true →
        Agrees w (set_limiter t number lo hi) (Ok 0) (with_block w t (with_limiter (block w t) (given number lo hi)))
    chosen is taken = accepted_agrees (none (next behind_tracer (fits is taken))) refl refl refl
