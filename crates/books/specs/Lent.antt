-- A tracer's block lies in the ledger, so that it can be read and put back; and two tests at once.
use Rattle.std.specs.Prelude.{ℕ, ◌+◌, ◌*◌, ◌≤◌, ◌<◌, List, Bool, true, false, not, ◌&&◌, ◌||◌, ◌≡◌, refl, leb, ltb, length}
use Rattle.std.proofs.Math.Bool.{and-eq-true_iff}
use Rattle.std.proofs.Common.{ap₂, ◌∙◌, arith, leb-true, le-leb, ltb-true, ltb-false}
use Rattle.std.proofs.lemmas.Bool.{lt-leb}
use Rattle.model.specs.Limits.{most_tracers, block_numbers}
use Rattle.units.specs.EachTracer.{gas_inside}

-- it lies in the ledger
pub record BlockThere (ledger : List ℕ) (t : ℕ) : Type 0 where
  pub inside : t * block_numbers + block_numbers ≤ length ledger
  pub few : t < most_tracers

pub block_there : (ledger : List ℕ) {n t : ℕ} → length ledger ≡ n * block_numbers → n ≤ most_tracers → t < n → BlockThere ledger t
block_there ledger {n} long few h = record { inside = gas_inside ledger n block_numbers long h; few = omega arith }

-- ---- two numbers within their limits: neither passes its own
within : (a m : ℕ) → leb a m ≡ not (ltb m a)
within a m = go (ltb m a) refl
  where
    go : (b : Bool) → ltb m a ≡ b → leb a m ≡ not b
    go true e = lt-leb a m (ltb-true m a e)
    go false e = le-leb a m (ltb-false m a e)

pub both_within : (a m b n : ℕ) → leb a m && leb b n ≡ not (ltb m a || ltb n b)
both_within a m b n = ap₂ ◌&&◌ (within a m) (within b n) ∙ neither (ltb m a) (ltb n b)
  where
    neither : (x y : Bool) → not x && not y ≡ not (x || y)
    neither true y = refl
    neither false y = refl

pub both_fit : (a m b n : ℕ) → leb a m && leb b n ≡ true → (a ≤ m) × (b ≤ n)
both_fit a m b n e = let p = (and-eq-true_iff (leb a m) (leb b n)).0 e in (leb-true a m p.0, leb-true b n p.1)
