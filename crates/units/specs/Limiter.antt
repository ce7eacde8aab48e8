-- The code's limiter as the model's, and tracer t's in a ledger.
use Rattle.std.specs.Prelude.{ℕ, ◌+◌, ◌*◌, ◌≤◌, ◌<◌, List, length}
use Rattle.std.proofs.Common.{mul-le-mul_right, arith}
use Rattle.model.specs.Limits.{block_numbers, most_tracers}
use Rattle.model.specs.Basic.{part}
use Rattle.model.specs.Limiters as model
use Rattle.units.specs.declared.Limiter as declared

abbrev pub limiter_of : declared.Limiter → model.Limiter
limiter_of l = record { number = l.number; lo = l.lo; hi = l.hi }

abbrev pub limiter_at : List ℕ → ℕ → model.Limiter
limiter_at ledger t = model.limiter_in (part ledger (t * block_numbers) block_numbers)

-- its block lies in a ledger that has one for each of n tracers
pub block_room : (ledger : List ℕ) {n t : ℕ} → n * block_numbers ≤ length ledger → n ≤ most_tracers → t < n →
    (t * block_numbers + block_numbers ≤ length ledger) × (t < most_tracers)
block_room ledger long few h = (omega (arith, mul-le-mul_right block_numbers h), omega arith)
