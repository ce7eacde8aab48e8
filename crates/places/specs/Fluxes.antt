-- A flux's size, as its two directions.
use Rattle.std.specs.Prelude.{◌≡◌, ℕ, suc, Bool, ◌&&◌, ℤ, pos, negsuc, nat_le, unsigned_abs}
use Rattle.std.proofs.Math.Bool.{and-true}
use Rattle.std.proofs.Common.{ap, ap₂, ◌∙◌}
use Rattle.std.proofs.Math.Dec.{leb-zero}
use Rattle.model.specs.Sweep.{forward, backward}

both_directions : (f : ℤ) (limit : ℕ) → nat_le (forward f) limit && nat_le (backward f) limit ≡ nat_le (unsigned_abs f) limit
both_directions (pos n) limit = ap (λ (b : Bool). nat_le n limit && b) (leb-zero limit) ∙ and-true (nat_le n limit)
both_directions (negsuc n) limit = ap (λ (b : Bool). b && nat_le (suc n) limit) (leb-zero limit)

pub size_fits : (f : ℤ) (limit high low : ℕ) → high ≡ forward f → low ≡ backward f → nat_le high limit && nat_le low limit ≡ nat_le (unsigned_abs f) limit
size_fits f limit high low h l = ap₂ (λ (a b : ℕ). nat_le a limit && nat_le b limit) h l ∙ both_directions f limit
