-- The bits of all amounts passed, in one number: none is above it, and it is below a power of two where all are.
use Rattle.std.specs.Prelude.{◌≡◌, ℕ, zero, suc, ◌≤◌, Bool, true, false, ◌&&◌, bit_or, nat_le, refl}
use Rattle.std.proofs.Common.{◌∙◌, ap, arith, leb-true, leb-false, le-leb}
use Rattle.std.proofs.lemmas.Bool.{lt-leb}
use Rattle.std.specs.Int.Bits.{or_add_and}
use Rattle.std.proofs.lemmas.Nat.{and_le_l, and_le_r, or_lt}
use Rattle.model.specs.Limits.{air_limit}
use Rattle.model.specs.Basic.{every}

pub or_above : (a b : ℕ) → (a ≤ bit_or a b) × (b ≤ bit_or a b)
or_above a b =
    (omega (arith, or_add_and a b, and_le_r a b), omega (arith, or_add_and a b, and_le_l a b))

-- the air limit is all ones in 16 bits
pub or_within : (a b : ℕ) → nat_le (bit_or a b) air_limit ≡ nat_le a air_limit && nat_le b air_limit
or_within a b = go (nat_le a air_limit) (nat_le b air_limit) refl refl
  where
    go : (p q : Bool) → nat_le a air_limit ≡ p → nat_le b air_limit ≡ q → nat_le (bit_or a b) air_limit ≡ p && q
    go true true e f = le-leb (bit_or a b) air_limit (omega (arith, or_lt 16 a b (omega (arith, leb-true a air_limit e)) (omega (arith, leb-true b air_limit f))))
    go true false e f = lt-leb (bit_or a b) air_limit (omega (arith, leb-false b air_limit f, (or_above a b).1))
    go false q e f = lt-leb (bit_or a b) air_limit (omega (arith, leb-false a air_limit e, (or_above a b).0))

-- two tests at every number are one
swap : (a b p q : Bool) → (a && b) && (p && q) ≡ (a && p) && (b && q)
swap true true p q = refl
swap true false true q = refl
swap true false false q = refl
swap false b p q = refl

pub every_both : (n : ℕ) (p q : ℕ → Bool) → every n p && every n q ≡ every n (λ i. p i && q i)
unfolding every
every_both zero p q = refl
every_both (suc n) p q = swap (every n p) (p n) (every n q) (q n) ∙ ap (λ (b : Bool). b && (p n && q n)) (every_both n p q)
