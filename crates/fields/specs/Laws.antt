-- Laws of numbers in bytes, the low byte first.
use Rattle.std.specs.Prelude.{ℕ, suc, ◌+◌, ◌*◌, ◌<◌, List, ◌≡◌, refl, length}
use Rattle.std.proofs.Common.{ap, add-one, arith, drop-cons}
use Rattle.model.specs.Basic.{at}
use Rattle.program.specs.Bytes.{number, number_at}

number_more : (l : List ℕ) (a n : ℕ) → a < length l → number_at l a (suc n) ≡ at l a + 256 * number_at l (a + 1) n
unfolding number
number_more l a n h = rw (add-one a, drop-cons l a 0 h)

number_none : (l : List ℕ) (a : ℕ) → number_at l a 0 ≡ 0
unfolding number
number_none l a = refl

pub number_two : (l : List ℕ) (a : ℕ) → a + 1 < length l → number_at l a 2 ≡ at l a + 256 * at l (a + 1)
number_two l a h =
    let first = number_more l a 1 (omega arith) in
    let second = number_more l (a + 1) 0 (omega arith) in
    omega (arith, number_none l (a + 1 + 1))

pub number_four : (l : List ℕ) (a : ℕ) → a + 3 < length l → number_at l a 4 ≡ number_at l a 2 + 65536 * number_at l (a + 2) 2
number_four l a h =
    let e : a + 1 + 1 ≡ a + 2 = omega arith in
    let two = number_two l a (omega arith) in
    let last = ap (λ (i : ℕ). number_at l i 2) e in
    omega (arith, number_more l a 3 (omega arith), number_more l (a + 1) 2 (omega arith))
