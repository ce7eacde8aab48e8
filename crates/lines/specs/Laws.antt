-- Laws of a number's decimal digits, the last one apart, and of how many there are; of bytes put before a place of a list; and of a line's text.
use Rattle.std.specs.Prelude.{ℕ, zero, suc, ◌+◌, ◌-◌, ◌*◌, ◌/◌, ◌%◌, ◌^◌, ◌≤◌, ◌<◌, List, [], ◌∷◌, ◌++◌, ◌≡◌, length, drop, set}
use Rattle.std.proofs.Common.{append_assoc, ⊎_elim, ◌∙◌, ap, arith, pow-suc, length-append, length-set, drop-cons, drop-set-lt, get_or-set_same, lt-ltb, le-ltb}
use Rattle.model.proofs.Laws.Basic.{le_or_lt}
use Rattle.program.specs.Bytes.{digits, decimal}
use Rattle.program.specs.Records.{Line}
use Rattle.program.specs.Lines.{text}
use Rattle.lines.specs.Text.{IsPut}

-- ---- the digits of a number
digits_small : (most n : ℕ) → n < 10 → digits (suc most) n ≡ (48 + n) ∷ []
unfolding digits
digits_small most n h = rw (lt-ltb n 10 h, digits)

digits_large : (most n : ℕ) → 10 ≤ n → digits (suc most) n ≡ digits most (n / 10) ++ ((48 + n % 10) ∷ [])
unfolding digits
digits_large most n h = rw (le-ltb n 10 h, digits)

-- any two bounds that are high enough give the same digits
digits_same : (f g n : ℕ) → n < f → n < g → digits f n ≡ digits g n
digits_same zero g n hf hg = absurd (omega arith)
digits_same (suc f) zero n hf hg = absurd (omega arith)
digits_same (suc f) (suc g) n hf hg =
    ⊎_elim
    (λ h. rw (digits_large f n h, digits_large g n h, digits_same f g (n / 10) (omega arith) (omega arith)))
    (λ h. rw (digits_small f n h, digits_small g n h))
    (le_or_lt 10 n)

pub decimal_small : (n : ℕ) → n < 10 → decimal n ≡ (48 + n) ∷ []
decimal_small n h = digits_small n n h

pub decimal_large : (n : ℕ) → 10 ≤ n → decimal n ≡ decimal (n / 10) ++ ((48 + n % 10) ∷ [])
decimal_large n h = digits_large n n h ∙ rw (digits_same n (suc (n / 10)) (n / 10) (omega arith) (omega arith))

-- ---- how many there are
pub length_large : (n : ℕ) → 10 ≤ n → length (decimal n) ≡ length (decimal (n / 10)) + 1
length_large n h = ap length (decimal_large n h) ∙ simp length-append

pub length_pos : (n : ℕ) → 1 ≤ length (decimal n)
length_pos n =
    ⊎_elim
    (λ h. omega (arith, length_large n h))
    (λ h. omega (arith, ap length (decimal_small n h)))
    (le_or_lt 10 n)

length_le : (k n : ℕ) → n < 10 ^ suc k → length (decimal n) ≤ suc k
length_le zero n below = omega (arith, ap length (decimal_small n below))
length_le (suc k) n below =
    let above : n < 10 ^ suc k * 10 = rw pow-suc at below in
    ⊎_elim
    (λ h. omega (arith, length_large n h, length_le k (n / 10) (omega arith)))
    (λ h. omega (arith, ap length (decimal_small n h)))
    (le_or_lt 10 n)

-- a number of 32 bits has at most 10
pub length_u32 : (n : ℕ) → n < 4294967296 → length (decimal n) ≤ 10
length_u32 n h = length_le 9 n (omega arith)

-- ---- put just before place `end` of a list: a byte, the last digit of a number, its only digit
module _ (l : List ℕ) (end : ℕ) (some : 1 ≤ end) (fits : end ≤ length l) where
  pub put_byte : (b : ℕ) → drop (end - 1) (set l (end - 1) b) ≡ b ∷ drop end l
  put_byte b =
      let inside : end - 1 < length l = omega arith in
      let next : suc (end - 1) ≡ end = omega arith in
      let put = get_or-set_same l (end - 1) b 0 inside in
      let rest = drop-set-lt end l (end - 1) b (omega arith) in
      drop-cons (set l (end - 1) b) (end - 1) 0 (rw length-set inside) ∙ rw (put, next, rest)

  pub put_digit : (n : ℕ) → 10 ≤ n → decimal (n / 10) ++ drop (end - 1) (set l (end - 1) (48 + n % 10)) ≡ decimal n ++ drop end l
  put_digit n h = rw (put_byte (48 + n % 10), decimal_large n h, append_assoc)

  pub put_first : (n : ℕ) → n < 10 → drop (end - 1) (set l (end - 1) (48 + n)) ≡ decimal n ++ drop end l
  put_first n h = rw (put_byte (48 + n), decimal_small n h)

-- ---- one put after another: what was put stands before what was there
pub put_on : {most end r : ℕ} {bytes before after rest : List ℕ} → IsPut most bytes end before after r → drop end before ≡ rest → drop r after ≡ bytes ++ rest
put_on p e = p.put ∙ rw e

-- ---- a line's text, with the parts grouped as they are put, from its end
pub text_parts : (l : Line) → decimal l.kind ++ (32 ∷ (decimal l.answer ++ (32 ∷ (decimal l.count ++ (10 ∷ []))))) ≡ text l
text_parts l = simp append_assoc
