-- Document 01, "The runner program": the numbers in its input's bytes, and the text that it writes.
-- Assumes nothing of the bytes.
use Rattle.std.specs.Prelude.{ℕ, zero, suc, ◌+◌, ◌*◌, ◌-◌, ◌/◌, ◌%◌, List, [], ◌∷◌, ◌++◌, true, false, ltb, ℤ, pos, neg_ℤ}
use Rattle.model.specs.Basic.{part, tab}

-- "Numbers are little-endian": the number that some bytes hold
unfoldable pub number : List ℕ → ℕ
number [] = 0
number (byte ∷ bytes) = byte + 256 * number bytes

-- .. that the n bytes from byte a of a body on hold
abbrev pub number_at : List ℕ → ℕ → ℕ → ℕ
number_at body a n = number (part body a n)

-- n numbers of "4 bytes each", from byte a of a body on
abbrev pub numbers_at : List ℕ → ℕ → ℕ → List ℕ
numbers_at body a n = tab n (λ i. number_at body (a + 4 * i) 4)

-- "unsigned but for fluxes": 32 bits, signed as two's complement
abbrev pub signed : ℕ → ℤ
signed x = elim (ltb x 2147483648) [ true ↦ pos x | false ↦ neg_ℤ (pos (4294967296 - x)) ]

abbrev pub fluxes_at : List ℕ → ℕ → ℕ → List ℤ
fluxes_at body a n = tab n (λ i. signed (number_at body (a + 4 * i) 4))

-- "in decimal": the digits of n as ASCII, at most `most` of them
unfoldable pub digits : ℕ → ℕ → List ℕ
digits zero n = []
digits (suc most) n =
    elim (ltb n 10) [ true ↦ (48 + n) ∷ [] | false ↦ digits most (n / 10) ++ ((48 + n % 10) ∷ []) ]

abbrev pub decimal : ℕ → List ℕ
decimal n = digits (suc n) n
