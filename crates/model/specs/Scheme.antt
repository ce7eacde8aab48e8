-- Document 01, "Ratio, mismatch, piece", with document 02, Slip 6: "262,144 wherever document 01 has 65,536 as the scale of the ratio, the mismatch and the piece" (`scale`, Limits.antt).
-- M is a cell's air and T its tracer, as there. A mismatch is kept as its size and its sign.
use Rattle.std.specs.Prelude.{ℕ, ◌+◌, ◌*◌, ◌-◌, ◌/◌, min, max, Bool, true, false, not, leb}
use Rattle.model.specs.Limits.{scale}
use Rattle.model.specs.Basic.{distance}

-- "Ratio: q = floor(65,536·T / M)", (02) with 262,144
unfoldable pub ratio : ℕ → ℕ → ℕ
ratio M T = scale * T / M

-- "Mismatch D": its size, and whether its sign is positive
pub record Mismatch : Type 0 where
  pub size : ℕ
  pub positive : Bool

-- A rule of the mismatch: D of a cell of ratio q, from the ratios qa and qb of its neighbours on the low and on the high side
abbrev pub Rule : Type 0
Rule = ℕ → ℕ → ℕ → Mismatch

-- "a neighbour on its low side (qa) and on its high side (qb): size = the smallest of |qb − qa|/2 rounded down" and what a rule sets as its limit; "sign = that of qb − qa"; where qa = qb the size is 0 and the sign is never used
abbrev pub limited_to : ℕ → ℕ → ℕ → Mismatch
limited_to limit qa qb = record { size = min (distance qa qb / 2) limit; positive = leb qa qb }

-- ".., 2(q − least ..), 2(greatest .. − q)": the rule that two ratios bound, `least` and `greatest`
unfoldable pub bounded : ℕ → ℕ → Rule
bounded least greatest qa q qb = limited_to (min (2 * (q - least)) (2 * (greatest - q))) qa qb

-- ".. least of the three .. greatest of the three"
unfoldable pub mismatch : Rule
mismatch qa q qb = bounded (min qa (min q qb)) (max qa (max q qb)) qa q qb

-- "D = 0"
abbrev pub plain : Mismatch
plain = record { size = 0; positive = true }

-- "the same with − D"
abbrev pub opposite : Mismatch → Mismatch
opposite D = record { size = D.size; positive = not D.positive }

-- "Piece of m units of air (0 to M) from the high end: floor((2·65,536·m·T + D·m·(M − m)) / (2·65,536·M))", (02) with 262,144
unfoldable pub high_piece : Mismatch → ℕ → ℕ → ℕ → ℕ
high_piece D M T m =
    elim D.positive [
      | true ↦ (2 * scale * m * T + D.size * m * (M - m)) / (2 * scale * M)
      | false ↦ (2 * scale * m * T - D.size * m * (M - m)) / (2 * scale * M)
    ]

-- "From the low end: the same with − D"
abbrev pub low_piece : Mismatch → ℕ → ℕ → ℕ → ℕ
low_piece D M T m = high_piece (opposite D) M T m
