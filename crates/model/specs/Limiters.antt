-- Document 02, Slip 7: the limiter of a tracer, as its block of the ledger holds it, and the rule of the mismatch that it stands for. Total on lists of any length and numbers.
use Rattle.std.specs.Prelude.{ℕ, ◌+◌, ◌*◌, ◌/◌, ◌%◌, List, Bool, true, false, ◌&&◌, leb, eqb, set}
use Rattle.model.specs.Basic.{at}
use Rattle.model.specs.World.{World, block}
use Rattle.model.specs.Scheme.{Rule, limited_to, bounded, mismatch}
use Rattle.model.specs.Emitters.{half}

-- "Offer three, numbered 1 to 3 and chosen for each tracer.": its number, and the "lent bounds lo and hi as ratios"
pub record Limiter : Type 0 where
  pub number : ℕ
  pub lo : ℕ
  pub hi : ℕ

-- "First, the present one."; "Second, the positive one"; "Third, the fixed one"
abbrev pub present_one : ℕ
present_one = 1

abbrev pub positive_one : ℕ
positive_one = 2

abbrev pub fixed_one : ℕ
fixed_one = 3

-- "size is the lesser of |qb − qa|/2 rounded down and 2q"; "The same sign rule is used"
unfoldable pub positive_rule : Rule
positive_rule qa q qb = limited_to (2 * q) qa qb

-- "the present rule with lo and hi for least and greatest, and D = 0 where q is outside them": there one of the two differences is cut off at 0, and so the size is 0 (`fixed_below`, `fixed_above`, Laws/Limiters)
abbrev pub fixed_rule : ℕ → ℕ → Rule
fixed_rule lo hi = bounded lo hi

-- the rule that a limiter stands for; a number that is none of the three is refused (21) by every call that takes a piece
unfoldable pub rule_for : Limiter → Rule
rule_for l =
    elim (eqb l.number positive_one) [
      | true ↦ positive_rule
      | false ↦ elim (eqb l.number fixed_one) [ true ↦ fixed_rule l.lo l.hi | false ↦ mismatch ]
    ]

-- "a tracer's limiter is unknown or its lo exceeds its hi": neither, for any of the three
abbrev pub limiter_fits : Limiter → Bool
limiter_fits l = leb present_one l.number && leb l.number fixed_one && leb l.lo l.hi

-- "lo and hi are unsigned 64-bit, in the ratio's scale": number 51 of a block is the limiter's number, 52 and 53 are the low and the high half of lo, 54 and 55 those of hi
abbrev pub limiter_in : List ℕ → Limiter
limiter_in b = record { number = at b 51; lo = at b 52 + half * at b 53; hi = at b 54 + half * at b 55 }

abbrev pub with_limiter : List ℕ → Limiter → List ℕ
with_limiter b l =
    set (set (set (set (set b 51 l.number) 52 (l.lo % half)) 53 (l.lo / half)) 54 (l.hi % half)) 55 (l.hi / half)

-- "A load gives every tracer the first limiter, with both bounds 0"
abbrev pub first_limiter : Limiter
first_limiter = record { number = present_one; lo = 0; hi = 0 }

-- tracer t's limiter, and its rule: "Pieces now take the limiter with the cell"
abbrev pub limiter_of : World → ℕ → Limiter
limiter_of w t = limiter_in (block w t)

abbrev pub rule_of : World → ℕ → Rule
rule_of w t = rule_for (limiter_of w t)
