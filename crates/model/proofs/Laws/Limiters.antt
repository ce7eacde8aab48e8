-- Laws of the limiters (Limiters.antt): what each of the three gives to the laws that ask facts of a rule, how their sizes compare, and what stands in a tracer's block.
use Rattle.std.specs.Prelude.{ℕ, ◌+◌, ◌*◌, ◌-◌, ◌/◌, ◌%◌, ◌≤◌, ◌<◌, min, max, List, Bool, true, false, ◌≡◌, ◌≢◌, leb, eqb, length, set}
use Rattle.std.proofs.Common.{◌∙◌, div-add-mod', arith, length-set, get_or-set_same, get_or-set_other}
use Rattle.std.proofs.Math.Path.{ap}
use Rattle.std.proofs.Math.Nat.{min-le_left, min-le_right}
use borrow.Author.Tests.{eqb-true, ne_eqb, le-leb}
use Rattle.model.specs.Limits.{emitter_numbers, block_numbers, numbers_before_book}
use Rattle.model.specs.Basic.{at, distance}
use Rattle.model.specs.World.{World}
use Rattle.model.specs.Scheme.{Rule, plain, bounded, mismatch}
use Rattle.model.specs.Emitters.{half}
use Rattle.model.specs.Limiters.{Limiter, present_one, positive_one, fixed_one, positive_rule, fixed_rule, rule_for, limiter_in, with_limiter, limiter_of, rule_of}
use Rattle.model.proofs.Laws.Scheme.{Limited, bounded_below, bounded_above, bounded_limited, mismatch_limited}
use Rattle.model.proofs.Laws.Fractions.{Monotone, mismatch_monotone}

-- ---- each has the facts of `Limited`
positive_limited : Limited positive_rule
unfolding positive_rule
positive_limited =
    record {
      at_most_twice = λ qa q qb. min-le_right _ _;
      none_between_equal = λ r q. omega (arith, min-le_left (distance r r / 2) (2 * q));
    }

-- what holds of each of the three rules holds of every limiter's
each_limiter : (Claim : Rule → Type 0) → Claim mismatch → Claim positive_rule → ((lo hi : ℕ) → Claim (fixed_rule lo hi)) → (l : Limiter) → Claim (rule_for l)
unfolding rule_for
each_limiter Claim one two three l = go (eqb l.number positive_one) (eqb l.number fixed_one)
  where
    go : (second third : Bool) → Claim (elim second [ true ↦ positive_rule | false ↦ elim third [ true ↦ fixed_rule l.lo l.hi | false ↦ mismatch ] ])
    go true third = two
    go false true = three l.lo l.hi
    go false false = one

pub limiter_limited : (l : Limiter) → Limited (rule_for l)
limiter_limited = each_limiter Limited mismatch_limited positive_limited bounded_limited

pub rule_limited : (w : World) (t : ℕ) → Limited (rule_of w t)
rule_limited w t = limiter_limited (limiter_of w t)

-- a cell between two of its own ratio has D = 0, as a cap has
pub limiter_plain : (l : Limiter) (q : ℕ) → rule_for l q q q ≡ plain
unfolding mismatch bounded positive_rule
limiter_plain l q = each_limiter (λ rule. rule q q q ≡ plain) (at_equal _) (at_equal _) (λ lo hi. at_equal _) l
  where
    at_equal : (limit : ℕ) → record { size = min (distance q q / 2) limit; positive = leb q q } ≡ plain
    at_equal limit =
        let none : min (distance q q / 2) limit ≡ 0 = omega arith in
        let sign : leb q q ≡ true = le-leb q q (omega arith) in
        λ i. record { size = none i; positive = sign i }

-- ---- which rule each is
module _ (l : Limiter) where
  pub first_is : l.number ≢ positive_one → l.number ≢ fixed_one → rule_for l ≡ mismatch
  unfolding rule_for
  first_is e f = rw (rule_for, ne_eqb l.number positive_one e, ne_eqb l.number fixed_one f)

  pub second_is : l.number ≡ positive_one → rule_for l ≡ positive_rule
  unfolding rule_for
  second_is e = ap (λ (n : ℕ). rule_for (record { number = n; lo = l.lo; hi = l.hi })) e

  pub third_is : l.number ≡ fixed_one → rule_for l ≡ fixed_rule l.lo l.hi
  unfolding rule_for
  third_is e = ap (λ (n : ℕ). rule_for (record { number = n; lo = l.lo; hi = l.hi })) e

-- the first is document 01's, and the range holds of it
pub rule_first : (l : Limiter) → l.number ≡ present_one → rule_for l ≡ mismatch
rule_first l e = first_is l (λ f. omega arith) (λ f. omega arith)

pub rule_monotone : (w : World) (t : ℕ) → eqb (limiter_of w t).number present_one ≡ true → Monotone (rule_of w t)
rule_monotone w t e = rw (rule_first (limiter_of w t) (eqb-true (limiter_of w t).number present_one e)) mismatch_monotone

-- ---- "D = 0 where q is outside them"
pub fixed_below : (lo hi qa q qb : ℕ) → q < lo → (fixed_rule lo hi qa q qb).size ≡ 0
fixed_below lo hi qa q qb h = omega (arith, bounded_below lo hi qa q qb)

pub fixed_above : (lo hi qa q qb : ℕ) → hi < q → (fixed_rule lo hi qa q qb).size ≡ 0
fixed_above lo hi qa q qb h = omega (arith, bounded_above lo hi qa q qb)

-- ---- "Where lo is at most the least and hi at least the greatest, the sizes never fall from the first to the third to the second."
-- a mismatch is no greater under a lesser limit
limit_rises : (x a b : ℕ) → a ≤ b → min x a ≤ min x b
limit_rises x a b h = omega arith

wider_room : (least greatest lo hi q : ℕ) → lo ≤ least → greatest ≤ hi → min (2 * (q - least)) (2 * (greatest - q)) ≤ min (2 * (q - lo)) (2 * (hi - q))
wider_room least greatest lo hi q low high = omega arith

pub first_third :
    (lo hi qa q qb : ℕ) → lo ≤ min qa (min q qb) → max qa (max q qb) ≤ hi → (mismatch qa q qb).size ≤ (fixed_rule lo hi qa q qb).size
unfolding mismatch bounded
first_third lo hi qa q qb low high =
    limit_rises (distance qa qb / 2) _ _ (wider_room (min qa (min q qb)) (max qa (max q qb)) lo hi q low high)

-- .. the third never passes the second, whatever its bounds
pub third_second : (lo hi qa q qb : ℕ) → (fixed_rule lo hi qa q qb).size ≤ (positive_rule qa q qb).size
unfolding bounded positive_rule
third_second lo hi qa q qb = limit_rises (distance qa qb / 2) (min (2 * (q - lo)) (2 * (hi - q))) (2 * q) (omega arith)

-- ---- what stands in a block in which a limiter was set: behind the emitters' numbers the limiter's, and the others, before and behind these, as they were
module _ (b : List ℕ) (l : Limiter) where
  -- the block after each of the numbers that are written, but the last
  abbrev b₁ : List ℕ
  b₁ = set b 51 l.number

  abbrev b₂ : List ℕ
  b₂ = set b₁ 52 (l.lo % half)

  abbrev b₃ : List ℕ
  b₃ = set b₂ 53 (l.lo / half)

  abbrev b₄ : List ℕ
  b₄ = set b₃ 54 (l.hi % half)

  -- each stays as those behind it are written
  past_4 : (k : ℕ) → k < 55 → at (with_limiter b l) k ≡ at b₄ k
  past_4 k h = get_or-set_other b₄ 55 k (l.hi / half) 0 (omega arith)

  past_3 : (k : ℕ) → k < 54 → at (with_limiter b l) k ≡ at b₃ k
  past_3 k h = past_4 k (omega arith) ∙ get_or-set_other b₃ 54 k (l.hi % half) 0 (omega arith)

  past_2 : (k : ℕ) → k < 53 → at (with_limiter b l) k ≡ at b₂ k
  past_2 k h = past_3 k (omega arith) ∙ get_or-set_other b₂ 53 k (l.lo / half) 0 (omega arith)

  past_1 : (k : ℕ) → k < 52 → at (with_limiter b l) k ≡ at b₁ k
  past_1 k h = past_2 k (omega arith) ∙ get_or-set_other b₁ 52 k (l.lo % half) 0 (omega arith)

  pub limiter_rest : (k : ℕ) → k < emitter_numbers → at (with_limiter b l) k ≡ at b k
  limiter_rest k h = past_1 k (omega arith) ∙ get_or-set_other b 51 k l.number 0 (omega arith)

  pub limiter_behind : (k : ℕ) → numbers_before_book ≤ k → at (with_limiter b l) k ≡ at b k
  limiter_behind k h =
      get_or-set_other b₄ 55 k (l.hi / half) 0 (omega arith) ∙ get_or-set_other b₃ 54 k (l.hi % half) 0 (omega arith) ∙
      get_or-set_other b₂ 53 k (l.lo / half) 0 (omega arith) ∙ get_or-set_other b₁ 52 k (l.lo % half) 0 (omega arith) ∙
      get_or-set_other b 51 k l.number 0 (omega arith)

  module _ (many : length b ≡ block_numbers) where
    pub length_limiter : length (with_limiter b l) ≡ block_numbers
    length_limiter = simp length-set many

    many₂ : length b₂ ≡ block_numbers
    many₂ = simp length-set many

    many₃ : length b₃ ≡ block_numbers
    many₃ = simp length-set many

    many₄ : length b₄ ≡ block_numbers
    many₄ = simp length-set many

    number_is : at (with_limiter b l) 51 ≡ l.number
    number_is = past_1 51 (omega arith) ∙ get_or-set_same b 51 l.number 0 (omega arith)

    lo_is : at (with_limiter b l) 52 + half * at (with_limiter b l) 53 ≡ l.lo
    lo_is =
        omega (
          arith,
          past_2 52 (omega arith) ∙ get_or-set_same b₁ 52 (l.lo % half) 0 (omega (arith, length-set b 51 l.number)),
          past_3 53 (omega arith) ∙ get_or-set_same b₂ 53 (l.lo / half) 0 (omega (arith, many₂)),
          div-add-mod' l.lo half,
        )

    hi_is : at (with_limiter b l) 54 + half * at (with_limiter b l) 55 ≡ l.hi
    hi_is =
        omega (
          arith,
          past_4 54 (omega arith) ∙ get_or-set_same b₃ 54 (l.hi % half) 0 (omega (arith, many₃)),
          get_or-set_same b₄ 55 (l.hi / half) 0 (omega (arith, many₄)),
          div-add-mod' l.hi half,
        )

    pub limiter_read : limiter_in (with_limiter b l) ≡ l
    limiter_read = λ i. record { number = number_is i; lo = lo_is i; hi = hi_is i }
