-- The code's mismatch as the model's, and what the leaves of the scheme require and ensure.
use Rattle.std.specs.Prelude.{ℕ, ◌*◌, ◌-◌, ◌/◌, ◌≤◌, ◌<◌, min, max, true, false, ◌≡◌, leb, eqb, ℤ}
use Rattle.std.proofs.Common.{sym, ap₂, ◌∙◌, arith, ne_eqb}
use Rattle.std.proofs.Math.Path.{ap}
use Rattle.std.proofs.Math.Decide.{ℕ_discrete}
use Rattle.units.specs.declared.Amount.{Amount}
use Rattle.units.specs.declared.Mismatch as code
use Rattle.scheme.specs.declared.Flux.{Flux}
use Rattle.model.specs.Limits.{air_limit, total_limit}
use Rattle.model.specs.Basic.{distance}
use Rattle.model.specs.Scheme.{Mismatch, Rule, ratio, limited_to, bounded, mismatch}
use Rattle.model.specs.Limiters.{Limiter, positive_one, fixed_one, positive_rule, rule_for}
use Rattle.model.proofs.Laws.Limiters.{first_is, second_is, third_is}
use Rattle.model.specs.Sweep.{forward, backward, flux_part}

abbrev pub mismatch_of : code.Mismatch → Mismatch
mismatch_of d = record { size = d.size; positive = d.positive }

-- half of what a limiter sets as a mismatch's limit, in a cell of ratio q between neighbours of which the lesser ratio is `low` and the greater `high`
abbrev pub half_limit : Limiter → ℕ → ℕ → ℕ → ℕ
half_limit l low q high =
    elim (eqb l.number positive_one) [
      | true ↦ q
      | false ↦ elim (eqb l.number fixed_one) [ true ↦ min (q - l.lo) (l.hi - q) | false ↦ min (q - low) (high - q) ]
    ]

module _ (l : Limiter) (low q high : ℕ) where
  pub half_positive : l.number ≡ positive_one → half_limit l low q high ≡ q
  half_positive e = ap (λ (n : ℕ). half_limit (record { number = n; lo = l.lo; hi = l.hi }) low q high) e

  pub half_fixed : l.number ≡ fixed_one → half_limit l low q high ≡ min (q - l.lo) (l.hi - q)
  half_fixed e = ap (λ (n : ℕ). half_limit (record { number = n; lo = l.lo; hi = l.hi }) low q high) e

  pub half_present : (l.number ≡ positive_one → ⊥) → (l.number ≡ fixed_one → ⊥) → half_limit l low q high ≡ min (q - low) (high - q)
  half_present e f = rw (ne_eqb l.number positive_one e, ne_eqb l.number fixed_one f, half_limit)

-- twice that is the limit of each of the three rules
limit_twice : (h a b : ℕ) → min h (2 * min a b) ≡ min h (min (2 * a) (2 * b))
limit_twice h a b = omega arith

below_three : (qa q qb : ℕ) → q - min qa qb ≡ q - min qa (min q qb)
below_three qa q qb = omega arith

above_three : (qa q qb : ℕ) → max qa qb - q ≡ max qa (max q qb) - q
above_three qa q qb = omega arith

-- the mismatch that a limiter gives
module _ (l : Limiter) (qa q qb : ℕ) where
  abbrev halved : Mismatch
  halved = limited_to (2 * half_limit l (min qa qb) q (max qa qb)) qa qb

  pub limiter_is : halved ≡ rule_for l qa q qb
  unfolding mismatch bounded positive_rule
  limiter_is = go (ℕ_discrete l.number positive_one) (ℕ_discrete l.number fixed_one)
    where
      with_limit : {x y : ℕ} → x ≡ y → limited_to (2 * x) qa qb ≡ limited_to (2 * y) qa qb
      with_limit e = ap (λ (x : ℕ). limited_to (2 * x) qa qb) e

      sized : (a b : ℕ) → limited_to (2 * min a b) qa qb ≡ limited_to (min (2 * a) (2 * b)) qa qb
      sized a b = λ i. record { size = limit_twice (distance qa qb / 2) a b i; positive = leb qa qb }

      go : Dec (l.number ≡ positive_one) → Dec (l.number ≡ fixed_one) → halved ≡ rule_for l qa q qb
      go (yes e) third = with_limit (half_positive l _ q _ e) ∙ ap (λ (rule : Rule). rule qa q qb) (sym (second_is l e))
      go (no e) (yes f) = with_limit (half_fixed l _ q _ f) ∙ sized _ _ ∙ ap (λ (rule : Rule). rule qa q qb) (sym (third_is l f))
      go (no e) (no f) =
          with_limit (half_present l _ q _ e f ∙ ap₂ min (below_three qa q qb) (above_three qa q qb)) ∙ sized _ _ ∙
          ap (λ (rule : Rule). rule qa q qb) (sym (first_is l e f))

-- d is the mismatch of the three ratios by the limiter l, and at most twice the cell's
pub record IsMismatch (l : Limiter) (qa q qb : ℕ) (d : code.Mismatch) : Type 0 where
  pub is : mismatch_of d ≡ rule_for l qa q qb
  pub small : d.size ≤ 2 * q

-- a piece can be taken: a cell in range, no more air than it has, and a mismatch of at most twice its ratio
pub record Giver (d : code.Mismatch) (have : Amount 0) (t : Amount 1) (m : Amount 0) : Type 0 where
  pub some : 0 < have.0
  pub air : have.0 ≤ air_limit
  pub tracer : t.0 ≤ total_limit
  pub part : m.0 ≤ have.0
  pub small : d.size ≤ 2 * ratio have.0 t.0

-- p is the piece that the model gives, and at most the cell's tracer
pub record IsPiece (given : ℕ) (t p : Amount 1) : Type 0 where
  pub is : p.0 ≡ given
  pub within : p.0 ≤ t.0

-- r has what f passes in each direction
pub record IsSplit (f : ℤ) (r : Flux) : Type 0 where
  pub high : r.to_high.0 ≡ forward f
  pub low : r.to_low.0 ≡ backward f

-- r is part s of n of f, and at most f
pub record IsFluxPart (n s : ℕ) (f r : Amount 0) : Type 0 where
  pub is : r.0 ≡ flux_part n s f.0
  pub within : r.0 ≤ f.0
