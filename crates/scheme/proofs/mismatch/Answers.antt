-- `scheme::mismatch` meets its contract: the distance between the neighbours is that of the greater from the lesser, and the limit twice what `half_limit` gives.
use Rattle.std.proofs.Common.{ℕ, ◌*◌, ◌-◌, ◌/◌, ◌≡◌, ◌∙◌, ap, ap₂, arith, leb}
use Rattle.std.specs.Prelude.{min, max}
use Rattle.model.specs.Basic.{distance}
use Rattle.model.specs.Scheme.{Mismatch}
use Rattle.model.specs.Limiters.{Limiter}
use Rattle.model.proofs.Laws.Limiters.{limiter_limited}
use Rattle.units.specs.Limiter.{limiter_of}
use Rattle.scheme.specs.Leaves.{half_limit, limiter_is}
use Rattle.scheme.proofs.mismatch.Goals as goal

apart : (qa qb : ℕ) → max qa qb - min qa qb ≡ distance qa qb
apart qa qb = omega arith

-- the size, from what the smaller functions give
size_is :
    (l : Limiter) (qa q qb : ℕ) {low high limit size : ℕ} → low ≡ min qa qb → high ≡ max qa qb → limit ≡ half_limit l low q high →
    size ≡ min ((high - low) / 2) (2 * limit) → size ≡ min (distance qa qb / 2) (2 * half_limit l (min qa qb) q (max qa qb))
size_is l qa q qb a b h e =
    e ∙
    ap₂ (λ (d x : ℕ). min (d / 2) (2 * x)) (ap₂ ◌-◌ b a ∙ apart qa qb) (h ∙ ap₂ (λ (x y : ℕ). half_limit l x q y) a b)

pub returns : goal.returns
returns c =
    let a = c.args in
    let half = c.half_limit-limit.ensures in
    let size = size_is (limiter_of a.l) a.qa a.q a.qb c.min-low.ensures c.max-high.ensures half (c.min.ensures ∙ omega (arith, c.saturating_mul.ensures)) in
    let is = limiter_is (limiter_of a.l) a.qa a.q a.qb in
    record {
      is = (λ i. record { size = size i; positive = leb a.qa a.qb }) ∙ is;
      small = rw (size ∙ ap (λ (D : Mismatch). D.size) is) ((limiter_limited (limiter_of a.l)).at_most_twice a.qa a.q a.qb);
    }
