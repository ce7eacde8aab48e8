-- `every` and `some` of the model as what `(0..n).all(..)` and `(0..n).any(..)` answer.
use Rattle.std.specs.Prelude.{ℕ, zero, suc, ◌+◌, Bool, true, false, ◌&&◌, ◌||◌, ◌≡◌, refl}
use Rattle.std.specs.List.{list_all, list_any, range_with_len}
use Rattle.std.specs.Fn.{Called}
use Rattle.std.specs.Iterator.{ChecksAll, ChecksAny}
use Rattle.std.specs.declared.ops.Range.{Range}
use Rattle.std.proofs.Common.{sym, ap, ap₂, ◌∙◌, arith}
use Rattle.std.proofs.Math.Nat.{sub-zero}
use Rattle.std.proofs.iter.Yields.{nat_range_steps}
use Rattle.std.proofs.lemmas.Iterator.{YieldsList-from_range}
use Rattle.std.proofs.lemmas.Iterator.Search.{all_from_yields_List, any_from_yields_List}
use denote.Param.Members.{Mut}
use Rattle.model.specs.Basic.{every, some}
use Rattle.model.proofs.Laws.Basic.{every_ext}

-- the first number apart
every_first : (n : ℕ) (p : ℕ → Bool) → every (suc n) p ≡ p 0 && every n (λ i. p (suc i))
unfolding every
every_first zero p = both (p 0)
  where
    both : (a : Bool) → true && a ≡ a && true
    both true = refl
    both false = refl
every_first (suc n) p = ap (λ (b : Bool). b && p (suc n)) (every_first n p) ∙ both (p 0) (every n (λ i. p (suc i))) (p (suc n))
  where
    both : (a b c : Bool) → a && b && c ≡ a && (b && c)
    both true b c = refl
    both false b c = refl

every_listed : (p : ℕ → Bool) (a n : ℕ) → list_all p (range_with_len a n) ≡ every n (λ i. p (a + i))
unfolding every
every_listed p a zero = refl
every_listed p a (suc n) =
    ap (λ (b : Bool). p a && b) (every_listed p (a + 1) n) ∙
    sym
    (every_first n (λ i. p (a + i)) ∙
    ap₂ ◌&&◌ (ap p (let e : a + 0 ≡ a = omega arith in e)) (every_ext n _ _ (λ i h. ap p (let e : a + suc i ≡ a + 1 + i = omega arith in e))))

-- what the call of `all` ensures, where the closure computes the test p
pub every_from_all : {F : Type 0} {g : Mut F (ℕ × Unit {0}) Bool} {f : F} {u : Range ℕ} {r : Bool} (n : ℕ) (p : ℕ → Bool) →
    ChecksAll nat_range_steps g (record { start = 0; end = n }) f r u →
    ((x : ℕ) (b : Bool) (q : F) → Called g f (x, tt) b q → (q ≡ f) × (b ≡ p x)) → r ≡ every n p
every_from_all n p ran test =
    all_from_yields_List p _ _ _ ran (YieldsList-from_range 0 n n refl (sub-zero n)) test ∙ every_listed p 0 n ∙
    every_ext n _ _ (λ i h. ap p (let e : 0 + i ≡ i = omega arith in e))

-- ---- `some` as what `(0..n).any(..)` answers
some_first : (n : ℕ) (p : ℕ → Bool) → some (suc n) p ≡ p 0 || some n (λ i. p (suc i))
unfolding some
some_first zero p = both (p 0)
  where
    both : (a : Bool) → false || a ≡ a || false
    both true = refl
    both false = refl
some_first (suc n) p = ap (λ (b : Bool). b || p (suc n)) (some_first n p) ∙ both (p 0) (some n (λ i. p (suc i))) (p (suc n))
  where
    both : (a b c : Bool) → a || b || c ≡ a || (b || c)
    both true b c = refl
    both false b c = refl

some_ext : (n : ℕ) (p q : ℕ → Bool) → ((i : ℕ) → p i ≡ q i) → some n p ≡ some n q
unfolding some
some_ext zero p q h = refl
some_ext (suc n) p q h = ap₂ ◌||◌ (some_ext n p q h) (h n)

some_listed : (p : ℕ → Bool) (a n : ℕ) → list_any p (range_with_len a n) ≡ some n (λ i. p (a + i))
unfolding some
some_listed p a zero = refl
some_listed p a (suc n) =
    ap (λ (b : Bool). p a || b) (some_listed p (a + 1) n) ∙
    sym
    (some_first n (λ i. p (a + i)) ∙
    ap₂ ◌||◌ (ap p (let e : a + 0 ≡ a = omega arith in e)) (some_ext n _ _ (λ i. ap p (let e : a + suc i ≡ a + 1 + i = omega arith in e))))

pub some_from_any : {F : Type 0} {g : Mut F (ℕ × Unit {0}) Bool} {f : F} {u : Range ℕ} {r : Bool} (n : ℕ) (p : ℕ → Bool) →
    ChecksAny nat_range_steps g (record { start = 0; end = n }) f r u →
    ((x : ℕ) (b : Bool) (q : F) → Called g f (x, tt) b q → (q ≡ f) × (b ≡ p x)) → r ≡ some n p
some_from_any n p ran test =
    any_from_yields_List p _ _ _ ran (YieldsList-from_range 0 n n refl (sub-zero n)) test ∙ some_listed p 0 n ∙
    some_ext n _ _ (λ i. ap p (let e : 0 + i ≡ i = omega arith in e))
