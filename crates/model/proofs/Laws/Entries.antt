-- Lists as a loop fills them: what holds of the entries set so far, and of those not set yet.
use Rattle.std.specs.Prelude.{ℕ, zero, suc, ◌+◌, ◌-◌, ◌≤◌, ◌<◌, List, [], ◌∷◌, ◌++◌, Bool, true, false, ◌⊎◌, ◌≡◌, ltb, length, get_or, set, take, drop}
use Rattle.std.proofs.Common.{append_assoc, append-nil, inl, inr, ⊎_elim, sym, subst, ap, ap₂, ◌∙◌, add-zero, zero-add, add_assoc, eq-or-lt_of_le, add-one, arith, ltb-true, ltb-false, get_or-set_same, get_or-set_other, ext_get_or}
use Rattle.std.proofs.Math.Path.{refl}
use Rattle.std.proofs.Math.Seq.{take-append-add, drop-append-add}
use Rattle.std.proofs.lemmas.List.{take-append-le, drop-append-le}
use Rattle.model.specs.Basic.{at, part, written, joined, tab_from, tab, sum}
use Rattle.model.proofs.Laws.Basic.{length_part, at_part, sum_ext, sum_split}

module _ {A : Type 0} (d : A) (l : List A) (n : ℕ) (x : A) where
  -- P holds of the entries below n, and of the one that is set at n
  pub entries_more :
      (P : ℕ → A → Type 0) → n < length l → ((k : ℕ) → k < n → P k (get_or l k d)) → P n x → (k : ℕ) → k < n + 1 →
      P k (get_or (set l n x) k d)
  entries_more P room old new k h =
      ⊎_elim
      (λ (e : k ≡ n). subst (λ (i : ℕ). P i (get_or (set l n x) i d)) (sym e) (rw (get_or-set_same l n x d room) new))
      (λ (u : k < n). rw (get_or-set_other l n k x d (λ (q : k ≡ n). omega arith)) (old k u))
      (eq-or-lt_of_le (omega arith))

  -- the entries above n are as they were
  pub entries_above : (k : ℕ) → n + 1 ≤ k → get_or (set l n x) k d ≡ get_or l k d
  entries_above k h = get_or-set_other l n k x d (λ (q : k ≡ n). omega arith)

-- a number is below another, or not
pub below_or_not : (k n : ℕ) → (k < n) ⊎ (n ≤ k)
below_or_not k n = go (ltb k n) refl
  where
    go : (b : Bool) → ltb k n ≡ b → (k < n) ⊎ (n ≤ k)
    go true e = inl (ltb-true k n e)
    go false e = inr (ltb-false k n e)

-- ---- a list of values, and lists joined, with one more at the end
tab_from_more : {A : Type 0} (i n : ℕ) (f : ℕ → A) → tab_from i (suc n) f ≡ tab_from i n f ++ (f (i + n) ∷ [])
unfolding tab_from
tab_from_more i zero f = rw add-zero
tab_from_more i (suc n) f = ap (λ (l : List _). f i ∷ l) (tab_from_more (suc i) n f ∙ ap (λ (k : ℕ). tab_from (suc i) n f ++ (f k ∷ [])) (omega arith))

pub tab_more : {A : Type 0} (n : ℕ) (f : ℕ → A) → tab (n + 1) f ≡ tab n f ++ (f n ∷ [])
tab_more n f = rw add-one (tab_from_more 0 n f ∙ ap (λ (k : ℕ). tab n f ++ (f k ∷ [])) (zero-add n))

joined_append : (xs ys : List (List ℕ)) → joined (xs ++ ys) ≡ joined xs ++ joined ys
unfolding joined
joined_append [] ys = refl
joined_append (x ∷ xs) ys = ap (λ (l : List ℕ). x ++ l) (joined_append xs ys) ∙ sym (append_assoc x (joined xs) (joined ys))

pub joined_more : (n : ℕ) (f : ℕ → List ℕ) → joined (tab (n + 1) f) ≡ joined (tab n f) ++ f n
unfolding joined
joined_more n f = ap joined (tab_more n f) ∙ joined_append (tab n f) (f n ∷ []) ∙ ap (λ (l : List ℕ). joined (tab n f) ++ l) (append-nil (f n))

-- a part written in the middle one of three lists
pub written_middle :
    (a g r new : List ℕ) (first : ℕ) → first + length new ≤ length g →
    written (a ++ (g ++ r)) (length a + first) new ≡ a ++ (written g first new ++ r)
written_middle a g r new first h =
    let front : take (length a + first) (a ++ (g ++ r)) ≡ a ++ take first g = take-append-add a (g ++ r) first ∙ ap (λ (l : List ℕ). a ++ l) (take-append-le first g r (omega arith)) in
    let back : drop (length a + first + length new) (a ++ (g ++ r)) ≡ drop (first + length new) g ++ r =
    ap (λ (k : ℕ). drop k (a ++ (g ++ r))) (add_assoc (length a) first (length new)) ∙ drop-append-add a (g ++ r) (first + length new) ∙ drop-append-le (first + length new) g r h in
    ap₂ (λ (x y : List ℕ). x ++ new ++ y) front back ∙ simp append_assoc

-- lists joined are the same where each is
pub joined_ext : (n : ℕ) (f g : ℕ → List ℕ) → ((t : ℕ) → t < n → f t ≡ g t) → joined (tab n f) ≡ joined (tab n g)
joined_ext zero f g same = unfold tab_from in refl
joined_ext (suc n) f g same =
    ap (λ (k : ℕ). joined (tab k f)) (sym (add-one n)) ∙ joined_more n f ∙
    ap₂ (λ (a b : List ℕ). a ++ b) (joined_ext n f g (λ t h. same t (omega arith))) (same n (omega arith)) ∙
    sym (joined_more n g) ∙ ap (λ (k : ℕ). joined (tab k g)) (add-one n)

-- a part of a part
pub part_part : (l : List ℕ) (a n b m : ℕ) → a + n ≤ length l → b + m ≤ n → part (part l a n) b m ≡ part l (a + b) m
part_part l a n b m fits inside =
    ext_get_or 0 (part (part l a n) b m) (part l (a + b) m)
    (length_part (part l a n) b m (rw (length_part l a n fits) inside) ∙ sym (length_part l (a + b) m (omega arith)))
    (λ i h.
    let k : i < m = rw (length_part (part l a n) b m (rw (length_part l a n fits) inside)) at h in
    at_part (part l a n) b m i k ∙ at_part l a n (b + i) (omega arith) ∙ ap (at l) (omega arith) ∙ sym (at_part l (a + b) m i k))

-- the sum of a part is at most the sum of all
pub part_sum_le : (n : ℕ) (l : List ℕ) (a m : ℕ) → a + m ≤ n → sum m (at (part l a m)) ≤ sum n (at l)
part_sum_le n l a m fits =
    let rest : ℕ = n - (a + m) in
    let whole : n ≡ a + m + rest = omega arith in
    rw whole
    (omega (arith, sum_ext m (at (part l a m)) (λ i. at l (a + i)) (λ i h. at_part l a m i h), sum_split (a + m) rest (at l), sum_split a m (at l)))
