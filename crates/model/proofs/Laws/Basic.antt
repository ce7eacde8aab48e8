-- Laws of the words of Basic.antt: sums, lists of values, every, some, smallest, a part of a list and a part written.
use Prim.Native.Nat.{ℕ, zero, suc, ◌+◌, ◌*◌, ◌-◌, ◌≤◌, ◌<◌, min}
use mathlib.Core.List.{List, [], ◌∷◌, ◌++◌, append_assoc}
use Rattle.std.specs.Prelude.{Bool, true, false, ◌&&◌, ◌||◌, ◌≡◌, refl, ◌⊎◌, ◌≢◌, ltb, get_or, take, drop, set}
use Rattle.std.proofs.Math.Bool.{and-eq-true_iff, or-true, or-false}
use Rattle.std.proofs.lemmas.Bool.{false≢true}
use Rattle.std.proofs.Common.{true≢false, sym, ◌∙◌, ap, ap₂, inl, inr, ⊎_elim, mul-le-mul_right, zero-add, suc-mul, add-zero, add_assoc, mul-zero, le_refl, add-suc, eq-or-lt_of_le, add-one, ltb-true, ltb-false, length-take, length-drop, get_or-take, get_or-drop, get_or-set_same, get_or-set_other, drop-set-lt, ext_get_or, length-take-le, get_or-append-add, take_at, drop_at}
use Rattle.std.proofs.Math.Nat.{min-le_left, zero-mul}
use native.Mathlib.Omega.{arith}
use Rattle.std.proofs.Math.ListN.{length, length-append, get_or-append, get_or-eq_default}
use Rattle.std.proofs.Math.Seq.{take-set-lt, drop-append-add}
use Rattle.std.proofs.lemmas.List.{take-set-le, drop-set-add}
use Rattle.model.specs.Basic.{at, part, written, joined, tab_from, tab, zeros, sum, how_many, every, some, smallest}

-- ---- numbers below n + 1: those below n, and n
pub below_cases : {i n : ℕ} → i < suc n → (i ≡ n) ⊎ (i < n)
below_cases h = eq-or-lt_of_le (omega arith)

pub le_or_lt : (a b : ℕ) → (a ≤ b) ⊎ (b < a)
le_or_lt a b = go (ltb b a) refl
  where
    go : (t : Bool) → ltb b a ≡ t → (a ≤ b) ⊎ (b < a)
    go true e = inr (ltb-true b a e)
    go false e = inl (ltb-false b a e)

-- ---- sums
pub sum_ext : (n : ℕ) (f g : ℕ → ℕ) → ((i : ℕ) → i < n → f i ≡ g i) → sum n f ≡ sum n g
unfolding sum
sum_ext zero f g h = refl
sum_ext (suc n) f g h = ap₂ ◌+◌ (sum_ext n f g (λ i p. h i (omega arith))) (h n (omega arith))

pub sum_zero : (n : ℕ) → sum n (λ i. 0) ≡ 0
unfolding sum
sum_zero zero = refl
sum_zero (suc n) = ap (λ (x : ℕ). x + 0) (sum_zero n)

pub sum_add : (n : ℕ) (f g : ℕ → ℕ) → sum n (λ i. f i + g i) ≡ sum n f + sum n g
unfolding sum
sum_add zero f g = refl
sum_add (suc n) f g = omega (arith, sum_add n f g)

pub sum_times : (n z : ℕ) (f : ℕ → ℕ) → sum n (λ i. z * f i) ≡ z * sum n f
unfolding sum
sum_times zero z f = sym (mul-zero z)
sum_times (suc n) z f = omega (arith, sum_times n z f)

pub sum_le : (n : ℕ) (f g : ℕ → ℕ) → ((i : ℕ) → i < n → f i ≤ g i) → sum n f ≤ sum n g
unfolding sum
sum_le zero f g h = le_refl 0
sum_le (suc n) f g h = omega (arith, sum_le n f g (λ i p. h i (omega arith)), h n (omega arith))

pub sum_same : (n z : ℕ) → sum n (λ i. z) ≡ n * z
unfolding sum
sum_same zero z = omega arith
sum_same (suc n) z = omega (arith, sum_same n z)

-- one term is at most the sum
pub term_le_sum : (n : ℕ) (f : ℕ → ℕ) (i : ℕ) → i < n → f i ≤ sum n f
unfolding sum
term_le_sum zero f i h = absurd (omega arith)
term_le_sum (suc n) f i h =
    ⊎_elim (λ e. rw e (omega arith)) (λ p. omega (arith, term_le_sum n f i p)) (below_cases h)

-- a list's sum after one of its entries was set
pub sum_set : (n : ℕ) (l : List ℕ) (i x : ℕ) → i < n → n ≤ length l → sum n (at (set l i x)) + at l i ≡ sum n (at l) + x
unfolding sum
sum_set zero l i x h fits = absurd (omega arith)
sum_set (suc n) l i x h fits =
    ⊎_elim
    (λ (e : i ≡ n).
    rw (← e, get_or-set_same l i x 0 (omega arith), sum_ext i (at (set l i x)) (at l) (λ j p. get_or-set_other l i j x 0 (omega arith))) (omega arith))
    (λ p. rw (get_or-set_other l i n x 0 (omega arith)) (omega (arith, sum_set n l i x p (omega arith))))
    (below_cases h)

-- a sum of which one term is another one
pub sum_changed : (n : ℕ) (f g : ℕ → ℕ) (i : ℕ) → i < n → ((j : ℕ) → j < n → j ≢ i → g j ≡ f j) → sum n g + f i ≡ sum n f + g i
unfolding sum
sum_changed zero f g i h same = absurd (omega arith)
sum_changed (suc n) f g i h same =
    ⊎_elim
    (λ (e : i ≡ n). rw (e, sum_ext n g f (λ j p. same j (omega arith) (omega arith))) (omega arith))
    (λ p. omega (arith, sum_changed n f g i p (λ j q. same j (omega arith)), same n (omega arith) (omega arith)))
    (below_cases h)

pub sum_split : (a b : ℕ) (f : ℕ → ℕ) → sum (a + b) f ≡ sum a f + sum b (λ i. f (a + i))
unfolding sum
sum_split a zero f = rw (add-zero a, add-zero)
sum_split a (suc b) f = rw (add-suc a b, sum_split a b f) (add_assoc _ _ _)

pub sum_first : (n : ℕ) (f : ℕ → ℕ) → sum (suc n) f ≡ f 0 + sum n (λ i. f (suc i))
unfolding sum
sum_first zero f = omega arith
sum_first (suc n) f = omega (arith, sum_first n f)

-- a sum of fewer terms
pub sum_fewer : (f : ℕ → ℕ) (m n : ℕ) → m ≤ n → sum m f ≤ sum n f
sum_fewer f m n h = let e : n ≡ m + (n - m) = omega arith in rw e (omega (arith, sum_split m (n - m) f))

-- the steps of a list that never falls
pub sum_steps : (n : ℕ) (e : ℕ → ℕ) → ((j : ℕ) → j < n → e j ≤ e (suc j)) → sum n (λ j. e (suc j) - e j) + e 0 ≡ e n
unfolding sum
sum_steps zero e h = omega arith
sum_steps (suc n) e h = omega (arith, sum_steps n e (λ j p. h j (omega arith)), h n (omega arith))

pub steps_rise : (n : ℕ) (e : ℕ → ℕ) → ((j : ℕ) → j < n → e j ≤ e (suc j)) → (j : ℕ) → j ≤ n → e j ≤ e n
steps_rise n e h j le =
    omega (arith, sum_steps n e h, sum_steps j e (λ i p. h i (omega arith)), sum_fewer (λ i. e (suc i) - e i) j n le)

-- a sum over m rows of n terms each, by rows and by columns
sum_rows : (m n : ℕ) (f : ℕ → ℕ) → sum (m * n) f ≡ sum m (λ k. sum n (λ i. f (k * n + i)))
unfolding sum
sum_rows zero n f = rw zero-mul
sum_rows (suc m) n f = rw (suc-mul m n, sum_split (m * n) n f, sum_rows m n f)

sum_swap : (m n : ℕ) (f : ℕ → ℕ → ℕ) → sum m (λ k. sum n (f k)) ≡ sum n (λ i. sum m (λ k. f k i))
unfolding sum
sum_swap zero n f = sym (sum_zero n)
sum_swap (suc m) n f = rw (sum_swap m n f) (sym (sum_add n (λ i. sum m (λ k. f k i)) (f m)))

pub sum_columns : (m n : ℕ) (f : ℕ → ℕ) → sum (m * n) f ≡ sum n (λ i. sum m (λ k. f (k * n + i)))
sum_columns m n f = sum_rows m n f ∙ sum_swap m n (λ k i. f (k * n + i))

-- ---- lists of values
length_tab_from : {A : Type 0} (i n : ℕ) (f : ℕ → A) → length (tab_from i n f) ≡ n
unfolding tab_from
length_tab_from i zero f = refl
length_tab_from i (suc n) f = ap suc (length_tab_from (suc i) n f)

pub length_tab : {A : Type 0} (n : ℕ) (f : ℕ → A) → length (tab n f) ≡ n
length_tab n f = length_tab_from 0 n f

get_d_tab_from : {A : Type 0} (i n : ℕ) (f : ℕ → A) (j : ℕ) (d : A) → j < n → get_or (tab_from i n f) j d ≡ f (i + j)
unfolding tab_from
get_d_tab_from i zero f j d h = absurd (omega arith)
get_d_tab_from i (suc n) f zero d h = rw add-zero
get_d_tab_from i (suc n) f (suc j) d h = get_d_tab_from (suc i) n f j d (omega arith) ∙ ap f (omega arith)

pub get_d_tab : {A : Type 0} (n : ℕ) (f : ℕ → A) (j : ℕ) (d : A) → j < n → get_or (tab n f) j d ≡ f j
get_d_tab n f j d h = get_d_tab_from 0 n f j d h ∙ ap f (zero-add j)

pub at_tab : (n : ℕ) (f : ℕ → ℕ) (j : ℕ) → j < n → at (tab n f) j ≡ f j
at_tab n f j h = get_d_tab n f j 0 h

pub length_zeros : (n : ℕ) → length (zeros n) ≡ n
length_zeros n = length_tab n (λ i. 0)

pub at_zeros : (n i : ℕ) → at (zeros n) i ≡ 0
at_zeros n i = go (ltb i n) refl
  where
    go : (b : Bool) → ltb i n ≡ b → at (zeros n) i ≡ 0
    go true e = at_tab n (λ i. 0) i (ltb-true i n e)
    go false e = get_or-eq_default (zeros n) 0 (rw (length_zeros n) (ltb-false i n e))

pub sum_tab : (n : ℕ) (f : ℕ → ℕ) → sum n (at (tab n f)) ≡ sum n f
sum_tab n f = sum_ext n (at (tab n f)) f (at_tab n f)

-- a list is the list of its entries
pub tab_at : (n : ℕ) (l : List ℕ) → length l ≡ n → tab n (at l) ≡ l
tab_at n l e =
    ext_get_or 0 (tab n (at l)) l (length_tab n (at l) ∙ sym e)
    (λ i h. at_tab n (at l) i (rw (length_tab n (at l)) at h))

tab_from_ext : {A : Type 0} (i n : ℕ) (f g : ℕ → A) → ((t : ℕ) → t < i + n → f t ≡ g t) → tab_from i n f ≡ tab_from i n g
unfolding tab_from
tab_from_ext i zero f g h = refl
tab_from_ext i (suc n) f g h = ap₂ ◌∷◌ (h i (omega arith)) (tab_from_ext (suc i) n f g (λ t p. h t (omega arith)))

pub tab_ext : {A : Type 0} (n : ℕ) (f g : ℕ → A) → ((i : ℕ) → i < n → f i ≡ g i) → tab n f ≡ tab n g
tab_ext n f g h = tab_from_ext 0 n f g (λ t p. h t (omega arith))

-- ---- every and some
pub both : (a b : Bool) → a && b ≡ true → (a ≡ true) × (b ≡ true)
both a b e = (and-eq-true_iff a b).0 e

pub neither : (a b : Bool) → a || b ≡ false → (a ≡ false) × (b ≡ false)
neither true b e = absurd (true≢false e)
neither false b e = (refl, e)

pub both_false : {a b : Bool} → a ≡ false → b ≡ false → a || b ≡ false
both_false p q = rw (p, q)

pub every_at : (n : ℕ) (p : ℕ → Bool) → every n p ≡ true → (i : ℕ) → i < n → p i ≡ true
unfolding every
every_at zero p e i h = absurd (omega arith)
every_at (suc n) p e i h =
    let h₂ = both (every n p) (p n) e in
    ⊎_elim (λ (u : i ≡ n). rw u h₂.1) (λ u. every_at n p h₂.0 i u) (below_cases h)

pub every_true : (n : ℕ) (p : ℕ → Bool) → ((i : ℕ) → i < n → p i ≡ true) → every n p ≡ true
unfolding every
every_true zero p h = refl
every_true (suc n) p h = ap₂ ◌&&◌ (every_true n p (λ i q. h i (omega arith))) (h n (omega arith))

pub every_false : (n : ℕ) (p : ℕ → Bool) (i : ℕ) → i < n → p i ≡ false → every n p ≡ false
every_false n p i h e = go (every n p) refl
  where
    go : (b : Bool) → every n p ≡ b → b ≡ false
    go true q = absurd (false≢true (sym e ∙ every_at n p q i h))
    go false q = refl

pub every_ext : (n : ℕ) (p q : ℕ → Bool) → ((i : ℕ) → i < n → p i ≡ q i) → every n p ≡ every n q
unfolding every
every_ext zero p q h = refl
every_ext (suc n) p q h = ap₂ ◌&&◌ (every_ext n p q (λ i r. h i (omega arith))) (h n (omega arith))

-- how many: none of 0 numbers, one number more, at most all, by a test that gives the same
pub how_many_none : (p : ℕ → Bool) → how_many 0 p ≡ 0
unfolding how_many
how_many_none p = refl

pub how_many_more : (n : ℕ) (p : ℕ → Bool) (b : Bool) → p n ≡ b → how_many (suc n) p ≡ elim b [ true ↦ suc (how_many n p) | false ↦ how_many n p ]
unfolding how_many
how_many_more n p b is = ap (λ (b : Bool). elim b [ true ↦ suc (how_many n p) | false ↦ how_many n p ]) is

pub how_many_most : (n : ℕ) (p : ℕ → Bool) → how_many n p ≤ n
unfolding how_many
how_many_most zero p = omega arith
how_many_most (suc n) p = more (p n) (how_many_most n p)
  where
    more : (b : Bool) {m : ℕ} → m ≤ n → elim b [ true ↦ suc m | false ↦ m ] ≤ suc n
    more true h = omega (arith, h)
    more false h = omega (arith, h)

pub how_many_ext : (n : ℕ) (p q : ℕ → Bool) → ((i : ℕ) → i < n → p i ≡ q i) → how_many n p ≡ how_many n q
unfolding how_many
how_many_ext zero p q h = refl
how_many_ext (suc n) p q h =
    ap₂ (λ (b : Bool) (m : ℕ). elim b [ true ↦ suc m | false ↦ m ]) (h n (omega arith)) (how_many_ext n p q (λ i r. h i (omega arith)))

pub some_true : (n : ℕ) (p : ℕ → Bool) (i : ℕ) → i < n → p i ≡ true → some n p ≡ true
unfolding some
some_true zero p i h e = absurd (omega arith)
some_true (suc n) p i h e =
    ⊎_elim (λ (u : i ≡ n). ap (λ (b : Bool). some n p || b) (rw u at e) ∙ or-true (some n p)) (λ u. ap (λ (b : Bool). b || p n) (some_true n p i u e)) (below_cases h)

-- a number at which p holds
pub some_at : (n : ℕ) (p : ℕ → Bool) → some n p ≡ true → (i : ℕ) × (i < n) × (p i ≡ true)
unfolding some
some_at zero p e = absurd (false≢true e)
some_at (suc n) p e = go (some_at n p) (p n) refl
  where
    go : (some n p ≡ true → (i : ℕ) × (i < n) × (p i ≡ true)) → (b : Bool) → p n ≡ b → (i : ℕ) × (i < suc n) × (p i ≡ true)
    go below true q = (n, omega arith, q)
    go below false q =
        let r = below (sym (or-false (some n p)) ∙ ap (λ (b : Bool). some n p || b) (sym q) ∙ e) in
        (r.0, omega (arith, r.1), r.2)

-- p holds at some number unless it holds at none
pub some_unless : (n : ℕ) (p : ℕ → Bool) → (((i : ℕ) → i < n → p i ≡ false) → ⊥) → some n p ≡ true
some_unless n p h = go (some n p) refl
  where
    at_none : some n p ≡ false → (i : ℕ) → i < n → (b : Bool) → p i ≡ b → b ≡ false
    at_none e i q true u = absurd (false≢true (sym e ∙ some_true n p i q u))
    at_none e i q false u = refl

    go : (b : Bool) → some n p ≡ b → b ≡ true
    go true e = refl
    go false e = absurd (h (λ i q. at_none e i q (p i) refl))

-- ---- the smallest
-- what `smallest n p` is, by cases: 0, and p holds at none of 1 to n; or a number of 1 to n at which p holds and at no smaller one
pub data Smallest (n : ℕ) (p : ℕ → Bool) : ℕ → Type 0 where
  none : ((i : ℕ) → 1 ≤ i → i ≤ n → p i ≡ false) → Smallest n p 0
  found : {m : ℕ} → m < n → p (suc m) ≡ true → ((i : ℕ) → 1 ≤ i → i ≤ m → p i ≡ false) → Smallest n p (suc m)

smallest_next :
    (n : ℕ) (p : ℕ → Bool) (r : ℕ) (b : Bool) → p (suc n) ≡ b → Smallest n p r →
    Smallest (suc n) p (elim r [ zero ↦ elim b [ true ↦ suc n | false ↦ 0 ] | suc m ↦ suc m ])
smallest_next n p zero true e (none h) = found {m = n} (omega arith) e h
smallest_next n p zero false e (none h) =
    none (λ i low high. ⊎_elim (λ (u : i ≡ suc n). rw u e) (λ u. h i low (omega arith)) (eq-or-lt_of_le high))
smallest_next n p (suc m) b e (found h q r) = found {m = m} (omega arith) q r

pub smallest_is : (n : ℕ) (p : ℕ → Bool) → Smallest n p (smallest n p)
unfolding smallest
smallest_is zero p = none (λ i low high. absurd (omega arith))
smallest_is (suc n) p = smallest_next n p (smallest n p) (p (suc n)) refl (smallest_is n p)

-- ---- a part of a list, and a part written
pub length_part : (l : List ℕ) (a n : ℕ) → a + n ≤ length l → length (part l a n) ≡ n
length_part l a n h = simp (length-take, length-drop) (omega arith)

pub at_part : (l : List ℕ) (a n i : ℕ) → i < n → at (part l a n) i ≡ at l (a + i)
at_part l a n i h = rw (get_or-take, get_or-drop)

-- the part after one entry of the list was set: one inside the part, one behind it, one before it
pub part_set_within : (l : List ℕ) (a n i x : ℕ) → i < n → part (set l (a + i) x) a n ≡ set (part l a n) i x
part_set_within l a n i x h = rw (drop-set-add, take-set-lt)

pub part_set_behind : (l : List ℕ) (a n i x : ℕ) → a + n ≤ i → part (set l i x) a n ≡ part l a n
part_set_behind l a n i x h =
    let e : i ≡ a + (i - a) = omega arith in
    rw (e, drop-set-add, take-set-le n (drop a l) (i - a) x (omega arith))

pub part_set_before : (l : List ℕ) (a n i x : ℕ) → i < a → part (set l i x) a n ≡ part l a n
part_set_before l a n i x h = rw drop-set-lt

-- entry c is one of the m entries from entry a on, or it is not
abbrev pub InPart : ℕ → ℕ → ℕ → Type 0
InPart a m c = (i : ℕ) × (i < m) × (a + i ≡ c)

abbrev pub Outside : ℕ → ℕ → ℕ → Type 0
Outside a m c = (c < a) ⊎ (a + m ≤ c)

pub part_or_outside : (a m c : ℕ) → InPart a m c ⊎ Outside a m c
part_or_outside a m c = go (ltb c a) (ltb c (a + m)) refl refl
  where
    go : (b d : Bool) → ltb c a ≡ b → ltb c (a + m) ≡ d → InPart a m c ⊎ Outside a m c
    go true d e f = inr (inl (ltb-true c a e))
    go false true e f =
        let low = ltb-false c a e in
        let high = ltb-true c (a + m) f in
        inl (c - a, omega arith, omega arith)
    go false false e f = inr (inr (ltb-false c (a + m) f))

-- k entries from entry b on that lie apart from them are the same in two lists that differ only inside
abbrev pub Apart : ℕ → ℕ → ℕ → ℕ → Type 0
Apart a m b k = (b + k ≤ a) ⊎ (a + m ≤ b)

pub part_apart :
    (l new : List ℕ) (a m b k : ℕ) → length new ≡ length l → ((c : ℕ) → Outside a m c → at new c ≡ at l c) → Apart a m b k →
    part new b k ≡ part l b k
part_apart l new a m b k long same apart =
    ext_get_or 0 (part new b k) (part l b k)
    (simp (length-take, length-drop) (ap (λ (x : ℕ). min k (x - b)) long))
    (λ i h.
    let few : i < k = omega (arith, length-take k (drop b new), min-le_left k (length (drop b new))) in
    at_part new b k i few ∙ same (b + i) (go i few apart) ∙ sym (at_part l b k i few))
  where
    go : (i : ℕ) → i < k → Apart a m b k → Outside a m (b + i)
    go i h (inl p) = inl (omega arith)
    go i h (inr p) = inr (omega arith)

-- m new entries written from entry a on over a list of n entries
module _ (l new : List ℕ) (a m n : ℕ) (whole : length l ≡ n) (size : length new ≡ m) (fits : a + m ≤ n) where
  front : length (take a l) ≡ a
  front = length-take-le a l (omega arith)

  pub length_written : length (written l a new) ≡ n
  length_written = simp (length-append, length-take, length-drop) (omega arith)

  head : length (take a l ++ new) ≡ a + m
  head = length-append (take a l) new ∙ omega (arith, front)

  pub at_written_within : (i : ℕ) → i < m → at (written l a new) (a + i) ≡ at new i
  at_written_within i h =
      get_or-append (take a l ++ new) _ 0 (a + i) (omega (arith, head)) ∙
      ap (λ (x : ℕ). at (take a l ++ new) (x + i)) (sym front) ∙
      get_or-append-add (take a l) new i 0

  pub at_written_outside : (c : ℕ) → Outside a m c → at (written l a new) c ≡ at l c
  at_written_outside c (inl h) =
      get_or-append (take a l ++ new) _ 0 c (omega (arith, head)) ∙
      get_or-append (take a l) new 0 c (omega (arith, front)) ∙
      get_or-take a l c 0 h
  at_written_outside c (inr h) =
      let j : ℕ = c - (a + m) in
      let e : c ≡ length (take a l ++ new) + j = omega (arith, head) in
      ap (at (written l a new)) e ∙
      get_or-append-add (take a l ++ new) _ j 0 ∙
      get_or-drop (a + length new) l j 0 ∙
      ap (at l) (omega arith)

  pub part_written : part (written l a new) a m ≡ new
  part_written = rw (append_assoc, drop_at (take a l) _ a front) (take_at new _ m size)

  -- a part beside it is as it was
  pub part_beside : (b k : ℕ) → Apart a m b k → part (written l a new) b k ≡ part l b k
  part_beside b k = part_apart l (written l a new) a m b k (length_written ∙ sym whole) at_written_outside

  -- the sum: with what stood there before, as it was with what stands there now
  pub sum_written : sum n (at (written l a new)) + sum m (at (part l a m)) ≡ sum n (at l) + sum m (at new)
  sum_written =
      let rest : ℕ = n - (a + m) in
      let e : n ≡ a + m + rest = omega arith in
      let now : ℕ → ℕ = at (written l a new) in
      rw e (omega (
        arith,
        sum_split (a + m) rest now,
        sum_split a m now,
        sum_split (a + m) rest (at l),
        sum_split a m (at l),
        sum_ext a now (at l) (λ i h. at_written_outside i (inl h)),
        sum_ext m (λ i. now (a + i)) (at new) at_written_within,
        sum_ext m (at (part l a m)) (λ i. at l (a + i)) (at_part l a m),
        sum_ext rest (λ i. now (a + m + i)) (λ i. at l (a + m + i)) (λ i h. at_written_outside (a + m + i) (inr (omega arith))),
      ))

-- ---- lists of n entries each, one after the other
module _ (n : ℕ) where
  abbrev pub Each : List (List ℕ) → Type 0
  Each ls = (t : ℕ) → t < length ls → length (get_or ls t []) ≡ n

  pub length_joined : (ls : List (List ℕ)) → Each ls → length (joined ls) ≡ length ls * n
  unfolding joined
  length_joined [] each = omega arith
  length_joined (l ∷ ls) each =
      rw length-append (omega (arith, each 0 (omega arith), length_joined ls (λ t h. each (suc t) (omega arith))))

  pub part_joined : (ls : List (List ℕ)) → Each ls → (t : ℕ) → t < length ls → part (joined ls) (t * n) n ≡ get_or ls t []
  unfolding joined
  part_joined [] each t h = absurd (omega arith)
  part_joined (l ∷ ls) each zero h = rw zero-mul (take_at l (joined ls) n (each 0 h))
  part_joined (l ∷ ls) each (suc t) h =
      let e : suc t * n ≡ length l + t * n = omega (arith, each 0 (omega arith)) in
      rw (e, drop-append-add l (joined ls) (t * n)) (part_joined ls (λ i p. each (suc i) (omega arith)) t (omega arith))

-- ---- as a loop meets them: nothing yet, and one more
pub sum_none : (f : ℕ → ℕ) → sum 0 f ≡ 0
unfolding sum
sum_none f = refl

pub sum_more : (n : ℕ) (f : ℕ → ℕ) → sum (n + 1) f ≡ sum n f + f n
unfolding sum
sum_more n f = rw add-one

pub every_none : (p : ℕ → Bool) → every 0 p ≡ true
unfolding every
every_none p = refl

pub every_more : (n : ℕ) (p : ℕ → Bool) → every (n + 1) p ≡ every n p && p n
unfolding every
every_more n p = rw add-one

-- ---- n parts of m entries each, of which part t is written anew
module _ (l new : List ℕ) (n m t : ℕ) (whole : length l ≡ n * m) (size : length new ≡ m) (there : t < n) where
  inside : t * m + m ≤ n * m
  inside = omega (arith, mul-le-mul_right m there)

  pub length_rewritten : length (written l (t * m) new) ≡ n * m
  length_rewritten = length_written l new (t * m) m (n * m) whole size inside

  pub part_rewritten : part (written l (t * m) new) (t * m) m ≡ new
  part_rewritten = part_written l new (t * m) m (n * m) whole size inside

  pub part_not_rewritten : (u : ℕ) → u ≢ t → part (written l (t * m) new) (u * m) m ≡ part l (u * m) m
  part_not_rewritten u other = part_beside l new (t * m) m (n * m) whole size inside (u * m) m (go (le_or_lt t u))
    where
      go : (t ≤ u) ⊎ (u < t) → (u * m + m ≤ t * m) ⊎ (t * m + m ≤ u * m)
      go (inl h) = let later : suc t ≤ u = omega arith in inr (omega (arith, mul-le-mul_right m later))
      go (inr h) = inl (omega (arith, mul-le-mul_right m h))
