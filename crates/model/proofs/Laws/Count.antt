-- The remap's count in closed form: of K old and K new layers 2·K − 1 pairs share air, less the inner edges that both have in common; so K to 2·K − 1.
-- Assumes air in every old layer, and edges that rise from 0 to the column's air.
use Rattle.std.specs.Prelude.{ℕ, zero, suc, ◌+◌, ◌*◌, ◌-◌, ◌≤◌, ◌<◌, min, max, List, Bool, true, false, ◌||◌, ◌≡◌, ltb}
use Rattle.std.proofs.Common.{⊎_elim, sym, ◌∙◌, ltb-true, ltb-false, eqb-true}
use Rattle.std.proofs.Math.Path.{refl, ap}
use Rattle.std.proofs.Math.Nat.{max-eq_left, max-eq_right}
use native.Mathlib.Omega.{arith}
use Rattle.std.proofs.lemmas.Bool.{eqb-false}
use Rattle.std.proofs.Math.Dec.{eqb}
use Rattle.model.specs.Basic.{at, sum, how_many, some, distance}
use Rattle.model.specs.Remap.{air_above, edge, share_air, column_count, common_edges}
use Rattle.model.proofs.Laws.Basic.{le_or_lt, how_many_most, sum_ext, sum_zero, sum_add, sum_same, sum_first, steps_rise}

-- ---- tests counted: 1 where x lies before y, 1 where both are the same, 1 where two layers share air
abbrev before : ℕ → ℕ → ℕ
before x y = min 1 (y - x)

abbrev pub same : ℕ → ℕ → ℕ
same x y = 1 - distance x y

abbrev meets : ℕ → ℕ → ℕ → ℕ → ℕ
meets from to lo hi = before (max from lo) (min to hi)

abbrev bit : Bool → ℕ
bit b = elim b [ true ↦ 1 | false ↦ 0 ]

bit_before : (x y : ℕ) → bit (ltb x y) ≡ before x y
bit_before x y = go (ltb x y) refl
  where
    go : (b : Bool) → ltb x y ≡ b → bit b ≡ before x y
    go true e = omega (arith, ltb-true x y e)
    go false e = omega (arith, ltb-false x y e)

how_many_bits : (n : ℕ) (p : ℕ → Bool) → how_many n p ≡ sum n (λ k. bit (p k))
unfolding how_many sum
how_many_bits zero p = refl
how_many_bits (suc n) p = more (p n) ∙ ap (λ (m : ℕ). m + bit (p n)) (how_many_bits n p)
  where
    more : (b : Bool) → elim b [ true ↦ suc (how_many n p) | false ↦ how_many n p ] ≡ how_many n p + bit b
    more true = omega arith
    more false = omega arith

-- numbers that rise strictly are at a place once or never
once :
    (n : ℕ) (x : ℕ → ℕ) (y : ℕ) → ((k : ℕ) → k < n → x k < x (suc k)) →
    bit (some n (λ k. eqb (x k) y)) ≡ sum n (λ k. same (x k) y)
unfolding some sum
once zero x y rises = refl
once (suc n) x y rises =
    more (some n (λ k. eqb (x k) y)) (eqb (x n) y) (sum n (λ k. same (x k) y)) (same (x n) y)
    (once n x y (λ k h. rises k (omega arith)))
    (λ e. (
      sum_ext n _ (λ k. 0) (λ k h. earlier k h (eqb-true (x n) y e)) ∙ sum_zero n,
      omega (arith, eqb-true (x n) y e),
    ))
    (λ e. apart (eqb-false (x n) y e))
  where
    earlier : (k : ℕ) → k < n → x n ≡ y → same (x k) y ≡ 0
    earlier k h e =
        omega (arith, e, rises k (omega arith), steps_rise n x (λ i p. omega (arith, rises i (omega arith))) (suc k) h)

    apart : (x n ≡ y → ⊥) → same (x n) y ≡ 0
    apart other =
        ⊎_elim
        (λ (le : x n ≤ y).
        ⊎_elim
        (λ (ge : y ≤ x n). absurd (other (omega arith)))
        (λ (lt : x n < y). omega arith)
        (le_or_lt y (x n)))
        (λ (gt : y < x n). omega arith)
        (le_or_lt (x n) y)

    more :
        (a c : Bool) (s d : ℕ) → bit a ≡ s → (c ≡ true → (s ≡ 0) × (d ≡ 1)) → (c ≡ false → d ≡ 0) →
        bit (a || c) ≡ s + d
    more false false s d e here there = omega (arith, e, there refl)
    more false true s d e here there = omega (arith, (here refl).0, (here refl).1)
    more true false s d e here there = omega (arith, e, there refl)
    more true true s d e here there = absurd (omega (arith, e, (here refl).0))

-- ---- two layers, from .. to and lo .. hi
meets_is : (from to lo hi : ℕ) → from < to → lo < hi → meets from to lo hi + 1 ≡ before from hi + before lo to
meets_is from to lo hi h h' =
    ⊎_elim
    (λ (p : from ≤ lo). rw (max-eq_right p) (both (omega arith) (omega arith)))
    (λ (p : lo < from). rw (max-eq_left (below p)) (swapped (omega arith) (omega arith)))
    (le_or_lt from lo)
  where
    below : lo < from → lo ≤ from
    below p = omega arith

    both : {a c d : ℕ} → a ≡ d → c ≡ 1 → a + 1 ≡ c + d
    both e e₂ = omega (arith, e, e₂)

    swapped : {a c d : ℕ} → a ≡ c → d ≡ 1 → a + 1 ≡ c + d
    swapped e e₂ = omega (arith, e, e₂)

one_of_three : (x y : ℕ) → before x y + same x y + before y x ≡ 1
one_of_three x y = omega arith

-- the terms from the second on, and the first, are all of them and the one after
sum_shift : (n : ℕ) (f : ℕ → ℕ) → sum n (λ k. f (suc k)) + f 0 ≡ sum n f + f n
unfolding sum
sum_shift n f = omega (arith, sum_first n f)

-- how many of the first n layers meet a stretch, and how many start before x
abbrev meeting : (ℕ → ℕ) → ℕ → ℕ → ℕ → ℕ
meeting a n lo hi = sum n (λ k. meets (a k) (a (suc k)) lo hi)

abbrev starting : (ℕ → ℕ) → ℕ → ℕ → ℕ
starting a n x = sum n (λ k. before (a k) x)

abbrev at_place : (ℕ → ℕ) → ℕ → ℕ → ℕ
at_place a n x = sum n (λ k. same (a k) x)

-- ---- n layers, their ends strictly rising from 0
module _ (a : ℕ → ℕ) (n : ℕ) (rises : (k : ℕ) → k < n → a k < a (suc k)) (first : a 0 ≡ 0) where
  end_le : (k : ℕ) → k ≤ n → a k ≤ a n
  end_le = steps_rise n a (λ k h. omega (arith, rises k h))

  -- one stretch: the layer in which it begins, and those that begin inside it
  one_stretch : (lo hi : ℕ) → lo < hi → lo < a n → meeting a n lo hi + starting a n lo + at_place a n lo ≡ starting a n hi + 1
  one_stretch lo hi h inside =
      omega (
        arith,
        sum_ext n (λ k. meets (a k) (a (suc k)) lo hi + 1) (λ k. before (a k) hi + before lo (a (suc k)))
            (λ k p. meets_is (a k) (a (suc k)) lo hi (rises k p) h),
        sum_add n (λ k. meets (a k) (a (suc k)) lo hi) (λ k. 1),
        sum_add n (λ k. before (a k) hi) (λ k. before lo (a (suc k))),
        sum_ext n (λ k. before (a k) lo + same (a k) lo + before lo (a k)) (λ k. 1) (λ k p. one_of_three (a k) lo),
        sum_add n (λ k. before (a k) lo + same (a k) lo) (λ k. before lo (a k)),
        sum_add n (λ k. before (a k) lo) (λ k. same (a k) lo),
        sum_shift n (λ k. before lo (a k)),
        first,
        inside,
      )

  -- m stretches one after the other, as long as the layers are together
  module _ (b : ℕ → ℕ) (m : ℕ) (rise : (j : ℕ) → j < m → b j < b (suc j)) (start : b 0 ≡ 0) (last : b m ≡ a n) where
    stretch_le : (j : ℕ) → j ≤ m → b j ≤ a n
    stretch_le j h = rw last at (steps_rise m b (λ j p. omega (arith, rise j p)) j h)

    all_stretches : sum m (λ j. meeting a n (b j) (b (suc j))) + sum m (λ j. at_place a n (b j)) ≡ n + m
    all_stretches =
        omega (
          arith,
          sum_ext m (λ j. meeting a n (b j) (b (suc j)) + starting a n (b j) + at_place a n (b j)) (λ j. starting a n (b (suc j)) + 1)
              (λ j h. one_stretch (b j) (b (suc j)) (rise j h) (omega (arith, rise j h, stretch_le (suc j) h))),
          sum_add m (λ j. meeting a n (b j) (b (suc j)) + starting a n (b j)) (λ j. at_place a n (b j)),
          sum_add m (λ j. meeting a n (b j) (b (suc j))) (λ j. starting a n (b j)),
          sum_add m (λ j. starting a n (b (suc j))) (λ j. 1),
          sum_shift m (λ j. starting a n (b j)),
          none,
          all,
          sum_same m 1,
        )
      where
        none : starting a n (b 0) ≡ 0
        none = sum_ext n _ (λ k. 0) (λ k h. omega (arith, start)) ∙ sum_zero n

        all : starting a n (b m) ≡ n * 1
        all = sum_ext n _ (λ k. 1) (λ k h. omega (arith, last, rises k h, end_le (suc k) h)) ∙ sum_same n 1

-- of the places in common the first is 0, and the others are inner ones
module _
    (a : ℕ → ℕ) (i : ℕ) (rises : (k : ℕ) → k < suc i → a k < a (suc k)) (first : a 0 ≡ 0)
    (b : ℕ → ℕ) (rise : (j : ℕ) → j < suc i → b j < b (suc j)) (start : b 0 ≡ 0) where
  inner_places : sum (suc i) (λ j. at_place a (suc i) (b j)) ≡ 1 + sum i (λ j. sum i (λ k. same (a (suc k)) (b (suc j))))
  inner_places =
      omega (
        arith,
        sum_first i (λ j. at_place a (suc i) (b j)),
        sum_first i (λ k. same (a k) (b 0)),
        top,
        below,
        sum_ext i (λ j. at_place a (suc i) (b (suc j))) (λ j. sum i (λ k. same (a (suc k)) (b (suc j)))) inner,
      )
    where
      top : same (a 0) (b 0) ≡ 1
      top = omega (arith, first, start)

      below : sum i (λ k. same (a (suc k)) (b 0)) ≡ 0
      below = sum_ext i _ (λ k. 0) (λ k h. omega (arith, start, rises k (omega arith))) ∙ sum_zero i

      inner : (j : ℕ) → j < i → at_place a (suc i) (b (suc j)) ≡ sum i (λ k. same (a (suc k)) (b (suc j)))
      inner j h = omega (arith, sum_first i (λ k. same (a k) (b (suc j))), first, rise j (omega arith))

  -- the same of the ends: the last is the bottom's
  module _ (last : b (suc i) ≡ a (suc i)) where
    end_below : (k : ℕ) → k < i → a (suc k) < a (suc i)
    end_below k h = omega (arith, rises (suc k) (omega arith), steps_rise (suc i) a (λ k p. omega (arith, rises k p)) (suc (suc k)) (omega arith))

    edge_below : (j : ℕ) → j < i → b (suc j) < a (suc i)
    edge_below j h = omega (arith, last, rise (suc j) (omega arith), steps_rise (suc i) b (λ j p. omega (arith, rise j p)) (suc (suc j)) (omega arith))

    end_places :
        sum (suc i) (λ j. sum (suc i) (λ k. same (a (suc k)) (b (suc j)))) ≡ 1 + sum i (λ j. sum i (λ k. same (a (suc k)) (b (suc j))))
    unfolding sum
    end_places =
        omega (
          arith,
          sum_ext i (λ j. sum i (λ k. same (a (suc k)) (b (suc j))) + same (a (suc i)) (b (suc j))) (λ j. sum i (λ k. same (a (suc k)) (b (suc j))))
              (λ j h. omega (arith, edge_below j h)),
          bottom,
          last,
        )
      where
        bottom : sum i (λ k. same (a (suc k)) (b (suc i))) ≡ 0
        bottom = sum_ext i _ (λ k. 0) (λ k h. omega (arith, last, end_below k h)) ∙ sum_zero i

-- ---- the pairs of an old and a new layer that share air
module _ (K : ℕ) (table air : List ℕ) where
  -- edge j of the new layers; edge k of the old ones is air_above air k
  abbrev new : ℕ → ℕ
  new j = edge table (air_above air K) j

  count_is : column_count K table air ≡ sum K (λ j. meeting (air_above air) K (new j) (new (suc j)))
  unfolding column_count share_air
  count_is = sum_ext K _ _ (λ j h. how_many_bits K _ ∙ sum_ext K _ _ (λ k p. bit_before _ _))

  none_above : air_above air 0 ≡ 0
  unfolding sum
  none_above = refl

  module _
      (has : (k : ℕ) → k < K → 1 ≤ at air k) (first : new 0 ≡ 0) (last : new K ≡ air_above air K)
      (rises : (j : ℕ) → j < K → new j < new (suc j)) where
    air_rises : (k : ℕ) → k < K → air_above air k < air_above air (suc k)
    unfolding sum
    air_rises k h = omega (arith, has k h)

    common_is : (i : ℕ) → K ≡ suc i → common_edges K table air ≡ sum i (λ j. sum i (λ k. same (air_above air (suc k)) (new (suc j))))
    unfolding common_edges
    common_is i e =
        let less : K - 1 ≡ i = omega (arith, e) in
        ap (λ (n : ℕ). how_many n (λ j. some n (λ k. eqb (air_above air (suc k)) (new (suc j))))) less ∙
        how_many_bits i _ ∙
        sum_ext i _ _ (λ j h. once i (λ k. air_above air (suc k)) (new (suc j)) (λ k p. air_rises (suc k) (omega (arith, e))))

    -- "2K − 1 less the inner edges that old and new layers have in common"
    pub column_count_is : 0 < K → column_count K table air + common_edges K table air ≡ 2 * K - 1
    column_count_is h = go (K - 1) (omega arith)
      where
        go : (i : ℕ) → K ≡ suc i → column_count K table air + common_edges K table air ≡ 2 * K - 1
        go i e =
            omega (
              arith,
              count_is,
              common_is i e,
              all_stretches (air_above air) K air_rises none_above new K rises first last,
              rw (sym e) at (inner_places (air_above air) i (λ k p. air_rises k (omega (arith, e))) none_above new (λ j p. rises j (omega (arith, e))) first),
              e,
            )

    -- 2K less the edges after the first at which an old layer ends, the bottom among them
    pub column_count_by_ends :
        0 < K → column_count K table air + sum K (λ j. sum K (λ k. same (air_above air (suc k)) (new (suc j)))) ≡ 2 * K
    column_count_by_ends h = go (K - 1) (omega arith)
      where
        go : (i : ℕ) → K ≡ suc i → column_count K table air + sum K (λ j. sum K (λ k. same (air_above air (suc k)) (new (suc j)))) ≡ 2 * K
        go i e =
            omega (
              arith,
              column_count_is h,
              common_is i e,
              rw (sym e) at (end_places (air_above air) i (λ k p. air_rises k (omega (arith, e))) none_above new (λ j p. rises j (omega (arith, e))) first (ap new (sym e) ∙ last ∙ ap (air_above air) e)),
              e,
            )

    -- document 01's bounds
    pub column_count_lem : 0 < K → (K ≤ column_count K table air) × (column_count K table air ≤ 2 * K - 1)
    unfolding common_edges
    column_count_lem h = (omega (arith, column_count_is h, common_most), omega (arith, column_count_is h))
      where
        common_most : common_edges K table air ≤ K - 1
        common_most = how_many_most (K - 1) _
