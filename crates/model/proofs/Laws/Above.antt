-- Laws of G, `amount_above`: the tracer in the x units of air from the low end of a list of layers, layer k being `f k`.
-- Assumes air in every layer, and of a slope that it is safe, whatever gave it.
use Prim.Native.Nat.{ℕ, zero, suc, ◌+◌, ◌*◌, ◌-◌, ◌≤◌, ◌<◌, min, max}
use Rattle.std.specs.Prelude.{List, ◌∷◌, Bool, true, false, not, ◌≡◌, leb}
use Rattle.std.proofs.Math.Logic.{⊎_elim}
use Rattle.std.proofs.Math.Path.{refl, sym, ap, ap₂}
use Rattle.std.proofs.Common.{◌∙◌, zero-add, add-zero, le_trans, leb-true, leb-false}
use Rattle.std.proofs.Math.Nat.{mul-sub, min-eq_left, min-eq_right}
use native.Mathlib.Omega.{arith}
use Rattle.std.proofs.lemmas.Bool.{lt-leb}
use Rattle.model.specs.Basic.{sum, tab, tab_from}
use Rattle.model.specs.Scheme.{opposite, low_piece}
use Rattle.model.specs.Remap.{ColumnLayer, amount_above}
use Rattle.model.proofs.Laws.Basic.{le_or_lt, sum_ext, sum_split, sum_first, sum_fewer, sum_zero, sum_le, sum_times, sum_steps, steps_rise}
use Rattle.model.proofs.Laws.Fractions.{CellRoom, lost, LeavesInRange, leaves_same, leaves_join, leaves_near, Near, two_floors, middle_leaves, low_leaves, high_leaves, all_leaves}
use Rattle.model.proofs.Laws.Scheme.{Safe, piece_none, piece_whole, piece_rises, piece_constant}

-- the tracer in the m units of air from the low end of a layer
abbrev pub layer_piece : ColumnLayer → ℕ → ℕ
layer_piece l m = low_piece l.slope l.air l.tracer m

-- a layer may lean by its slope at both ends
abbrev pub Leans : Bool → ℕ → ℕ → ColumnLayer → Type 0
Leans b H L l = CellRoom b H L l.air l.tracer l.slope.size

-- ---- as a sum over the layers: from each the low-end piece of as much of its air as lies in the x units
amount_first :
    (l : ColumnLayer) (below : List ColumnLayer) → 1 ≤ l.air → amount_above below 0 ≡ 0 → (x : ℕ) →
    amount_above (l ∷ below) x ≡ layer_piece l (min x l.air) + amount_above below (x - l.air)
unfolding amount_above
amount_first l below has none x = go (leb l.air x) refl
  where
    go : (b : Bool) → leb l.air x ≡ b → amount_above (l ∷ below) x ≡ layer_piece l (min x l.air) + amount_above below (x - l.air)
    go true e =
        let h : l.air ≤ x = leb-true _ _ e in
        rw (e, amount_above, min-eq_right h, piece_whole (opposite l.slope) l.air l.tracer has)
    go false e =
        let h : x ≤ l.air = omega (arith, leb-false l.air x e) in
        let past : x - l.air ≡ 0 = omega arith in
        rw (e, amount_above, min-eq_left h, past, none, add-zero)

module _ (f : ℕ → ColumnLayer) where
  -- the air and the tracer of the k layers at the low end
  abbrev pub air_of : ℕ → ℕ
  air_of k = sum k (λ i. (f i).air)

  abbrev pub tracer_of : ℕ → ℕ
  tracer_of k = sum k (λ i. (f i).tracer)

  -- what layer k has in the x units
  abbrev pub layer_part : ℕ → ℕ → ℕ
  layer_part k x = layer_piece (f k) (min (x - air_of k) (f k).air)

  -- the air of the n layers in the x units
  air_above_lem : (x n : ℕ) → sum n (λ k. min (x - air_of k) (f k).air) ≡ min x (air_of n)
  unfolding sum
  air_above_lem x zero = omega arith
  air_above_lem x (suc n) = omega (arith, air_above_lem x n)

  none_from : (i n : ℕ) → ((k : ℕ) → k < n → 1 ≤ (f (i + k)).air) → amount_above (tab_from i n f) 0 ≡ 0
  unfolding amount_above tab_from
  none_from i zero has = refl
  none_from i (suc n) has =
      let here : 1 ≤ (f i).air = rw (add-zero i) at (has 0 (omega arith)) in
      rw (lt-leb (f i).air 0 here, amount_above) (piece_none _ _ _ here)

  amount_from : (i n x : ℕ) → ((k : ℕ) → k < n → 1 ≤ (f (i + k)).air) → amount_above (tab_from i n f) (x - air_of i) ≡ sum n (λ k. layer_part (i + k) x)
  unfolding sum amount_above tab_from
  amount_from i zero x has = refl
  amount_from i (suc n) x has =
      let here : 1 ≤ (f i).air = rw (add-zero i) at (has 0 (omega arith)) in
      let next : (k : ℕ) → i + suc k ≡ suc i + k = λ k. omega arith in
      let later : (k : ℕ) → k < n → 1 ≤ (f (suc i + k)).air = λ k h. rw (next k) at (has (suc k) (omega arith)) in
      let past : x - air_of i - (f i).air ≡ x - (air_of i + (f i).air) = omega arith in
      amount_first (f i) (tab_from (suc i) n f) here (none_from (suc i) n later) (x - air_of i) ∙
      ap₂ ◌+◌ (ap (λ (k : ℕ). layer_part k x) (sym (add-zero i)))
      (rw (past, amount_from (suc i) n x later) (sum_ext n _ _ (λ k h. ap (λ (k : ℕ). layer_part k x) (sym (next k))))) ∙
      sym (sum_first n (λ k. layer_part (i + k) x))

  -- a point of layer k
  pub part_is : (k x : ℕ) → air_of k ≤ x → x ≤ air_of (suc k) → layer_part k x ≡ layer_piece (f k) (x - air_of k)
  unfolding sum
  part_is k x low high = ap (layer_piece (f k)) (omega arith)

  module _ (n : ℕ) (has : (k : ℕ) → k < n → 1 ≤ (f k).air) where
    pub amount_is_lem : (x : ℕ) → amount_above (tab n f) x ≡ sum n (λ k. layer_part k x)
    unfolding sum
    amount_is_lem x =
        let whole : x ≡ x - 0 = omega arith in
        ap (amount_above (tab n f)) whole ∙
        amount_from 0 n x (λ k h. rw (zero-add k) (has k h)) ∙
        sum_ext n _ _ (λ k h. ap (λ (k : ℕ). layer_part k x) (zero-add k))

    -- a point at or before the low end of layer k, and at or past its high end
    pub part_none : (k x : ℕ) → k < n → x ≤ air_of k → layer_part k x ≡ 0
    part_none k x h le =
        let e : min (x - air_of k) (f k).air ≡ 0 = omega arith in
        rw e (piece_none _ _ _ (has k h))

    part_whole : (k x : ℕ) → k < n → air_of (suc k) ≤ x → layer_part k x ≡ (f k).tracer
    unfolding sum
    part_whole k x h le =
        let e : min (x - air_of k) (f k).air ≡ (f k).air = omega arith in
        rw e (piece_whole _ _ _ (has k h))

    pub amount_none : amount_above (tab n f) 0 ≡ 0
    amount_none = amount_is_lem 0 ∙ sum_ext n _ (λ k. 0) (λ k h. part_none k 0 h (omega arith)) ∙ sum_zero n

    pub parts_whole : (m x : ℕ) → m ≤ n → air_of m ≤ x → sum m (λ k. layer_part k x) ≡ tracer_of m
    parts_whole m x h le =
        sum_ext m _ (λ k. (f k).tracer)
        (λ k p. part_whole k x (omega arith) (omega (arith, sum_fewer (λ i. (f i).air) (suc k) m p)))

    pub amount_whole : amount_above (tab n f) (air_of n) ≡ tracer_of n
    amount_whole = amount_is_lem (air_of n) ∙ parts_whole n (air_of n) (omega arith) (omega arith)

    -- G never falls
    pub amount_rises :
        ((k : ℕ) → k < n → Safe (f k).slope (f k).air (f k).tracer) → (x y : ℕ) → x ≤ y →
        amount_above (tab n f) x ≤ amount_above (tab n f) y
    amount_rises safe x y le =
        rw (amount_is_lem x, amount_is_lem y)
        (sum_le n _ _ (λ k h. piece_rises (opposite (f k).slope) (f k).air (f k).tracer (safe k h) (has k h) _ _ (omega arith) (omega arith)))

    -- at a point that the first m layers reach, the others add nothing
    pub amount_of : (m x : ℕ) → m ≤ n → x ≤ air_of m → amount_above (tab n f) x ≡ sum m (λ k. layer_part k x)
    amount_of m x h le =
        let e : n ≡ m + (n - m) = omega arith in
        let past : (t : ℕ) → t < n - m → layer_part (m + t) x ≡ 0 =
        λ t p. part_none (m + t) x (omega arith) (omega (arith, sum_fewer (λ k. (f k).air) m (m + t) (omega arith))) in
        let none = sum_ext (n - m) _ (λ t. 0) past ∙ sum_zero (n - m) in
        amount_is_lem x ∙ ap (λ (i : ℕ). sum i (λ k. layer_part k x)) e ∙ omega (arith, sum_split m (n - m) (λ k. layer_part k x), none)

    -- at a point of layer i: the whole layers before it, and the low-end piece of what is left
    pub amount_at_lem :
        (i x : ℕ) → i < n → air_of i ≤ x → x ≤ air_of (suc i) →
        amount_above (tab n f) x ≡ tracer_of i + layer_piece (f i) (x - air_of i)
    unfolding sum
    amount_at_lem i x h low high =
        amount_of (suc i) x h high ∙ ap₂ ◌+◌ (parts_whole i x (omega arith) low) (part_is i x low high)

    -- where every layer has z units of tracer for each unit of air, and no slope, so has G
    pub amount_even :
        (z : ℕ) → ((k : ℕ) → k < n → ((f k).slope.size ≡ 0) × ((f k).tracer ≡ z * (f k).air)) → (x : ℕ) → x ≤ air_of n →
        amount_above (tab n f) x ≡ z * x
    amount_even z even x le =
        amount_is_lem x ∙
        sum_ext n _ (λ k. z * min (x - air_of k) (f k).air) (λ k h. piece_constant (opposite (f k).slope) (f k).air (f k).tracer _ z (has k h) (even k h).0 (even k h).1) ∙
        sum_times n z (λ k. min (x - air_of k) (f k).air) ∙
        ap (λ (y : ℕ). z * y) (omega (arith, air_above_lem x n))

    -- ---- the parts of the line between edges that rise: together they have what lies between the first and the last; a whole-number ratio stays
    module _ (e : ℕ → ℕ) (m : ℕ) (rises : (j : ℕ) → j < m → e j ≤ e (suc j)) where
      pub between_sum :
          ((k : ℕ) → k < n → Safe (f k).slope (f k).air (f k).tracer) →
          sum m (λ j. amount_above (tab n f) (e (suc j)) - amount_above (tab n f) (e j)) + amount_above (tab n f) (e 0) ≡ amount_above (tab n f) (e m)
      between_sum safe =
          sum_steps m (λ j. amount_above (tab n f) (e j)) (λ j h. amount_rises safe (e j) (e (suc j)) (rises j h))

      pub between_even :
          e m ≤ air_of n → (z : ℕ) → ((k : ℕ) → k < n → ((f k).slope.size ≡ 0) × ((f k).tracer ≡ z * (f k).air)) → (j : ℕ) → j < m →
          amount_above (tab n f) (e (suc j)) - amount_above (tab n f) (e j) ≡ z * (e (suc j) - e j)
      between_even reaches z even j h = ap₂ ◌-◌ (at_edge (suc j) h) (at_edge j (omega arith)) ∙ sym (mul-sub z _ _)
        where
          at_edge : (j : ℕ) → j ≤ m → amount_above (tab n f) (e j) ≡ z * e j
          at_edge j h = amount_even z even (e j) (le_trans (steps_rise m e rises j h) reaches)

    -- between two points lies some of a layer
    pub layer_between : (m x y : ℕ) → m ≤ n → x < y → y ≤ air_of m → (k : ℕ) × (k < m) × (max (air_of k) x < min (air_of (suc k)) y)
    unfolding sum
    layer_between zero x y h lt le = absurd (omega arith)
    layer_between (suc m) x y h lt le =
        ⊎_elim
        (λ (p : y ≤ air_of m). let r = layer_between m x y (omega arith) lt p in (r.0, omega (arith, r.1), r.2))
        (λ (p : air_of m < y). (m, omega arith, omega (arith, has m h)))
        (le_or_lt y (air_of m))

    -- how far the tracer between two points can pass a fraction H/L that leaves room to the layers between them: G is floored at each of the two
    module _ (safe : (k : ℕ) → k < n → Safe (f k).slope (f k).air (f k).tracer) (b : Bool) (H L : ℕ) where
      -- the parts of layer k: between two of its points, up to a point, from a point on, all
      module _ (k : ℕ) (h : k < n) (leans : Leans b H L (f k)) where
        middle : (x y : ℕ) → x ≤ y → y ≤ (f k).air → LeavesInRange b H L (y - x) (layer_piece (f k) y) (layer_piece (f k) x) (lost b + lost (not b))
        middle = middle_leaves b H L _ _ (has k h) (f k).slope (safe k h) leans

        up_to : (y : ℕ) → y ≤ (f k).air → LeavesInRange b H L (y - 0) (layer_piece (f k) y) 0 (lost b + 0)
        up_to = low_leaves b H L _ _ (has k h) (f k).slope (safe k h) leans

        from : (x : ℕ) → x ≤ (f k).air → LeavesInRange b H L ((f k).air - x) (f k).tracer (layer_piece (f k) x) (0 + lost (not b))
        from = high_leaves b H L _ _ (has k h) (f k).slope (safe k h) leans

        all : LeavesInRange b H L ((f k).air - 0) (f k).tracer 0 (0 + 0)
        all = all_leaves b H L _ _ (has k h) (f k).slope (safe k h) leans

      none : (m : ℕ) → LeavesInRange b H L 0 m m 0
      none m = leaves_same b H L 0 m 0 refl

      -- from x to the high end of m layers
      rest_leaves :
          (m x : ℕ) → m ≤ n → x < air_of m → ((k : ℕ) → k < m → x < air_of (suc k) → Leans b H L (f k)) →
          LeavesInRange b H L (air_of m - x) (tracer_of m) (sum m (λ k. layer_part k x)) (lost (not b))
      unfolding sum
      rest_leaves zero x h lt leans = absurd (omega arith)
      rest_leaves (suc m) x h lt leans =
          let here = leans m (omega arith) lt in
          ⊎_elim
          (λ (p : air_of m ≤ x).
          rw (parts_whole m x (omega arith) p, part_is m x p (omega arith))
          (leaves_join b H L 0 _ _ 0 _ _ _ (0 + lost (not b)) (none (tracer_of m)) (from m h here (x - air_of m) (omega arith)) (omega arith) (omega arith)))
          (λ (p : x < air_of m).
          rw (part_none m x h (omega arith))
          (leaves_join b H L _ _ _ (lost (not b)) _ _ _ (0 + 0) (rest_leaves m x (omega arith) p (λ k q. leans k (omega arith))) (all m h here) (omega arith) (omega arith)))
          (le_or_lt (air_of m) x)

      -- from x to y
      between_leaves :
          (m x y : ℕ) → m ≤ n → x < y → y ≤ air_of m →
          ((k : ℕ) → k < m → max (air_of k) x < min (air_of (suc k)) y → Leans b H L (f k)) →
          LeavesInRange b H L (y - x) (sum m (λ k. layer_part k y)) (sum m (λ k. layer_part k x)) 1
      unfolding sum
      between_leaves zero x y h lt le leans = absurd (omega arith)
      between_leaves (suc m) x y h lt le leans =
          ⊎_elim
          (λ (p : y ≤ air_of m).
          rw (part_none m x h (omega arith), part_none m y h p)
          (leaves_join b H L _ _ _ 1 0 _ _ 0 (between_leaves m x y (omega arith) lt p (λ k q. leans k (omega arith))) (none 0) (omega arith) (omega arith)))
          (λ (p : air_of m < y).
          let here = leans m (omega arith) (omega (arith, has m h)) in
          rw (parts_whole m y (omega arith) (omega arith), part_is m y (omega arith) le)
          (⊎_elim
          (λ (q : air_of m ≤ x).
          rw (parts_whole m x (omega arith) q, part_is m x q (omega arith))
          (leaves_join b H L 0 _ _ 0 _ _ _ (lost b + lost (not b)) (none (tracer_of m)) (middle m h here (x - air_of m) (y - air_of m) (omega arith) (omega arith)) (omega arith) (omega (arith, two_floors b))))
          (λ (q : x < air_of m).
          rw (part_none m x h (omega arith))
          (leaves_join b H L _ _ _ (lost (not b)) _ _ _ (lost b + 0) (rest_leaves m x (omega arith) q (λ k r u. leans k (omega arith) (omega (arith, sum_fewer (λ i. (f i).air) (suc k) m r, has k (omega arith))))) (up_to m h here (y - air_of m) (omega arith)) (omega arith) (omega (arith, two_floors b))))
          (le_or_lt (air_of m) x)))
          (le_or_lt y (air_of m))

      pub amount_between :
          (x y : ℕ) → x < y → y ≤ air_of n → ((k : ℕ) → k < n → max (air_of k) x < min (air_of (suc k)) y → Leans b H L (f k)) →
          Near b H L (y - x) (amount_above (tab n f) y - amount_above (tab n f) x) 1
      amount_between x y lt le leans =
          leaves_near b H L (y - x) _ _ 1 (amount_rises safe x y (omega arith))
          (rw (amount_is_lem x, amount_is_lem y) (between_leaves n x y (omega arith) lt le leans))

  -- ---- G of fewer layers is the same, as far as they reach
  pub amount_longer :
      (m n x : ℕ) → ((k : ℕ) → k < n → 1 ≤ (f k).air) → m ≤ n → x ≤ air_of m →
      amount_above (tab m f) x ≡ amount_above (tab n f) x
  amount_longer m n x has le reaches =
      amount_is_lem m (λ k h. has k (omega arith)) x ∙ sym (amount_of n has m x le reaches)

  -- ---- G of layers that come again after w of them: it has what these have, and G of what is left
  module _ (w : ℕ) (round : (i : ℕ) → f (w + i) ≡ f i) where
    round_air : (i : ℕ) → air_of (w + i) ≡ air_of w + air_of i
    round_air i = sum_split w i (λ i. (f i).air) ∙ ap (λ (x : ℕ). air_of w + x) (sum_ext i _ _ (λ k h. ap (λ (l : ColumnLayer). l.air) (round k)))

    round_part : (x i : ℕ) → layer_part (w + i) (air_of w + x) ≡ layer_part i x
    round_part x i =
        let left : air_of w + x - air_of (w + i) ≡ x - air_of i = omega (arith, round_air i) in
        ap₂ (λ (l : ColumnLayer) (y : ℕ). layer_piece l (min y l.air)) (round i) left

    pub amount_turn :
        (n : ℕ) → ((k : ℕ) → k < w + n → 1 ≤ (f k).air) → (x : ℕ) →
        amount_above (tab (w + n) f) (air_of w + x) ≡ tracer_of w + amount_above (tab n f) x
    amount_turn n has x =
        amount_is_lem (w + n) has (air_of w + x) ∙
        sum_split w n (λ k. layer_part k (air_of w + x)) ∙
        ap₂ ◌+◌ (parts_whole (w + n) has w (air_of w + x) (omega arith) (omega arith))
        (sum_ext n _ _ (λ i h. round_part x i) ∙ sym (amount_is_lem n (λ k h. has k (omega arith)) x))
