-- Laws of ratio, mismatch and piece (Scheme.antt) and of the parts of a flux (Sweep.antt). Laws of pieces hold for every safe mismatch, whatever limiter gave it.
-- Of the scale they use that it is above 0, and at "numbers for the code" that it is small enough.
use Rattle.std.specs.Prelude.{ℕ, zero, suc, ◌+◌, ◌*◌, ◌-◌, ◌/◌, ◌^◌, ◌≤◌, ◌<◌, min, max, Bool, not, ◌≡◌, refl}
use Rattle.std.proofs.Math.Bool.{true, false}
use Rattle.std.proofs.Common.{◌∙◌, ap, mul-zero, le_refl, lt_of_le_of_lt, le-div_iff_mul-le, div-le_self, zero-mul, mul-le-mul, mul-le-mul_left, mul-le-mul_right, arith}
use Rattle.std.proofs.Math.Nat.{le_trans, div-mul-le_self, div-le_of_le-mul, div-eq_of_eq-mul_left, div-eq_of_eq-mul_right, zero-div, le_of_mul-le-mul_left, min-le_left, min-le_right, sub_self}
use Rattle.model.specs.Limits.{scale, air_limit, total_limit}
use Rattle.model.specs.Basic.{sum, distance}
use Rattle.model.specs.Scheme.{ratio, Mismatch, Rule, bounded, mismatch, plain, opposite, high_piece, low_piece}
use Rattle.model.specs.Sweep.{flux_part}
use Rattle.model.proofs.Laws.Basic.{sum_times, sum_le}

-- ---- quotients
quotient_rises : {a b n : ℕ} → 0 < n → a ≤ b → a / n ≤ b / n
quotient_rises {a} {b} {n} hn h = (le-div_iff_mul-le hn).1 (le_trans (div-mul-le_self a n) h)

-- two quotients together are at most t, if their dividends are at most t times the divisor
quotients_le : (a b t : ℕ) {n : ℕ} → 0 < n → a + b ≤ n * t → a / n + b / n ≤ t
quotients_le a b t {n} hn h =
    le_trans ((le-div_iff_mul-le hn).1 (omega (arith, div-mul-le_self a n, div-mul-le_self b n))) (div-le_of_le-mul n h)

-- ---- the rule that two ratios bound
module _ (least greatest qa q qb : ℕ) where
  bounded_half : (bounded least greatest qa q qb).size ≤ distance qa qb / 2
  unfolding bounded
  bounded_half = min-le_left _ _

  pub bounded_below : (bounded least greatest qa q qb).size ≤ 2 * (q - least)
  unfolding bounded
  bounded_below = le_trans (min-le_right _ _) (min-le_left _ _)

  pub bounded_above : (bounded least greatest qa q qb).size ≤ 2 * (greatest - q)
  unfolding bounded
  bounded_above = le_trans (min-le_right _ _) (min-le_right _ _)

-- by the least and the greatest of the three ratios: at most twice what the lesser neighbour is below the cell, and what the greater is above it: 0 at an extremum
module _ (qa q qb : ℕ) where
  pub mismatch_low : (mismatch qa q qb).size ≤ 2 * (q - min qa qb)
  unfolding mismatch
  mismatch_low = omega (arith, bounded_below (min qa (min q qb)) (max qa (max q qb)) qa q qb)

  pub mismatch_high : (mismatch qa q qb).size ≤ 2 * (max qa qb - q)
  unfolding mismatch
  mismatch_high = omega (arith, bounded_above (min qa (min q qb)) (max qa (max q qb)) qa q qb)

-- ---- what totals, whole-number ratios and the independence of tracers ask of a rule
pub record Limited (rule : Rule) : Type 0 where
  -- so that no piece is above what its cell has
  pub at_most_twice : (qa q qb : ℕ) → (rule qa q qb).size ≤ 2 * q
  -- so that a constant ratio stays
  pub none_between_equal : (r q : ℕ) → (rule r q r).size ≡ 0

pub bounded_limited : (least greatest : ℕ) → Limited (bounded least greatest)
bounded_limited least greatest =
    record {
      at_most_twice = λ qa q qb. omega (arith, bounded_below least greatest qa q qb);
      none_between_equal = λ r q. omega (arith, bounded_half least greatest r q r);
    }

pub mismatch_limited : Limited mismatch
unfolding mismatch
mismatch_limited =
    record {
      at_most_twice = λ qa q qb. (bounded_limited _ _).at_most_twice qa q qb;
      none_between_equal = λ r q. (bounded_limited _ _).none_between_equal r q;
    }

-- ---- a safe mismatch: |D|·M ≤ 2·scale·T
abbrev pub Safe : Mismatch → ℕ → ℕ → Type 0
Safe D M T = D.size * M ≤ 2 * scale * T

-- a mismatch of at most twice the cell's ratio is safe
pub ratio_safe : (D : Mismatch) (M T : ℕ) → D.size ≤ 2 * ratio M T → Safe D M T
unfolding ratio
ratio_safe D M T h = omega (arith, mul-le-mul_right M h, div-mul-le_self (scale * T) M)

pub plain_safe : (M T : ℕ) → Safe plain M T
plain_safe M T = omega arith

pub opposite_safe : (D : Mismatch) (M T : ℕ) → Safe D M T → Safe (opposite D) M T
opposite_safe D M T s = s

-- ---- the numerator of a piece: 2·scale·m·T with the mismatch's part added or taken off
abbrev tilted : Bool → ℕ → ℕ → ℕ
tilted b level tilt = elim b [ true ↦ level + tilt | false ↦ level - tilt ]

unfoldable pub numerator : Mismatch → ℕ → ℕ → ℕ → ℕ
numerator D M T m = tilted D.positive (2 * scale * m * T) (D.size * m * (M - m))

tilted_quotient : (b : Bool) (level tilt n : ℕ) → elim b [ true ↦ (level + tilt) / n | false ↦ (level - tilt) / n ] ≡ tilted b level tilt / n
tilted_quotient true level tilt n = refl
tilted_quotient false level tilt n = refl

pub piece_is : (D : Mismatch) (M T m : ℕ) → high_piece D M T m ≡ numerator D M T m / (2 * scale * M)
unfolding high_piece numerator
piece_is D M T m = tilted_quotient D.positive (2 * scale * m * T) (D.size * m * (M - m)) (2 * scale * M)

-- what is left of the air, k, as a variable
numerator_of : (D : Mismatch) (M T m k : ℕ) → m + k ≡ M → numerator D M T m ≡ tilted D.positive (2 * scale * m * T) (D.size * m * k)
unfolding numerator
numerator_of D M T m k e =
    ap (λ (u : ℕ). tilted D.positive (2 * scale * m * T) (D.size * m * u)) (omega arith)

pub numerator_none : (D : Mismatch) (M T m : ℕ) → m ≡ 0 → numerator D M T m ≡ 0
unfolding numerator
numerator_none D M T m e = rw e (go D.positive)
  where
    go : (b : Bool) → tilted b (2 * scale * 0 * T) (D.size * 0 * (M - 0)) ≡ 0
    go true = omega arith
    go false = omega arith

-- m of m + j + k units, and m + j of them
tilted_rises :
    (b : Bool) (d T m j k : ℕ) → d * (m + j + k) ≤ 2 * scale * T →
    tilted b (2 * scale * m * T) (d * m * (j + k)) ≤ tilted b (2 * scale * (m + j) * T) (d * (m + j) * k)
tilted_rises true d T m j k s = omega (arith, mul-le-mul_right j s)
tilted_rises false d T m j k s = omega (arith, mul-le-mul_right j s)

-- m of m + k units from one end, and k of them from the other
tilted_meet :
    (b : Bool) (d T m k : ℕ) → d * (m + k) ≤ 2 * scale * T →
    tilted b (2 * scale * m * T) (d * m * k) + tilted (not b) (2 * scale * k * T) (d * k * m) ≡ 2 * scale * (m + k) * T
tilted_meet true d T m k s = omega (arith, mul-le-mul_right k s)
tilted_meet false d T m k s = omega (arith, mul-le-mul_right m s)

-- ---- laws of numerators, for a safe mismatch
module _ (D : Mismatch) (M T : ℕ) (safe : Safe D M T) where
  pub slope_le : (m : ℕ) → m ≤ M → D.size * m ≤ 2 * scale * T
  slope_le m h = le_trans (mul-le-mul_left D.size h) safe

  -- the subtraction in a piece is not cut off
  pub tilt_le_level : (m : ℕ) → m ≤ M → D.size * m * (M - m) ≤ 2 * scale * m * T
  tilt_le_level m h = omega (arith, mul-le-mul_right m (slope_le (M - m) (omega arith)))

  pub numerator_rises : (m m' : ℕ) → m ≤ m' → m' ≤ M → numerator D M T m ≤ numerator D M T m'
  numerator_rises m m' h h' = go (m' - m) (M - m') (omega arith) (omega arith)
    where
      go : (j k : ℕ) → m + j ≡ m' → m' + k ≡ M → numerator D M T m ≤ numerator D M T m'
      go j k e e' =
          let s : D.size * (m + j + k) ≤ 2 * scale * T = rw (e, e') safe in
          rw (numerator_of D M T m (j + k) (omega arith), numerator_of D M T m' k e', ← e) (tilted_rises D.positive D.size T m j k s)

  -- m units from one end and the rest from the other are the whole
  pub numerators_meet : (m : ℕ) → m ≤ M → numerator D M T m + numerator (opposite D) M T (M - m) ≡ 2 * scale * M * T
  numerators_meet m h = go (M - m) (omega arith)
    where
      go : (k : ℕ) → m + k ≡ M → numerator D M T m + numerator (opposite D) M T k ≡ 2 * scale * M * T
      go k e =
          let s : D.size * (m + k) ≤ 2 * scale * T = rw e safe in
          rw (numerator_of D M T m k e, numerator_of (opposite D) M T k m (omega arith), ← e) (tilted_meet D.positive D.size T m k s)

  pub numerator_whole : numerator D M T M ≡ 2 * scale * M * T
  numerator_whole = omega (arith, numerators_meet M (le_refl M), numerator_none (opposite D) M T (M - M) (omega arith))

  pub numerator_le : (m : ℕ) → m ≤ M → numerator D M T m ≤ 2 * scale * M * T
  numerator_le m h = omega (arith, numerators_meet m h)

-- ---- where nothing is tilted, a piece has exactly its air's share: p with m·T = p·M
piece_level : (D : Mismatch) (M T m p : ℕ) → 0 < M → D.size * m * (M - m) ≡ 0 → m * T ≡ p * M → high_piece D M T m ≡ p
unfolding numerator
piece_level D M T m p h_m flat share =
    piece_is D M T m ∙ div-eq_of_eq-mul_left (omega arith) (rw flat (level D.positive))
  where
    level : (b : Bool) → tilted b (2 * scale * m * T) 0 ≡ p * (2 * scale * M)
    level true = omega (arith, ap (λ (x : ℕ). 2 * scale * x) share)
    level false = omega (arith, ap (λ (x : ℕ). 2 * scale * x) share)

-- no air carries nothing
pub piece_none : (D : Mismatch) (M T : ℕ) → 0 < M → high_piece D M T 0 ≡ 0
piece_none D M T h_m = piece_level D M T 0 0 h_m (omega arith) (omega arith)

-- all the air carries all
pub piece_whole : (D : Mismatch) (M T : ℕ) → 0 < M → high_piece D M T M ≡ T
piece_whole D M T h_m =
    piece_level D M T M T h_m (omega (arith, ap (λ (x : ℕ). D.size * M * x) (sub_self M))) (omega arith)

-- a cell with a whole-number ratio and no mismatch gives pieces of that ratio
pub piece_constant : (D : Mismatch) (M T m z : ℕ) → 0 < M → D.size ≡ 0 → T ≡ z * M → high_piece D M T m ≡ z * m
piece_constant D M T m z h_m e eT =
    piece_level D M T m (z * m) h_m (ap (λ (x : ℕ). x * m * (M - m)) e ∙ omega arith) (omega (arith, ap (λ (x : ℕ). m * x) eT))

pub ratio_constant : (M T z : ℕ) → 0 < M → T ≡ z * M → ratio M T ≡ scale * z
unfolding ratio
ratio_constant M T z h_m e = div-eq_of_eq-mul_left h_m (omega arith)

-- ---- plain pieces: with no mismatch a piece has at most its air's share, and pieces that do not overlap are at most what the cell has
module _ (D : Mismatch) (M T : ℕ) (flat : D.size ≡ 0) where
  plain_piece_le : (m : ℕ) → M * high_piece D M T m ≤ T * m
  unfolding numerator
  plain_piece_le m =
      rw (piece_is D M T m, flat) (level D.positive)
    where
      level : (b : Bool) → M * (tilted b (2 * scale * m * T) (0 * m * (M - m)) / (2 * scale * M)) ≤ T * m
      level true = omega (arith, div-mul-le_self (2 * scale * m * T + 0 * m * (M - m)) (2 * scale * M))
      level false = omega (arith, div-mul-le_self (2 * scale * m * T - 0 * m * (M - m)) (2 * scale * M))

  pub plain_pieces_le : (n : ℕ) (m : ℕ → ℕ) → 0 < M → sum n m ≤ M → sum n (λ i. high_piece D M T (m i)) ≤ T
  plain_pieces_le n m h_m h =
      le_of_mul-le-mul_left {k = M}
      (omega (arith, sum_times n M (λ i. high_piece D M T (m i)), sum_times n T m, sum_le n (λ i. M * high_piece D M T (m i)) (λ i. T * m i) (λ i p. plain_piece_le (m i)), mul-le-mul_left T h))
      h_m

-- ---- laws of pieces, for a safe mismatch of a cell with air
module _ (D : Mismatch) (M T : ℕ) (safe : Safe D M T) (h_m : 0 < M) where
  -- a piece never falls as its air rises
  pub piece_rises : (m m' : ℕ) → m ≤ m' → m' ≤ M → high_piece D M T m ≤ high_piece D M T m'
  piece_rises m m' h h' =
      rw (piece_is D M T m, piece_is D M T m') (quotient_rises (omega arith) (numerator_rises D M T safe m m' h h'))

  -- a piece is at most what the cell has
  pub piece_le : (m : ℕ) → m ≤ M → high_piece D M T m ≤ T
  piece_le m h = rw (piece_whole D M T h_m) at (piece_rises m M h (le_refl M))

  -- and so are two pieces from the two ends that do not overlap
  pub pieces_le : (m₁ m₂ : ℕ) → m₁ + m₂ ≤ M → high_piece D M T m₁ + low_piece D M T m₂ ≤ T
  pieces_le m₁ m₂ h =
      rw (piece_is D M T m₁, piece_is (opposite D) M T m₂)
      (quotients_le _ _ T (omega arith)
      (omega (arith, numerators_meet D M T safe m₁ (omega arith), numerator_rises (opposite D) M T safe m₂ (M - m₁) (omega arith) (omega arith))))

-- ---- numbers for the code
pub ratio_fits : (M T : ℕ) → T ≤ total_limit → ratio M T ≤ scale * total_limit
unfolding ratio
ratio_fits M T h = le_trans (div-le_self (scale * T) M) (omega arith)

pub level_fits : (m T : ℕ) → m ≤ air_limit → T ≤ total_limit → 2 * scale * m * T < 2 ^ 63
level_fits m T h h' = omega (arith, mul-le-mul h h')

module _ (D : Mismatch) (M T m : ℕ) (safe : Safe D M T) (h_m : M ≤ air_limit) (h_t : T ≤ total_limit) (h : m ≤ M) where
  pub tilt_fits : D.size * m * (M - m) < 2 ^ 63
  tilt_fits = lt_of_le_of_lt (tilt_le_level D M T safe m h) (level_fits m T (omega arith) h_t)

  pub numerator_most : numerator D M T m ≤ 9223231265007206400
  numerator_most = le_trans (numerator_le D M T safe m h) (omega (arith, mul-le-mul h_m h_t))

  pub numerator_fits : numerator D M T m < 2 ^ 63
  numerator_fits = lt_of_le_of_lt numerator_most (omega arith)

-- the largest numerator is that of a whole cell with the most air and the most tracer; so much is left below 2^63
pub largest_numerator :
    (numerator plain air_limit total_limit air_limit ≡ 9223231265007206400) × (9223231265007206400 + 140771847569408 ≡ 2 ^ 63)
unfolding numerator
largest_numerator = (refl, refl)

-- ---- the parts of a flux
module _ (n s F : ℕ) (hn : 0 < n) where
  -- the difference of the two floors is not cut off
  pub flux_part_not_cut : (s - 1) * F / n ≤ s * F / n
  flux_part_not_cut = quotient_rises hn (mul-le-mul_right F (omega arith))

  -- a part is at most the flux
  pub flux_part_le : s ≤ n → flux_part n s F ≤ F
  unfolding flux_part
  flux_part_le h = omega (arith, div-le_of_le-mul n (mul-le-mul_right F h))

-- the first s parts
flux_parts_to : (n F : ℕ) → 0 < n → (s : ℕ) → sum s (λ i. flux_part n (suc i) F) ≡ s * F / n
unfolding sum flux_part
flux_parts_to n F hn zero = rw (zero-mul F, zero-div n)
flux_parts_to n F hn (suc s) =
    let e : suc s - 1 ≡ s = omega arith in
    omega (arith, flux_parts_to n F hn s, flux_part_not_cut n (suc s) F hn, ap (λ (x : ℕ). x * F / n) e)

-- the parts of a flux are the flux
pub flux_parts_sum : (n F : ℕ) → 0 < n → sum n (λ i. flux_part n (suc i) F) ≡ F
flux_parts_sum n F hn = flux_parts_to n F hn n ∙ div-eq_of_eq-mul_right hn refl

pub flux_part_whole : (F : ℕ) → flux_part 1 1 F ≡ F
unfolding sum
flux_part_whole F = omega (arith, flux_parts_sum 1 F (omega arith))

-- a face that nothing crosses
pub flux_part_none : (n s : ℕ) → flux_part n s 0 ≡ 0
unfolding flux_part
flux_part_none n s = rw (mul-zero s, mul-zero (s - 1), zero-div n)
