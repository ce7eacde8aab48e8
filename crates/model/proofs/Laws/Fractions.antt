-- How far the tracer in some air can pass a fraction H/L of tracer to air: the pieces of a cell, what they leave of it, their sums; and the documents' range from that. From above and from below at once, by a Bool: true where H/L bounds from above.
-- Of the scale they use that it is above 0, and in the last section that four times the air limit is below it; of a limiter what `Roomy` says, and for the documents' range what `Towards` says.
use Rattle.std.specs.Prelude.{ℕ, zero, suc, ◌+◌, ◌*◌, ◌-◌, ◌/◌, ◌≤◌, ◌<◌, min, max, List, Bool, not, ◌&&◌, ◌≡◌, leb}
use Rattle.std.proofs.Math.Bool.{true, false, true-and}
use Rattle.std.proofs.Math.Path.{refl}
use Rattle.std.proofs.Common.{ap, ◌∙◌, zero-mul, suc-mul, add-mul, sub-add_cancel, div-mul-le_self, mul-le-mul_right, le_of_mul-le-mul_right, lt_of_mul-lt-mul_right, arith, leb-true, leb-false, ltb-false}
use Rattle.std.proofs.Math.Nat.{lt-div-mul-add, min_comm, max_comm}
use Rattle.std.proofs.Math.Dec.{ltb}
use Rattle.model.specs.Limits.{scale, air_limit}
use Rattle.model.specs.Basic.{at, sum, some}
use Rattle.model.specs.Scheme.{ratio, Mismatch, Rule, mismatch, bounded, opposite, high_piece, low_piece}
use Rattle.model.specs.Range.{in_range, units_and_quarter}
use Rattle.model.proofs.Laws.Basic.{sum_ext, some_unless}
use Rattle.model.proofs.Laws.Scheme.{Safe, numerator, numerator_none, numerator_whole, numerators_meet, piece_is, tilt_le_level, mismatch_low, mismatch_high}

-- x is past y by at most s: above it, or below it
abbrev pub Within : Bool → ℕ → ℕ → ℕ → Type 0
Within true x y s = x ≤ y + s
Within false x y s = y ≤ x + s

-- ---- room: x may move by g and is then past y by at most s
abbrev pub RatioRoom : Bool → ℕ → ℕ → ℕ → ℕ → Type 0
RatioRoom true x g y s = x + g ≤ y + s
RatioRoom false x g y s = y + g ≤ x + s

-- ---- floors: never above, and less than one below
abbrev pub lost : Bool → ℕ
lost true = 0
lost false = 1

pub floor_within : (b : Bool) (N X : ℕ) → 0 < X → RatioRoom b (N / X * X) (lost b) N (lost b * X)
floor_within true N X h = omega (arith, div-mul-le_self N X)
floor_within false N X h = omega (arith, lt-div-mul-add {a = N} h)

-- ---- leaning: what a mismatch of sign s and size d adds in the direction b
abbrev pub leaning : Bool → Bool → ℕ → ℕ
leaning true true d = d
leaning true false d = 0
leaning false true d = 0
leaning false false d = d

-- at most its size, and nothing if that is 0
pub leaning_most : (b s : Bool) (d : ℕ) → leaning b s d ≤ d
leaning_most true true d = omega arith
leaning_most true false d = omega arith
leaning_most false true d = omega arith
leaning_most false false d = omega arith

pub level_leaning : (b s : Bool) → leaning b s 0 ≡ 0
level_leaning b s = omega (arith, leaning_most b s 0)

-- how far r is past q
abbrev pub gap : Bool → ℕ → ℕ → ℕ
gap true q r = r - q
gap false q r = q - r

-- what the range needs of a limiter: in a cell of ratio q, with a neighbour of ratio r at its high end, D is at most 2·(r − q) if positive and 2·(q − r) if negative; at its low end, the same of − D
abbrev pub Towards : Mismatch → ℕ → ℕ → Type 0
Towards D q r = (b : Bool) → leaning b D.positive D.size ≤ 2 * gap b q r

leaning_le : (b s : Bool) (d q r o : ℕ) → Within s o r 0 → d ≤ 2 * (q - min o r) → d ≤ 2 * (max o r - q) → leaning b s d ≤ 2 * gap b q r
leaning_le true true d q r o h low high = omega arith
leaning_le true false d q r o h low high = omega arith
leaning_le false true d q r o h low high = omega arith
leaning_le false false d q r o h low high = omega arith

module _ (qa q qb : ℕ) where
  sorted : (s : Bool) → leb qa qb ≡ s → Within s qa qb 0 × Within (not s) qb qa 0
  sorted true e = omega (arith, leb-true qa qb e)
  sorted false e = omega (arith, leb-false qa qb e)

  mismatch_towards_high : Towards (mismatch qa q qb) q qb
  unfolding mismatch bounded
  mismatch_towards_high b =
      leaning_le b _ _ q qb qa (sorted _ refl).0 (mismatch_low qa q qb) (mismatch_high qa q qb)

  mismatch_towards_low : Towards (opposite (mismatch qa q qb)) q qa
  unfolding mismatch bounded
  mismatch_towards_low b =
      leaning_le b _ _ q qa qb (sorted _ refl).1 (rw (min_comm qb qa) (mismatch_low qa q qb)) (rw (max_comm qb qa) (mismatch_high qa q qb))

-- ---- what the range asks of a rule besides: towards a neighbour the mismatch goes at most twice the way to its ratio
pub record Monotone (rule : Rule) : Type 0 where
  pub towards_high : (qa q qb : ℕ) → Towards (rule qa q qb) q qb
  pub towards_low : (qa q qb : ℕ) → Towards (opposite (rule qa q qb)) q qa

pub mismatch_monotone : Monotone mismatch
mismatch_monotone = record { towards_high = mismatch_towards_high; towards_low = mismatch_towards_low }

-- ---- inside: a cell of air M and tracer T does not pass the fraction H/L
abbrev pub Inside : Bool → ℕ → ℕ → ℕ → ℕ → Type 0
Inside b H L M T = Within b (T * L) (H * M) 0

-- nor does its ratio, but for the floor
ratio_inside : (b : Bool) (H L M T : ℕ) → 0 < M → Inside b H L M T → Within b (ratio M T * L) (scale * H) (lost b * L)
unfolding ratio
ratio_inside true H L M T h_m i =
    le_of_mul-le-mul_right (omega (arith, mul-le-mul_right L (floor_within true (scale * T) M h_m), mul-le-mul_right scale i)) h_m
ratio_inside false H L M T h_m i =
    le_of_mul-le-mul_right (omega (arith, mul-le-mul_right L (floor_within false (scale * T) M h_m), mul-le-mul_right scale i)) h_m

-- ---- a cell may lean by d: its end is past H/L by at most 1/scale
abbrev pub CellRoom : Bool → ℕ → ℕ → ℕ → ℕ → ℕ → Type 0
CellRoom b H L M T d = RatioRoom b (2 * scale * T * L) (d * L * M) (2 * scale * H * M) (2 * L * M)

-- it may lean at its high end by D
abbrev pub EndRoom : Bool → ℕ → ℕ → ℕ → ℕ → Mismatch → Type 0
EndRoom b H L M T D = CellRoom b H L M T (leaning b D.positive D.size)

-- g takes q to r
abbrev Apart : Bool → ℕ → ℕ → ℕ → Type 0
Apart true q r g = q + g ≡ r
Apart false q r g = r + g ≡ q

gap_apart : (b : Bool) (q r d : ℕ) → suc d ≤ 2 * gap b q r → Apart b q r (gap b q r)
gap_apart true q r d h = omega arith
gap_apart false q r d h = omega arith

pub room_gap :
    (b : Bool) (H L M T q r g d : ℕ) → RatioRoom (not b) (q * M) (lost (not b)) (scale * T) (lost (not b) * M) →
    Within b (r * L) (scale * H) (lost b * L) → Apart b q r g → d ≤ 2 * g → CellRoom b H L M T d
room_gap true H L M T q r g d f h e k =
    omega (arith, mul-le-mul_right L f, mul-le-mul_right M h, ap (λ (x : ℕ). x * L * M) e, mul-le-mul_right (L * M) k)
room_gap false H L M T q r g d f h e k =
    omega (arith, mul-le-mul_right L f, mul-le-mul_right M h, ap (λ (x : ℕ). x * L * M) e, mul-le-mul_right (L * M) k)

room_level : (b : Bool) (H L M T : ℕ) → Inside b H L M T → CellRoom b H L M T 0
room_level true H L M T i = omega (arith, mul-le-mul_right scale i)
room_level false H L M T i = omega (arith, mul-le-mul_right scale i)

-- a cell that is inside may lean twice as far as the ratio of a neighbour that is inside
room :
    (b : Bool) (H L M T M₂ T₂ d : ℕ) → 0 < M → 0 < M₂ → Inside b H L M T → Inside b H L M₂ T₂ →
    d ≤ 2 * gap b (ratio M T) (ratio M₂ T₂) → CellRoom b H L M T d
unfolding ratio
room b H L M T M₂ T₂ zero h_m hM₂ i i₂ h = room_level b H L M T i
room b H L M T M₂ T₂ (suc d) h_m hM₂ i i₂ h =
    let q = ratio M T in
    let r = ratio M₂ T₂ in
    room_gap b H L M T q r (gap b q r) (suc d)
    (floor_within (not b) (scale * T) M h_m)
    (ratio_inside b H L M₂ T₂ hM₂ i₂)
    (gap_apart b q r d h)
    h

-- ---- what the laws of a substep, a remap and a long sweep ask of a rule: a cell that fits has room, and at an end where its neighbour fits it has room for the rule's mismatch
pub record Roomy (rule : Rule) (b : Bool) (H L : ℕ) (Fits : ℕ → ℕ → Type 0) : Type 0 where
  pub level : (M T : ℕ) → Fits M T → CellRoom b H L M T 0
  pub high : (qa M T M₂ T₂ : ℕ) → Fits M T → Fits M₂ T₂ → EndRoom b H L M T (rule qa (ratio M T) (ratio M₂ T₂))
  pub low : (M₁ T₁ M T qb : ℕ) → Fits M₁ T₁ → Fits M T → EndRoom b H L M T (opposite (rule (ratio M₁ T₁) (ratio M T) qb))

-- a monotone rule, for cells that have air and are inside
monotone_roomy : {rule : Rule} → Monotone rule → (b : Bool) (H L : ℕ) → Roomy rule b H L (λ M T. (0 < M) × Inside b H L M T)
monotone_roomy monotone b H L =
    record {
      level = λ M T i. room_level b H L M T i.1;
      high = λ qa M T M₂ T₂ i i₂. room b H L M T M₂ T₂ _ i.0 i₂.0 i.1 i₂.1 (monotone.towards_high _ _ _ b);
      low = λ M₁ T₁ M T qb i₁ i. room b H L M T M₁ T₁ _ i.0 i₁.0 i.1 i₁.1 (monotone.towards_low _ _ _ b);
    }

-- ---- the numerator n of a part, with its tilt added or taken off
abbrev Tilted : Bool → ℕ → ℕ → ℕ → Type 0
Tilted true n level tilt = n ≡ level + tilt
Tilted false n level tilt = n + tilt ≡ level

numerator_tilted :
    (D : Mismatch) (L M T m k : ℕ) → Safe D M T → m + k ≡ M →
    Tilted D.positive (numerator D M T m * L) (m * (2 * scale * T * L)) (D.size * L * m * k)
unfolding numerator
numerator_tilted D L M T m k safe e =
    go D.positive (D.size * m * (M - m)) (tilt_le_level D M T safe m (omega arith)) (ap (λ (x : ℕ). D.size * m * x) (omega arith))
  where
    go :
        (s : Bool) (tilt : ℕ) → tilt ≤ 2 * scale * m * T → tilt ≡ D.size * m * k →
        Tilted s ((elim s [ true ↦ 2 * scale * m * T + tilt | false ↦ 2 * scale * m * T - tilt ]) * L) (m * (2 * scale * T * L)) (D.size * L * m * k)
    go true tilt h e₂ = omega (arith, ap (λ (x : ℕ). x * L) e₂)
    go false tilt h e₂ = omega (arith, ap (λ (x : ℕ). x * L) (sub-add_cancel h), ap (λ (x : ℕ). x * L) e₂)

-- a part of m units at an end
end_within :
    (b s : Bool) (L M τ m k d n u v : ℕ) → m + k ≡ M → Tilted s n (m * τ) (d * L * m * k) →
    RatioRoom b τ (leaning b s d * L * M) u v → Within b n (m * u) (m * v)
end_within true true L M τ m k d n u v e e₁ h =
    omega (arith, ap (λ (x : ℕ). x * (d * L * m)) e, mul-le-mul_right m h)
end_within true false L M τ m k d n u v e e₁ h =
    omega (arith, ap (λ (x : ℕ). x * (d * L * m)) e, mul-le-mul_right m h)
end_within false true L M τ m k d n u v e e₁ h =
    omega (arith, ap (λ (x : ℕ). x * (d * L * m)) e, mul-le-mul_right m h)
end_within false false L M τ m k d n u v e e₁ h =
    omega (arith, ap (λ (x : ℕ). x * (d * L * m)) e, mul-le-mul_right m h)

-- the part of r units that m₁ units at the low end and m₂ at the high end leave
middle_within :
    (b s : Bool) (M τ m₁ m₂ r δ n₁ n₂ u v : ℕ) → m₁ + m₂ + r ≡ M → Tilted (not s) n₁ (m₁ * τ) (δ * m₁ * (m₂ + r)) →
    Tilted s n₂ (m₂ * τ) (δ * m₂ * (m₁ + r)) → RatioRoom b τ (δ * M) u v → Within b (M * τ) (r * u + (n₁ + n₂)) (r * v)
middle_within true true M τ m₁ m₂ r δ n₁ n₂ u v e e₁ e₂ h =
    omega (arith, ap (λ (x : ℕ). x * τ) e, ap (λ (x : ℕ). x * (δ * r)) e, mul-le-mul_right r h)
middle_within true false M τ m₁ m₂ r δ n₁ n₂ u v e e₁ e₂ h =
    omega (arith, ap (λ (x : ℕ). x * τ) e, ap (λ (x : ℕ). x * (δ * r)) e, mul-le-mul_right r h)
middle_within false true M τ m₁ m₂ r δ n₁ n₂ u v e e₁ e₂ h =
    omega (arith, ap (λ (x : ℕ). x * τ) e, ap (λ (x : ℕ). x * (δ * r)) e, mul-le-mul_right r h)
middle_within false false M τ m₁ m₂ r δ n₁ n₂ u v e e₁ e₂ h =
    omega (arith, ap (λ (x : ℕ). x * τ) e, ap (λ (x : ℕ). x * (δ * r)) e, mul-le-mul_right r h)

-- ---- near: p units of tracer in m units of air pass H/L by at most 1/scale for each unit of air, and j units in all; by less, if j is above 0
abbrev pub Near : Bool → ℕ → ℕ → ℕ → ℕ → ℕ → Type 0
Near b H L m p j = RatioRoom b (p * (scale * L)) (min (j * L) 1) (m * (scale * H)) (m * L + j * (scale * L))

pub near_add : (b : Bool) (H L m p j m' p' j' : ℕ) → Near b H L m p j → Near b H L m' p' j' → Near b H L (m + m') (p + p') (j + j')
near_add true H L m p j m' p' j' h h' = omega arith
near_add false H L m p j m' p' j' h h' = omega arith

near_none : (b : Bool) (H L : ℕ) → Near b H L 0 0 0
near_none true H L = omega arith
near_none false H L = omega arith

pub near_sum : (b : Bool) (H L j n : ℕ) (m p : ℕ → ℕ) → ((i : ℕ) → i < n → Near b H L (m i) (p i) j) → Near b H L (sum n m) (sum n p) (n * j)
unfolding sum
near_sum b H L j zero m p h = rw (zero-mul j) (near_none b H L)
near_sum b H L j (suc n) m p h =
    rw (suc-mul n j)
    (near_add b H L (sum n m) (sum n p) (n * j) (m n) (p n) j (near_sum b H L j n m p (λ i q. h i (omega arith))) (h n (omega arith)))

-- the same of T - p units in r units of air: what p units leave of T
abbrev pub LeavesInRange : Bool → ℕ → ℕ → ℕ → ℕ → ℕ → ℕ → Type 0
LeavesInRange b H L r T p j =
    RatioRoom b (T * (scale * L)) (min (j * L) 1) (r * (scale * H) + p * (scale * L)) (r * L + j * (scale * L))

-- if x times k with a rest z is at most y times k, x is at most y, and below it if z is above 0
below : (x y z k : ℕ) → 0 < k → x * k + z ≤ y * k → x + min z 1 ≤ y
below x y zero k hk h =
    let le : x * k ≤ y * k = omega arith in
    omega (arith, le_of_mul-le-mul_right le hk)
below x y (suc z) k hk h =
    let lt : x * k < y * k = omega arith in
    omega (arith, lt_of_mul-lt-mul_right k lt)

-- p is j floors of the numerator N in all: of a piece, and of what pieces leave
enter :
    (b : Bool) (H L M m N p j : ℕ) → 0 < M → Within b (N * L) (m * (2 * scale * H * M)) (m * (2 * L * M)) →
    RatioRoom b (p * (2 * scale * M)) j N (j * (2 * scale * M)) → Near b H L m p j
enter true H L M m N p j h_m h f = below _ _ (j * L) (2 * M) (omega arith) (omega (arith, mul-le-mul_right L f))
enter false H L M m N p j h_m h f = below _ _ (j * L) (2 * M) (omega arith) (omega (arith, mul-le-mul_right L f))

leave :
    (b : Bool) (H L M T r N p j : ℕ) → 0 < M →
    Within b (M * (2 * scale * T * L)) (r * (2 * scale * H * M) + N * L) (r * (2 * L * M)) →
    RatioRoom (not b) (p * (2 * scale * M)) j N (j * (2 * scale * M)) → LeavesInRange b H L r T p j
leave true H L M T r N p j h_m h f = below _ _ (j * L) (2 * M) (omega arith) (omega (arith, mul-le-mul_right L f))
leave false H L M T r N p j h_m h f = below _ _ (j * L) (2 * M) (omega arith) (omega (arith, mul-le-mul_right L f))

floors_within : (b : Bool) (N₁ N₂ X : ℕ) → 0 < X → RatioRoom b ((N₁ / X + N₂ / X) * X) (2 * lost b) (N₁ + N₂) (2 * lost b * X)
floors_within true N₁ N₂ X h = omega (arith, floor_within true N₁ X h, floor_within true N₂ X h)
floors_within false N₁ N₂ X h = omega (arith, floor_within false N₁ X h, floor_within false N₂ X h)

-- a mismatch leans in each direction at one end
pub room_ends : (b s : Bool) (H L M T d : ℕ) → CellRoom b H L M T (leaning b (not s) d) → CellRoom b H L M T (leaning b s d) → CellRoom b H L M T d
room_ends true true H L M T d low high = high
room_ends true false H L M T d low high = low
room_ends false true H L M T d low high = low
room_ends false false H L M T d low high = high

-- plain pieces: n floors of m i·B / X
level_numerator : (D : Mismatch) (M T m : ℕ) → D.size ≡ 0 → numerator D M T m ≡ m * (2 * scale * T)
unfolding numerator
level_numerator D M T m flat = rw flat (go D.positive)
  where
    go : (s : Bool) → elim s [ true ↦ 2 * scale * m * T + 0 * m * (M - m) | false ↦ 2 * scale * m * T - 0 * m * (M - m) ] ≡ m * (2 * scale * T)
    go true = omega arith
    go false = omega arith

level_floors :
    (b : Bool) (X B n : ℕ) (m : ℕ → ℕ) → 0 < X →
    RatioRoom b (sum n (λ i. m i * B / X) * X) (n * lost b) (sum n m * B) (n * lost b * X)
unfolding sum
level_floors true X B zero m h = omega arith
level_floors true X B (suc n) m h = omega (arith, level_floors true X B n m h, floor_within true (m n * B) X h)
level_floors false X B zero m h = omega arith
level_floors false X B (suc n) m h = omega (arith, level_floors false X B n m h, floor_within false (m n * B) X h)

level_within :
    (b : Bool) (H L M T m r : ℕ) → m + r ≡ M → CellRoom b H L M T 0 →
    Within b (M * (2 * scale * T * L)) (r * (2 * scale * H * M) + m * (2 * scale * T) * L) (r * (2 * L * M))
level_within true H L M T m r e h = omega (arith, ap (λ (x : ℕ). x * (T * L)) e, mul-le-mul_right r h)
level_within false H L M T m r e h = omega (arith, ap (λ (x : ℕ). x * (T * L)) e, mul-le-mul_right r h)

-- ---- the laws of a cell of air M and tracer T that has room
module _ (b : Bool) (H L M T : ℕ) (h_m : 0 < M) where
  -- a piece that it gives at its high end
  pub piece_near :
      (D : Mismatch) (m : ℕ) → Safe D M T → EndRoom b H L M T D → m ≤ M → Near b H L m (high_piece D M T m) (lost b)
  piece_near D m safe leans h =
      rw (piece_is D M T m)
      (enter b H L M m (numerator D M T m) _ (lost b) h_m
      (end_within b D.positive L M _ m (M - m) D.size _ _ _ (omega arith)
      (numerator_tilted D L M T m (M - m) safe (omega arith))
      leans)
      (floor_within b _ _ (omega arith)))

  -- what it keeps in r units of air, after a piece from each end
  pub ends_leave :
      (D : Mismatch) (m₁ m₂ r : ℕ) → Safe D M T → CellRoom b H L M T D.size → m₁ + m₂ + r ≡ M →
      LeavesInRange b H L r T (low_piece D M T m₁ + high_piece D M T m₂) (2 * lost (not b))
  ends_leave D m₁ m₂ r safe leans e =
      let N₁ = numerator (opposite D) M T m₁ in
      let N₂ = numerator D M T m₂ in
      rw (piece_is (opposite D) M T m₁, piece_is D M T m₂)
      (leave b H L M T r (N₁ + N₂) _ (2 * lost (not b)) h_m
      (rw (add-mul N₁ N₂ L)
      (middle_within b D.positive M _ m₁ m₂ r (D.size * L) _ _ _ _ e
      (numerator_tilted (opposite D) L M T m₁ (m₂ + r) safe (omega arith))
      (numerator_tilted D L M T m₂ (m₁ + r) safe (omega arith))
      leans))
      (floors_within (not b) N₁ N₂ _ (omega arith)))

  -- and after n plain pieces
  pub plains_leave :
      (D : Mismatch) (n r : ℕ) (m : ℕ → ℕ) → D.size ≡ 0 → CellRoom b H L M T 0 → sum n m + r ≡ M →
      LeavesInRange b H L r T (sum n (λ i. high_piece D M T (m i))) (n * lost (not b))
  plains_leave D n r m flat leans e =
      rw (sum_ext n (λ i. high_piece D M T (m i)) (λ i. m i * (2 * scale * T) / (2 * scale * M)) (λ i h. piece_is D M T (m i) ∙ rw (level_numerator D M T (m i) flat)))
      (leave b H L M T r (sum n m * (2 * scale * T)) _ (n * lost (not b)) h_m
      (level_within b H L M T (sum n m) r e leans)
      (level_floors (not b) (2 * scale * M) (2 * scale * T) n m (omega arith)))

-- ---- the part of a cell between two of its points: p₂ units of tracer up to the higher one, p₁ up to the lower one
leaves_add :
    (b : Bool) (H L r T p j r' T' p' j' : ℕ) → LeavesInRange b H L r T p j → LeavesInRange b H L r' T' p' j' →
    LeavesInRange b H L (r + r') (T + T') (p + p') (j + j')
leaves_add true H L r T p j r' T' p' j' h h' = omega arith
leaves_add false H L r T p j r' T' p' j' h h' = omega arith

pub leaves_join :
    (b : Bool) (H L r T p j r' T' p' j' : ℕ) {r'' j'' : ℕ} → LeavesInRange b H L r T p j → LeavesInRange b H L r' T' p' j' → r + r' ≡ r'' →
    j + j' ≡ j'' → LeavesInRange b H L r'' (T + T') (p + p') j''
leaves_join b H L r T p j r' T' p' j' h h' e e₂ = rw (← e, ← e₂) (leaves_add b H L r T p j r' T' p' j' h h')

pub leaves_same : (b : Bool) (H L r p j : ℕ) → r ≡ 0 → LeavesInRange b H L r p p j
leaves_same true H L r p j e = omega arith
leaves_same false H L r p j e = rw e (omega arith)

pub leaves_near : (b : Bool) (H L r T p j : ℕ) → p ≤ T → LeavesInRange b H L r T p j → Near b H L r (T - p) j
leaves_near true H L r T p j h k = omega (arith, ap (λ (x : ℕ). x * (scale * L)) (sub-add_cancel h))
leaves_near false H L r T p j h k = omega (arith, ap (λ (x : ℕ). x * (scale * L)) (sub-add_cancel h))

part_leaves :
    (b : Bool) (H L M r N₁ N₂ p₁ p₂ j₁ j₂ : ℕ) → 0 < M →
    Within b (N₂ * L) (r * (2 * scale * H * M) + N₁ * L) (r * (2 * L * M)) →
    RatioRoom b (p₂ * (2 * scale * M)) j₂ N₂ (j₂ * (2 * scale * M)) →
    RatioRoom (not b) (p₁ * (2 * scale * M)) j₁ N₁ (j₁ * (2 * scale * M)) → LeavesInRange b H L r p₂ p₁ (j₂ + j₁)
part_leaves true H L M r N₁ N₂ p₁ p₂ j₁ j₂ h_m h f₂ f₁ =
    below _ _ ((j₂ + j₁) * L) (2 * M) (omega arith) (omega (arith, mul-le-mul_right L f₁, mul-le-mul_right L f₂))
part_leaves false H L M r N₁ N₂ p₁ p₂ j₁ j₂ h_m h f₂ f₁ =
    below _ _ ((j₂ + j₁) * L) (2 * M) (omega arith) (omega (arith, mul-le-mul_right L f₁, mul-le-mul_right L f₂))

exact_within : (b : Bool) (x y : ℕ) → x ≡ y → RatioRoom b x 0 y 0
exact_within true x y e = omega arith
exact_within false x y e = omega arith

-- all but what lies past the higher point
all_but :
    (b : Bool) (L M T A n₁ n₂ N v : ℕ) → n₂ + N ≡ 2 * scale * M * T →
    Within b (M * (2 * scale * T * L)) (A + (n₁ + n₂ * L)) v → Within b (N * L) (A + n₁) v
all_but true L M T A n₁ n₂ N v e h = omega (arith, ap (λ (x : ℕ). x * L) e)
all_but false L M T A n₁ n₂ N v e h = omega (arith, ap (λ (x : ℕ). x * L) e)

pub two_floors : (b : Bool) → lost b + lost (not b) ≡ 1
two_floors true = refl
two_floors false = refl

module _ (b : Bool) (H L M T : ℕ) (h_m : 0 < M) (D : Mismatch) (safe : Safe D M T) (leans : CellRoom b H L M T D.size) where
  -- the numerators of the low-end pieces up to x and up to y
  part_within :
      (x y : ℕ) → x ≤ y → y ≤ M →
      Within b (numerator (opposite D) M T y * L) ((y - x) * (2 * scale * H * M) + numerator (opposite D) M T x * L) ((y - x) * (2 * L * M))
  part_within x y h h' =
      let past : M - (M - y) ≡ y = omega arith in
      all_but b L M T _ _ _ _ _
      (rw past at (numerators_meet D M T safe (M - y) (omega arith)))
      (middle_within b D.positive M _ x (M - y) (y - x) (D.size * L) _ _ _ _ (omega arith)
      (numerator_tilted (opposite D) L M T x (M - y + (y - x)) safe (omega arith))
      (numerator_tilted D L M T (M - y) (x + (y - x)) safe (omega arith))
      leans)

  floored : (b : Bool) (x : ℕ) → RatioRoom b (low_piece D M T x * (2 * scale * M)) (lost b) (numerator (opposite D) M T x) (lost b * (2 * scale * M))
  floored b x = rw (piece_is (opposite D) M T x) (floor_within b _ _ (omega arith))

  none : (b : Bool) → RatioRoom b (0 * (2 * scale * M)) 0 (numerator (opposite D) M T 0) (0 * (2 * scale * M))
  none b = rw (numerator_none (opposite D) M T 0 refl, zero-mul) (exact_within b 0 0 refl)

  whole : (b : Bool) → RatioRoom b (T * (2 * scale * M)) 0 (numerator (opposite D) M T M) (0 * (2 * scale * M))
  whole b = rw (numerator_whole (opposite D) M T safe, zero-mul) (exact_within b _ _ (omega arith))

  -- a part in the middle, at the low end, at the high end, and all of it: each point inside the cell costs a floor
  pub middle_leaves : (x y : ℕ) → x ≤ y → y ≤ M → LeavesInRange b H L (y - x) (low_piece D M T y) (low_piece D M T x) (lost b + lost (not b))
  middle_leaves x y h h' = part_leaves b H L M (y - x) _ _ _ _ _ _ h_m (part_within x y h h') (floored b y) (floored (not b) x)

  pub low_leaves : (y : ℕ) → y ≤ M → LeavesInRange b H L (y - 0) (low_piece D M T y) 0 (lost b + 0)
  low_leaves y h = part_leaves b H L M (y - 0) _ _ _ _ _ _ h_m (part_within 0 y (omega arith) h) (floored b y) (none (not b))

  pub high_leaves : (x : ℕ) → x ≤ M → LeavesInRange b H L (M - x) T (low_piece D M T x) (0 + lost (not b))
  high_leaves x h = part_leaves b H L M (M - x) _ _ _ _ _ _ h_m (part_within x M h (omega arith)) (whole b) (floored (not b) x)

  pub all_leaves : LeavesInRange b H L (M - 0) T 0 (0 + 0)
  all_leaves = part_leaves b H L M (M - 0) _ _ _ _ _ _ h_m (part_within 0 M (omega arith) (omega arith)) (whole b) (none (not b))

-- ---- the cell afterwards: p₂ units of tracer left it, r units of air stayed, and m with p units came in; each face cost a unit, of what came in or of what stayed
pub replaced :
    (b : Bool) (H L r T m p p₂ f M' T' : ℕ) → Near b H L m p (f * lost b) → LeavesInRange b H L r T p₂ (f * lost (not b)) →
    r + m ≡ M' → T + p - p₂ ≡ T' → Near b H L M' T' f
replaced true H L r T m p p₂ f M' zero came stays eM eT = omega arith
replaced true H L r T m p p₂ f M' (suc t) came stays eM eT =
    let e : suc t + p₂ ≡ T + p = omega arith in
    omega (arith, ap (λ (x : ℕ). x * (scale * L)) e, ap (λ (x : ℕ). x * (scale * H)) eM, ap (λ (x : ℕ). x * L) eM)
replaced false H L r T m p p₂ f M' T' came stays eM eT =
    let e : T + p ≤ T' + p₂ = omega arith in
    omega (arith, mul-le-mul_right (scale * L) e, ap (λ (x : ℕ). x * (scale * H)) eM, ap (λ (x : ℕ). x * L) eM)

-- ---- the range at every scale: M' and T' pass no fraction that leaves room to the cells `there`, but for 1/scale and f units
abbrev pub Bounded : Rule → ℕ → (ℕ → Bool) → List ℕ → List ℕ → ℕ → ℕ → ℕ → Type 1
Bounded rule n there air gas f M' T' =
    (b : Bool) (H L : ℕ) (Fits : ℕ → ℕ → Type 0) → Roomy rule b H L Fits →
    ((d : ℕ) → d < n → there d ≡ true → Fits (at air d) (at gas d)) → Near b H L M' T' f

-- ---- document 02's quarter, f + 1/4 in quarters: were it passed, (4·T' − e)/(4·M') or (4·T' + e)/(4·M') would bound the cells there, and 4·M' would be the scale or more
four_limits_below_scale : (M : ℕ) → M ≤ air_limit → 4 * M < scale
four_limits_below_scale M h = omega arith

quarter_passed : (b : Bool) (M' T' f h : ℕ) → 0 < M' → Apart b h (4 * T') (units_and_quarter f) → Near b h (4 * M') M' T' f → scale ≤ 4 * M'
quarter_passed true M' T' f h h_m e near = le_of_mul-le-mul_right (omega (arith, ap (λ (x : ℕ). x * M') e)) h_m
quarter_passed false M' T' f h h_m e near = le_of_mul-le-mul_right (omega (arith, ap (λ (x : ℕ). x * M') e)) h_m

-- what a cell that fails the test tells
fails_below : (M T M' T' e : ℕ) → ltb (4 * (T * M')) ((4 * T' + e) * M) ≡ false → Inside false (4 * T' + e) (4 * M') M T
fails_below M T M' T' e t = omega (arith, ltb-false (4 * (T * M')) ((4 * T' + e) * M) t)

fails_above : (M T M' T' e h : ℕ) → h + e ≡ 4 * T' → ltb (4 * (T' * M)) (4 * (T * M') + e * M) ≡ false → Inside true h (4 * M') M T
fails_above M T M' T' e h eq t =
    omega (arith, ltb-false (4 * (T' * M)) (4 * (T * M') + e * M) t, ap (λ (x : ℕ). x * M) eq)

fails_most : (M T M' T' e : ℕ) → 0 < M → ltb (4 * (T' * M)) (4 * (T * M') + e * M) ≡ false → e ≤ 4 * T'
fails_most M T M' T' e h_m t =
    le_of_mul-le-mul_right (omega (arith, ltb-false (4 * (T' * M)) (4 * (T * M') + e * M) t)) h_m

-- a cell c there, and air in every cell
module _
    (n : ℕ) (there : ℕ → Bool) (air gas : List ℕ) (c : ℕ) (hc : c < n) (is_there : there c ≡ true)
    (has : (d : ℕ) → d < n → 1 ≤ at air d) where
  some_there : (test : ℕ → Bool) → (((d : ℕ) → d < n → there d ≡ true → test d ≡ false) → ⊥) → some n (λ d. there d && test d) ≡ true
  some_there test h =
      some_unless n (λ d. there d && test d) (λ none. h (λ d hd e. rw (e, true-and) at (none d hd)))

  module _
      {rule : Rule} (monotone : Monotone rule) (f M' T' : ℕ) (least : 1 ≤ M') (most : M' ≤ air_limit)
      (bounded : Bounded rule n there air gas f M' T') where
    abbrev e : ℕ
    e = units_and_quarter f

    none_bounds : (b : Bool) (h : ℕ) → Apart b h (4 * T') e → ((d : ℕ) → d < n → there d ≡ true → Inside b h (4 * M') (at air d) (at gas d)) → ⊥
    none_bounds b h apart inside =
        let near = bounded b h (4 * M') _ (monotone_roomy monotone b h (4 * M')) (λ d hd t. (has d hd, inside d hd t)) in
        omega (arith, quarter_passed b M' T' f h least apart near, four_limits_below_scale M' most)

    pub in_range_lem : in_range n there air gas (units_and_quarter f) M' T' ≡ true
    unfolding in_range
    in_range_lem = rw (not_below, not_above)
      where
        not_below : some n (λ d. there d && ltb (4 * (at gas d * M')) ((4 * T' + e) * at air d)) ≡ true
        not_below =
            some_there _
            (λ none.
            none_bounds false (4 * T' + e) refl (λ d hd there'. fails_below (at air d) (at gas d) M' T' e (none d hd there')))

        not_above : some n (λ d. there d && ltb (4 * (T' * at air d)) (4 * (at gas d * M') + e * at air d)) ≡ true
        not_above =
            some_there _
            (λ none.
            let le : e ≤ 4 * T' = fails_most (at air c) (at gas c) M' T' e (has c hc) (none c hc is_there) in
            let apart : 4 * T' - e + e ≡ 4 * T' = omega arith in
            none_bounds true (4 * T' - e) apart
            (λ d hd there'. fails_above (at air d) (at gas d) M' T' e (4 * T' - e) apart (none d hd there')))
