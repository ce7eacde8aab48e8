-- Laws of the long sweep of a row: nothing is cut off, a full turn adds the row's total, the new air and the new amounts.
-- Assumes columns, and of the fluxes what place 16 tests; for what is kept, also what place 17 tests, and air in every cell.
use Prim.Native.Nat.{ℕ, zero, suc, ◌+◌, ◌*◌, ◌-◌, ◌/◌, ◌%◌, ◌≤◌, ◌<◌, min, max}
use Rattle.std.specs.Prelude.{List, true, ◌≡◌, length, ℤ, pos, negsuc, nat_abs}
use Rattle.std.proofs.Math.Bool.{Bool}
use Rattle.std.proofs.Math.Path.{sym, ap, ap₂}
use Rattle.std.proofs.Common.{◌∙◌, mod-eq_of_lt, div-lt_iff_lt-mul, le_refl, le_trans}
use Rattle.std.proofs.Math.Nat.{add-mod_left, mod-lt, div-add-mod'}
use native.Mathlib.Omega.{arith}
use borrow.Author.Tests.{lt-ltb}
use Rattle.std.proofs.Math.Dec.{ltb}
use Rattle.model.specs.Basic.{at, sum, tab}
use Rattle.model.specs.Scheme.{Rule}
use Rattle.model.specs.Sweep.{ring, west_of, flux, forward, backward, leaving}
use Rattle.model.specs.Remap.{air_above, amount_above}
use Rattle.model.specs.Long.{row_cell, line_cell, line_air, turns, carried, departure, mark, whole_flow, long_air, long_gas}
use Rattle.model.specs.Range.{is_near, overlaps, is_near_overlap, long_cell_in_range}
use Rattle.model.proofs.Laws.Basic.{sum_ext, sum_split, sum_fewer, sum_steps, sum_tab, length_tab, at_tab, some_true}
use Rattle.model.proofs.Laws.Scheme.{Limited, Safe}
use Rattle.model.proofs.Laws.Ring.{west_inner, ring_regular}
use Rattle.model.proofs.Laws.Substep.{AirIn, air_bounds, length_after_flow, at_after_flow, cell_safe, even_mismatch}
use Rattle.model.proofs.Laws.Fractions.{Monotone, Bounded, in_range_lem}
use Rattle.model.proofs.Laws.Range.{near_self, cell_leans}
use Rattle.model.proofs.Laws.Above.{amount_rises, between_sum, between_even, layer_between, amount_between, amount_longer, amount_turn}
use Rattle.model.proofs.Laws.Moved.{Even, KeepsAir, KeepsGas}

-- ---- the line
module _ (W : ℕ) (air : List ℕ) where
  -- the first turn is the row
  pub line_first : (j : ℕ) → j ≤ W → line_air W air j ≡ air_above air j
  line_first j h = sum_ext j _ (at air) (λ i p. ap (at air) (mod-eq_of_lt (le_trans p h)))

  -- a turn further on
  pub line_turn : (j : ℕ) → line_air W air (W + j) ≡ air_above air W + line_air W air j
  line_turn j =
      sum_split W j (λ i. at air (i % W)) ∙
      ap₂ ◌+◌ (line_first W (le_refl W)) (sum_ext j _ _ (λ i p. ap (at air) (add-mod_left W i)))

  -- all turns
  pub line_all : line_air W air (turns * W) ≡ turns * air_above air W
  line_all =
      let e : turns * W ≡ W + (W + W) = omega arith in
      ap (line_air W air) e ∙ omega (arith, line_turn (W + W), line_turn W, line_first W (le_refl W))

-- ---- as many amounts as columns
pub length_long_air : (W : ℕ) (fluxes : List ℤ) (air : List ℕ) → length (long_air W fluxes air) ≡ W
unfolding long_air ring
length_long_air W fluxes air = length_after_flow (ring W) (whole_flow fluxes) air

pub length_long_gas : (rule : Rule) (W : ℕ) (fluxes : List ℤ) (air gas : List ℕ) → length (long_gas rule W fluxes air gas) ≡ W
unfolding long_gas
length_long_gas rule W fluxes air gas = length_tab W _

-- ---- a flux by its two directions
forward_le : (F : ℤ) → forward F ≤ nat_abs F
forward_le (pos n) = omega arith
forward_le (negsuc n) = omega arith

backward_le : (F : ℤ) → backward F ≤ nat_abs F
backward_le (pos n) = omega arith
backward_le (negsuc n) = omega arith

-- no flux takes more than a turn: what place 16 tests
abbrev pub OneTurn : ℕ → List ℤ → List ℕ → Type 0
OneTurn W fluxes air = (f : ℕ) → f < W → nat_abs (flux fluxes f) ≤ air_above air W

-- ---- departures
west_face : (W j : ℕ) → 1 ≤ W → j ≤ W → west_of W j < W
west_face W zero some h = omega arith
west_face W (suc j) some h = h

module _ (W : ℕ) (fluxes : List ℤ) (air : List ℕ) (some : 1 ≤ W) (one : OneTurn W fluxes air) where
  -- it is document 02's x − F and a turn more: nothing is cut off below
  pub departure_is :
      (j : ℕ) → j ≤ W →
      departure W fluxes air j + forward (flux fluxes (west_of W j)) ≡ air_above air W + air_above air j + backward (flux fluxes (west_of W j))
  unfolding departure
  departure_is j h =
      let F = flux fluxes (west_of W j) in
      omega (arith, line_turn W air j, line_first W air j h, forward_le F, one (west_of W j) (west_face W j some h))

  -- nor past the end of the line
  pub departure_most : (j : ℕ) → j ≤ W → departure W fluxes air j ≤ line_air W air (turns * W)
  departure_most j h =
      let F = flux fluxes (west_of W j) in
      omega (arith, departure_is j h, line_all W air, sum_fewer (at air) j W h, backward_le F, one (west_of W j) (west_face W j some h))

  -- a full turn from the west face of column 0 to the east face of the last
  pub departure_turn : departure W fluxes air W ≡ air_above air W + departure W fluxes air 0
  unfolding sum
  departure_turn =
      let west : west_of W W ≡ W - 1 = west_inner W W (λ e. omega arith) in
      omega (
        arith,
        departure_is W (le_refl W),
        departure_is 0 (omega arith),
        ap (λ (i : ℕ). forward (flux fluxes i)) west,
        ap (λ (i : ℕ). backward (flux fluxes i)) west,
      )

  pub departure_first : departure W fluxes air 0 ≤ 2 * air_above air W
  departure_first = omega (arith, departure_turn, departure_most W (le_refl W), line_all W air)

  -- the air between two faces is that of the cell afterwards
  pub air_between : (i : ℕ) → i < W → at (long_air W fluxes air) i ≡ departure W fluxes air (suc i) - departure W fluxes air i
  unfolding long_air ring leaving sum
  air_between i h =
      omega (
        arith,
        at_after_flow (ring W) (whole_flow fluxes) air i h,
        departure_is i (omega arith),
        departure_is (suc i) h,
      )

-- ---- G carried round
module _ (rule : Rule) (W : ℕ) (air gas : List ℕ) (some : 1 ≤ W) (has : (c : ℕ) → c < W → 1 ≤ at air c) where
  line_has : (k : ℕ) → k < turns * W → 1 ≤ (line_cell rule W air gas k).air
  line_has k h = has (k % W) (mod-lt k some)

  line_round : (i : ℕ) → line_cell rule W air gas (W + i) ≡ line_cell rule W air gas i
  line_round i =
      ap (row_cell rule W air gas) (add-mod_left W i)

  -- in the first turn it is the remap's G of the row's cells
  pub carried_first :
      (x : ℕ) → x ≤ air_above air W → carried rule W air gas x ≡ amount_above (tab W (line_cell rule W air gas)) x
  unfolding carried
  carried_first x h =
      sym (amount_longer (line_cell rule W air gas) W (turns * W) x line_has (omega arith) (rw (line_first W air W (le_refl W)) h))

  -- "one full turn adds the row's total"
  pub carried_turn :
      (x : ℕ) → x ≤ 2 * air_above air W → carried rule W air gas (air_above air W + x) ≡ sum W (at gas) + carried rule W air gas x
  unfolding carried
  carried_turn x h =
      let f = line_cell rule W air gas in
      let e : turns * W ≡ W + (W + W) = omega arith in
      let row = line_first W air W (le_refl W) in
      ap₂ (λ (n y : ℕ). amount_above (tab n f) (y + x)) e (sym row) ∙
      amount_turn f W line_round (W + W) (λ k p. line_has k (omega arith)) x ∙
      ap₂ ◌+◌ (line_first W gas W (le_refl W)) (amount_longer f (W + W) (turns * W) x line_has (omega arith) (omega (arith, line_turn W air W, row)))

-- ---- a long sweep that serves: of columns, by no flux of more than a turn, with air of 1 to 65,535 afterwards
pub record LongServes (W : ℕ) (fluxes : List ℤ) (air : List ℕ) : Type 0 where
  pub some : 1 ≤ W
  pub one_turn : OneTurn W fluxes air
  pub air_in : AirIn W (long_air W fluxes air)

module _ (W : ℕ) (fluxes : List ℤ) (air : List ℕ) (serves : LongServes W fluxes air) where
  -- from face to face the departures rise
  pub departures_rise : (i : ℕ) → i < W → departure W fluxes air i < departure W fluxes air (suc i)
  departures_rise i h =
      omega (arith, air_between W fluxes air serves.some serves.one_turn i h, (air_bounds (at (long_air W fluxes air) i) (serves.air_in i h)).0)

  rises : (i : ℕ) → i < W → departure W fluxes air i ≤ departure W fluxes air (suc i)
  rises i h = omega (arith, departures_rise i h)

  reaches : (j : ℕ) → j ≤ W → departure W fluxes air j ≤ line_air W air (turns * W)
  reaches = departure_most W fluxes air serves.some serves.one_turn

  pub long_air_lem : KeepsAir W air (long_air W fluxes air)
  long_air_lem =
      record {
        air_length = length_long_air W fluxes air;
        air_in = serves.air_in;
        air_kept =
            sum_ext W _ _ (air_between W fluxes air serves.some serves.one_turn) ∙
            omega (arith, sum_steps W (departure W fluxes air) rises, departure_turn W fluxes air serves.some serves.one_turn);
      }

  module _ (fits : AirIn W air) {rule : Rule} (limited : Limited rule) where
    has : (c : ℕ) → c < W → 1 ≤ at air c
    has c h = (air_bounds (at air c) (fits c h)).0

    module _ (gas : List ℕ) where
      cells_safe : (k : ℕ) → k < turns * W → Safe (line_cell rule W air gas k).slope (line_cell rule W air gas k).air (line_cell rule W air gas k).tracer
      cells_safe k h = cell_safe rule (ring W) air gas (k % W) limited

      -- marks rise from face to face, so no amount is cut off
      pub marks_rise : (i : ℕ) → i < W → mark rule W fluxes air gas i ≤ mark rule W fluxes air gas (suc i)
      unfolding carried
      marks_rise i h =
          amount_rises (line_cell rule W air gas) (turns * W) (line_has rule W air gas serves.some has) cells_safe _ _ (rises i h)

      -- "counting the turn at column 0": the mark of the last column's east face is that of column 0's west face and the row's total
      pub mark_turn : mark rule W fluxes air gas W ≡ sum W (at gas) + mark rule W fluxes air gas 0
      mark_turn =
          ap (carried rule W air gas) (departure_turn W fluxes air serves.some serves.one_turn) ∙
          carried_turn rule W air gas serves.some has _ (departure_first W fluxes air serves.some serves.one_turn)

      -- together the cells have the row's tracer
      long_total : sum W (at (long_gas rule W fluxes air gas)) ≡ sum W (at gas)
      unfolding long_gas carried
      long_total =
          sum_tab W (λ i. mark rule W fluxes air gas (suc i) - mark rule W fluxes air gas i) ∙
          omega (
            arith,
            between_sum (line_cell rule W air gas) (turns * W) (line_has rule W air gas serves.some has) (departure W fluxes air) W rises cells_safe,
            mark_turn,
          )

      -- a whole-number ratio stays
      long_even : (z : ℕ) → Even W z air gas → Even W z (long_air W fluxes air) (long_gas rule W fluxes air gas)
      unfolding long_gas carried ring
      long_even z even i h =
          let cell : (k : ℕ) → k % W < W = λ k. mod-lt k serves.some in
          at_tab W (λ i. mark rule W fluxes air gas (suc i) - mark rule W fluxes air gas i) i h ∙
          between_even (line_cell rule W air gas) (turns * W) (line_has rule W air gas serves.some has) (departure W fluxes air) W rises (reaches W (le_refl W)) z
          (λ k p. (even_mismatch limited (ring W) (ring_regular W) (whole_flow fluxes) air gas fits z even (k % W) (cell k), even (k % W) (cell k)))
          i h ∙
          ap (λ (x : ℕ). z * x) (sym (air_between W fluxes air serves.some serves.one_turn i h))

      -- ---- the range
      -- cell k of the line lies there as an old cell of the row
      overlap_is :
          (i k : ℕ) → k < turns * W → max (line_air W air k) (departure W fluxes air i) < min (line_air W air (suc k)) (departure W fluxes air (suc i)) →
          overlaps W fluxes air i (k % W) ≡ true
      unfolding overlaps
      overlap_is i k h shares =
          let place : k / W * W + k % W ≡ k = div-add-mod' k W in
          let there : ℕ → Bool = λ j. ltb (max (line_air W air j) (departure W fluxes air i)) (min (line_air W air (suc j)) (departure W fluxes air (suc i))) in
          some_true turns (λ turn. there (turn * W + k % W)) (k / W) ((div-lt_iff_lt-mul {k = W} serves.some).1 h) (ap there place ∙ lt-ltb _ _ shares)

      near_is : (i c d : ℕ) → c < W → overlaps W fluxes air i c ≡ true → is_near (ring W) c d ≡ true → is_near_overlap W (overlaps W fluxes air i) d ≡ true
      unfolding is_near_overlap
      near_is i c d h shares near = some_true W _ c h (rw (shares, near))

      pub long_bounded :
          (i : ℕ) → i < W →
          Bounded rule W (is_near_overlap W (overlaps W fluxes air i)) air gas 1 (at (long_air W fluxes air) i) (at (long_gas rule W fluxes air gas) i)
      unfolding carried ring long_gas
      long_bounded i h b H L Fits roomy all_fit =
          rw (air_between W fluxes air serves.some serves.one_turn i h, at_tab W (λ i. mark rule W fluxes air gas (suc i) - mark rule W fluxes air gas i) i h)
          (amount_between (line_cell rule W air gas) (turns * W) (line_has rule W air gas serves.some has) cells_safe b H L _ _ (departures_rise i h) (reaches (suc i) h)
          (λ k hk shares.
          let hc : k % W < W = mod-lt k serves.some in
          cell_leans roomy (ring W) (ring_regular W) air gas (k % W) hc
          (λ d hd near. all_fit d hd (near_is i (k % W) d hc (overlap_is i k hk shares) near))))

      pub long_in_range :
          Monotone rule → (i : ℕ) → i < W →
          long_cell_in_range W fluxes air gas (long_air W fluxes air) (long_gas rule W fluxes air gas) i ≡ true
      unfolding long_cell_in_range
      long_in_range monotone i h =
          let found = layer_between (line_cell rule W air gas) (turns * W) (line_has rule W air gas serves.some has) (turns * W) _ _ (omega arith) (departures_rise i h) (reaches (suc i) h) in
          let hc : found.0 % W < W = mod-lt found.0 serves.some in
          let fit = air_bounds (at (long_air W fluxes air) i) (serves.air_in i h) in
          in_range_lem W _ air gas (found.0 % W) hc (near_is i _ _ hc (overlap_is i found.0 found.1 found.2) (near_self (ring W) _)) has monotone 1 _ _
          fit.0 fit.1 (long_bounded i h)

    pub long_gas_lem : KeepsGas W air (long_air W fluxes air) (long_gas rule W fluxes air)
    long_gas_lem =
        record {
          gas_length = λ had e. length_long_gas rule W fluxes air had;
          gas_kept = λ had e. long_total had;
          even_kept = λ had z e. long_even had z;
        }
