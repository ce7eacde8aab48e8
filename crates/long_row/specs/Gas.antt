-- A tracer's amounts in a row through a long sweep: the ring's slopes in a list, and what the functions require and ensure. W is the row's length.
use Rattle.std.specs.Prelude.{ℕ, zero, suc, ◌+◌, ◌-◌, ◌*◌, ◌%◌, ◌≤◌, ◌<◌, ◌≡◌, refl, ℤ, length}
use mathlib.Core.List.{List}
use Rattle.std.proofs.Common.{sym, ap₂, ◌∙◌, mod-lt, arith}
use Rattle.std.proofs.Math.Path.{ap}
use Rattle.units.specs.declared.Mismatch as code
use Rattle.model.specs.Limits.{total_limit}
use Rattle.model.specs.Basic.{at, part, sum, tab}
use Rattle.model.specs.Scheme.{Mismatch}
use Rattle.model.specs.Limiters.{Limiter, rule_for}
use Rattle.model.specs.Sweep.{ring, west_of, east_of, cell_mismatch}
use Rattle.model.specs.Remap.{ColumnLayer, amount_above}
use Rattle.model.specs.Long.{line_cell, line_air, turns, carried, departure, long_gas}
use Rattle.model.proofs.Laws.Basic.{length_part, at_part, tab_at, tab_ext}
use Rattle.model.proofs.Laws.Ring.{west_in, east_in}
use Rattle.model.proofs.Laws.Limiters.{limiter_limited}
use Rattle.model.proofs.Laws.Substep.{air_bounds}
use Rattle.model.proofs.Laws.Long.{line_all}
use Rattle.substep.specs.Pieces.{HasAir, AreRatios, mismatch_in}
use Rattle.row.specs.Columns.{column_neighbours}
use Rattle.line.specs.Line.{slope_in, cell_at, LineNeed, IsWalk}
use Rattle.line.specs.Tracer.{between_is}
use Rattle.line.specs.Slopes.{SlopesTo}
use Rattle.long_row.specs.Air.{AreDepartures, DeparturesServe}

-- ---- slopes
-- ratios of W columns, and room for their slopes
pub record SlopesNeed (W : ℕ) (q : List ℕ) (slopes : List code.Mismatch) : Type 0 where
  pub ratios : W ≤ length q
  pub room_slopes : W ≤ length slopes

-- the mismatch of column c with its neighbours in the ring, by a limiter and the ratios; a list holds those of all columns
abbrev pub ring_slope : Limiter → ℕ → List ℕ → ℕ → Mismatch
ring_slope l W q c = mismatch_in l q (west_of W c) c (east_of W c)

abbrev pub AreSlopes : Limiter → ℕ → List ℕ → List code.Mismatch → Type 0
AreSlopes l W q slopes = SlopesTo (ring_slope l W q) W slopes

-- ---- a tracer
-- W amounts within the limit, over a row's air and its departures
pub record LongGasNeed (gas air e : List ℕ) : Type 0 where
  pub departures : DeparturesServe air e
  pub long : length gas ≡ length air
  pub total : sum (length air) (at gas) ≤ total_limit

-- the amounts on the line between the departures of each cell's two faces
abbrev pub gas_by : Limiter → List ℕ → List ℕ → List ℕ → List ℕ
gas_by l e air gas =
    tab (length air) (λ i. carried (rule_for l) (length air) air gas (at e (suc (suc i))) - carried (rule_for l) (length air) air gas (at e (suc i)))

pub gas_by_is :
    (l : Limiter) {air e : List ℕ} {fluxes : List ℤ} → AreDepartures air fluxes e → (gas : List ℕ) →
    gas_by l e air gas ≡ long_gas (rule_for l) (length air) fluxes air gas
unfolding long_gas
gas_by_is l {air} {e} {fluxes} are gas =
    let amount : ℕ → ℕ = carried (rule_for l) (length air) air gas in
    let mark : (j : ℕ) → j ≤ length air → amount (at e (suc j)) ≡ amount (departure (length air) fluxes air j) =
    λ j h. ap amount (are.is (suc j) (omega arith)) in
    tab_ext (length air) _ _ (λ i h. ap₂ ◌-◌ (mark (suc i) h) (mark i (omega arith)))

module _ {gas air e : List ℕ} (need : LongGasNeed gas air e) where
  abbrev W : ℕ
  W = length air

  pub ratios_need : (q : List ℕ) → W ≤ length q → HasAir W air gas q
  ratios_need q room =
      record {
        air_long = omega arith;
        gas_long = omega (arith, need.long);
        room = room;
        some = λ c h. (air_bounds (at air c) (need.departures.air_in c h)).0;
      }

  module _ (l : Limiter) {q : List ℕ} {slopes : List code.Mismatch} (ratios : AreRatios W air gas q) (filled : AreSlopes l W q slopes) where
    pub line_need : {newgas : List ℕ} → W ≤ length slopes → W + 1 ≤ length newgas → LineNeed W air gas slopes e (W + 1) newgas
    line_need room_slopes room =
        let departures = need.departures in
        record {
          some = departures.some;
          fit = departures.wide;
          room_air = omega arith;
          room_gas = omega (arith, need.long);
          room_slopes = room_slopes;
          least = λ c h. (air_bounds (at air c) (departures.air_in c h)).0;
          most = λ c h. (air_bounds (at air c) (departures.air_in c h)).1;
          total = need.total;
          small = λ c h. rw (← ratios.is c h, ap (λ (d : Mismatch). d.size) (filled.is c h)) ((limiter_limited l).at_most_twice _ (at q c) _);
          few = omega (arith, departures.wide);
          room_edges = departures.room;
          first = departures.first;
          rises = rises;
          last = last;
          room = room;
        }
      where
        next : W + 1 ≡ suc W
        next = omega arith

        last : at e (W + 1) ≤ turns * sum W (at air)
        last = rw next need.departures.last

        rises : (j : ℕ) → j < W + 1 → at e j ≤ at e (suc j)
        rises zero h = omega (arith, need.departures.first)
        rises (suc j) h = omega (arith, need.departures.rises j (omega arith))

    -- the line of the lists is the model's
    cell_is_lem : (i : ℕ) → cell_at W air gas slopes i ≡ line_cell (rule_for l) W air gas i
    cell_is_lem i =
        let c : ℕ = i % W in
        let h : c < W = mod-lt i need.departures.some in
        let near = column_neighbours W c h (west_of W c) (east_of W c) refl refl in
        let slope : slope_in slopes c ≡ cell_mismatch (rule_for l) (ring W) air gas c =
        filled.is c h ∙
        (λ n. rule_for l (ratios.is (west_of W c) (west_in W c h) n) (ratios.is c h n) (ratios.is (east_of W c) (east_in W c h) n)) ∙
        sym (near.is l air gas) in
        ap (λ (d : Mismatch). record { air = at air c; tracer = at gas c; slope = d }) slope

    line_is_lem : (x : ℕ) → amount_above (tab (turns * W) (cell_at W air gas slopes)) x ≡ carried (rule_for l) W air gas x
    unfolding carried
    line_is_lem x =
        ap (λ (l : List ColumnLayer). amount_above l x)
        (tab_ext (turns * W) (cell_at W air gas slopes) (line_cell (rule_for l) W air gas) (λ i h. cell_is_lem i))

    -- the amounts between the departures, lent as `&between[1..end]` with end = W + 1
    pub gas_by_lem :
        {between : List ℕ} {steps ends : ℕ} → W ≤ length slopes → W + 1 ≤ length between →
        IsWalk W air gas slopes e (W + 1) between steps ends → part between 1 (W + 1 - 1) ≡ gas_by l e air gas
    gas_by_lem {between} room_slopes room made =
        let is = between_is (line_need {newgas = between} room_slopes room) made in
        sym (tab_at W (part between 1 (W + 1 - 1)) long) ∙
        tab_ext W _ _
        (λ i h.
        let next : 1 + i ≡ suc i = omega arith in
        at_part between 1 (W + 1 - 1) i (omega arith) ∙ ap (at between) next ∙ is.is (turns * W) reach (suc i) (omega arith) ∙
        ap₂ ◌-◌ (line_is_lem (at e (suc (suc i)))) (line_is_lem (at e (suc i))))
      where
        long : length (part between 1 (W + 1 - 1)) ≡ W
        long = length_part between 1 (W + 1 - 1) (omega arith) ∙ omega arith

        reach : at e (W + 1) ≤ line_air W air (turns * W)
        reach =
            let next : W + 1 ≡ suc W = omega arith in
            rw (next, line_all W air) need.departures.last
