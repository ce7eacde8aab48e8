-- What follows from demand 3 in the buyer's words: of what calls keep, each statement uses the theorem `demand_3` alone. Each of its fields is used, so that a theorem that says less is refused here.
-- Assumes what the theorem assumes, that `step` accepts the load and the list holds no other.
use Rattle.std.specs.Prelude.{ℕ, suc, ◌+◌, ◌*◌, ◌≤◌, ◌<◌, List, Bool, true, ◌≡◌, refl, eqb, ℤ, take}
use Rattle.std.proofs.Math.Bool.{and-eq-true_iff}
use Rattle.std.proofs.Common.{sym, ◌∙◌, ap, ap₂, zero-mul, mul-le-mul_right, lt_of_mul-lt-mul_right, arith, ltb-true, eqb-true, eq-eqb}
use Rattle.model.specs.Basic.{at, part, sum}
use Rattle.model.specs.World.{Grid, World, layer_cells, world_cells, layer_start, row_start, gas, gas_total, air_total}
use Rattle.model.specs.Sweep.{Mesh, layer}
use Rattle.model.specs.Remap.{column, column_air, share_air}
use Rattle.model.specs.Range.{in_range, units_and_quarter, is_near, face_count, substep_in_range, SweepInRange, is_near_layer, layer_in_range, overlaps, is_near_overlap, long_cell_in_range}
use Rattle.model.specs.Step.{Call, long_zonal, meridional, remap, total, step}
use Rattle.model.specs.Lists.{Loaded, loaded_world, listed, call_at, point, history, CallInRange, has_first, LoadedAlike, names_no_other}
use Rattle.model.proofs.Laws.Basic.{some_at, at_part}
use Rattle.model.proofs.Laws.Lists.{calls_between, calls_between_lem, history_append}
use Rattle.model.proofs.Laws.Step.{answer_is}
use Rattle.model.proofs.Laws.Keeps.{names_present}
use Rattle.model.proofs.Laws.LongZonal.{long_sweeps}
use Rattle.model.proofs.Laws.Meridional.{meridional_sweeps}
use Rattle.model.proofs.Laws.Remap.{at_column, cell_in_lem}
use Rattle.model.proofs.Demand3.{demand_3}

-- ---- demand 3's own words of the range, "to less than one unit for each face the cell has and one unit more", "to less than two units", in document 01's form: some cell there, with air M and tracer T, has T·M' < (T' + e)·M, and some cell there has T'·M < T·M' + e·M
pub record InUnits (n : ℕ) (there : ℕ → Bool) (air had : List ℕ) (e new_m new_t : ℕ) : Type 0 where
  pub below : (c : ℕ) × (c < n) × (there c ≡ true) × (at had c * new_m < (new_t + e) * at air c)
  pub above : (c : ℕ) × (c < n) × (there c ≡ true) × (new_t * at air c < at had c * new_m + e * at air c)

-- they follow from Slip 6's, since a quarter is less than a unit
unit_below : (M T M' T' f : ℕ) → 4 * (T * M') < (4 * T' + units_and_quarter f) * M → T * M' < (T' + (f + 1)) * M
unit_below M T M' T' f h = omega (arith, h)

unit_above : (M T M' T' f : ℕ) → 4 * (T' * M) < 4 * (T * M') + units_and_quarter f * M → T' * M < T * M' + (f + 1) * M
unit_above M T M' T' f h = omega (arith, h)

pub in_units :
    (n : ℕ) (there : ℕ → Bool) (air had : List ℕ) (f M T : ℕ) → in_range n there air had (units_and_quarter f) M T ≡ true →
    InUnits n there air had (f + 1) M T
unfolding in_range
in_units n there air had f M T holds =
    let both = (and-eq-true_iff _ _).0 holds in
    let a = some_at n _ both.0 in
    let b = some_at n _ both.1 in
    let low = (and-eq-true_iff (there a.0) _).0 a.2 in
    let high = (and-eq-true_iff (there b.0) _).0 b.2 in
    record {
      below = (a.0, a.1, low.0, unit_below _ _ M T f (ltb-true _ _ low.1));
      above = (b.0, b.1, high.0, unit_above _ _ M T f (ltb-true _ _ high.1));
    }

-- .. after a substep, a remap and a long sweep, for all that `HoldsAt.in_range` says of them
pub substep_in_units :
    (mesh : Mesh) (air had new_air new_gas : List ℕ) (c : ℕ) → substep_in_range mesh air had new_air new_gas c ≡ true →
    InUnits mesh.cells (is_near mesh c) air had (face_count (mesh.sides c) + 1) (at new_air c) (at new_gas c)
unfolding substep_in_range
substep_in_units mesh air had new_air new_gas c = in_units _ _ air had (face_count (mesh.sides c)) _ _

pub layer_in_units :
    (g : Grid) (table air had new_air new_gas : List ℕ) (c j : ℕ) → layer_in_range g table air had new_air new_gas c j ≡ true →
    InUnits g.K (is_near_layer g.K (share_air table (column g air c) (column_air g air c) j)) (column g air c) (column g had c) 2
    (at new_air (layer_start g j + c))
    (at new_gas (layer_start g j + c))
unfolding layer_in_range
layer_in_units g table air had new_air new_gas c j = in_units _ _ _ _ 1 _ _

pub long_cell_in_units :
    (W : ℕ) (fluxes : List ℤ) (air had new_air new_gas : List ℕ) (i : ℕ) → long_cell_in_range W fluxes air had new_air new_gas i ≡ true →
    InUnits W (is_near_overlap W (overlaps W fluxes air i)) air had 2 (at new_air i) (at new_gas i)
unfolding long_cell_in_range
long_cell_in_units W fluxes air had new_air new_gas i = in_units _ _ air had 1 _ _

-- ---- the range of a cell, if all old ratios are from lo to hi: it has less than e units less than lo, and less than e units more than hi, for each unit of its air
pub record Near (lo hi e M T : ℕ) : Type 0 where
  pub low : lo * M < T + e
  pub high : T < hi * M + e

abbrev pub Between : ℕ → ℕ → ℕ → List ℕ → List ℕ → Type 0
Between lo hi n air had = (c : ℕ) → c < n → (lo * at air c ≤ at had c) × (at had c ≤ hi * at air c)

near_low : (lo e M T m t : ℕ) → lo * m ≤ t → t * M < (T + e) * m → lo * M < T + e
near_low lo e M T m t h r = lt_of_mul-lt-mul_right m (omega (arith, mul-le-mul_right M h))

near_high : (hi e M T m t : ℕ) → t ≤ hi * m → T * m < t * M + e * m → T < hi * M + e
near_high hi e M T m t h r = lt_of_mul-lt-mul_right m (omega (arith, mul-le-mul_right M h))

in_range_near :
    (n : ℕ) (there : ℕ → Bool) (air had : List ℕ) (lo hi e M T : ℕ) → Between lo hi n air had → InUnits n there air had e M T → Near lo hi e M T
in_range_near n there air had lo hi e M T between holds =
    let a = holds.below in
    let b = holds.above in
    record {
      low = near_low lo e M T _ _ (between a.0 a.1).0 a.3;
      high = near_high hi e M T _ _ (between b.0 b.1).1 b.3;
    }

-- .. after a sweep of one substep, of the cells in the world that it leaves
one_substep_near :
    {w next : World} {mesh : Mesh} {a t : ℕ} {air had : ℕ → List ℕ} → SweepInRange w next mesh a 1 t air had → (lo hi cells : ℕ) →
    a + mesh.cells ≤ cells → Between lo hi cells w.air (gas w t) → (c : ℕ) → c < mesh.cells →
    Near lo hi (face_count (mesh.sides c) + 1) (at next.air (a + c)) (at (gas next t) (a + c))
one_substep_near {w} {next} {mesh} {a} {t} {air} {had} range lo hi cells inside between c hc =
    let near =
    in_range_near mesh.cells _ (air 0) (had 0) lo hi (face_count (mesh.sides c) + 1) _ _
    (λ d hd. rw (range.air_start, range.gas_start, at_part w.air a mesh.cells d hd, at_part (gas w t) a mesh.cells d hd) (between (a + d) (omega arith)))
    (substep_in_units mesh _ _ _ _ c (range.each 0 c (omega arith) hc)) in
    rw (range.air_end, range.gas_end, at_part next.air a mesh.cells c hc, at_part (gas next t) a mesh.cells c hc) at near

module _ (w : World) (calls : List Call) (loaded : Loaded w) (no_loads : listed calls ≡ true) where
  abbrev start : World
  start = loaded_world w

  abbrev at_point : ℕ → World
  at_point i = point start calls i

  -- the difference of a gas's total between two points of a list is what was emitted less what was withdrawn between them
  pub published_difference :
      (t i j : ℕ) → t < start.grid.N → i ≤ j →
      let between = history (at_point i) t (calls_between calls i j) in
      gas_total (at_point j) t + between.withdrawn ≡ gas_total (at_point i) t + between.emitted
  published_difference t i j h le =
      let parted = history_append start t (take i calls) (calls_between calls i j) in
      let all = calls_between_lem calls le in
      omega (
        arith,
        parted.came,
        parted.went,
        ap (λ (l : List Call). (history start t l).emitted) all,
        ap (λ (l : List Call). (history start t l).withdrawn) all,
        (demand_3 w calls loaded no_loads i).gas_kept t h,
        (demand_3 w calls loaded no_loads j).gas_kept t h,
      )

  -- total air is the same at any two points
  pub same_air_lem : (i j : ℕ) → air_total (at_point i) ≡ air_total (at_point j)
  same_air_lem i j = (demand_3 w calls loaded no_loads i).air_kept ∙ sym (demand_3 w calls loaded no_loads j).air_kept

  -- a gas of which no cell has a unit at one point is in no cell at a later one, if none of it was emitted or withdrawn between them
  pub none_stays_none :
      (t i j : ℕ) → t < start.grid.N → i ≤ j →
      ((c : ℕ) → c < world_cells (at_point i).grid → at (gas (at_point i) t) c ≡ 0) →
      history start t (take j calls) ≡ history start t (take i calls) →
      (c : ℕ) → c < world_cells (at_point j).grid → at (gas (at_point j) t) c ≡ 0
  none_stays_none t i j h le none same c hc =
      (demand_3 w calls loaded no_loads i).ratio_kept t 0 j h le (λ d hd. none d hd ∙ sym (zero-mul _)) same c hc ∙ zero-mul _

  -- a call that is accepted at point i promises its range between the points i and i + 1, for a gas that has the first limiter there
  promised :
      (t i : ℕ) (call : Call) → t < start.grid.N → has_first (at_point i) t ≡ true → call_at calls i ≡ call → (step (at_point i) call).answer ≡ 0 →
      CallInRange (at_point i) (at_point (suc i)) t call
  promised t i call h first made accepted =
      rw made at ((demand_3 w calls loaded no_loads i).in_range t h first (rw made accepted))

  -- where all ratios of a gas that has the first limiter are from lo to hi, a remap leaves every cell of the world at the next point within two units of that, a long sweep every cell of its row, and a meridional sweep every cell of its layer within one unit for each of its faces and one more
  module _
      (t i lo hi : ℕ) (h : t < start.grid.N) (first : has_first (at_point i) t ≡ true)
      (between : Between lo hi (world_cells (at_point i).grid) (at_point i).air (gas (at_point i) t)) where
    abbrev g : Grid
    g = (at_point i).grid

    abbrev next : World
    next = at_point (suc i)

    pub remap_stays_near :
        (table : List ℕ) → call_at calls i ≡ remap table → (step (at_point i) (remap table)).answer ≡ 0 →
        (k c : ℕ) → k < g.K → c < layer_cells g →
        Near lo hi 2 (at next.air (layer_start g k + c)) (at (gas next t) (layer_start g k + c))
    remap_stays_near table made accepted k c hk hc =
        in_range_near g.K _ _ _ lo hi 2 _ _
        (λ j hj. rw (at_column g (at_point i).air c j hj, at_column g (gas (at_point i) t) c j hj) (between _ (cell_in_lem g j c hj hc)))
        (layer_in_units g table _ _ _ _ c k (promised t i (remap table) h first made accepted c k hc hk))

    pub long_stays_near :
        (k r : ℕ) (fluxes : List ℤ) → call_at calls i ≡ long_zonal k r fluxes → (step (at_point i) (long_zonal k r fluxes)).answer ≡ 0 →
        (c : ℕ) → c < g.W →
        Near lo hi 2 (at next.air (row_start g k r + c)) (at (gas next t) (row_start g k r + c))
    long_stays_near k r fluxes made accepted c hc =
        let a = row_start g k r in
        let inside = (long_sweeps k r fluxes (at_point i) (sym (answer_is _ _) ∙ accepted)).inside in
        let near =
        in_range_near g.W _ (part (at_point i).air a g.W) (part (gas (at_point i) t) a g.W) lo hi 2 _ _
        (λ d hd. rw (at_part (at_point i).air a g.W d hd, at_part (gas (at_point i) t) a g.W d hd) (between (a + d) (omega arith)))
        (long_cell_in_units g.W fluxes _ _ _ _ c (promised t i (long_zonal k r fluxes) h first made accepted c hc)) in
        rw (at_part next.air a g.W c hc, at_part (gas next t) a g.W c hc) at near

    pub meridional_stays_near :
        (k : ℕ) (fluxes : List ℤ) → call_at calls i ≡ meridional k fluxes → (step (at_point i) (meridional k fluxes)).answer ≡ 0 →
        (c : ℕ) → c < layer_cells g →
        Near lo hi (face_count ((layer g.W g.R).sides c) + 1) (at next.air (layer_start g k + c)) (at (gas next t) (layer_start g k + c))
    meridional_stays_near k fluxes made accepted c hc =
        let sweeps = meridional_sweeps k fluxes (at_point i) (sym (answer_is _ _) ∙ accepted) in
        one_substep_near (promised t i (meridional k fluxes) h first made accepted) lo hi _ sweeps.inside between c (unfold layer in hc)

  -- whatever another load brings of the other gases, one gas has the same total at each point, and a reading of its total answers the same
  pub one_gas_alone :
      (v : World) → Loaded v → (t i : ℕ) → t < start.grid.N →
      start.grid ≡ (loaded_world v).grid → start.air ≡ (loaded_world v).air → gas start t ≡ gas (loaded_world v) t →
      (gas_total (at_point i) t ≡ gas_total (point (loaded_world v) calls i) t)
      × (call_at calls i ≡ total t → ((step (at_point i) (total t)).answer ≡ (step (point (loaded_world v) calls i) (total t)).answer) × ((step (at_point i) (total t)).count ≡ (step (point (loaded_world v) calls i) (total t)).count))
  one_gas_alone v other t i h same_grid same_air same_gas =
      let own : ℕ → Bool = λ s. eqb t s in
      let self : own t ≡ true = eq-eqb t t refl in
      let alike : LoadedAlike own start (loaded_world v) =
      record { same_grid = same_grid; same_air = same_air; same_gas = λ s o. ap (gas start) (sym (eqb-true t s o)) ∙ same_gas ∙ ap (gas (loaded_world v)) (eqb-true t s o) } in
      let same = (demand_3 w calls loaded no_loads i).independent own v other alike in (
        ap₂ (λ (g : Grid) (l : List ℕ). sum (world_cells g) (at l)) same.0.same_grid (same.0.same_gas t self),
        λ made.
            let named : names_no_other own start (call_at calls i) ≡ true = rw made (sym (names_present own start t h) ∙ self) in
            rw made at (same.1 named),
      )
