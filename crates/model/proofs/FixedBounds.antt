-- What the limiters of document 02, Slip 7, promise of ratios: the fixed one, of each accepted call, for one substep, one remap or one long sweep (that it is no promise for a list is computed in crates/choice, `not_for_a_list`); and, computed, that the range of demand 3 is false for the second and the third.
-- Assumes that `step` accepts the call, and of the cells near a cell that their ratios are from lo to hi.
use Rattle.std.specs.Prelude.{ℕ, zero, suc, ◌+◌, ◌*◌, ◌≤◌, ◌<◌, List, [], ◌∷◌, Bool, true, false, ◌≡◌, refl, ltb, ℤ, pos}
use Rattle.std.proofs.lemmas.Bool.{false≢true}
use Rattle.std.proofs.Math.Path.{sym}
use Rattle.std.proofs.Common.{◌∙◌, ap, arith, lit<}
use Rattle.model.specs.Basic.{at, part}
use Rattle.model.specs.World.{Grid, World, layer_cells, world_cells, layer_start, row_start, gas}
use Rattle.model.specs.Sweep.{Mesh, between, north_cap, ring, layer, air_after, gas_after, swept}
use Rattle.model.specs.Remap.{column, column_air, share_air, is_cap, remapped_air, remapped_gas, remapped}
use Rattle.model.specs.Long.{long_air, long_gas, long_swept}
use Rattle.model.specs.Range.{is_near, face_count, is_near_layer, overlaps, is_near_overlap, in_range, substep_in_range}
use Rattle.model.specs.Limiters.{Limiter, fixed_one, fixed_rule, rule_for, limiter_of, rule_of}
use Rattle.model.specs.Step.{Call, zonal, long_zonal, meridional, remap, zonal_with_count, accepted, step, zonal_count}
use Rattle.model.specs.Lists.{CallInRange}
use Rattle.model.proofs.Laws.Limiters.{third_is}
use Rattle.model.proofs.Laws.Grid.{in_range_lem}
use Rattle.model.proofs.Laws.Step.{Fits, step_accepted, answer_is, accepted_passed}
use Rattle.model.proofs.Laws.Part.{cells_in_lem, part_air_is, part_gas_is}
use Rattle.model.proofs.Laws.Sweep.{Sweeps, swept_air, swept_gas}
use Rattle.model.proofs.Laws.Zonal.{zonal_sweeps, given_sweeps}
use Rattle.model.proofs.Laws.Meridional.{meridional_sweeps}
use Rattle.model.proofs.Laws.World.{gas_moved_lem}
use Rattle.model.proofs.Laws.Remap.{at_column, remapped_air_at, remapped_gas_at, length_remapped, remap_edges, cell_in_lem}
use Rattle.model.proofs.Laws.LongZonal.{long_sweeps}
use Rattle.model.proofs.Laws.Long.{length_long_air, length_long_gas}
use Rattle.model.proofs.Laws.Fixed.{RatiosWithin, WithinBounds, sweep_within, new_layer_within, long_within_lem}
use Rattle.model.proofs.Cases.{computes}
use Rattle.model.proofs.Cases.Marked.{grid, four, six}
use Rattle.model.proofs.Cases.Limiters.{first, positive, fixed, most, minus, blocks, lent}

-- tracer t has the fixed limiter with the bounds lo and hi
abbrev pub HasFixed : World → ℕ → ℕ → ℕ → Type 0
HasFixed w t lo hi = limiter_of w t ≡ record { number = fixed_one; lo = lo; hi = hi }

fixed_rule_lem : (w : World) (t lo hi : ℕ) → HasFixed w t lo hi → rule_of w t ≡ fixed_rule lo hi
fixed_rule_lem w t lo hi e = ap rule_for e ∙ third_is (record { number = fixed_one; lo = lo; hi = hi }) refl

-- ---- a sweep of n substeps that leads from the world w to the world `next`, over the cells of a mesh from cell a on, as `SweepInRange` has it (Range.antt): cell c after each substep, where all ratios near it just before that substep are from lo to hi
pub record SweepWithin (w next : World) (mesh : Mesh) (a n t lo hi : ℕ) (air had : ℕ → List ℕ) : Type 0 where
  pub air_start : air 0 ≡ part w.air a mesh.cells
  pub gas_start : had 0 ≡ part (gas w t) a mesh.cells
  pub each :
      (s c : ℕ) → s < n → c < mesh.cells → RatiosWithin lo hi mesh.cells (is_near mesh c) (air s) (had s) →
      WithinBounds lo hi (face_count (mesh.sides c)) (at (air (suc s)) c) (at (had (suc s)) c)
  pub air_end : air n ≡ part next.air a mesh.cells
  pub gas_end : had n ≡ part (gas next t) a mesh.cells

-- the definition's own chain
abbrev pub ChainWithin : World → World → Mesh → ℕ → List ℤ → ℕ → ℕ → ℕ → ℕ → Type 0
ChainWithin w next mesh a fluxes n t lo hi =
    let old : List ℕ = part w.air a mesh.cells in
    SweepWithin w next mesh a n t lo hi (air_after mesh fluxes n old) (gas_after (rule_of w t) mesh fluxes n old (part (gas w t) a mesh.cells))

-- its middle part: what each of its substeps leaves
each_within :
    (w : World) → Fits w → (mesh : Mesh) (a : ℕ) (fluxes : List ℤ) (n : ℕ) → Sweeps w mesh a fluxes n →
    ((c : ℕ) → 1 ≤ face_count (mesh.sides c)) → (t lo hi : ℕ) → HasFixed w t lo hi → (s c : ℕ) → s < n → c < mesh.cells →
    let old : List ℕ = part w.air a mesh.cells in
    let had : ℕ → List ℕ = gas_after (rule_of w t) mesh fluxes n old (part (gas w t) a mesh.cells) in
    RatiosWithin lo hi mesh.cells (is_near mesh c) (air_after mesh fluxes n old s) (had s) →
    WithinBounds lo hi (face_count (mesh.sides c)) (at (air_after mesh fluxes n old (suc s)) c) (at (had (suc s)) c)
each_within w fits mesh a fluxes n sweeps faces t lo hi is_fixed s c hs hc =
    rw (fixed_rule_lem w t lo hi is_fixed)
    (sweep_within lo hi mesh sweeps.regular fluxes n (part w.air a mesh.cells) (part (gas w t) a mesh.cells) (cells_in_lem a mesh.cells (world_cells w.grid) sweeps.inside w.air fits.air) sweeps.serving s c hs hc (faces c))

sweeps_within :
    (w : World) → Fits w → (mesh : Mesh) (a : ℕ) (fluxes : List ℤ) (n : ℕ) → Sweeps w mesh a fluxes n →
    ((c : ℕ) → 1 ≤ face_count (mesh.sides c)) → (t lo hi : ℕ) → t < w.grid.N → HasFixed w t lo hi →
    ChainWithin w (swept w mesh a fluxes n) mesh a fluxes n t lo hi
unfolding air_after gas_after
sweeps_within w fits mesh a fluxes n sweeps faces t lo hi h fixed =
    record {
      air_start = refl;
      gas_start = refl;
      each = each_within w fits mesh a fluxes n sweeps faces t lo hi fixed;
      air_end = sym (swept_air w fits mesh a fluxes n sweeps);
      gas_end = sym (swept_gas w fits mesh a fluxes n sweeps t h);
    }

layer_faces : (W R c : ℕ) → 1 ≤ W → 1 ≤ face_count ((layer W R).sides c)
unfolding layer
layer_faces W R zero h = h
layer_faces W R (suc j) h = go (ltb j (R * W))
  where
    go : (b : Bool) → 1 ≤ face_count (elim b [ true ↦ between j (W + j) | false ↦ north_cap (R * W) W ])
    go true = omega arith
    go false = h

module _ (w : World) (t lo hi : ℕ) (h : t < w.grid.N) (fixed : HasFixed w t lo hi) where
  abbrev g : Grid
  g = w.grid

  pub zonal_within :
      (k r : ℕ) (fluxes : List ℤ) → (step w (zonal k r fluxes)).answer ≡ 0 →
      ChainWithin w (step w (zonal k r fluxes)).next (ring g.W) (row_start g k r) fluxes (zonal_count w k r fluxes) t lo hi
  unfolding ring accepted
  zonal_within k r fluxes e =
      let none = sym (answer_is w (zonal k r fluxes)) ∙ e in
      rw (step_accepted w (zonal k r fluxes) none)
      (sweeps_within w (accepted_passed w (zonal k r fluxes) none).0 (ring g.W) (row_start g k r) fluxes _ (zonal_sweeps k r fluxes w none) (λ c. omega arith) t lo hi h fixed)

  pub given_within :
      (k r n : ℕ) (fluxes : List ℤ) → (step w (zonal_with_count k r n fluxes)).answer ≡ 0 →
      ChainWithin w (step w (zonal_with_count k r n fluxes)).next (ring g.W) (row_start g k r) fluxes n t lo hi
  unfolding ring accepted
  given_within k r n fluxes e =
      let none = sym (answer_is w (zonal_with_count k r n fluxes)) ∙ e in
      let passed = accepted_passed w (zonal_with_count k r n fluxes) none in
      rw (step_accepted w (zonal_with_count k r n fluxes) none)
      (sweeps_within w passed.0 (ring g.W) (row_start g k r) fluxes n (given_sweeps k r n fluxes w passed.2) (λ c. omega arith) t lo hi h fixed)

  pub meridional_within :
      (k : ℕ) (fluxes : List ℤ) → (step w (meridional k fluxes)).answer ≡ 0 →
      ChainWithin w (step w (meridional k fluxes)).next (layer g.W g.R) (layer_start g k) fluxes 1 t lo hi
  unfolding accepted
  meridional_within k fluxes e =
      let none = sym (answer_is w (meridional k fluxes)) ∙ e in
      let fits = (accepted_passed w (meridional k fluxes) none).0 in
      rw (step_accepted w (meridional k fluxes) none)
      (sweeps_within w fits (layer g.W g.R) (layer_start g k) fluxes 1 (meridional_sweeps k fluxes w none)
      (λ c. layer_faces g.W g.R c (omega (arith, (in_range_lem g fits.grid).low_w)))
      t lo hi h fixed)

  -- every cell of the world after a remap: new layer j of the column at place c
  pub remap_within :
      (table : List ℕ) → (step w (remap table)).answer ≡ 0 → (c j : ℕ) → c < layer_cells g → j < g.K →
      RatiosWithin lo hi g.K (is_near_layer g.K (share_air table (column g w.air c) (column_air g w.air c) j)) (column g w.air c) (column g (gas w t) c) →
      let next = (step w (remap table)).next in
      WithinBounds lo hi 1 (at next.air (layer_start g j + c)) (at (gas next t) (layer_start g j + c))
  unfolding accepted remapped
  remap_within table e c j hc hj ratios =
      let none = sym (answer_is w (remap table)) ∙ e in
      let fits = (accepted_passed w (remap table) none).0 in
      rw (
        step_accepted w (remap table) none,
        gas_moved_lem w (remapped_air g table w.air) (λ t. remapped_gas (rule_of w t) g table w.air) (λ t h. length_remapped _ _ _ _ _) t h,
        remapped_air_at g table w.air j c hj hc,
        remapped_gas_at g table w.air j c hj hc (rule_of w t) (gas w t),
        fixed_rule_lem w t lo hi fixed,
      )
      (new_layer_within lo hi (is_cap g c) g.K table (column g w.air c) (column g (gas w t) c) (λ k hk. rw (at_column g w.air c k hk) (fits.air _ (cell_in_lem g k c hk hc))) (remap_edges table w none c hc) j hj ratios)

  -- every cell of the row after a long sweep
  pub long_sweep_within :
      (k r : ℕ) (fluxes : List ℤ) → (step w (long_zonal k r fluxes)).answer ≡ 0 → (i : ℕ) → i < g.W →
      let cells : List ℕ → List ℕ = λ l. part l (row_start g k r) g.W in
      RatiosWithin lo hi g.W (is_near_overlap g.W (overlaps g.W fluxes (cells w.air) i)) (cells w.air) (cells (gas w t)) →
      let next = (step w (long_zonal k r fluxes)).next in
      WithinBounds lo hi 1 (at (cells next.air) i) (at (cells (gas next t)) i)
  unfolding accepted long_swept
  long_sweep_within k r fluxes e i hi' ratios =
      let none = sym (answer_is w (long_zonal k r fluxes)) ∙ e in
      let fits = (accepted_passed w (long_zonal k r fluxes) none).0 in
      let sweeps = long_sweeps k r fluxes w none in
      let a = row_start g k r in
      let W = g.W in
      let old = part w.air a W in
      rw (
        step_accepted w (long_zonal k r fluxes) none,
        part_air_is w fits a W sweeps.inside (long_air W fluxes old) (λ t. long_gas (rule_of w t) W fluxes old) (length_long_air W fluxes old) (λ t had e. length_long_gas (rule_of w t) W fluxes old had),
        part_gas_is w fits a W sweeps.inside (long_air W fluxes old) (λ t. long_gas (rule_of w t) W fluxes old) (length_long_air W fluxes old) (λ t had e. length_long_gas (rule_of w t) W fluxes old had) t h,
        fixed_rule_lem w t lo hi fixed,
      )
      (long_within_lem lo hi W fluxes old (part (gas w t) a W) sweeps.serves (cells_in_lem a W (world_cells g) sweeps.inside w.air fits.air) i hi' ratios)

-- ---- "The range claim covers the first only": demand 3's own range is false for the second, and for the third with the widest bounds, in column 2 of a row, which gets 24 units of air and 41 of tracer; the first leaves 39 (y7-20)
abbrev uneven : Limiter → World
uneven l = lent (grid 4 1 1 1) (six 100 47 6 38 39 100) (six 0 26 3 60 58 0) (blocks (l ∷ []))

abbrev gale : Call
gale = zonal 0 0 (four (pos 19) (minus 13) (pos 1) (minus 12))

abbrev pub InRangeBy : Limiter → Type 0
InRangeBy l = CallInRange (uneven l) (step (uneven l) gale).next 0 gale

abbrev pub cell_by : Limiter → (World → List ℕ) → ℕ
cell_by l amounts = at (amounts (step (uneven l) gale).next) 3

pub range_of_the_first_only : (InRangeBy positive → ⊥) × (InRangeBy (fixed 0 most) → ⊥)
unfolding blocks computes substep_in_range in_range is_near
range_of_the_first_only = (
  λ r. false≢true (r.each 0 2 (lit< tt) (lit< tt)),
  λ r. false≢true (r.each 0 2 (lit< tt) (lit< tt)),
)

pub cells_of_the_three :
    (cell_by first (λ w. w.tracers) ≡ 39) × (cell_by positive (λ w. w.tracers) ≡ 41) × (cell_by (fixed 0 most) (λ w. w.tracers) ≡ 41)
    × (cell_by positive (λ w. w.air) ≡ 24)
unfolding blocks computes
cells_of_the_three = (refl, refl, refl, refl)
