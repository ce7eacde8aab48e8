-- The promise of the fixed limiter, the rule `bounded lo hi`: where the ratio of every cell near a cell is from lo to hi, so is its own afterwards, but for less than one unit of tracer for each of its faces; after a remap or a long sweep, for less than one unit.
-- Assumes what the range does (Laws/Range, Laws/Column, Laws/Long), and in a substep that the cell has a face.
use Rattle.std.specs.Prelude.{ℕ, suc, ◌+◌, ◌*◌, ◌≤◌, ◌<◌, List, Bool, ◌≡◌, ℤ}
use Rattle.std.proofs.Math.Bool.{true, false}
use Rattle.std.proofs.Common.{le_trans, arith}
use Rattle.model.specs.Limits.{scale}
use Rattle.model.specs.Basic.{at}
use Rattle.model.specs.Scheme.{ratio, bounded}
use Rattle.model.specs.Sweep.{Mesh, Flow, after_flow, allowed, cell_ratio, pieces, air_after, gas_after, serves}
use Rattle.model.specs.Remap.{air_above, layers, new_air, new_tracer, share_air}
use Rattle.model.specs.Long.{long_air, long_gas}
use Rattle.model.specs.Range.{is_near, face_count, is_near_layer, overlaps, is_near_overlap}
use Rattle.model.proofs.Laws.Basic.{every_at}
use Rattle.model.proofs.Laws.Scheme.{bounded_below, bounded_above, bounded_limited}
use Rattle.model.proofs.Laws.Mesh.{Regular}
use Rattle.model.proofs.Laws.Substep.{AirIn, air_bounds}
use Rattle.model.proofs.Laws.Chain.{air_after_in}
use Rattle.model.proofs.Laws.Fractions.{lost, floor_within, leaning_most, gap, CellRoom, room_gap, Roomy, Near, Bounded}
use Rattle.model.proofs.Laws.Range.{substep_bounded, allowed_gives}
use Rattle.model.proofs.Laws.Column.{Edges, new_layer_bounded}
use Rattle.model.proofs.Laws.Long.{LongServes, long_bounded}

-- the ratios of the cells `there` are from lo to hi
abbrev pub RatiosWithin : (lo hi n : ℕ) (there : ℕ → Bool) (air gas : List ℕ) → Type 0
RatiosWithin lo hi n there air gas = (d : ℕ) → d < n → there d ≡ true → (lo ≤ cell_ratio air gas d) × (cell_ratio air gas d ≤ hi)

-- with f units more T' is above the ratio lo, and with f units fewer below the ratio hi + 1
abbrev pub WithinBounds : (lo hi f M' T' : ℕ) → Type 0
WithinBounds lo hi f M' T' = (lo * M' < scale * (T' + f)) × (scale * T' < (hi + 1) * M' + scale * f)

-- ---- the room of the rule
module _ (lo hi : ℕ) where
  -- the ratio that bounds from above, and the one that bounds from below
  abbrev bound : Bool → ℕ
  bound true = hi
  bound false = lo

  bounded_most : (b : Bool) (qa q qb : ℕ) → (bounded lo hi qa q qb).size ≤ 2 * gap b q (bound b)
  bounded_most true qa q qb = bounded_above lo hi qa q qb
  bounded_most false qa q qb = bounded_below lo hi qa q qb

  -- a cell with air and a ratio from lo to hi may lean by twice what its ratio has to the bound
  abbrev Fits : ℕ → ℕ → Type 0
  Fits M T = (0 < M) × (lo ≤ ratio M T) × (ratio M T ≤ hi)

  fixed_room : (b : Bool) (M T d : ℕ) → Fits M T → d ≤ 2 * gap b (ratio M T) (bound b) → CellRoom b (bound b + lost b) scale M T d
  unfolding ratio
  fixed_room true M T d fits h =
      room_gap true (hi + 0) scale M T (ratio M T) hi _ d (floor_within false (scale * T) M fits.0) (omega arith) (omega arith) h
  fixed_room false M T d fits h =
      room_gap false (lo + 1) scale M T (ratio M T) lo _ d (floor_within true (scale * T) M fits.0) (omega arith) (omega arith) h

  fixed_roomy : (b : Bool) → Roomy (bounded lo hi) b (bound b + lost b) scale Fits
  fixed_roomy b =
      record {
        level = λ M T fits. fixed_room b M T 0 fits (omega arith);
        high = λ qa M T M₂ T₂ fits fits₂. fixed_room b M T _ fits (le_trans (leaning_most b _ _) (bounded_most b _ _ _));
        low = λ M₁ T₁ M T qb fits₁ fits. fixed_room b M T _ fits (le_trans (leaning_most b _ _) (bounded_most b _ _ _));
      }

  -- ---- the promise, from the range at every scale
  within_bounds :
      (n : ℕ) (there : ℕ → Bool) (air gas : List ℕ) → AirIn n air → RatiosWithin lo hi n there air gas →
      (f M' T' : ℕ) → 1 ≤ f → Bounded (bounded lo hi) n there air gas f M' T' → WithinBounds lo hi f M' T'
  within_bounds n there air gas fits within f M' T' some range = (omega (arith, near false), omega (arith, near true))
    where
      near : (b : Bool) → Near b (bound b + lost b) scale M' T' f
      near b =
          range b _ _ _ (fixed_roomy b)
          (λ d hd t. ((air_bounds (at air d) (fits d hd)).0, (within d hd t).0, (within d hd t).1))

  -- after an allowed substep over any regular mesh
  pub substep_within_lem :
      (mesh : Mesh) → Regular mesh → (flow : Flow) (air gas : List ℕ) → AirIn mesh.cells air → allowed mesh flow air ≡ true →
      (c : ℕ) → c < mesh.cells → 1 ≤ face_count (mesh.sides c) → RatiosWithin lo hi mesh.cells (is_near mesh c) air gas →
      WithinBounds lo hi (face_count (mesh.sides c)) (at (after_flow mesh flow air) c) (at (after_flow mesh (pieces (bounded lo hi) mesh flow air gas) gas) c)
  substep_within_lem mesh regular flow air gas fits ok c hc some within =
      within_bounds mesh.cells (is_near mesh c) air gas fits within (face_count (mesh.sides c)) _ _ some
      (substep_bounded (bounded_limited lo hi) mesh regular flow air gas (λ d hd. (air_bounds (at air d) (fits d hd)).0) (allowed_gives mesh flow air ok) c hc)

  -- after every substep of a sweep in which all are allowed
  pub sweep_within :
      (mesh : Mesh) → Regular mesh → (fluxes : List ℤ) (n : ℕ) (air gas : List ℕ) → AirIn mesh.cells air →
      serves mesh fluxes air n ≡ true → (s c : ℕ) → s < n → c < mesh.cells → 1 ≤ face_count (mesh.sides c) →
      RatiosWithin lo hi mesh.cells (is_near mesh c) (air_after mesh fluxes n air s) (gas_after (bounded lo hi) mesh fluxes n air gas s) →
      WithinBounds lo hi (face_count (mesh.sides c)) (at (air_after mesh fluxes n air (suc s)) c) (at (gas_after (bounded lo hi) mesh fluxes n air gas (suc s)) c)
  unfolding serves air_after gas_after
  sweep_within mesh regular fluxes n air gas fits ok s c h =
      substep_within_lem mesh regular _ _ _ (air_after_in mesh regular fluxes air n fits ok s (omega arith)) (every_at n _ ok s h) c

  -- a new layer of a remap
  pub new_layer_within :
      (cap : Bool) (K : ℕ) (table air gas : List ℕ) → AirIn K air → Edges K table (air_above air K) → (j : ℕ) → j < K →
      RatiosWithin lo hi K (is_near_layer K (share_air table air (air_above air K) j)) air gas →
      WithinBounds lo hi 1 (new_air table (air_above air K) j) (new_tracer table (air_above air K) (layers (bounded lo hi) cap K air gas) j)
  new_layer_within cap K table air gas fits edges j h within =
      within_bounds K _ air gas fits within 1 _ _ (omega arith)
      (new_layer_bounded (bounded_limited lo hi) cap K table air gas (λ k hk. (air_bounds (at air k) (fits k hk)).0) edges j h)

  -- a cell of a row after a long sweep
  pub long_within_lem :
      (W : ℕ) (fluxes : List ℤ) (air gas : List ℕ) → LongServes W fluxes air → AirIn W air → (i : ℕ) → i < W →
      RatiosWithin lo hi W (is_near_overlap W (overlaps W fluxes air i)) air gas →
      WithinBounds lo hi 1 (at (long_air W fluxes air) i) (at (long_gas (bounded lo hi) W fluxes air gas) i)
  long_within_lem W fluxes air gas long fits i h within =
      within_bounds W _ air gas fits within 1 _ _ (omega arith) (long_bounded W fluxes air long fits (bounded_limited lo hi) gas i h)
