-- A grid in its ranges: its bounds, the greatest numbers of cells, faces and amounts, that its layers and rows lie among its cells, and that two of them lie apart.
use Rattle.std.specs.Prelude.{ℕ, suc, ◌+◌, ◌*◌, ◌≤◌, ◌<◌, true, ◌≡◌, ◌≢◌, ◌⊎◌, leb}
use Rattle.std.proofs.Math.Bool.{and-eq-true_iff}
use Rattle.std.proofs.Common.{inl, inr, mul-le-mul, mul-le-mul_right, arith, leb-true}
use Rattle.std.proofs.Math.Decide.{ℕ_discrete}
use Rattle.model.specs.Limits.{most_columns, most_rows, most_layers, most_tracers, most_layer_cells, most_faces, most_cells, most_amounts}
use Rattle.model.specs.World.{Grid, layer_cells, world_cells, layer_start, row_start}
use Rattle.model.specs.Step.{within, grid_fits}
use Rattle.model.proofs.Laws.Basic.{le_or_lt, Apart}

-- W, R, K and N are in their ranges
pub record InRange (g : Grid) : Type 0 where
  pub low_w : 4 ≤ g.W
  pub high_w : g.W ≤ most_columns
  pub low_r : 1 ≤ g.R
  pub high_r : g.R ≤ most_rows
  pub low_k : 1 ≤ g.K
  pub high_k : g.K ≤ most_layers
  pub low_n : 1 ≤ g.N
  pub high_n : g.N ≤ most_tracers

within_true : (low n high : ℕ) → within low n high ≡ true → (low ≤ n) × (n ≤ high)
within_true low n high e =
    let p = (and-eq-true_iff (leb low n) (leb n high)).0 e in
    (leb-true low n p.0, leb-true n high p.1)

-- what a passed place 1 tells
pub in_range_lem : (g : Grid) → grid_fits g ≡ true → InRange g
in_range_lem g e =
    let p = (and-eq-true_iff _ (within 1 g.N most_tracers)).0 e in
    let q = (and-eq-true_iff _ (within 1 g.K most_layers)).0 p.0 in
    let r = (and-eq-true_iff (within 4 g.W most_columns) (within 1 g.R most_rows)).0 q.0 in
    let columns = within_true 4 g.W most_columns r.0 in
    let rows = within_true 1 g.R most_rows r.1 in
    let layers = within_true 1 g.K most_layers q.1 in
    let tracers = within_true 1 g.N most_tracers p.1 in
    record {
      low_w = columns.0;
      high_w = columns.1;
      low_r = rows.0;
      high_r = rows.1;
      low_k = layers.0;
      high_k = layers.1;
      low_n = tracers.0;
      high_n = tracers.1;
    }

-- ---- the greatest numbers
pub layer_cells_most : {g : Grid} → InRange g → layer_cells g ≤ most_layer_cells
layer_cells_most range = omega (arith, mul-le-mul {n₂ = most_rows} {m₂ = most_columns} range.high_r range.high_w)

pub faces_most : {g : Grid} → InRange g → g.W * (g.R + 1) ≤ most_faces
faces_most {g} range =
    let rows : g.R + 1 ≤ suc most_rows = omega (arith, range.high_r) in
    mul-le-mul {n₂ = most_columns} {m₂ = suc most_rows} range.high_w rows

pub cells_most_lem : {g : Grid} → InRange g → world_cells g ≤ most_cells
cells_most_lem range = mul-le-mul {n₂ = most_layers} {m₂ = most_layer_cells} range.high_k (layer_cells_most range)

pub amounts_most : {g : Grid} → InRange g → g.N * world_cells g ≤ most_amounts
amounts_most range = mul-le-mul {n₂ = most_tracers} {m₂ = most_cells} range.high_n (cells_most_lem range)

-- ---- a layer's cells, and a row's, lie among the world's
pub layer_inside : (g : Grid) (k : ℕ) → k < g.K → layer_start g k + layer_cells g ≤ world_cells g
layer_inside g k h = omega (arith, mul-le-mul_right (layer_cells g) h)

pub row_inside_lem : (g : Grid) (k r : ℕ) → k < g.K → r < g.R → row_start g k r + g.W ≤ world_cells g
row_inside_lem g k r hk hr =
    omega (arith, mul-le-mul_right (layer_cells g) hk, mul-le-mul_right g.W hr)

-- ---- two layers, and two rows of the grid, lie apart
row_in_layer : (g : Grid) (k r : ℕ) → r < g.R → row_start g k r + g.W ≤ layer_start g k + layer_cells g
row_in_layer g k r h = omega (arith, mul-le-mul_right g.W h)

-- a layer, and a row of another one
pub layer_apart : (g : Grid) (l k r : ℕ) → r < g.R → l ≢ k → Apart (layer_start g l) (layer_cells g) (row_start g k r) g.W
layer_apart g l k r h other = go (le_or_lt l k)
  where
    go : (l ≤ k) ⊎ (k < l) → Apart (layer_start g l) (layer_cells g) (row_start g k r) g.W
    go (inl before) = let above : suc l ≤ k = omega arith in inr (omega (arith, mul-le-mul_right (layer_cells g) above))
    go (inr behind) = inl (omega (arith, row_in_layer g k r h, mul-le-mul_right (layer_cells g) behind))

-- two rows, of two layers or of one
pub rows_apart :
    (g : Grid) (l s k r : ℕ) → s < g.R → r < g.R → (l ≡ k → s ≢ r) → Apart (row_start g l s) g.W (row_start g k r) g.W
rows_apart g l s k r hs hr other = go (ℕ_discrete l k)
  where
    one_layer : s ≢ r → (s ≤ r) ⊎ (r < s) → Apart (row_start g k s) g.W (row_start g k r) g.W
    one_layer differs (inl before) = let south : suc s ≤ r = omega arith in inr (omega (arith, mul-le-mul_right g.W south))
    one_layer differs (inr behind) = inl (omega (arith, mul-le-mul_right g.W behind))

    two_layers_lem : Apart (layer_start g l) (layer_cells g) (row_start g k r) g.W → Apart (row_start g l s) g.W (row_start g k r) g.W
    two_layers_lem (inl below) = inl (omega arith)
    two_layers_lem (inr above) = inr (omega (arith, row_in_layer g l s hs))

    go : Dec (l ≡ k) → Apart (row_start g l s) g.W (row_start g k r) g.W
    go (yes e) = rw e (one_layer (other e) (le_or_lt s r))
    go (no e) = two_layers_lem (layer_apart g l k r hr e)
