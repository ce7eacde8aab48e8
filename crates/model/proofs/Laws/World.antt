-- Laws of the world with another amount of one tracer in one cell, and of the world after a call that moves air: the tracers' amounts and totals.
-- Assumes that the cell is one of the world's, and for the total that the tracer's amounts are all there.
use Rattle.std.specs.Prelude.{ℕ, suc, ◌+◌, ◌*◌, ◌≤◌, ◌<◌, Bool, true, false, ◌≡◌, refl, ◌≢◌, ltb, length, set, get_or, take}
use mathlib.Core.List.{List, []}
use Rattle.std.proofs.Common.{◌∙◌, mul-le-mul_right, arith, ltb-true, ltb-false, drop_of_length-le}
use Rattle.std.proofs.Math.Path.{ap}
use Rattle.std.proofs.Math.Seq.{take-nil}
use Rattle.model.specs.Limits.{block_numbers}
use Rattle.model.specs.Basic.{part, tab, joined}
use Rattle.model.specs.World.{World, world_cells, tracer_start, gas, gas_total, block, with_block, moved}
use Rattle.model.specs.Step.{with_amount, amount_at}
use Rattle.model.proofs.Laws.Basic.{sum_set, length_tab, get_d_tab, Each, length_joined, part_joined, length_part, length_rewritten, part_rewritten, part_not_rewritten, part_set_within, part_set_behind, part_set_before}

-- a list of parts of n entries each, with one entry of part t set: part t' is as it was
part_set_elsewhere : (l : List ℕ) (n t t' c x : ℕ) → c < n → t' ≢ t → part (set l (t * n + c) x) (t' * n) n ≡ part l (t' * n) n
part_set_elsewhere l n t t' c x h other = go (ltb t' t) refl
  where
    go : (b : Bool) → ltb t' t ≡ b → part (set l (t * n + c) x) (t' * n) n ≡ part l (t' * n) n
    go true e = part_set_behind l (t' * n) n (t * n + c) x (omega (arith, mul-le-mul_right n (ltb-true t' t e)))
    go false e =
        let later : suc t ≤ t' = omega (arith, ltb-false t' t e) in
        part_set_before l (t' * n) n (t * n + c) x (omega (arith, mul-le-mul_right n later))

-- each tracer of the grid has an amount in each cell
pub length_gas :
    (w : World) (t : ℕ) → length w.tracers ≡ w.grid.N * world_cells w.grid → t < w.grid.N →
    length (gas w t) ≡ world_cells w.grid
length_gas w t fits h =
    length_part w.tracers (tracer_start w.grid t) (world_cells w.grid)
    (omega (arith, mul-le-mul_right (world_cells w.grid) h))

module _ (w : World) (t c x : ℕ) (inside : c < world_cells w.grid) where
  pub gas_changed : gas (with_amount w t c x) t ≡ set (gas w t) c x
  gas_changed = part_set_within w.tracers (tracer_start w.grid t) (world_cells w.grid) c x inside

  pub gas_unchanged : (t' : ℕ) → t' ≢ t → gas (with_amount w t c x) t' ≡ gas w t'
  gas_unchanged t' other = part_set_elsewhere w.tracers (world_cells w.grid) t t' c x inside other

  pub total_changed : length (gas w t) ≡ world_cells w.grid → gas_total (with_amount w t c x) t + amount_at w t c ≡ gas_total w t + x
  total_changed fits = rw gas_changed (sum_set (world_cells w.grid) (gas w t) c x inside (omega arith))

-- an absent tracer has no amounts
pub gas_absent : (w : World) (t : ℕ) → length w.tracers ≡ w.grid.N * world_cells w.grid → w.grid.N ≤ t → gas w t ≡ []
gas_absent w t fits h =
    ap (take (world_cells w.grid)) (drop_of_length-le w.tracers {i = tracer_start w.grid t} (omega (arith, mul-le-mul_right (world_cells w.grid) h))) ∙
    take-nil (world_cells w.grid)

-- nor has it a block of the ledger
pub block_absent : (w : World) (t : ℕ) → length w.ledger ≡ w.grid.N * block_numbers → w.grid.N ≤ t → block w t ≡ []
block_absent w t fits h =
    ap (take block_numbers) (drop_of_length-le w.ledger {i = t * block_numbers} (omega (arith, mul-le-mul_right block_numbers h))) ∙
    take-nil block_numbers

-- a tracer of the grid has a block, and the world with another block of tracer t
pub length_block : (w : World) (t : ℕ) → length w.ledger ≡ w.grid.N * block_numbers → t < w.grid.N → length (block w t) ≡ block_numbers
length_block w t long there =
    length_part w.ledger (t * block_numbers) block_numbers (omega (arith, mul-le-mul_right block_numbers there))

module _
    (w : World) (long : length w.ledger ≡ w.grid.N * block_numbers) (t : ℕ) (there : t < w.grid.N) (new : List ℕ)
    (many : length new ≡ block_numbers) where
  pub length_with_block : length (with_block w t new).ledger ≡ w.grid.N * block_numbers
  length_with_block = length_rewritten w.ledger new w.grid.N block_numbers t long many there

  pub block_changed : block (with_block w t new) t ≡ new
  block_changed = part_rewritten w.ledger new w.grid.N block_numbers t long many there

  pub block_unchanged : (u : ℕ) → u ≢ t → block (with_block w t new) u ≡ block w u
  block_unchanged = part_not_rewritten w.ledger new w.grid.N block_numbers t long many there

-- blocks of n numbers, one after the other
module _ (count n : ℕ) (f : ℕ → List ℕ) (as_many : (t : ℕ) → t < count → length (f t) ≡ n) where
  blocks : List (List ℕ)
  blocks = tab count f

  many : length blocks ≡ count
  unfolding blocks
  many = length_tab count f

  block_at : (t : ℕ) → t < count → get_or blocks t [] ≡ f t
  unfolding blocks
  block_at t h = get_d_tab count f t [] h

  each : Each n blocks
  each t h = let p : t < count = rw many at h in rw (block_at t p) (as_many t p)

  pub length_blocks : length (joined (tab count f)) ≡ count * n
  unfolding blocks
  length_blocks = length_joined n blocks each ∙ ap (λ (m : ℕ). m * n) many

  pub part_blocks : (t : ℕ) → t < count → part (joined (tab count f)) (t * n) n ≡ f t
  unfolding blocks
  part_blocks t h = part_joined n blocks each t (rw many h) ∙ block_at t h

-- the world after a call that moves air: each tracer's amounts are the changed ones, if these are as many
module _
    (w : World) (air : List ℕ) (change : ℕ → List ℕ → List ℕ)
    (as_many : (t : ℕ) → t < w.grid.N → length (change t (gas w t)) ≡ world_cells w.grid) where
  pub length_moved : length (moved w air change).tracers ≡ w.grid.N * world_cells w.grid
  length_moved = length_blocks w.grid.N (world_cells w.grid) (λ t. change t (gas w t)) as_many

  pub gas_moved_lem : (t : ℕ) → t < w.grid.N → gas (moved w air change) t ≡ change t (gas w t)
  gas_moved_lem = part_blocks w.grid.N (world_cells w.grid) (λ t. change t (gas w t)) as_many
