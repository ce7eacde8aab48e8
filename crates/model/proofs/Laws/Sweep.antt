-- What a sweep of some of the world's cells keeps, over any regular mesh: inside the swept cells, outside them, and in two worlds alike.
-- Assumes a world that passes places 1 to 4, or, for what is kept, one that calls reach; the swept cells inside it, and a count that serves.
use Rattle.std.specs.Prelude.{ℕ, ◌+◌, ◌≤◌, ◌<◌, List, Bool, true, ◌≡◌, refl, length, ℤ}
use Rattle.std.proofs.Common.{true≢false, sym, le_refl, arith}
use Rattle.std.proofs.Math.Path.{ap₂}
use Rattle.model.specs.Limits.{most_substeps}
use Rattle.model.specs.Basic.{at, part}
use Rattle.model.specs.World.{Grid, World, world_cells, gas}
use Rattle.model.specs.Scheme.{Rule}
use Rattle.model.specs.Limiters.{rule_of}
use Rattle.model.specs.Sweep.{Mesh, air_after, gas_after, serves, swept}
use Rattle.model.specs.Range.{SweepInRange}
use Rattle.model.specs.Step.{Place, first_of, no_exchange, sweeps}
use Rattle.model.specs.Lists.{has_first, Alike}
use Rattle.model.proofs.Laws.Basic.{length_part}
use Rattle.model.proofs.Laws.Scheme.{Limited}
use Rattle.model.proofs.Laws.Mesh.{Regular}
use Rattle.model.proofs.Laws.Substep.{AirIn, air_bounds}
use Rattle.model.proofs.Laws.Chain.{length_air_after, length_gas_after, air_after_in, air_after_total, gas_after_total, even_chain}
use Rattle.model.proofs.Laws.Step.{Fits}
use Rattle.model.proofs.Laws.Limiters.{rule_limited, rule_monotone}
use Rattle.model.proofs.Laws.Range.{sweep_in_range}
use Rattle.model.proofs.Laws.Keeps.{Keeps, MeaningKeeps}
use Rattle.model.proofs.Laws.Moved.{KeepsAir, KeepsGas}
use Rattle.model.proofs.Laws.Part.{cells_in_lem, part_keeps, ChangesOnly, part_air_is, part_gas_is, part_only, SameCells, part_alike, part_same}

-- ---- what is known of a sweep that is accepted: its mesh, where its cells lie, and its count
pub record Sweeps (w : World) (mesh : Mesh) (a : ℕ) (fluxes : List ℤ) (n : ℕ) : Type 0 where
  pub regular : Regular mesh
  pub inside : a + mesh.cells ≤ world_cells w.grid
  pub positive : 1 ≤ n
  pub most : n ≤ most_substeps
  pub serving : serves mesh fluxes (part w.air a mesh.cells) n ≡ true

-- ---- the chain from the swept cells before to those afterwards keeps them
module _
    (mesh : Mesh) (regular : Regular mesh) (fluxes : List ℤ) (n : ℕ) (old : List ℕ) (many : length old ≡ mesh.cells)
    (old_in : AirIn mesh.cells old) (serving : serves mesh fluxes old n ≡ true) where
  chain_air_lem : KeepsAir mesh.cells old (air_after mesh fluxes n old n)
  chain_air_lem =
      record {
        air_length = length_air_after mesh fluxes n old many n;
        air_in = air_after_in mesh regular fluxes old n old_in serving n (le_refl n);
        air_kept = air_after_total mesh regular fluxes old n old_in serving n (le_refl n);
      }

  chain_gas_lem : {rule : Rule} → Limited rule → KeepsGas mesh.cells old (air_after mesh fluxes n old n) (λ had. gas_after rule mesh fluxes n old had n)
  chain_gas_lem {rule} limited =
      record {
        gas_length = λ had e. length_gas_after mesh fluxes n old rule had e n;
        gas_kept = λ had e. gas_after_total mesh regular fluxes old n old_in serving limited had n (le_refl n);
        even_kept = λ had z e even. even_chain mesh regular fluxes old n old_in serving limited had z even n (le_refl n);
      }

-- ---- a sweep of a world's cells
module _ (w : World) (fits : Fits w) (mesh : Mesh) (a : ℕ) (fluxes : List ℤ) (n : ℕ) (s : Sweeps w mesh a fluxes n) where
  abbrev old : List ℕ
  old = part w.air a mesh.cells

  old_many : length old ≡ mesh.cells
  old_many = length_part w.air a mesh.cells (omega (arith, fits.air_length, s.inside))

  old_in_lem : AirIn mesh.cells old
  old_in_lem = cells_in_lem a mesh.cells (world_cells w.grid) s.inside w.air fits.air

  -- each of the swept cells has air
  pub swept_cells_air : (c : ℕ) → c < mesh.cells → 1 ≤ at (part w.air a mesh.cells) c
  swept_cells_air c h = (air_bounds (at old c) (old_in_lem c h)).0

  -- the swept cells afterwards are the end of the chain
  pub swept_air : part (swept w mesh a fluxes n).air a mesh.cells ≡ air_after mesh fluxes n (part w.air a mesh.cells) n
  unfolding swept
  swept_air =
      part_air_is w fits a mesh.cells s.inside (air_after mesh fluxes n old n) (λ t had. gas_after (rule_of w t) mesh fluxes n old had n)
      (length_air_after mesh fluxes n old old_many n)
      (λ t had e. length_gas_after mesh fluxes n old (rule_of w t) had e n)

  pub swept_gas :
      (t : ℕ) → t < w.grid.N →
      part (gas (swept w mesh a fluxes n) t) a mesh.cells ≡ gas_after (rule_of w t) mesh fluxes n (part w.air a mesh.cells) (part (gas w t) a mesh.cells) n
  unfolding swept
  swept_gas =
      part_gas_is w fits a mesh.cells s.inside (air_after mesh fluxes n old n) (λ t had. gas_after (rule_of w t) mesh fluxes n old had n)
      (length_air_after mesh fluxes n old old_many n)
      (λ t had e. length_gas_after mesh fluxes n old (rule_of w t) had e n)

  pub swept_changes_only : ChangesOnly w (swept w mesh a fluxes n) a mesh.cells
  unfolding swept
  swept_changes_only =
      part_only w fits a mesh.cells s.inside (air_after mesh fluxes n old n) (λ t had. gas_after (rule_of w t) mesh fluxes n old had n)
      (length_air_after mesh fluxes n old old_many n)
      (λ t had e. length_gas_after mesh fluxes n old (rule_of w t) had e n)

  pub swept_keeps : Keeps w (swept w mesh a fluxes n) (λ t. no_exchange)
  unfolding swept
  swept_keeps =
      part_keeps w fits a mesh.cells s.inside _ _
      (chain_air_lem mesh s.regular fluxes n old old_many old_in_lem s.serving)
      (λ t. chain_gas_lem mesh s.regular fluxes n old old_many old_in_lem s.serving (rule_limited w t))

-- ---- a sweep in two worlds, where mesh and start come from the grid, and the count from the grid and the air of the swept cells
module _ (mesh_of : Grid → Mesh) (start_of : Grid → ℕ) (count_of : Grid → List ℕ → ℕ) (fluxes : List ℤ) where
  abbrev cells_in : Grid → List ℕ → List ℕ
  cells_in g l = part l (start_of g) (mesh_of g).cells

  abbrev swept_of : World → World
  swept_of w = swept w (mesh_of w.grid) (start_of w.grid) fluxes (count_of w.grid (cells_in w.grid w.air))

  abbrev chain_air : Grid → List ℕ → List ℕ
  chain_air g row = air_after (mesh_of g) fluxes (count_of g row) row (count_of g row)

  abbrev chain_gas : Rule → Grid → List ℕ → List ℕ → List ℕ
  chain_gas rule g row had = gas_after rule (mesh_of g) fluxes (count_of g row) row had (count_of g row)

  air_many : (g : Grid) (row : List ℕ) → length row ≡ (mesh_of g).cells → length (chain_air g row) ≡ (mesh_of g).cells
  air_many g row e = length_air_after (mesh_of g) fluxes (count_of g row) row e (count_of g row)

  gas_many : (rule : Rule) (g : Grid) (row had : List ℕ) → length had ≡ (mesh_of g).cells → length (chain_gas rule g row had) ≡ (mesh_of g).cells
  gas_many rule g row had e = length_gas_after (mesh_of g) fluxes (count_of g row) row rule had e (count_of g row)

  -- worlds alike stay alike
  swept_alike :
      (own : ℕ → Bool) (w v : World) → Fits w → Fits v → Alike own w v →
      start_of w.grid + (mesh_of w.grid).cells ≤ world_cells w.grid →
      Alike own (swept_of w) (swept_of v) × (count_of w.grid (cells_in w.grid w.air) ≡ count_of v.grid (cells_in v.grid v.air))
  unfolding swept
  swept_alike own w v fw fv alike inside = (
    part_alike start_of (λ g. (mesh_of g).cells) chain_air chain_gas air_many gas_many own w v fw fv alike inside,
    ap₂ count_of alike.same_grid (ap₂ cells_in alike.same_grid alike.same_air),
  )

  -- the swept cells afterwards come from the swept cells before
  pub swept_same :
      (w v : World) → Fits w → Fits v → start_of w.grid + (mesh_of w.grid).cells ≤ world_cells w.grid →
      SameCells start_of (λ g. (mesh_of g).cells) w v → SameCells start_of (λ g. (mesh_of g).cells) (swept_of w) (swept_of v)
  unfolding swept
  swept_same = part_same start_of (λ g. (mesh_of g).cells) chain_air chain_gas air_many gas_many

-- ---- its range, from the amounts before it to those in the world after it
swept_in_range :
    (w : World) → Fits w → (mesh : Mesh) (a : ℕ) (fluxes : List ℤ) (n : ℕ) → Sweeps w mesh a fluxes n →
    (t : ℕ) → t < w.grid.N → has_first w t ≡ true →
    let air : List ℕ = part w.air a mesh.cells in
    SweepInRange w (swept w mesh a fluxes n) mesh a n t (air_after mesh fluxes n air) (gas_after (rule_of w t) mesh fluxes n air (part (gas w t) a mesh.cells))
unfolding air_after gas_after
swept_in_range w fits mesh a fluxes n s t h first =
    record {
      air_start = refl;
      gas_start = refl;
      each = sweep_in_range (rule_limited w t) (rule_monotone w t first) mesh s.regular fluxes n _ _ (swept_cells_air w fits mesh a fluxes n s) s.serving;
      air_end = sym (swept_air w fits mesh a fluxes n s);
      gas_end = sym (swept_gas w fits mesh a fluxes n s t h);
    }

-- ---- a call that sweeps keeps what a call keeps, if its places read the grid and the air alone, and tell that the sweep is as above
module _ (mesh_of : Grid → Mesh) (start_of : Grid → ℕ) (count_of : Grid → List ℕ → ℕ) (fluxes : List ℤ) (lent : Grid → Bool) (ps : List Place) where
  abbrev count_in : World → ℕ
  count_in w = count_of w.grid (part w.air (start_of w.grid) (mesh_of w.grid).cells)

  pub sweeps_keep :
      ((own : ℕ → Bool) (w v : World) → Alike own w v → first_of ps w ≡ first_of ps v) →
      ((w : World) → first_of ps w ≡ 0 → Sweeps w (mesh_of w.grid) (start_of w.grid) fluxes (count_in w)) →
      MeaningKeeps (sweeps mesh_of start_of fluxes count_in lent ps)
  unfolding swept
  sweeps_keep places passed =
      record {
        same_places = λ own w v ww vv a named. places own w v a;
        accepts =
            λ w fits e.
            let s = passed w e in
            record {
              keeps = swept_keeps w fits _ _ fluxes _ s;
              in_range = swept_in_range w fits _ _ fluxes _ s;
              alike = λ own v fv a named. swept_alike mesh_of start_of count_of fluxes own w v fits fv a s.inside;
              apart = λ own other. absurd (true≢false other);
            };
      }
