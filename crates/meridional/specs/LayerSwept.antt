-- A layer swept in the air and in all tracers, once it is found: what the sweep needs, and that it leaves the model's `swept`.
use Rattle.std.specs.Prelude.{ℕ, ◌+◌, ◌-◌, ◌≤◌, true, ◌≡◌, ℤ, Ok}
use mathlib.Core.List.{List}
use Rattle.std.proofs.Math.Path.{refl, sym, ap, ap₂}
use Rattle.std.proofs.Common.{◌∙◌, le_trans}
use borrow.Rule.Slice.PartMut.{put_mid}
use Rattle.std.proofs.Math.ListN.{length}
use Rattle.model.specs.Limits.{most_cells}
use Rattle.model.specs.Basic.{part, written}
use Rattle.model.specs.World.{World, layer_cells, world_cells, layer_start, with_amounts}
use Rattle.model.specs.Sweep.{Mesh, layer, parts, allowed, after_flow, air_after, gas_after, swept}
use Rattle.model.specs.Step.{layer_air, meridional}
use Rattle.model.proofs.Laws.Grid.{InRange, in_range_lem, cells_most_lem}
use Rattle.model.proofs.Laws.Layer.{layer_regular}
use Rattle.model.proofs.Laws.Part.{cells_in_lem}
use Rattle.model.proofs.Laws.Sweep.{Sweeps}
use Rattle.model.proofs.Laws.Meridional.{meridional_sweeps}
use Rattle.model.proofs.Laws.Substep.{AirIn, length_after_flow}
use Rattle.units.specs.Answer.{Agrees}
use Rattle.units.specs.Agrees.{accepted_agrees}
use Rattle.places.specs.Walk.{none}
use Rattle.substep.specs.Faces.{flow_of, Same, same_allowed, same_after}
use Rattle.substep.specs.Cells.{Moves, air_moves}
use Rattle.units.specs.Lent.{put_back}
use Rattle.layer.specs.Passing.{Passing}
use Rattle.meridional.specs.LayerPlace.{Rooms, LayerFound, lent_layer, layer_lent, layer_long, layer_fit, same_faces, serves_one}
use Rattle.meridional.specs.LayerTracers.{LayerTracersNeed, swept_tracers, swept_same}

module _
    {w : World} {k : ℕ} {fluxes : List ℤ} {airup airdown : List ℕ} {first : ℕ} (found : LayerFound w k fluxes airup airdown first)
    {wide : ℕ} (alike : wide ≡ layer_cells w.grid) where
  abbrev mesh : Mesh
  mesh = layer w.grid.W w.grid.R

  sweeps : Sweeps w mesh (layer_start w.grid k) fluxes 1
  sweeps = meridional_sweeps k fluxes w (none found.left)

  range : InRange w.grid
  range = in_range_lem w.grid found.fits.grid

  layer_in_world : first + layer_cells w.grid ≤ world_cells w.grid
  unfolding layer
  layer_in_world = rw found.start sweeps.inside

  pub layer_in_air : first + wide ≤ length w.air
  layer_in_air = rw (alike, found.fits.air_length) layer_in_world

  pub layer_near : first + wide ≤ most_cells
  layer_near = rw alike (le_trans layer_in_world (cells_most_lem range))

  -- the layer's air as it is lent
  abbrev lent : List ℕ
  lent = lent_layer w.air first wide

  lent_is : lent ≡ layer_air w k
  lent_is =
      layer_lent w.grid alike w.air first ∙ ap (λ (i : ℕ). part w.air i (layer_cells w.grid)) found.start

  same : Same mesh.faces (flow_of airup airdown) (parts fluxes 1 1)
  same = same_faces w.grid.W w.grid.R fluxes found.long found.passes

  lent_permits : allowed mesh (flow_of airup airdown) lent ≡ true
  unfolding layer
  lent_permits =
      same_allowed mesh (layer_regular w.grid.W w.grid.R) same lent ∙
      ap (allowed mesh (parts fluxes 1 1)) lent_is ∙
      sym (serves_one mesh fluxes (layer_air w k)) ∙
      sweeps.serving

  lent_in : AirIn (layer_cells w.grid) lent
  unfolding layer
  lent_in =
      rw lent_is
      (cells_in_lem (layer_start w.grid k) (layer_cells w.grid) (world_cells w.grid) sweeps.inside w.air found.fits.air)

  after_length : {new : List ℕ} → new ≡ after_flow mesh (flow_of airup airdown) lent → length new ≡ wide
  unfolding layer
  after_length stored = ap length stored ∙ length_after_flow mesh (flow_of airup airdown) lent ∙ sym alike

  pub meridional_agrees : {new after : List ℕ} → new ≡ after_flow mesh (flow_of airup airdown) lent →
      after ≡ swept_tracers w.grid w.tracers w.ledger lent (flow_of airup airdown) first →
      Agrees w (meridional k fluxes) (Ok 1) (with_amounts w (put_mid first (first + wide - first) w.air new) after)
  unfolding swept layer air_after gas_after
  meridional_agrees {new} {after} stored done =
      accepted_agrees (none found.left) refl refl
      (ap₂ (with_amounts w)
      (put_back w.air new first wide (after_length stored) ∙
      ap₂ (λ (i : ℕ) (l : List ℕ). written w.air i l) found.start
      (stored ∙ same_after mesh (layer_regular w.grid.W w.grid.R) same lent ∙ ap (after_flow mesh (parts fluxes 1 1)) lent_is))
      (done ∙ swept_same w.grid w.tracers w.ledger lent first same ∙
      ap₂ (λ (l : List ℕ) (i : ℕ). swept_tracers w.grid w.tracers w.ledger l (parts fluxes 1 1) i) lent_is found.start))

  pub tracers_need : LayerTracersNeed w.grid w.tracers w.ledger lent (flow_of airup airdown) first
  tracers_need =
      record {
        range = range;
        tracers_long = found.fits.tracers_length;
        ledger_long = found.fits.ledger_length;
        inside = layer_in_world;
        air_long = layer_long w.grid alike w.air first layer_in_air;
        air_in = lent_in;
        permits = lent_permits;
        total = found.fits.totals;
      }

  pub lent_moves : Moves mesh (flow_of airup airdown) lent
  unfolding layer
  lent_moves = air_moves mesh (flow_of airup airdown) lent (layer_long w.grid alike w.air first layer_in_air) lent_permits

  pub air_need : Rooms airup airdown → Passing w.grid.W w.grid.R lent airup airdown
  air_need rooms = (layer_fit w.grid alike w.air first range rooms layer_in_air, lent_moves)
