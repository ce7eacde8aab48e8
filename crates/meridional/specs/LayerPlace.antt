-- A meridional sweep's own places in order, and what `layer_place` finds: where the layer starts, and what passes each of its faces.
use Rattle.std.specs.Prelude.{ℕ, ◌+◌, ◌*◌, ◌-◌, ◌≤◌, List, [], ◌∷◌, Bool, not, ◌≡◌, refl, ℤ, length, Result}
use Rattle.std.proofs.Common.{sym, ap, ◌∙◌, arith}
use Rattle.model.specs.Limits.{meridional_limit, most_faces}
use Rattle.model.specs.Basic.{part, every}
use Rattle.model.specs.World.{Grid, World, layer_cells, layer_start}
use Rattle.model.specs.Sweep.{Mesh, Flow, layer, parts, allowed, air_after, serves}
use Rattle.model.specs.Step.{Place, place, flux_too_large, layer_air, meridional}
use Rattle.model.proofs.Laws.Basic.{length_part}
use Rattle.model.proofs.Laws.Grid.{InRange, layer_cells_most, faces_most}
use Rattle.model.proofs.Laws.Layer.{layer_regular}
use Rattle.model.proofs.Laws.Step.{Fits}
use Rattle.units.specs.declared.Refusal.{Refusal}
use Rattle.places.specs.Walk.{Left, IsPlaced, Like}
use Rattle.substep.specs.Faces.{flow_of, Same, AreParts, same_allowed}
use Rattle.units.specs.Lent.{part_lent}
use Rattle.layer.specs.Cells.{Size, Faces, Fit}

-- ---- sizes
-- two lists with room for what passes the faces of any layer
pub record Rooms (up down : List ℕ) : Type 0 where
  pub high : most_faces ≤ length up
  pub low : most_faces ≤ length down

module _ {g : Grid} (range : InRange g) where
  pub layer_size : Size g.W g.R
  layer_size = record { columns = range.high_w; cells = omega (arith, layer_cells_most range) }

  pub faces_serve : g.W + g.R * g.W ≤ most_faces
  faces_serve = omega (arith, faces_most range)

  pub rooms_serve : {up down : List ℕ} → Rooms up down → Faces g.W g.R up down
  rooms_serve rooms = record { high = omega (arith, faces_serve, rooms.high); low = omega (arith, faces_serve, rooms.low) }

-- a layer's cells in a list, lent as `&l[a..e]` with e = a + C
abbrev pub lent_layer : List ℕ → ℕ → ℕ → List ℕ
lent_layer l first wide = part l first (first + wide - first)

module _ (g : Grid) {wide : ℕ} (alike : wide ≡ layer_cells g) (l : List ℕ) (first : ℕ) where
  pub layer_lent : lent_layer l first wide ≡ part l first (layer_cells g)
  layer_lent = part_lent l first wide ∙ ap (part l first) alike

  pub layer_long : first + wide ≤ length l → length (lent_layer l first wide) ≡ layer_cells g
  layer_long inside = ap length (part_lent l first wide) ∙ length_part l first wide inside ∙ alike

  pub layer_fit : InRange g → {up down : List ℕ} → Rooms up down → first + wide ≤ length l → Fit g.W g.R (lent_layer l first wide) up down
  layer_fit range rooms inside = record { long = layer_long inside; faces = rooms_serve range rooms }

-- ---- one substep serves if it is allowed
pub serves_one : (mesh : Mesh) (fluxes : List ℤ) (air : List ℕ) → serves mesh fluxes air 1 ≡ allowed mesh (parts fluxes 1 1) air
unfolding serves every air_after
serves_one mesh fluxes air = refl

-- the parts of all fluxes, face by face
pub same_faces : (W R : ℕ) (fluxes : List ℤ) {flow : Flow} → length fluxes ≡ W * (R + 1) →
    Same (length fluxes) flow (parts fluxes 1 1) → Same (layer W R).faces flow (parts fluxes 1 1)
unfolding layer
same_faces W R fluxes long same = rw long at same

-- ---- what `layer_permits` needs and finds
-- a layer's cells from cell `first` on, and its fluxes
pub record LayerNeed (g : Grid) (air : List ℕ) (first : ℕ) (fluxes : List ℤ) : Type 0 where
  pub range : InRange g
  pub inside : first + layer_cells g ≤ length air
  pub long : length fluxes ≡ g.W * (g.R + 1)

pub record IsPermit (g : Grid) (air : List ℕ) (first : ℕ) (fluxes : List ℤ) (airup airdown : List ℕ) (r : Bool) : Type 0 where
  pub passes : AreParts fluxes 1 1 airup airdown
  pub serving : serves (layer g.W g.R) fluxes (part air first (layer_cells g)) 1 ≡ r

-- so tested, over the lent air
pub permit : {g : Grid} {air : List ℕ} {first : ℕ} {fluxes : List ℤ} {airup airdown : List ℕ} {wide : ℕ} {r : Bool} →
    LayerNeed g air first fluxes → wide ≡ layer_cells g → AreParts fluxes 1 1 airup airdown →
    r ≡ allowed (layer g.W g.R) (flow_of airup airdown) (lent_layer air first wide) → IsPermit g air first fluxes airup airdown r
permit {g} {air} {first} {fluxes} {airup} {airdown} need alike passes e =
    let mesh : Mesh = layer g.W g.R in
    let same = same_faces g.W g.R fluxes need.long passes in
    record {
      passes = passes;
      serving =
          serves_one mesh fluxes _ ∙
          sym (e ∙ ap (allowed mesh (flow_of airup airdown)) (layer_lent g alike air first) ∙ same_allowed mesh (layer_regular g.W g.R) same _);
    }

-- ---- the places behind the layer and behind the fluxes; the last: the substep is not allowed
abbrev pub from_substep : ℕ → List ℤ → List Place
from_substep k fluxes =
    place 10 (λ w. not (serves (layer w.grid.W w.grid.R) fluxes (layer_air w k) 1)) ∷ []

abbrev pub from_fluxes : ℕ → List ℤ → List Place
from_fluxes k fluxes = flux_too_large fluxes meridional_limit ∷ from_substep k fluxes

-- ---- what `layer_place` finds
pub record LayerFound (w : World) (k : ℕ) (fluxes : List ℤ) (airup airdown : List ℕ) (first : ℕ) : Type 0 where
  pub left : Left w (Like w (meridional k fluxes)) []
  pub fits : Fits w
  pub long : length fluxes ≡ w.grid.W * (w.grid.R + 1)
  pub start : first ≡ layer_start w.grid k
  pub passes : AreParts fluxes 1 1 airup airdown

abbrev pub IsLayerPlace : World → ℕ → List ℤ → List ℕ → List ℕ → Result ℕ Refusal → Type 0
IsLayerPlace w k fluxes airup airdown = IsPlaced w (Like w (meridional k fluxes)) (LayerFound w k fluxes airup airdown)
