-- What the laws of a sweep need of its mesh: that faces and cells meet, and that what leaves a cell enters another.
use Rattle.std.specs.Prelude.{ℕ, ◌+◌, ◌*◌, ◌≤◌, ◌<◌, ◌≡◌, refl}
use Rattle.std.proofs.Common.{◌∙◌, arith}
use Rattle.model.specs.Basic.{sum}
use Rattle.model.specs.Sweep.{Mesh, Sides, between, south_cap, north_cap, Flow, reversed, leaving, entering}
use Rattle.model.proofs.Laws.Basic.{sum_ext, sum_times}

-- what leaves a cell with these sides
abbrev pub out : Flow → Sides → ℕ
out flow s =
    elim s [
      | between l h ↦ flow.to_low l + flow.to_high h
      | south_cap k n ↦ sum n (λ i. flow.to_high (k + i))
      | north_cap k n ↦ sum n (λ i. flow.to_low (k + i))
    ]

pub leaving_is : (mesh : Mesh) (flow : Flow) (c : ℕ) → leaving mesh flow c ≡ out flow (mesh.sides c)
unfolding leaving
leaving_is mesh flow c = refl

-- the faces of cell c lie on it, and are faces of the mesh
abbrev pub Meets : Mesh → ℕ → Sides → Type 0
Meets mesh c (between l h) =
    (l < mesh.faces) × (h < mesh.faces) × (mesh.high_cell l ≡ c) × (mesh.low_cell h ≡ c)
Meets mesh c (south_cap k n) = (i : ℕ) → i < n → (k + i < mesh.faces) × (mesh.low_cell (k + i) ≡ c)
Meets mesh c (north_cap k n) = (i : ℕ) → i < n → (k + i < mesh.faces) × (mesh.high_cell (k + i) ≡ c)

-- face f is one of the faces on a cell's high side, or on its low side
abbrev pub OnHighSide : ℕ → Sides → Type 0
OnHighSide f (between l h) = h ≡ f
OnHighSide f (south_cap k n) = (k ≤ f) × (f < k + n)
OnHighSide f (north_cap k n) = ⊥

abbrev pub OnLowSide : ℕ → Sides → Type 0
OnLowSide f (between l h) = l ≡ f
OnLowSide f (south_cap k n) = ⊥
OnLowSide f (north_cap k n) = (k ≤ f) × (f < k + n)

pub record Regular (mesh : Mesh) : Type 0 where
  -- a cell's faces are the mesh's, and lie on it
  pub meets : (c : ℕ) → c < mesh.cells → Meets mesh c (mesh.sides c)
  -- a face joins two cells of the mesh, and is among the faces of both
  pub low_in : (f : ℕ) → f < mesh.faces → mesh.low_cell f < mesh.cells
  pub high_in : (f : ℕ) → f < mesh.faces → mesh.high_cell f < mesh.cells
  pub low_has : (f : ℕ) → f < mesh.faces → OnHighSide f (mesh.sides (mesh.low_cell f))
  pub high_has : (f : ℕ) → f < mesh.faces → OnLowSide f (mesh.sides (mesh.high_cell f))
  -- what leaves the cells enters them
  pub passes_on : (flow : Flow) → sum mesh.cells (entering mesh flow) ≡ sum mesh.cells (leaving mesh flow)

-- where what leaves all cells is what passes all faces, it is what enters all cells
pub passes_on_lem :
    (mesh : Mesh) →
    ((flow : Flow) → sum mesh.cells (leaving mesh flow) ≡ sum mesh.faces flow.to_high + sum mesh.faces flow.to_low) →
    (flow : Flow) → sum mesh.cells (entering mesh flow) ≡ sum mesh.cells (leaving mesh flow)
passes_on_lem mesh all flow = omega (arith, all flow, all (reversed flow))

-- where a flow is z times another through every face, what leaves a cell is z times what leaves it there
module _ (mesh : Mesh) (regular : Regular mesh) (z : ℕ) where
  out_times :
      (flow more : Flow) → ((f : ℕ) → f < mesh.faces → more.to_high f ≡ z * flow.to_high f) →
      ((f : ℕ) → f < mesh.faces → more.to_low f ≡ z * flow.to_low f) → (c : ℕ) (s : Sides) → Meets mesh c s →
      out more s ≡ z * out flow s
  out_times flow more high low c (between l h) m = omega (arith, low l m.0, high h m.1)
  out_times flow more high low c (south_cap k n) m =
      sum_ext n _ _ (λ i p. high (k + i) (m i p).0) ∙ sum_times n z (λ i. flow.to_high (k + i))
  out_times flow more high low c (north_cap k n) m =
      sum_ext n _ _ (λ i p. low (k + i) (m i p).0) ∙ sum_times n z (λ i. flow.to_low (k + i))

  module _
      (flow more : Flow) (high : (f : ℕ) → f < mesh.faces → more.to_high f ≡ z * flow.to_high f)
      (low : (f : ℕ) → f < mesh.faces → more.to_low f ≡ z * flow.to_low f) (c : ℕ) (inside : c < mesh.cells) where
    pub leaving_times : leaving mesh more c ≡ z * leaving mesh flow c
    leaving_times =
        rw (leaving_is mesh more c, leaving_is mesh flow c) (out_times flow more high low c (mesh.sides c) (regular.meets c inside))

    pub entering_times : entering mesh more c ≡ z * entering mesh flow c
    entering_times =
        rw (leaving_is mesh (reversed more) c, leaving_is mesh (reversed flow) c)
        (out_times (reversed flow) (reversed more) low high c (mesh.sides c) (regular.meets c inside))
