-- A layer's amounts, of air or of a tracer, as they are passed on: the south cap, the rows in a loop, the north cap.
use Rattle.std.specs.Prelude.{ℕ, ◌+◌, ◌*◌, ◌-◌, ◌≤◌, ◌<◌, List, ◌≡◌, length, set}
use Rattle.std.proofs.Common.{◌∙◌, arith, length-set}
use Rattle.model.specs.Basic.{at}
use Rattle.model.specs.Sweep.{Mesh, Flow, layer, after_flow}
use Rattle.substep.specs.Faces.{flow_of}
use Rattle.substep.specs.Cells.{CellFlows, Moves, Moved, moved_none, moved_exchange, moved_more, all_moved_lem}
use Rattle.layer.specs.Cells.{Fit, IsSum, layer_cells_lem, south_cell, row_cell_lem, north_cell}

-- ---- amounts of which the first c cells are passed on already
pub record Begun (mesh : Mesh) (flow : Flow) (l : List ℕ) (c : ℕ) : Type 0 where
  pub first : List ℕ
  pub moves : Moves mesh flow first
  pub moved : Moved mesh flow first l c

-- then the first d are, whatever the amounts were before the first
abbrev pub MovedOn : Mesh → Flow → List ℕ → ℕ → List ℕ → ℕ → Type 0
MovedOn mesh flow l c after d = (b : Begun mesh flow l c) → Moved mesh flow b.first after d

-- ---- amounts and what passes the faces: before the south cap is passed on, after it, and after the rows
abbrev pub Passing : ℕ → ℕ → List ℕ → List ℕ → List ℕ → Type 0
Passing w rows l up down = Fit w rows l up down × Moves (layer w rows) (flow_of up down) l

abbrev pub PassingRows : ℕ → ℕ → List ℕ → List ℕ → List ℕ → Type 0
PassingRows w rows l up down = Fit w rows l up down × Begun (layer w rows) (flow_of up down) l 1

abbrev pub PassedRows : ℕ → ℕ → List ℕ → List ℕ → List ℕ → List ℕ → Type 0
PassedRows w rows l up down after =
    Fit w rows after up down × MovedOn (layer w rows) (flow_of up down) l 1 after (1 + rows * w)

-- as many amounts as before
pub still_fit : {w rows : ℕ} {l after up down : List ℕ} → length after ≡ length l → Fit w rows l up down → Fit w rows after up down
still_fit long fit = record { long = long ∙ fit.long; faces = fit.faces }

-- ---- the south cap
module _ (w rows : ℕ) {l up down : List ℕ} (moves : Moves (layer w rows) (flow_of up down) l) {e o : ℕ} (enters : IsSum down 0 w e)
    (leaves : IsSum up 0 w o) where
  pub south_exchange : CellFlows (at l 0) e o
  south_exchange = moved_exchange moves (moved_none moves) (south_cell w rows up down enters leaves)

  pub south_moved : {x : ℕ} → x ≡ at l 0 + e - o → Moved (layer w rows) (flow_of up down) l (set l 0 x) 1
  south_moved is = moved_more moves (moved_none moves) (south_cell w rows up down enters leaves) is

module _ {w rows : ℕ} {l up down : List ℕ} (passing : Passing w rows l up down) {e o : ℕ} (enters : IsSum down 0 w e)
    (leaves : IsSum up 0 w o) where
  abbrev pub south_begun : {x : ℕ} → x ≡ at l 0 + e - o → PassingRows w rows (set l 0 x) up down
  south_begun {x} is = (
    still_fit (length-set l 0 x) passing.0,
    record { first = l; moves = passing.1; moved = south_moved w rows passing.1 enters leaves is },
  )

-- ---- the rows as a loop passes them on: the first j of their cells
pub record RowsMoved (w rows : ℕ) (before up down l : List ℕ) (j : ℕ) : Type 0 where
  pub reached : j ≤ rows * w
  pub long : length l ≡ length before
  pub moved : MovedOn (layer w rows) (flow_of up down) before 1 l (1 + j)

module _ {w rows : ℕ} {before up down l : List ℕ} {j : ℕ} (sofar : RowsMoved w rows before up down l j) where
  -- the cell whose turn it is
  module _ {e o : ℕ} (h : j < rows * w) (enters : e ≡ at up j + at down (w + j)) (leaves : o ≡ at down j + at up (w + j)) where
    pub row_exchange : Begun (layer w rows) (flow_of up down) before 1 → CellFlows (at l (1 + j)) e o
    row_exchange begun =
        moved_exchange begun.moves (sofar.moved begun) (row_cell_lem w rows up down j h enters leaves)

    pub row_more : {x : ℕ} → x ≡ at l (1 + j) + e - o → RowsMoved w rows before up down (set l (1 + j) x) (j + 1)
    row_more {x} is =
        let next : 1 + j + 1 ≡ 1 + (j + 1) = omega arith in
        record {
          reached = omega arith;
          long = length-set l (1 + j) x ∙ sofar.long;
          moved = λ b. rw next at (moved_more b.moves (sofar.moved b) (row_cell_lem w rows up down j h enters leaves) is);
        }

-- ---- the north cap
module _ (w rows : ℕ) {before up down l : List ℕ} (begun : Begun (layer w rows) (flow_of up down) before 1)
    (moved : MovedOn (layer w rows) (flow_of up down) before 1 l (1 + rows * w)) {e o : ℕ} (enters : IsSum up (rows * w) w e) (leaves : IsSum down (rows * w) w o) where
  pub north_exchange : CellFlows (at l (1 + rows * w)) e o
  north_exchange =
      moved_exchange begun.moves (moved begun) (north_cell w rows up down enters leaves)

  pub north_all : {x : ℕ} → x ≡ at l (1 + rows * w) + e - o →
      set l (1 + rows * w) x ≡ after_flow (layer w rows) (flow_of up down) begun.first
  north_all is =
      let all : 1 + rows * w + 1 ≡ (layer w rows).cells = omega (arith, layer_cells_lem w rows) in
      all_moved_lem begun.moves (rw all at (moved_more begun.moves (moved begun) (north_cell w rows up down enters leaves) is))
