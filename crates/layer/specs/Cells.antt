-- The cells of a layer, each with what enters and what leaves it, and the lists that a substep of a layer works on.
use Rattle.std.specs.Prelude.{ℕ, zero, suc, ◌+◌, ◌-◌, ◌*◌, ◌≤◌, ◌<◌, List, Bool, ◌&&◌, ◌≡◌, refl, length}
use Rattle.std.proofs.Math.Bool.{and_assoc, and-true}
use Rattle.std.proofs.Math.Path.{sym}
use Rattle.std.proofs.Common.{ap, ap₂, ◌∙◌, arith, Fits as Fits32}
use Rattle.std.specs.Int.{w32}
use Rattle.model.specs.Basic.{at, part, sum, every}
use Rattle.model.specs.Sweep.{Flow, reversed, layer, leaving, allowed}
use Rattle.model.proofs.Laws.Basic.{at_part, every_ext, sum_none, sum_more}
use Rattle.model.proofs.Laws.Layer.{leaving_inner, leaving_north}
use Rattle.substep.specs.Faces.{flow_of}
use Rattle.substep.specs.Cells.{Cell, cell_allowed}

-- ---- sizes
-- a layer of at most 72 columns and 3,168 cells between the caps
pub record Size (w rows : ℕ) : Type 0 where
  pub columns : w ≤ 72
  pub cells : rows * w ≤ 3168

-- two lists with an entry for each of its faces
pub record Faces (w rows : ℕ) (up down : List ℕ) : Type 0 where
  pub high : w + rows * w ≤ length up
  pub low : w + rows * w ≤ length down

-- an amount for each of its cells, and what passes its faces
pub record Fit (w rows : ℕ) (l up down : List ℕ) : Type 0 where
  pub long : length l ≡ 2 + rows * w
  pub faces : Faces w rows up down

pub layer_cells_lem : (w rows : ℕ) → (layer w rows).cells ≡ 2 + rows * w
unfolding layer
layer_cells_lem w rows = refl

pub layer_faces : (w rows : ℕ) → (layer w rows).faces ≡ w + rows * w
unfolding layer
layer_faces w rows = omega arith

-- ---- the w faces of a cap, from face `first` on
pub record CapFaces (faces first w : ℕ) : Type 0 where
  pub few : w ≤ 72
  pub fit : first + w ≤ faces

-- r is what passes them
pub record IsSum (l : List ℕ) (first w r : ℕ) : Type 0 where
  pub is : r ≡ sum w (λ i. at l (first + i))
  pub small : r ≤ 309237645240

-- the sum as a loop over them takes it, of air or of a tracer: total is what passes the first i
pub record SumTo (l : List ℕ) (first w i total : ℕ) : Type 0 where
  pub reached : i ≤ w
  pub is : total ≡ sum i (λ k. at l (first + k))
  pub small : total ≤ 4294967295 * i

pub cap_none : {l : List ℕ} {first w r : ℕ} → r ≡ 0 → SumTo l first w 0 r
cap_none none = record { reached = omega arith; is = none ∙ sym (sum_none _); small = omega arith }

module _ {l : List ℕ} {first w i total : ℕ} (sofar : SumTo l first w i total) where
  -- x is the face whose turn it is, in the part that the loop goes over
  pub cap_more : {x r : ℕ} → i < w → ((k : ℕ) → Fits32 w32 (at l k)) → x ≡ at (part l first (first + w - first)) i → r ≡ total + x →
      SumTo l first w (i + 1) r
  cap_more h fits own e =
      let face = own ∙ at_part l first (first + w - first) i (omega arith) in
      record {
        reached = omega arith;
        is = e ∙ ap₂ ◌+◌ sofar.is face ∙ sym (sum_more i _);
        small = omega (arith, face, fits (first + i));
      }

-- ---- what each cell exchanges
module _ (w rows : ℕ) (up down : List ℕ) {e l : ℕ} where
  pub south_cell : IsSum down 0 w e → IsSum up 0 w l → Cell (layer w rows) (flow_of up down) 0 e l
  unfolding layer leaving
  south_cell enters leaves = record { inside = omega arith; enters = enters.is; leaves = leaves.is }

  pub row_cell_lem :
      (j : ℕ) → j < rows * w → e ≡ at up j + at down (w + j) → l ≡ at down j + at up (w + j) →
      Cell (layer w rows) (flow_of up down) (1 + j) e l
  unfolding layer
  row_cell_lem j h enters leaves =
      record {
        inside = omega arith;
        enters = enters ∙ sym (leaving_inner w rows (reversed (flow_of up down)) j h);
        leaves = leaves ∙ sym (leaving_inner w rows (flow_of up down) j h);
      }

  pub north_cell : IsSum up (rows * w) w e → IsSum down (rows * w) w l → Cell (layer w rows) (flow_of up down) (1 + rows * w) e l
  unfolding layer
  north_cell enters leaves =
      record {
        inside = omega arith;
        enters = enters.is ∙ sym (leaving_north w rows (reversed (flow_of up down)));
        leaves = leaves.is ∙ sym (leaving_north w rows (flow_of up down));
      }

-- ---- every cell: the south cap, the rows, the north cap
every_first : (n : ℕ) (p : ℕ → Bool) → every (suc n) p ≡ p 0 && every n (λ j. p (suc j))
unfolding every
every_first zero p = sym (and-true (p 0))
every_first (suc n) p = ap (λ (b : Bool). b && p (suc n)) (every_first n p) ∙ and_assoc (p 0) (every n (λ j. p (suc j))) (p (suc n))

every_cell : (n : ℕ) (p : ℕ → Bool) → p 0 && every n (λ j. p (1 + j)) && p (1 + n) ≡ every (2 + n) p
unfolding every
every_cell n p =
    let cells : 2 + n ≡ suc (suc n) = omega arith in
    let more : (j : ℕ) → 1 + j ≡ suc j = λ j. omega arith in
    ap₂ (λ (b : Bool) (k : ℕ). p 0 && b && p k) (every_ext n _ _ (λ j h. ap p (more j))) (more n) ∙
    ap (λ (b : Bool). b && p (suc n)) (sym (every_first n p)) ∙
    ap (λ (k : ℕ). every k p) (sym cells)

module _ (w rows : ℕ) (flow : Flow) (l : List ℕ) where
  abbrev allows : ℕ → Bool
  allows = cell_allowed (layer w rows) flow l

  pub allowed_cells : allows 0 && every (rows * w) (λ j. allows (1 + j)) && allows (1 + rows * w) ≡ allowed (layer w rows) flow l
  unfolding allowed layer
  allowed_cells = every_cell (rows * w) allows
