-- A tracer's pieces in a layer: each cell with the two neighbours that its mismatch is taken from.
use Rattle.std.specs.Prelude.{ℕ, suc, ◌+◌, ◌*◌, ◌-◌, ◌≤◌, ◌<◌, List, ◌≡◌, length}
use Rattle.std.proofs.Math.Path.{refl, sym}
use Rattle.std.proofs.Common.{◌∙◌}
use native.Mathlib.Omega.{arith}
use Rattle.model.specs.Basic.{at}
use Rattle.model.specs.Scheme.{high_piece, low_piece}
use Rattle.model.specs.Limiters.{Limiter, rule_for}
use Rattle.model.specs.Sweep.{Flow, south_of, north_of, layer, cell_mismatch, pieces}
use Rattle.model.proofs.Laws.Limiters.{limiter_plain}
use Rattle.model.proofs.Laws.Layer.{sides_inner, sides_north, south_cap_lem, south_inner, north_inner, north_cap_lem, layer_regular}
use Rattle.model.proofs.Laws.Substep.{mismatch_between, mismatch_south, mismatch_north, piece_up, piece_down}
use Rattle.substep.specs.Faces.{flow_of}
use Rattle.substep.specs.Pieces.{GasNeed, AreRatios, Neighbours, PieceNeed, high_need, low_need}
use Rattle.layer.specs.Cells.{Faces}

-- ---- neighbours; a cap is its own on both sides, which gives D = 0 by every limiter
module _ (w rows : ℕ) where
  row_near : (j : ℕ) → j < rows * w → Neighbours (layer w rows) (south_of w j) (suc j) (north_of (rows * w) (w + j))
  unfolding layer
  row_near j h =
      record {
        low = (layer_regular w rows).low_in j (omega arith);
        own = omega arith;
        high = (layer_regular w rows).high_in (w + j) (omega arith);
        is = λ l air gas. mismatch_between (rule_for l) (layer w rows) air gas (suc j) j (w + j) (sides_inner w (rows * w) j h);
      }

  -- those of the cell south of face i
  pub south_cap_near : (i : ℕ) → i < w → Neighbours (layer w rows) (south_of w i) (south_of w i) (south_of w i)
  unfolding layer
  south_cap_near i h =
      rw (south_cap_lem w i h)
      (record {
        low = omega arith;
        own = omega arith;
        high = omega arith;
        is = λ l air gas. mismatch_south (rule_for l) (layer w rows) air gas 0 0 w refl ∙ sym (limiter_plain l _);
      })

  pub south_near : (i : ℕ) → w ≤ i → i < w + rows * w → Neighbours (layer w rows) (south_of w (i - w)) (south_of w i) (north_of (rows * w) i)
  south_near i low high =
      let e : w + (i - w) ≡ i = omega arith in
      rw (south_inner w i low) (rw e at (row_near (i - w) (omega arith)))

  -- those of the cell north of it
  pub north_near : (i : ℕ) → i < rows * w → Neighbours (layer w rows) (south_of w i) (north_of (rows * w) i) (north_of (rows * w) (w + i))
  north_near i h = rw (north_inner (rows * w) i h) (row_near i h)

  pub north_cap_near : (i : ℕ) → rows * w ≤ i → Neighbours (layer w rows) (north_of (rows * w) i) (north_of (rows * w) i) (north_of (rows * w) i)
  unfolding layer
  north_cap_near i h =
      let sides = sides_north w (rows * w) (rows * w) (omega arith) in
      rw (north_cap_lem (rows * w) i h)
      (record {
        low = omega arith;
        own = omega arith;
        high = omega arith;
        is = λ l air gas. mismatch_north (rule_for l) (layer w rows) air gas (suc (rows * w)) (rows * w) w sides ∙ sym (limiter_plain l _);
      })

-- ---- a piece through face i
-- the cell c beside it can give m units of its air, whatever its neighbours
pub record GivesPiece (w rows : ℕ) (air gas q : List ℕ) (i c m : ℕ) : Type 0 where
  pub face : i < w + rows * w
  pub ratios : AreRatios (layer w rows).cells air gas q
  pub need : (a b : ℕ) → Neighbours (layer w rows) a c b → PieceNeed air gas q a c b m

-- ---- a substep of one tracer, with room for its ratios and pieces
pub record Step (w rows : ℕ) (air gas airup airdown q gasup gasdown : List ℕ) : Type 0 where
  pub passes : Faces w rows airup airdown
  pub ratios : 2 + rows * w ≤ length q
  pub pieces : Faces w rows gasup gasdown
  pub need : GasNeed (layer w rows) (flow_of airup airdown) air gas

module _ (l : Limiter) (w rows : ℕ) {air gas q : List ℕ} (airup airdown : List ℕ) (need : GasNeed (layer w rows) (flow_of airup airdown) air gas)
    (room : 2 + rows * w ≤ length q) (ratios : AreRatios (layer w rows).cells air gas q) (i : ℕ) (h : i < w + rows * w) where
  -- the cells on its two sides, and the pieces of the model
  abbrev south : ℕ
  south = south_of w i

  abbrev north : ℕ
  north = north_of (rows * w) i

  abbrev given : Flow
  given = pieces (rule_for l) (layer w rows) (flow_of airup airdown) air gas

  enough : (layer w rows).cells ≤ length q
  unfolding layer
  enough = room

  inside : i < (layer w rows).faces
  unfolding layer
  inside = omega arith

  -- the cell south of face i gives from its high end, the cell north of it from its low end
  pub gives_north : GivesPiece w rows air gas q i south (at airup i)
  unfolding layer
  gives_north =
      record {
        face = h;
        ratios = ratios;
        need = λ a b near. high_need l (layer_regular w rows) need q ratios enough near i inside refl;
      }

  pub gives_south : GivesPiece w rows air gas q i north (at airdown i)
  unfolding layer
  gives_south =
      record {
        face = h;
        ratios = ratios;
        need = λ a b near. low_need l (layer_regular w rows) need q ratios enough near i inside refl;
      }

  -- and so the model's pieces are
  pub piece_north : high_piece (cell_mismatch (rule_for l) (layer w rows) air gas south) (at air south) (at gas south) (at airup i) ≡ given.to_high i
  unfolding layer
  piece_north = sym (piece_up (rule_for l) (layer w rows) (flow_of airup airdown) air gas i south refl)

  pub piece_south : low_piece (cell_mismatch (rule_for l) (layer w rows) air gas north) (at air north) (at gas north) (at airdown i) ≡ given.to_low i
  unfolding layer
  piece_south = sym (piece_down (rule_for l) (layer w rows) (flow_of airup airdown) air gas i north refl)
