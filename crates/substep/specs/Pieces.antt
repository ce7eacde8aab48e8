-- A tracer's pieces in a substep, over any regular mesh: what a cell may give, and that what was taken is the model's.
use Rattle.std.specs.Prelude.{ℕ, ◌≤◌, ◌<◌, List, true, ◌≡◌, length}
use Rattle.std.proofs.Common.{sym, ap, ◌∙◌, le_trans, arith}
use Rattle.model.specs.Limits.{air_limit, total_limit}
use Rattle.model.specs.Basic.{at, sum}
use Rattle.model.specs.Scheme.{Mismatch, high_piece, low_piece}
use Rattle.model.specs.Limiters.{Limiter, rule_for}
use Rattle.model.specs.Sweep.{Mesh, Flow, after_flow, allowed, cell_ratio, cell_mismatch, pieces}
use Rattle.model.proofs.Laws.Basic.{term_le_sum}
use Rattle.model.proofs.Laws.Mesh.{Regular}
use Rattle.model.proofs.Laws.Range.{high_leaves, low_leaves}
use Rattle.model.proofs.Laws.Limiters.{limiter_limited}
use Rattle.model.proofs.Laws.Substep.{AirIn, Covers, air_bounds, allowed_is, piece_up, piece_down, pieces_covered, gas_after_flow_le}
use Rattle.substep.specs.Faces.{Same, same_leaving, same_after, stepped}
use Rattle.substep.specs.Cells.{Moves}

-- ---- a substep of one tracer: it is allowed, every cell's air is in range, and the mesh's tracer is within the limit
pub record GasNeed (mesh : Mesh) (flow : Flow) (air gas : List ℕ) : Type 0 where
  pub air_long : length air ≡ mesh.cells
  pub gas_long : length gas ≡ mesh.cells
  pub air_in : AirIn mesh.cells air
  pub permits : allowed mesh flow air ≡ true
  pub total : sum mesh.cells (at gas) ≤ total_limit

-- ---- ratios
-- n cells, each with air, and room for their ratios
pub record HasAir (n : ℕ) (air gas q : List ℕ) : Type 0 where
  pub air_long : n ≤ length air
  pub gas_long : n ≤ length gas
  pub room : n ≤ length q
  pub some : (c : ℕ) → c < n → 0 < at air c

-- q has the ratio of each of them
pub record AreRatios (n : ℕ) (air gas q : List ℕ) : Type 0 where
  pub is : (c : ℕ) → c < n → at q c ≡ cell_ratio air gas c

pub has_air :
    {mesh : Mesh} {flow : Flow} {air gas : List ℕ} → GasNeed mesh flow air gas →
    (q : List ℕ) → mesh.cells ≤ length q → HasAir mesh.cells air gas q
has_air {mesh} {flow} {air} need q room =
    record {
      air_long = omega (arith, need.air_long);
      gas_long = omega (arith, need.gas_long);
      room = room;
      some = λ c h. (air_bounds (at air c) (need.air_in c h)).0;
    }

-- ---- a piece
-- cell c's mismatch is taken from the ratios of cells a and b; for a cap, which has none, both are the cap
pub record Neighbours (mesh : Mesh) (a c b : ℕ) : Type 0 where
  pub low : a < mesh.cells
  pub own : c < mesh.cells
  pub high : b < mesh.cells
  pub is : (l : Limiter) (air gas : List ℕ) → cell_mismatch (rule_for l) mesh air gas c ≡ rule_for l (cell_ratio air gas a) (cell_ratio air gas c) (cell_ratio air gas b)

-- cell c of lists that are long enough can give m units of its air
pub record PieceNeed (air gas q : List ℕ) (a c b m : ℕ) : Type 0 where
  pub air_long : c < length air
  pub gas_long : c < length gas
  pub low_long : a < length q
  pub own_long : c < length q
  pub high_long : b < length q
  pub some : 0 < at air c
  pub fits : at air c ≤ air_limit
  pub tracer : at gas c ≤ total_limit
  pub part : m ≤ at air c
  pub ratio : at q c ≡ cell_ratio air gas c

-- the mismatch that a limiter gives from the ratios
abbrev pub mismatch_in : Limiter → List ℕ → ℕ → ℕ → ℕ → Mismatch
mismatch_in l q a c b = rule_for l (at q a) (at q c) (at q b)

-- it is the cell's
module _ (l : Limiter) {mesh : Mesh} {air gas q : List ℕ} (ratios : AreRatios mesh.cells air gas q) {a c b : ℕ} (near : Neighbours mesh a c b) where
  mismatch_is : mismatch_in l q a c b ≡ cell_mismatch (rule_for l) mesh air gas c
  mismatch_is =
      (λ i. rule_for l (ratios.is a near.low i) (ratios.is c near.own i) (ratios.is b near.high i)) ∙
      sym (near.is l air gas)

  -- and so is the piece of m units of air
  module _ (m : ℕ) where
    pub piece_high : high_piece (mismatch_in l q a c b) (at air c) (at gas c) m ≡ high_piece (cell_mismatch (rule_for l) mesh air gas c) (at air c) (at gas c) m
    piece_high = ap (λ (D : Mismatch). high_piece D (at air c) (at gas c) m) mismatch_is

    pub piece_low : low_piece (mismatch_in l q a c b) (at air c) (at gas c) m ≡ low_piece (cell_mismatch (rule_for l) mesh air gas c) (at air c) (at gas c) m
    piece_low = ap (λ (D : Mismatch). low_piece D (at air c) (at gas c) m) mismatch_is

module _ (l : Limiter) {mesh : Mesh} {flow : Flow} {air gas : List ℕ} (regular : Regular mesh) (need : GasNeed mesh flow air gas) where
  covers : Covers mesh flow air
  covers = (allowed_is mesh flow air need.permits).covers

  module _ (q : List ℕ) (ratios : AreRatios mesh.cells air gas q) (room : mesh.cells ≤ length q) {a c b : ℕ} (near : Neighbours mesh a c b) where
    piece_need : (m : ℕ) → m ≤ at air c → PieceNeed air gas q a c b m
    piece_need m part =
        let fits = air_bounds (at air c) (need.air_in c near.own) in
        record {
          air_long = rw need.air_long near.own;
          gas_long = rw need.gas_long near.own;
          low_long = omega (arith, near.low);
          own_long = omega (arith, near.own);
          high_long = omega (arith, near.high);
          some = fits.0;
          fits = fits.1;
          tracer = le_trans (term_le_sum mesh.cells (at gas) c near.own) need.total;
          part = part;
          ratio = ratios.is c near.own;
        }

    -- the cell on the low side of face f gives from its high end
    module _ (f : ℕ) (h : f < mesh.faces) where
      pub high_need : mesh.low_cell f ≡ c → PieceNeed air gas q a c b (flow.to_high f)
      high_need at_face =
          piece_need (flow.to_high f)
          (le_trans (high_leaves mesh c flow f (rw at_face at (regular.low_has f h))) (covers c near.own))

      pub high_is : mesh.low_cell f ≡ c → high_piece (mismatch_in l q a c b) (at air c) (at gas c) (flow.to_high f) ≡ (pieces (rule_for l) mesh flow air gas).to_high f
      high_is at_face =
          piece_high l ratios near (flow.to_high f) ∙
          sym (piece_up (rule_for l) mesh flow air gas f c at_face)

      -- the cell on its high side from its low end
      pub low_need : mesh.high_cell f ≡ c → PieceNeed air gas q a c b (flow.to_low f)
      low_need at_face =
          piece_need (flow.to_low f)
          (le_trans (low_leaves mesh c flow f (rw at_face at (regular.high_has f h))) (covers c near.own))

      pub low_is : mesh.high_cell f ≡ c → low_piece (mismatch_in l q a c b) (at air c) (at gas c) (flow.to_low f) ≡ (pieces (rule_for l) mesh flow air gas).to_low f
      low_is at_face =
          piece_low l ratios near (flow.to_low f) ∙
          sym (piece_down (rule_for l) mesh flow air gas f c at_face)

  -- ---- the pieces, once all are taken
  module _ {passed : Flow} (same : Same mesh.faces passed (pieces (rule_for l) mesh flow air gas)) where
    pub gas_after_lem : after_flow mesh passed gas ≡ stepped (rule_for l) mesh flow air gas
    gas_after_lem = same_after mesh regular same gas

    pub gas_moves : Moves mesh passed gas
    gas_moves =
        record {
          long = need.gas_long;
          covers =
              λ c h.
              rw (same_leaving mesh regular same c h) (pieces_covered (limiter_limited l) mesh regular flow air gas need.air_in covers c h);
          after =
              λ c h.
              rw gas_after_lem
              (le_trans (gas_after_flow_le (limiter_limited l) mesh regular flow air gas need.air_in covers c h) (le_trans need.total (omega arith)));
        }
