-- The columns of a row as the cells of the ring, what the functions of a row require, and the laws of the loop of `pass`.
use Rattle.std.specs.Prelude.{ℕ, ◌+◌, ◌-◌, ◌≤◌, ◌<◌, List, ◌≡◌, length, set}
use Rattle.std.proofs.Math.Path.{refl}
use Rattle.std.proofs.Common.{sym, arith}
use Rattle.model.specs.Basic.{at, every}
use Rattle.model.specs.Sweep.{Flow, ring, east_of, west_of, leaving, allowed, after_flow, cell_mismatch}
use Rattle.model.proofs.Laws.Ring.{west_in, east_in, ring_regular}
use Rattle.substep.specs.Faces.{flow_of}
use Rattle.substep.specs.Cells.{Cell, CellFlows, Sums, Moves, Moved, cell_allowed, moved_none, moved_exchange, moved_more, all_moved_lem}
use Rattle.substep.specs.Pieces.{Neighbours}

-- lists that have what passes each of w faces
pub record FaceRoom (w : ℕ) (up down : List ℕ) : Type 0 where
  pub high : w ≤ length up
  pub low : w ≤ length down

-- e and l are what enters and what leaves column i of w
pub record IsExchange (w : ℕ) (up down : List ℕ) (i e l : ℕ) : Type 0 where
  pub cell : Cell (ring w) (flow_of up down) i e l
  pub sums : Sums e l

-- a row whose amounts can be passed on
pub record Passing (amounts up down : List ℕ) : Type 0 where
  pub room : FaceRoom (length amounts) up down
  pub moves : Moves (ring (length amounts)) (flow_of up down) amounts

-- the model's test of a substep is the test of every column
pub allowed_columns : (w : ℕ) (flow : Flow) (air : List ℕ) → every w (cell_allowed (ring w) flow air) ≡ allowed (ring w) flow air
unfolding allowed ring
allowed_columns w flow air = refl

module _ (w i : ℕ) (h : i < w) where
  -- e and l are what enters and what leaves column i, with the face `west` on its low side
  pub column :
      (flow : Flow) {west e l : ℕ} → west ≡ west_of w i →
      e ≡ flow.to_high west + flow.to_low i → l ≡ flow.to_low west + flow.to_high i → Cell (ring w) flow i e l
  unfolding ring leaving
  column flow is enters leaves = record { inside = h; enters = rw is at enters; leaves = rw is at leaves }

  -- the columns on its two sides
  pub column_neighbours : (west east : ℕ) → west ≡ west_of w i → east ≡ east_of w i → Neighbours (ring w) west i east
  unfolding ring cell_mismatch
  column_neighbours west east e e' =
      rw (e, e') (record { low = west_in w i h; own = h; high = east_in w i h; is = λ l air gas. refl })

  -- it is west of the column east of it
  pub back_west : (east : ℕ) → east ≡ east_of w i → i ≡ west_of w east
  unfolding ring
  back_west east e = rw e (sym ((ring_regular w).high_has i h))

-- ---- a row as a loop passes it on, column after column, of air and of a tracer alike
-- the first i columns have what the substep leaves there, the others what they had
pub record PassedTo (amounts up down now : List ℕ) (i : ℕ) : Type 0 where
  pub inside : i ≤ length amounts
  pub moved : Moved (ring (length amounts)) (flow_of up down) amounts now i

module _ {amounts up down : List ℕ} (moves : Moves (ring (length amounts)) (flow_of up down) amounts) where
  pub passed_none : PassedTo amounts up down amounts 0
  passed_none = record { inside = omega arith; moved = moved_none moves }

  -- column i, which gets e and gives l through its two faces
  module _ {now : List ℕ} {i e l : ℕ} (passed : PassedTo amounts up down now i) (cell : Cell (ring (length amounts)) (flow_of up down) i e l) where
    pub column_passes : CellFlows (at now i) e l
    column_passes = moved_exchange moves passed.moved cell

    pub passed_more : {x : ℕ} → x ≡ at now i + e - l → PassedTo amounts up down (set now i x) (i + 1)
    unfolding ring
    passed_more after = record { inside = omega (arith, cell.inside); moved = moved_more moves passed.moved cell after }

  pub passed_all : {now : List ℕ} {i : ℕ} → PassedTo amounts up down now i → i ≡ length amounts → now ≡ after_flow (ring (length amounts)) (flow_of up down) amounts
  unfolding ring
  passed_all passed done = all_moved_lem moves (rw done at passed.moved)
