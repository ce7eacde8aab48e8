-- A line of cells, and edges on it that count air from its low end: what the functions require and ensure.
use Rattle.std.specs.Prelude.{ℕ, suc, ◌+◌, ◌-◌, ◌*◌, ◌%◌, ◌≤◌, ◌<◌, List, Bool, false, ◌&&◌, ◌≡◌, leb, ltb, length, get_or}
use Rattle.model.specs.Limits.{air_limit, total_limit, most_columns}
use Rattle.model.specs.Basic.{at, sum, tab}
use Rattle.model.specs.Scheme.{Mismatch, ratio}
use Rattle.model.specs.Remap.{ColumnLayer, amount_above}
use Rattle.model.specs.Long.{line_air, turns}
use Rattle.model.specs.Walk.{Walk, walk, ends_passed, Passes}
use Rattle.units.specs.declared.Mismatch as code
use Rattle.scheme.specs.Leaves.{mismatch_of}

-- ---- the air of k cells
-- up to 72 cells, none with more air than a cell may have
pub record AirNeed (k : ℕ) (air : List ℕ) : Type 0 where
  pub fit : k ≤ most_columns
  pub room : k ≤ length air
  pub most : (i : ℕ) → i < k → at air i ≤ air_limit

-- P is their air sum
pub record IsAirSum (k : ℕ) (air : List ℕ) (P : ℕ) : Type 0 where
  pub is : P ≡ sum k (at air)
  pub most : P ≤ air_limit * k

-- ---- edges
-- whether edge j + 1 is past edge j, by no more air than a cell may have
abbrev pub serves_at : List ℕ → ℕ → Bool
serves_at e j = ltb (at e j) (at e (suc j)) && leb (at e (suc j) - at e j) air_limit

-- k + 1 edges that rise, by no more air than a cell may have
pub record Served (k : ℕ) (e : List ℕ) : Type 0 where
  pub room : k < length e
  pub rises : (j : ℕ) → j < k → at e j < at e (suc j)
  pub most : (j : ℕ) → j < k → at e (suc j) - at e j ≤ air_limit

-- r has the air between them
pub record IsNewAir (k : ℕ) (e r : List ℕ) : Type 0 where
  pub is : (j : ℕ) → j < k → at r j ≡ at e (suc j) - at e j

-- ---- a tracer
-- the slope in cell c of the list
abbrev pub slope_in : List code.Mismatch → ℕ → Mismatch
slope_in slopes c = mismatch_of (get_or slopes c (record { size = 0; positive = false }))

-- cell i of the line that lists of n cells make, laid one after the other without end
abbrev pub cell_at : ℕ → List ℕ → List ℕ → List code.Mismatch → ℕ → ColumnLayer
cell_at n air gas slopes i = record { air = at air (i % n); tracer = at gas (i % n); slope = slope_in slopes (i % n) }

-- lists of 1 to 72 cells with air in range, tracer within the limit and slopes of at most twice the ratio;
-- up to 74 edges that never fall, from 0 to at most three times the lists' air; and room for the amounts between them
pub record LineNeed (n : ℕ) (air gas : List ℕ) (slopes : List code.Mismatch) (e : List ℕ) (m : ℕ) (newgas : List ℕ) : Type 0 where
  pub some : 1 ≤ n
  pub fit : n ≤ most_columns
  pub room_air : n ≤ length air
  pub room_gas : n ≤ length gas
  pub room_slopes : n ≤ length slopes
  pub least : (c : ℕ) → c < n → 1 ≤ at air c
  pub most : (c : ℕ) → c < n → at air c ≤ air_limit
  pub total : sum n (at gas) ≤ total_limit
  pub small : (c : ℕ) → c < n → (slope_in slopes c).size ≤ 2 * ratio (at air c) (at gas c)
  pub few : m ≤ most_columns + 1
  pub room_edges : m < length e
  pub first : at e 0 ≡ 0
  pub rises : (j : ℕ) → j < m → at e j ≤ at e (suc j)
  pub last : at e m ≤ turns * sum n (at air)
  pub room : m ≤ length newgas

-- the definition's walk of the tracer along the line
abbrev pub line_walk : ℕ → List ℕ → List ℕ → List code.Mismatch → List ℕ → ℕ → ℕ → Walk
line_walk n air gas slopes e m = walk (cell_at n air gas slopes) (at e) m

-- how many of its first s steps pass an edge where a cell ends
abbrev pub line_ends : ℕ → List ℕ → List ℕ → List code.Mismatch → List ℕ → ℕ → ℕ → ℕ
line_ends n air gas slopes e m = ends_passed (cell_at n air gas slopes) (at e) m

-- r and `steps` are made by that walk, step after step: so many steps reach the last edge, fewer than there are edges and cells up to it;
-- each new cell has what the mark gains in the step that passes the cell's high edge; and so many of the edges passed lie where a cell ends
pub record IsWalk (n : ℕ) (air gas : List ℕ) (slopes : List code.Mismatch) (e : List ℕ) (m : ℕ) (r : List ℕ) (steps ends : ℕ) : Type 0 where
  pub reaches : (line_walk n air gas slopes e m steps).edges ≡ m
  pub few : (cells : ℕ) → 1 ≤ cells → at e m ≤ line_air n air cells → steps < cells + m
  pub is : (j : ℕ) → j < m → (s : ℕ) × (s < steps) × Passes (line_walk n air gas slopes e m) j (at r j) s
  pub ended : ends ≡ line_ends n air gas slopes e m steps

-- r has the line's tracer between the edges, whatever number of its cells is looked at, if they reach the last edge
pub record IsBetween (n : ℕ) (air gas : List ℕ) (slopes : List code.Mismatch) (e : List ℕ) (m : ℕ) (r : List ℕ) : Type 0 where
  pub is :
      (cells : ℕ) → at e m ≤ line_air n air cells → (j : ℕ) → j < m →
      at r j ≡
      amount_above (tab cells (cell_at n air gas slopes)) (at e (suc j)) -
      amount_above (tab cells (cell_at n air gas slopes)) (at e j)
