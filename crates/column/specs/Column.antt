-- The remap of one column in lent lists: what the functions require and ensure.
use Rattle.std.specs.Prelude.{ℕ, ◌+◌, ◌*◌, ◌≤◌, ◌<◌, List, ◌≡◌, length}
use Rattle.model.specs.Basic.{at, tab}
use Rattle.model.specs.Remap.{edge}

-- the column of a list's first k entries
abbrev pub firsts : ℕ → List ℕ → List ℕ
firsts k l = tab k (at l)

-- ---- edges
-- a table of k + 1 pairs, a column's air, and room for k + 1 edges
pub record EdgesNeed (table : List ℕ) (P k : ℕ) (e : List ℕ) : Type 0 where
  pub fit : k ≤ 32
  pub pairs : length table ≡ 2 * (k + 1)
  pub most : P ≤ 2097120
  pub room : k < length e

-- e has the table's k + 1 edges in a column of P units of air
pub record AreEdges (table : List ℕ) (P k : ℕ) (e : List ℕ) : Type 0 where
  pub is : (j : ℕ) → j ≤ k → at e j ≡ edge table P j
