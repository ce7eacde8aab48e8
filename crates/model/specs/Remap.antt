-- Document 01, "Remap of all columns", with its count by document 02, Slip 4. High side is down, so a layer's low end is its top.
-- A column's old air and tracer amounts are lists of K numbers; a table is one flat list a, b, a, b, ..
use Rattle.std.specs.Prelude.{ℕ, suc, ◌+◌, ◌*◌, ◌-◌, ◌/◌, ◌%◌, min, max, List, [], ◌∷◌, Bool, true, false, ◌&&◌, ◌||◌, leb, ltb, eqb}
use Rattle.model.specs.Limits.{air_limit, table_scale}
use Rattle.model.specs.Basic.{at, sum, tab, every, some, how_many}
use Rattle.model.specs.World.{Grid, World, layer_cells, world_cells, layer_start, moved}
use Rattle.model.specs.Scheme.{Mismatch, Rule, ratio, plain, low_piece}
use Rattle.model.specs.Limiters.{rule_of}

-- "A column is one cell place through all K layers"
unfoldable pub column : Grid → List ℕ → ℕ → List ℕ
column g l c = tab g.K (λ k. at l (layer_start g k + c))

-- the air of the k uppermost layers of a column; "P is its air sum" is that of all K
abbrev pub air_above : List ℕ → ℕ → ℕ
air_above air k = sum k (at air)

-- "edge j = a + floor(b·P / 65,536)", for pair j = (a, b), which stands at entries 2j and 2j + 1 of the table
unfoldable pub edge : List ℕ → ℕ → ℕ → ℕ
edge table P j = at table (2 * j) + at table (2 * j + 1) * P / table_scale

-- A layer of a column: its air, its tracer, its mismatch
pub record ColumnLayer : Type 0 where
  pub air : ℕ
  pub tracer : ℕ
  pub slope : Mismatch

-- "Caps (in a remap too), and the top and bottom layers in a remap, have D = 0."
unfoldable pub layer_mismatch : Rule → Bool → ℕ → List ℕ → List ℕ → ℕ → Mismatch
layer_mismatch rule cap K air gas k =
    elim (cap || eqb k 0 || eqb (suc k) K) [
      | true ↦ plain
      | false ↦
          rule (ratio (at air (k - 1)) (at gas (k - 1)))
          (ratio (at air k) (at gas k))
          (ratio (at air (suc k)) (at gas (suc k)))
    ]

-- all layers of a column
unfoldable pub layers : Rule → Bool → ℕ → List ℕ → List ℕ → List ColumnLayer
layers rule cap K air gas =
    tab K (λ k. record { air = at air k; tracer = at gas k; slope = layer_mismatch rule cap K air gas k })

-- "Let G(x) be the tracer in the x units of air from the top: whole layers, then a low-end piece."
unfoldable pub amount_above : List ColumnLayer → ℕ → ℕ
amount_above [] x = 0
amount_above (l ∷ below) x =
    elim (leb l.air x) [
      | true ↦ l.tracer + amount_above below (x - l.air)
      | false ↦ low_piece l.slope l.air l.tracer x
    ]

-- "New layer j has air edge(j+1) − edge(j) and tracer G(edge(j+1)) − G(edge(j))."
abbrev pub new_air : List ℕ → ℕ → ℕ → ℕ
new_air table P j = edge table P (suc j) - edge table P j

abbrev pub new_tracer : List ℕ → ℕ → List ColumnLayer → ℕ → ℕ
new_tracer table P ls j = amount_above ls (edge table P (suc j)) - amount_above ls (edge table P j)

-- "in some column edges don't rise strictly, or a new layer exceeds 65,535": that this is not so
unfoldable pub edges_serve : ℕ → List ℕ → ℕ → Bool
edges_serve K table P =
    every K (λ j. ltb (edge table P j) (edge table P (suc j)) && leb (new_air table P j) air_limit)

-- (02) "an old and a new layer that share some air": old layer k and new layer j
unfoldable pub share_air : List ℕ → List ℕ → ℕ → ℕ → ℕ → Bool
share_air table air P j k =
    ltb (max (air_above air k) (edge table P j)) (min (air_above air (suc k)) (edge table P (suc j)))

-- (02) "The count becomes exactly the number of pairs of an old and a new layer that share some air", in one column
unfoldable pub column_count : ℕ → List ℕ → List ℕ → ℕ
column_count K table air = sum K (λ j. how_many K (share_air table air (air_above air K) j))

-- The inner edges that a column's old and new layers have in common: of the new edges between the first and the last, how many lie where an old layer other than the last ends. No call uses it; the law of the count in closed form does
unfoldable pub common_edges : ℕ → List ℕ → List ℕ → ℕ
common_edges K table air =
    how_many (K - 1) (λ j. some (K - 1) (λ k. eqb (air_above air (suc k)) (edge table (air_above air K) (suc j))))

-- A list of one amount for each layer k and each cell place c
abbrev pub over_cells : Grid → (ℕ → ℕ → ℕ) → List ℕ
over_cells g f = tab (world_cells g) (λ i. f (i / layer_cells g) (i % layer_cells g))

-- the column at place c: its old air, P, and whether the place is a cap's
abbrev pub is_cap : Grid → ℕ → Bool
is_cap g c = eqb c 0 || eqb (suc c) (layer_cells g)

abbrev pub column_air : Grid → List ℕ → ℕ → ℕ
column_air g air c = air_above (column g air c) g.K

-- the air, and a tracer's amounts, of all cells after the remap: new layer k of the column at place c
unfoldable pub remapped_air : Grid → List ℕ → List ℕ → List ℕ
remapped_air g table air = over_cells g (λ k c. new_air table (column_air g air c) k)

unfoldable pub remapped_gas : Rule → Grid → List ℕ → List ℕ → List ℕ → List ℕ
remapped_gas rule g table air gas =
    over_cells g (λ k c. new_tracer table (column_air g air c) (layers rule (is_cap g c) g.K (column g air c) (column g gas c)) k)

-- "in some column", (02) "summed over columns", the caps' two among them: the world's remap, when it serves, and its count
unfoldable pub remap_serves : World → List ℕ → Bool
remap_serves w table =
    every (layer_cells w.grid) (λ c. edges_serve w.grid.K table (column_air w.grid w.air c))

unfoldable pub remap_count : World → List ℕ → ℕ
remap_count w table =
    sum (layer_cells w.grid) (λ c. column_count w.grid.K table (column w.grid w.air c))

unfoldable pub remapped : World → List ℕ → World
remapped w table =
    moved w (remapped_air w.grid table w.air) (λ t. remapped_gas (rule_of w t) w.grid table w.air)
