-- What the functions of a column's table and edges need: numbers, the test of a pair, and the test of the edges as the model has it.
use Rattle.std.specs.Prelude.{ℕ, suc, ◌+◌, ◌-◌, ◌*◌, ◌^◌, ◌≤◌, ◌<◌, List, Bool, ◌&&◌, ◌≡◌, leb, ltb}
use Rattle.std.proofs.Common.{ap₂, mul-le-mul, arith}
use Rattle.model.specs.Limits.{air_limit, table_scale, table_limit}
use Rattle.model.specs.Basic.{at, every}
use Rattle.model.specs.Remap.{edges_serve}
use Rattle.model.proofs.Laws.Basic.{every_ext}
use Rattle.line.specs.Line.{serves_at}
use Rattle.column.specs.Column.{AreEdges}

-- ---- numbers: b·P in 64 bits
module _ (b P : ℕ) (hb : b < 2 ^ 32) (h_p : P ≤ 2097120) where
  pub product_fits : b * P < 2 ^ 54
  product_fits = omega (arith, mul-le-mul {n₁ = b} {m₁ = P} {n₂ = 2 ^ 32} (omega arith) h_p)

-- ---- the tests of the table and of the edges
abbrev pub pair_fits : List ℕ → ℕ → Bool
pair_fits table j = leb (at table (2 * j)) table_limit && leb (at table (2 * j + 1)) table_scale

pub serving_is : {table : List ℕ} {P k : ℕ} {e : List ℕ} → AreEdges table P k e → every k (serves_at e) ≡ edges_serve k table P
unfolding edges_serve
serving_is {k = k} are =
    every_ext k _ _ (λ j h. ap₂ (λ (x y : ℕ). ltb x y && leb (y - x) air_limit) (are.is j (omega arith)) (are.is (suc j) h))
