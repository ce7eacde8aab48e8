-- 32 bits as a signed number: the library's cast is the document's `signed`.
use Rattle.std.specs.Prelude.{ℕ, suc, ◌-◌, ◌≤◌, ◌<◌, ◌⊎◌, ◌≡◌}
use Rattle.std.proofs.Common.{inl, inr, arith, lt-ltb, le-ltb}
use Rattle.std.specs.Int.{w32, cast_signed}
use Rattle.model.proofs.Laws.Entries.{below_or_not}
use Rattle.program.specs.Bytes.{signed}

pub cast_is_signed : (x : ℕ) → x < 4294967296 → cast_signed w32 x ≡ signed x
cast_is_signed x few = go (below_or_not x 2147483648)
  where
    go : (x < 2147483648) ⊎ (2147483648 ≤ x) → cast_signed w32 x ≡ signed x
    go (inl h) = rw (signed, lt-ltb x 2147483648 h)
    go (inr h) =
        let e : 4294967296 - x ≡ suc (4294967296 - suc x) = omega arith in
        rw (signed, le-ltb x 2147483648 h, e)
