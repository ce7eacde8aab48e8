-- The slopes of a line's cells in a list, as a loop fills it.
-- Assumes room in the list.
use Rattle.std.specs.Prelude.{ℕ, ◌+◌, ◌<◌, List, ◌≡◌, length, set}
use Rattle.std.proofs.Common.{arith}
use Rattle.units.specs.declared.Mismatch as code
use Rattle.model.specs.Scheme.{Mismatch}
use Rattle.model.proofs.Laws.Entries.{entries_more}
use Rattle.scheme.specs.Leaves.{mismatch_of}
use Rattle.line.specs.Line.{slope_in}

-- the list holds the slopes `D c` of the first n cells
pub record SlopesTo (D : ℕ → Mismatch) (n : ℕ) (slopes : List code.Mismatch) : Type 0 where
  pub is : (c : ℕ) → c < n → slope_in slopes c ≡ D c

module _ {D : ℕ → Mismatch} {slopes : List code.Mismatch} where
  pub slopes_none : SlopesTo D 0 slopes
  slopes_none = record { is = λ c h. absurd (omega arith) }

  -- one more, where those of the cells before it are there
  pub slopes_more : (c : ℕ) → SlopesTo D c slopes → c < length slopes → (d : code.Mismatch) → mismatch_of d ≡ D c → SlopesTo D (c + 1) (set slopes c d)
  slopes_more c to room d this = record { is = entries_more _ slopes c d (λ t x. mismatch_of x ≡ D t) room to.is this }
