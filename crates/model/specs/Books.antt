-- Document 02, Slip 8: the book of a tracer, as its block of the ledger holds it. Total on lists of any length and numbers.
use Rattle.std.specs.Prelude.{ℕ, ◌+◌, List, Bool, eqb, set}
use Rattle.model.specs.Limits.{block_numbers}
use Rattle.model.specs.Basic.{at, zeros}
use Rattle.model.specs.Limiters.{first_limiter, with_limiter}

-- "loaded, emitted and withdrawn amounts .. The world's record gains these three 32-bit sums for each tracer": numbers 56, 57 and 58 of a block
abbrev pub loaded_sum : List ℕ → ℕ
loaded_sum b = at b 56

abbrev pub emitted_sum : List ℕ → ℕ
emitted_sum b = at b 57

abbrev pub withdrawn_sum : List ℕ → ℕ
withdrawn_sum b = at b 58

-- "loaded + emitted − withdrawn equals the summed cells", and the left side is not negative: no number here is
abbrev pub balances : List ℕ → ℕ → Bool
balances b cells = eqb (loaded_sum b + emitted_sum b) (withdrawn_sum b + cells)

-- "written by load, emission, tick and withdrawal": a block with so much more emitted and withdrawn
abbrev pub entered : List ℕ → (emitted withdrawn : ℕ) → List ℕ
entered b emitted withdrawn = set (set b 57 (emitted_sum b + emitted)) 58 (withdrawn_sum b + withdrawn)

-- .. and a block as a load of so many units leaves it: no emitter stands, the first limiter, nothing emitted or withdrawn yet
abbrev pub fresh_block : ℕ → List ℕ
fresh_block total = set (with_limiter (zeros block_numbers) first_limiter) 56 total
