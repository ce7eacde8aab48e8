-- What the functions of this crate write: some bytes before others, and a line's text at the end of an array.
use Rattle.std.specs.Prelude.{ℕ, ◌+◌, ◌≤◌, List, ◌++◌, ◌≡◌, length, drop}
use Rattle.program.specs.Records.{Line}
use Rattle.program.specs.Lines.{text}

-- At most `most` bytes are put before place `end` of a list, and start at place r; what stands from `end` on is kept
pub record IsPut (most : ℕ) (bytes : List ℕ) (end : ℕ) (before after : List ℕ) (r : ℕ) : Type 0 where
  pub put : drop r after ≡ bytes ++ drop end before
  pub above : r ≤ end
  pub below : end ≤ r + most

-- From place r on a list of 33 bytes is the line's text
pub record IsText (l : Line) (after : List ℕ) (r : ℕ) : Type 0 where
  pub is : drop r after ≡ text l
  pub fits : r ≤ 33
  pub size : length after ≡ 33
