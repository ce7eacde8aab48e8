-- Laws of records: a record is decided by its kind and the bytes that it needs, whatever follows them.
use Rattle.std.specs.Prelude.{ℕ, zero, suc, ◌+◌, ◌*◌, ◌≤◌, ◌<◌, List, ◌∷◌, Bool, true, false, ◌⊎◌, ◌≡◌, refl, length, take, drop}
use Rattle.std.proofs.Common.{inl, inr, sym, ◌∙◌, ap, arith, zero-add, lit<, get_or-take, take_all, length-take-le}
use borrow.Author.Tests.{le-leb, lt-leb}
use Rattle.model.specs.Basic.{at, tab, tab_from}
use Rattle.model.proofs.Laws.Entries.{part_part, below_or_not}
use Rattle.model.specs.World.{Grid, world_cells}
use Rattle.program.specs.Bytes.{number, number_at, numbers_at, signed, fluxes_at}
use Rattle.program.specs.Records.{Kind, unknown, grid_kind, load_kind, emission_kind, withdrawal_kind, zonal_kind, meridional_kind, remap_kind, total_kind, cell_kind, kind_of, State, grid_of, in_place, body_length, command_of, fault, command, found, needed}

-- ---- lists of values, entry by entry
tab_from_same : {A : Type 0} (i n : ℕ) (f g : ℕ → A) → ((j : ℕ) → i ≤ j → j < i + n → f j ≡ g j) → tab_from i n f ≡ tab_from i n g
unfolding tab_from
tab_from_same i zero f g h = refl
tab_from_same i (suc n) f g h =
    rw (h i (omega arith) (omega arith), tab_from_same (suc i) n f g (λ j p q. h j (omega arith) (omega arith)))

pub tab_same : {A : Type 0} (n : ℕ) (f g : ℕ → A) → ((j : ℕ) → j < n → f j ≡ g j) → tab n f ≡ tab n g
tab_same n f g h = tab_from_same 0 n f g (λ j p q. h j (omega arith))

-- ---- the numbers of a body's first n bytes
module _ (n : ℕ) (body : List ℕ) (whole : n ≤ length body) where
  number_taken : (a k : ℕ) → a + k ≤ n → number_at (take n body) a k ≡ number_at body a k
  number_taken a k h = ap number (part_part body 0 n a k (omega arith) h ∙ ap (λ (x : ℕ). take k (drop x body)) (zero-add a))

  numbers_taken : (a k : ℕ) → a + 4 * k ≤ n → numbers_at (take n body) a k ≡ numbers_at body a k
  numbers_taken a k h = tab_same k _ _ (λ j p. number_taken (a + 4 * j) 4 (omega arith))

  fluxes_taken : (a k : ℕ) → a + 4 * k ≤ n → fluxes_at (take n body) a k ≡ fluxes_at body a k
  fluxes_taken a k h = tab_same k _ _ (λ j p. ap signed (number_taken (a + 4 * j) 4 (omega arith)))

  byte_taken : (i : ℕ) → i < n → at (take n body) i ≡ at body i
  byte_taken i h = get_or-take n body i 0 h

-- ---- a command is that of the bytes that its kind needs
pub command_taken :
    (g : Grid) (kind : Kind) (body : List ℕ) → body_length g kind ≤ length body →
    command_of g kind (take (body_length g kind) body) ≡ command_of g kind body
command_taken g unknown body h = refl
command_taken g grid_kind body h =
    rw (byte_taken 4 body h 0 (lit< tt), byte_taken 4 body h 1 (lit< tt), byte_taken 4 body h 2 (lit< tt), byte_taken 4 body h 3 (lit< tt))
command_taken g load_kind body h =
    rw (numbers_taken _ body h 0 (world_cells g) (omega arith), numbers_taken _ body h (4 * world_cells g) (g.N * world_cells g) (omega arith))
command_taken g emission_kind body h =
    rw (byte_taken 7 body h 0 (lit< tt), number_taken 7 body h 1 2 (omega arith), number_taken 7 body h 3 4 (omega arith))
command_taken g withdrawal_kind body h =
    rw (byte_taken 7 body h 0 (lit< tt), number_taken 7 body h 1 2 (omega arith), number_taken 7 body h 3 4 (omega arith))
command_taken g zonal_kind body h =
    rw (byte_taken _ body h 0 (omega arith), byte_taken _ body h 1 (omega arith), fluxes_taken _ body h 2 g.W (omega arith))
command_taken g meridional_kind body h =
    rw (byte_taken _ body h 0 (omega arith), fluxes_taken _ body h 1 (g.W * (g.R + 1)) (omega arith))
command_taken g remap_kind body h = rw (numbers_taken _ body h 0 (2 * (g.K + 1)) (omega arith))
command_taken g total_kind body h = rw (byte_taken 1 body h 0 (lit< tt))
command_taken g cell_kind body h = rw (byte_taken 3 body h 0 (lit< tt), number_taken 3 body h 1 2 (omega arith))

-- ---- the three answers of the reader
module _ (s : State) (byte : ℕ) (body : List ℕ) where
  pub found_misplaced : in_place s (kind_of byte) ≡ false → found s (byte ∷ body) ≡ fault 13
  unfolding found
  found_misplaced e = rw (e, found)

  pub found_short : in_place s (kind_of byte) ≡ true → length body < body_length (grid_of s) (kind_of byte) → found s (byte ∷ body) ≡ fault 14
  unfolding found
  found_short e h = rw (e, found, lt-leb _ _ h)

  pub found_command :
      in_place s (kind_of byte) ≡ true → body_length (grid_of s) (kind_of byte) ≤ length body →
      found s (byte ∷ body) ≡ command (command_of (grid_of s) (kind_of byte) body)
  unfolding found
  found_command e h = rw (e, found, le-leb _ _ h)

  pub needed_none : in_place s (kind_of byte) ≡ false → needed s byte ≡ 0
  needed_none e = rw (e, needed)

  pub needed_body : in_place s (kind_of byte) ≡ true → needed s byte ≡ body_length (grid_of s) (kind_of byte)
  needed_body e = rw (e, needed)

-- ---- the reader finds in the bytes that are needed what it finds in all that follow
pub found_taken : (s : State) (byte : ℕ) (bytes : List ℕ) → found s (byte ∷ take (needed s byte) bytes) ≡ found s (byte ∷ bytes)
found_taken s byte bytes = go (in_place s (kind_of byte)) refl
  where
    n : ℕ
    n = body_length (grid_of s) (kind_of byte)

    whole : in_place s (kind_of byte) ≡ true → (length bytes < n) ⊎ (n ≤ length bytes) → found s (byte ∷ take n bytes) ≡ found s (byte ∷ bytes)
    whole e (inr h) =
        found_command s byte (take n bytes) e (omega (arith, length-take-le n bytes h)) ∙
        ap command (command_taken (grid_of s) (kind_of byte) bytes h) ∙
        sym (found_command s byte bytes e h)
    whole e (inl h) = rw (take_all n bytes (omega arith))

    go : (b : Bool) → in_place s (kind_of byte) ≡ b → found s (byte ∷ take (needed s byte) bytes) ≡ found s (byte ∷ bytes)
    go false e = found_misplaced s byte _ e ∙ sym (found_misplaced s byte bytes e)
    go true e = rw (needed_body s byte bytes e) (whole e (below_or_not (length bytes) n))
