-- A cell with what enters and what leaves it, and a list of amounts as a loop over its cells passes them on; over any mesh.
use Rattle.std.specs.Prelude.{ℕ, ◌+◌, ◌-◌, ◌≤◌, ◌<◌, List, Bool, true, false, ◌&&◌, ◌≡◌, refl, leb, length, set}
use Rattle.std.proofs.Common.{⊎_elim, sym, ap₂, ◌∙◌, eq-or-lt_of_le, arith, leb-true, leb-false, le-leb, length-set, get_or-set_same, get_or-set_other, ext_get_or}
use Rattle.std.proofs.lemmas.Bool.{lt-leb}
use Rattle.model.specs.Limits.{air_limit}
use Rattle.model.specs.Basic.{at}
use Rattle.model.specs.World.{air_fits}
use Rattle.model.specs.Sweep.{Mesh, Flow, leaving, entering, after_flow, allowed}
use Rattle.model.proofs.Laws.Substep.{Covers, allowed_is, air_bounds, at_after_flow, length_after_flow, balance}

-- ---- what a cell exchanges
-- e and l are what enters and what leaves cell c
pub record Cell (mesh : Mesh) (flow : Flow) (c e l : ℕ) : Type 0 where
  pub inside : c < mesh.cells
  pub enters : e ≡ entering mesh flow c
  pub leaves : l ≡ leaving mesh flow c

-- it gives no more than it has, and what it then has fits 32 bits
pub record CellFlows (have enters leaves : ℕ) : Type 0 where
  pub gives : leaves ≤ have
  pub has : have + enters ≤ 4294967295 + leaves

-- sums that 64 bits hold: what passes at most 72 faces
pub record Sums (enters leaves : ℕ) : Type 0 where
  pub into : enters ≤ 309237645240
  pub from : leaves ≤ 309237645240

-- a cell of m units of air may get `come` and give `out`: "no cell's outflow .. exceeds its air, and every cell's air afterwards is 1 to 65,535"
abbrev pub may_pass : ℕ → ℕ → ℕ → Bool
may_pass m come out = leb out m && air_fits (m + come - out)

-- the same without a difference that could be cut off
same_test : (a b c d : ℕ) → (a ≤ b → c ≤ d) → (b < a → d < c) → leb a b ≡ leb c d
same_test a b c d up down = go (leb a b) refl
  where
    go : (t : Bool) → leb a b ≡ t → t ≡ leb c d
    go true e = sym (le-leb c d (up (leb-true a b e)))
    go false e = sym (lt-leb c d (down (leb-false a b e)))

pub may_pass_lem : (m come out : ℕ) → leb out m && (leb (out + 1) (m + come) && leb (m + come) (out + air_limit)) ≡ may_pass m come out
may_pass_lem m come out =
    let after : ℕ = m + come - out in
    let some = same_test (out + 1) (m + come) 1 after (λ h. omega arith) (λ h. omega arith) in
    let fits = same_test (m + come) (out + air_limit) after air_limit (λ h. omega arith) (λ h. omega arith) in
    ap₂ (λ (a b : Bool). leb out m && (a && b)) some fits

-- cell c's test in `allowed`
abbrev pub cell_allowed : Mesh → Flow → List ℕ → ℕ → Bool
cell_allowed mesh flow l c = leb (leaving mesh flow c) (at l c) && air_fits (at (after_flow mesh flow l) c)

module _ {mesh : Mesh} {flow : Flow} {c e l : ℕ} (cell : Cell mesh flow c e l) (amounts : List ℕ) where
  cell_after : at amounts c + e - l ≡ at (after_flow mesh flow amounts) c
  cell_after = rw (cell.enters, cell.leaves) (sym (at_after_flow mesh flow amounts c cell.inside))

  pub cell_allows : may_pass (at amounts c) e l ≡ cell_allowed mesh flow amounts c
  cell_allows = ap₂ (λ (x y : ℕ). leb x (at amounts c) && air_fits y) cell.leaves cell_after

  cell_exchange : Covers mesh flow amounts → at (after_flow mesh flow amounts) c ≤ 4294967295 → CellFlows (at amounts c) e l
  cell_exchange covers fits =
      record {
        gives = rw cell.leaves (covers c cell.inside);
        has = omega (arith, balance mesh flow amounts covers c cell.inside, cell.enters, cell.leaves);
      }

-- ---- amounts that a loop passes on
-- every cell gives no more than it has, and what it then has fits 32 bits
pub record Moves (mesh : Mesh) (flow : Flow) (l : List ℕ) : Type 0 where
  pub long : length l ≡ mesh.cells
  pub covers : Covers mesh flow l
  pub after : (c : ℕ) → c < mesh.cells → at (after_flow mesh flow l) c ≤ 4294967295

-- so it is with air where the substep is allowed
pub air_moves : (mesh : Mesh) (flow : Flow) (air : List ℕ) → length air ≡ mesh.cells → allowed mesh flow air ≡ true → Moves mesh flow air
air_moves mesh flow air long permits =
    let allows = allowed_is mesh flow air permits in
    record {
      long = long;
      covers = allows.covers;
      after = λ c h. omega (arith, (air_bounds (at (after_flow mesh flow air) c) (allows.after c h)).1);
    }

-- the first c cells have their amount afterwards, the others what they had
pub record Moved (mesh : Mesh) (flow : Flow) (before l : List ℕ) (c : ℕ) : Type 0 where
  pub long : length l ≡ length before
  pub done : (k : ℕ) → k < c → at l k ≡ at (after_flow mesh flow before) k
  pub left : (k : ℕ) → c ≤ k → at l k ≡ at before k

module _ {mesh : Mesh} {flow : Flow} {before : List ℕ} (moves : Moves mesh flow before) where
  pub moved_none : Moved mesh flow before before 0
  moved_none = record { long = refl; done = λ k h. absurd (omega arith); left = λ k h. refl }

  module _ {l : List ℕ} {c e o : ℕ} (moved : Moved mesh flow before l c) (cell : Cell mesh flow c e o) where
    pub moved_exchange : CellFlows (at l c) e o
    moved_exchange =
        rw (moved.left c (omega arith)) (cell_exchange cell before moves.covers (moves.after c cell.inside))

    pub moved_more : {x : ℕ} → x ≡ at l c + e - o → Moved mesh flow before (set l c x) (c + 1)
    moved_more {x} is =
        let room : c < length l = omega (arith, moved.long, moves.long, cell.inside) in
        record {
          long = length-set l c x ∙ moved.long;
          done =
              λ k p.
              ⊎_elim
              (λ (q : k ≡ c). rw (q, get_or-set_same l c x 0 room, is, moved.left c (omega arith)) (cell_after cell before))
              (λ (q : k < c). get_or-set_other l c k x 0 (λ u. omega arith) ∙ moved.done k q)
              (eq-or-lt_of_le (omega arith));
          left = λ k p. get_or-set_other l c k x 0 (λ u. omega arith) ∙ moved.left k (omega arith);
        }

  -- all cells passed on
  pub all_moved_lem : {l : List ℕ} → Moved mesh flow before l mesh.cells → l ≡ after_flow mesh flow before
  all_moved_lem {l} moved =
      ext_get_or 0 l (after_flow mesh flow before) (moved.long ∙ moves.long ∙ sym (length_after_flow mesh flow before))
      (λ c h. moved.done c (omega (arith, moved.long, moves.long)))
