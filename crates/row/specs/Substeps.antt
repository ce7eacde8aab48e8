-- The substeps of a row of as many columns as fluxes: what the functions require and ensure, and the chain as loops make it.
use Rattle.std.specs.Prelude.{ℕ, suc, ◌+◌, ◌≤◌, ◌<◌, List, Bool, true, false, ◌≡◌, ℤ, length, Option, Some, None, MatchOption}
use Rattle.std.proofs.Common.{true≢false, sym, ◌∙◌, ap, ap₂}
use Rattle.std.proofs.Math.Path.{refl}
use Rattle.std.proofs.Math.Numerals.{add-one}
use native.Mathlib.Omega.{arith}
use Rattle.model.specs.Limits.{most_substeps}
use Rattle.model.specs.Basic.{every}
use Rattle.model.specs.Sweep.{Mesh, ring, parts, allowed, after_flow, air_after, serves, substep_count}
use Rattle.model.proofs.Laws.Basic.{every_at, every_false, Smallest, none, found, smallest_is}
use Rattle.model.proofs.Laws.Chain.{count_only}
use Rattle.model.proofs.Laws.Ring.{ring_regular}
use Rattle.substep.specs.Faces.{flow_of, Same, AreParts, same_after, same_allowed}

-- the row of as many columns as fluxes
abbrev pub row_mesh : List ℤ → Mesh
row_mesh fluxes = ring (length fluxes)

-- its air, and no more columns than there is room for
pub record RowNeed (air : List ℕ) (fluxes : List ℤ) : Type 0 where
  pub long : length air ≡ length fluxes
  pub wide : length fluxes ≤ 72

-- n is the row's count, from 1 to 16
pub record IsCount (air : List ℕ) (fluxes : List ℤ) (n : ℕ) : Type 0 where
  pub is : n ≡ substep_count (row_mesh fluxes) fluxes air
  pub some : 0 < n
  pub most : n ≤ 16

-- the row's count, or none: the model's 0
abbrev pub IsFound : List ℕ → List ℤ → Option ℕ → Type 0
IsFound air fluxes r = MatchOption r (substep_count (row_mesh fluxes) fluxes air ≡ 0) (IsCount air fluxes)

-- ---- the chain as loops make it
module _ (fluxes : List ℤ) (n : ℕ) (air : List ℕ) where
  -- the air after s of n substeps, and whether substep s + 1 is allowed
  abbrev pub chain : ℕ → List ℕ
  chain s = air_after (row_mesh fluxes) fluxes n air s

  abbrev pub may : ℕ → Bool
  may s = allowed (row_mesh fluxes) (parts fluxes n (suc s)) (chain s)

  pub chain_start : air ≡ chain 0
  unfolding air_after
  chain_start = refl

  -- substep s + 1, from the air after s substeps
  module _ (s : ℕ) (up down now : List ℕ) (are : AreParts fluxes n (s + 1) up down) (reached : now ≡ chain s) where
    flows : Same (row_mesh fluxes).faces (flow_of up down) (parts fluxes n (s + 1))
    unfolding ring
    flows = are

    pub may_step : allowed (row_mesh fluxes) (flow_of up down) now ≡ may s
    may_step =
        same_allowed (row_mesh fluxes) (ring_regular _) flows now ∙
        ap₂ (λ (k : ℕ) (l : List ℕ). allowed (row_mesh fluxes) (parts fluxes n k) l) (add-one s) reached

    pub chain_more : after_flow (row_mesh fluxes) (flow_of up down) now ≡ chain (s + 1)
    unfolding air_after
    chain_more =
        same_after (row_mesh fluxes) (ring_regular _) flows now ∙
        (rw add-one (ap (after_flow (row_mesh fluxes) (parts fluxes n (suc s))) reached))

    -- the same of the ring of the air's own length
    module _ (long : length now ≡ length fluxes) where
      pub may_here : allowed (ring (length now)) (flow_of up down) now ≡ may s
      may_here = ap (λ (w : ℕ). allowed (ring w) (flow_of up down) now) long ∙ may_step

      pub after_here : after_flow (ring (length now)) (flow_of up down) now ≡ chain (s + 1)
      after_here = ap (λ (w : ℕ). after_flow (ring w) (flow_of up down) now) long ∙ chain_more

  -- n serves where each of its substeps is allowed
  pub serves_is : every n may ≡ serves (row_mesh fluxes) fluxes air n
  unfolding serves
  serves_is = refl

  pub serves_not : (s : ℕ) → s < n → may s ≡ false → serves (row_mesh fluxes) fluxes air n ≡ false
  serves_not s h e = sym serves_is ∙ every_false n may s h e

  pub serves_step : serves (row_mesh fluxes) fluxes air n ≡ true → (s : ℕ) → s < n → may s ≡ true
  serves_step e = every_at n may (serves_is ∙ e)

-- ---- the search for the count
module _ (air : List ℕ) (fluxes : List ℤ) where
  -- none of the numbers below n serves
  abbrev pub NoneBelow : ℕ → Type 0
  NoneBelow n = (i : ℕ) → i < n → 1 ≤ i → serves (row_mesh fluxes) fluxes air i ≡ false

  pub found_first : (n : ℕ) → 1 ≤ n → n ≤ 16 → NoneBelow n → serves (row_mesh fluxes) fluxes air n ≡ true → IsCount air fluxes n
  found_first n low high before e =
      record {
        is = sym (count_only (row_mesh fluxes) fluxes air (record { positive = low; most = high; serving = e; least = λ i p q. before i q p }));
        some = low;
        most = high;
      }

  pub found_none : NoneBelow 17 → substep_count (row_mesh fluxes) fluxes air ≡ 0
  unfolding substep_count
  found_none before = go (smallest_is most_substeps (serves (row_mesh fluxes) fluxes air))
    where
      go : {n : ℕ} → Smallest most_substeps (serves (row_mesh fluxes) fluxes air) n → n ≡ 0
      go (none h) = refl
      go (found h e smaller) = absurd (true≢false (sym e ∙ before _ (omega arith) (omega arith)))

  -- what a search from 1 to 16 finds
  pub found_at :
      (r : Option ℕ) →
      MatchOption r ((n : ℕ) → 1 ≤ n → n < 17 → serves (row_mesh fluxes) fluxes air n ≡ false)
      (λ n. (1 ≤ n) × (n < 17) × (serves (row_mesh fluxes) fluxes air n ≡ true) × ((i : ℕ) → 1 ≤ i → i < n → serves (row_mesh fluxes) fluxes air i ≡ false)) →
      IsFound air fluxes r
  found_at None before = found_none (λ i high low. before i low high)
  found_at (Some n) is = found_first n is.0 (omega arith) (λ i high low. is.3 i low high) is.2
