-- Laws of the chain of a sweep over any regular mesh, from the amounts before it to those that it leaves, and of the substep count.
-- Assumes air of 1 to 65,535 in every cell, and a count that serves.
use Prim.Native.Nat.{ℕ, zero, suc, ◌*◌, ◌≤◌, ◌<◌}
use Rattle.std.specs.Prelude.{List, Bool, true, ◌≡◌, ◌≢◌, leb, length, ℤ}
use Rattle.std.proofs.Math.Bool.{false}
use Rattle.std.proofs.Common.{true≢false, sym, ◌∙◌, le_antisymm, arith, leb-true, leb-false}
use Rattle.std.proofs.Math.Path.{refl}
use Rattle.model.specs.Limits.{most_substeps}
use Rattle.model.specs.Basic.{at, sum}
use Rattle.model.specs.Scheme.{Rule}
use Rattle.model.specs.Sweep.{Mesh, parts, air_after, gas_after, serves, substep_count}
use Rattle.model.proofs.Laws.Basic.{every_at, term_le_sum, Smallest, none, found, smallest_is}
use Rattle.model.proofs.Laws.Scheme.{Limited}
use Rattle.model.proofs.Laws.Mesh.{Regular}
use Rattle.model.proofs.Laws.Substep.{AirIn, Allowed, allowed_is, length_after_flow, total_after_flow, gas_total_after_flow, even_after}

-- ---- the lists keep their length
module _ (mesh : Mesh) (fluxes : List ℤ) (n : ℕ) (air : List ℕ) where
  pub length_air_after : length air ≡ mesh.cells → (s : ℕ) → length (air_after mesh fluxes n air s) ≡ mesh.cells
  unfolding air_after
  length_air_after e zero = e
  length_air_after e (suc s) = length_after_flow mesh _ _

  pub length_gas_after :
      (rule : Rule) (gas : List ℕ) → length gas ≡ mesh.cells → (s : ℕ) →
      length (gas_after rule mesh fluxes n air gas s) ≡ mesh.cells
  unfolding gas_after
  length_gas_after rule gas e zero = e
  length_gas_after rule gas e (suc s) = length_after_flow mesh _ _

-- ---- where n serves, each of its substeps is allowed
pub serves_allowed :
    (mesh : Mesh) (fluxes : List ℤ) (air : List ℕ) (n : ℕ) → serves mesh fluxes air n ≡ true → (s : ℕ) → s < n →
    Allowed mesh (parts fluxes n (suc s)) (air_after mesh fluxes n air s)
unfolding serves
serves_allowed mesh fluxes air n e s h = allowed_is mesh _ _ (every_at n _ e s h)

-- ---- what is kept from the start to the end of each substep
module _
    (mesh : Mesh) (regular : Regular mesh) (fluxes : List ℤ) (air : List ℕ) (n : ℕ) (fits : AirIn mesh.cells air)
    (serving : serves mesh fluxes air n ≡ true) where
  pub air_after_in : (s : ℕ) → s ≤ n → AirIn mesh.cells (air_after mesh fluxes n air s)
  unfolding air_after
  air_after_in zero h = fits
  air_after_in (suc s) h = (serves_allowed mesh fluxes air n serving s h).after

  pub air_after_total : (s : ℕ) → s ≤ n → sum mesh.cells (at (air_after mesh fluxes n air s)) ≡ sum mesh.cells (at air)
  unfolding air_after
  air_after_total zero h = refl
  air_after_total (suc s) h =
      total_after_flow mesh _ _ (serves_allowed mesh fluxes air n serving s h).covers regular ∙
      air_after_total s (omega arith)

  module _ {rule : Rule} (limited : Limited rule) (gas : List ℕ) where
    pub gas_after_total : (s : ℕ) → s ≤ n → sum mesh.cells (at (gas_after rule mesh fluxes n air gas s)) ≡ sum mesh.cells (at gas)
    unfolding gas_after
    gas_after_total zero h = refl
    gas_after_total (suc s) h =
        gas_total_after_flow limited mesh regular _ _ _ (air_after_in s (omega arith)) (serves_allowed mesh fluxes air n serving s h).covers ∙
        gas_after_total s (omega arith)

    -- no amount passes the total
    pub gas_after_le : (s : ℕ) → s ≤ n → (c : ℕ) → c < mesh.cells → at (gas_after rule mesh fluxes n air gas s) c ≤ sum mesh.cells (at gas)
    gas_after_le s h c inside = rw (← (gas_after_total s h)) (term_le_sum mesh.cells _ c inside)

    -- a constant whole-number ratio stays
    pub even_chain :
        (z : ℕ) → ((c : ℕ) → c < mesh.cells → at gas c ≡ z * at air c) → (s : ℕ) → s ≤ n → (c : ℕ) → c < mesh.cells →
        at (gas_after rule mesh fluxes n air gas s) c ≡ z * at (air_after mesh fluxes n air s) c
    unfolding air_after gas_after
    even_chain z even zero h = even
    even_chain z even (suc s) h =
        even_after limited mesh regular _ _ _ (air_after_in s (omega arith)) z (even_chain z even s (omega arith)) (serves_allowed mesh fluxes air n serving s h).covers

-- ---- the count: "the smallest n from 1 to 16"
pub record IsCount (mesh : Mesh) (fluxes : List ℤ) (air : List ℕ) (n : ℕ) : Type 0 where
  pub positive : 1 ≤ n
  pub most : n ≤ most_substeps
  pub serving : serves mesh fluxes air n ≡ true
  pub least : (i : ℕ) → 1 ≤ i → i < n → serves mesh fluxes air i ≡ false

module _ (mesh : Mesh) (fluxes : List ℤ) (air : List ℕ) where
  -- if it is not 0, it is the smallest of 1 to 16 that serves
  pub count_smallest : substep_count mesh fluxes air ≢ 0 → IsCount mesh fluxes air (substep_count mesh fluxes air)
  unfolding substep_count
  count_smallest = go (smallest_is most_substeps (serves mesh fluxes air))
    where
      go : {n : ℕ} → Smallest most_substeps (serves mesh fluxes air) n → n ≢ 0 → IsCount mesh fluxes air n
      go (none h) ne = absurd (ne refl)
      go (found h e smaller) ne =
          record { positive = omega arith; most = h; serving = e; least = λ i low high. smaller i low (omega arith) }

  -- if it is 0, none of them serves
  pub count_none : substep_count mesh fluxes air ≡ 0 → (n : ℕ) → 1 ≤ n → n ≤ most_substeps → serves mesh fluxes air n ≡ false
  unfolding substep_count
  count_none = go (smallest_is most_substeps (serves mesh fluxes air))
    where
      go : {m : ℕ} → Smallest most_substeps (serves mesh fluxes air) m → m ≡ 0 → (n : ℕ) → 1 ≤ n → n ≤ most_substeps → serves mesh fluxes air n ≡ false
      go (none h) e = h
      go (found h p q) e = absurd (omega arith)

  -- and no other number is that
  count_meets : {m n : ℕ} → IsCount mesh fluxes air m → IsCount mesh fluxes air n → n ≤ m
  count_meets {m} {n} p q = go (leb n m) refl
    where
      go : (b : Bool) → leb n m ≡ b → n ≤ m
      go true e = leb-true n m e
      go false e = absurd (true≢false (sym p.serving ∙ q.least m p.positive (leb-false n m e)))

  pub count_only : {n : ℕ} → IsCount mesh fluxes air n → substep_count mesh fluxes air ≡ n
  count_only {n} p =
      let q = count_smallest (λ e. true≢false (sym p.serving ∙ count_none e n p.positive p.most)) in
      le_antisymm (count_meets p q) (count_meets q p)
