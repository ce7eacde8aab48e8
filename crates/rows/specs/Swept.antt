-- The air and the rows of all tracers after a sweep's substeps: the model's chain.
use Prim.Native.Nat.{ℕ, suc, ◌+◌, ◌*◌, ◌≤◌, ◌<◌}
use mathlib.Core.List.{List}
use Rattle.std.specs.Prelude.{true, ◌≡◌, ℤ}
use Rattle.std.proofs.Math.Path.{refl, ap}
use Rattle.std.proofs.Common.{sym, subst, ap₂, ◌∙◌, le_of_lt}
use Rattle.std.proofs.Math.Numerals.{add-one}
use Rattle.std.proofs.Math.ListN.{length}
use Rattle.model.specs.Limits.{total_limit, block_numbers}
use Rattle.model.specs.Basic.{at, sum}
use Rattle.model.specs.Sweep.{ring, parts, allowed, after_flow, gas_after, serves}
use Rattle.model.proofs.Laws.Substep.{AirIn, length_after_flow}
use Rattle.model.proofs.Laws.Ring.{ring_regular}
use Rattle.model.specs.Limiters.{rule_for}
use Rattle.model.proofs.Laws.Chain.{air_after_in}
use Rattle.units.specs.Limiter.{limiter_at}
use Rattle.substep.specs.Faces.{flow_of, Same, AreParts, stepped, same_stepped}
use Rattle.substep.specs.Cells.{Moves, air_moves}
use Rattle.row.specs.Columns.{FaceRoom, Passing}
use Rattle.row.specs.Substeps.{row_mesh, RowNeed, chain, chain_start, may_here, after_here, serves_step}
use Rattle.rows.specs.Gas.{row_of, Wide, row_stepped, StepsNeed, AreSteps, gas_need, total_stepped}

-- tracer t's amounts after s of n substeps
abbrev pub gas_chain : List (List ℕ) → List ℕ → List ℕ → List ℤ → ℕ → ℕ → ℕ → List ℕ
gas_chain rows ledger air fluxes n s t =
    gas_after (rule_for (limiter_at ledger t)) (row_mesh fluxes) fluxes n air (row_of (length fluxes) rows t) s

pub record SweepNeed (rows : List (List ℕ)) (ledger air : List ℕ) (fluxes : List ℤ) (n tracers : ℕ) : Type 0 where
  pub row : RowNeed air fluxes
  pub most : n ≤ 16
  pub serving : serves (row_mesh fluxes) fluxes air n ≡ true
  pub air_in : AirIn (length fluxes) air
  pub few : tracers ≤ 8
  pub blocks : tracers * block_numbers ≤ length ledger
  pub wide_rows : Wide tracers rows
  pub total : (t : ℕ) → t < tracers → sum (length fluxes) (at (row_of (length fluxes) rows t)) ≤ total_limit

-- the air and the rows after all n substeps
pub record AreSwept (rows : List (List ℕ)) (ledger air : List ℕ) (fluxes : List ℤ) (n tracers : ℕ) (after : List ℕ) (r : List (List ℕ)) : Type 0 where
  pub air_is : after ≡ chain fluxes n air n
  pub wide_rows : Wide tracers r
  pub each : (t : ℕ) → t < tracers → row_of (length fluxes) r t ≡ gas_chain rows ledger air fluxes n n t

-- the loop over the substeps: the air and every tracer after s of them
pub record SweptSoFar (rows : List (List ℕ)) (ledger air : List ℕ) (fluxes : List ℤ) (n tracers s : ℕ) (now_air : List ℕ) (now : List (List ℕ)) : Type 0 where
  pub long : length now_air ≡ length fluxes
  pub air_is : now_air ≡ chain fluxes n air s
  pub wide_rows : Wide tracers now
  pub gas_is : (t : ℕ) → t < tracers → row_of (length fluxes) now t ≡ gas_chain rows ledger air fluxes n s t
  pub total : (t : ℕ) → t < tracers → sum (length fluxes) (at (row_of (length fluxes) now t)) ≤ total_limit

module _ {rows : List (List ℕ)} {ledger air : List ℕ} {fluxes : List ℤ} {n tracers : ℕ} (need : SweepNeed rows ledger air fluxes n tracers) where
  pub after_none : SweptSoFar rows ledger air fluxes n tracers 0 air rows
  unfolding gas_after
  after_none =
      record {
        long = need.row.long;
        air_is = chain_start fluxes n air;
        wide_rows = need.wide_rows;
        gas_is = λ t h. refl;
        total = need.total;
      }

  pub step_air_in :
      {s : ℕ} {now_air : List ℕ} {now : List (List ℕ)} → SweptSoFar rows ledger air fluxes n tracers s now_air now → s < n → AirIn (length now_air) now_air
  unfolding ring
  step_air_in {s} reached inside =
      rw (reached.long, reached.air_is) (air_after_in (row_mesh fluxes) (ring_regular _) fluxes air n need.air_in need.serving s (le_of_lt inside))

  -- substep s + 1, of which up and down have the parts
  module _ {s : ℕ} {now_air : List ℕ} {now : List (List ℕ)} (reached : SweptSoFar rows ledger air fluxes n tracers s now_air now) (inside : s < n)
      (up down : List ℕ) (are : AreParts fluxes n (s + 1) up down) where
    pub step_allowed : allowed (ring (length now_air)) (flow_of up down) now_air ≡ true
    step_allowed =
        may_here fluxes n air s up down now_air are reached.air_is reached.long ∙
        serves_step fluxes n air need.serving s inside

    pub air_may_move : Moves (ring (length now_air)) (flow_of up down) now_air
    unfolding ring
    air_may_move = air_moves (ring (length now_air)) (flow_of up down) now_air refl step_allowed

    module _ (room : FaceRoom (length fluxes) up down) where
      pub rows_may_step : StepsNeed tracers now ledger now_air up down
      rows_may_step =
          record {
            few = need.few;
            blocks = need.blocks;
            wide_rows = reached.wide_rows;
            wide = rw reached.long need.row.wide;
            room = rw reached.long room;
            air_in = step_air_in reached inside;
            permits = step_allowed;
            total = rw reached.long reached.total;
          }

      pub air_may_pass : Passing now_air up down
      air_may_pass = record { room = rw reached.long room; moves = air_may_move }

    flows : Same (row_mesh fluxes).faces (flow_of up down) (parts fluxes n (s + 1))
    unfolding ring
    flows = are

    gas_more :
        (t : ℕ) → t < tracers →
        stepped (rule_for (limiter_at ledger t)) (row_mesh fluxes) (flow_of up down) now_air (row_of (length fluxes) now t) ≡ gas_chain rows ledger air fluxes n (s + 1) t
    unfolding gas_after
    gas_more t h =
        same_stepped (row_mesh fluxes) (ring_regular _) flows (rule_for (limiter_at ledger t)) now_air (row_of (length fluxes) now t) ∙
        (rw add-one
        (ap₂ (λ (a g : List ℕ). stepped (rule_for (limiter_at ledger t)) (row_mesh fluxes) (parts fluxes n (suc s)) a g) reached.air_is (reached.gas_is t h)))

    module _ {next_air : List ℕ} (passed : next_air ≡ after_flow (ring (length now_air)) (flow_of up down) now_air)
        {next : List (List ℕ)} (steps : AreSteps tracers now ledger now_air up down next) where
      each_step :
          (t : ℕ) → t < tracers → row_of (length fluxes) next t ≡ row_stepped (limiter_at ledger t) (row_of (length fluxes) now t) now_air up down
      each_step t h =
          ap (λ (w : ℕ). row_of w next t) (sym reached.long) ∙ steps.each t h ∙
          ap (λ (w : ℕ). row_stepped (limiter_at ledger t) (row_of w now t) now_air up down) reached.long

      pub after_more : SweptSoFar rows ledger air fluxes n tracers (s + 1) next_air next
      unfolding ring
      after_more =
          record {
            long = ap length passed ∙ length_after_flow (ring (length now_air)) (flow_of up down) now_air ∙ reached.long;
            air_is = passed ∙ after_here fluxes n air s up down now_air are reached.air_is reached.long;
            wide_rows = steps.wide_rows;
            gas_is =
                λ t h.
                each_step t h ∙
                ap (λ (w : ℕ). stepped (rule_for (limiter_at ledger t)) (ring w) (flow_of up down) now_air (row_of (length fluxes) now t)) reached.long ∙
                gas_more t h;
            total = λ t h. rw (each_step t h) (subst (λ (w : ℕ). TotalFits w t) reached.long (total_fits t h));
          }
        where
          TotalFits : ℕ → ℕ → Type 0
          TotalFits w t = sum w (at (row_stepped (limiter_at ledger t) (row_of w now t) now_air up down)) ≤ total_limit

          total_fits : (t : ℕ) → t < tracers → TotalFits (length now_air) t
          total_fits t h =
              let total : sum (length now_air) (at (row_of (length now_air) now t)) ≤ total_limit = rw reached.long (reached.total t h) in
              let wide : length now_air ≤ 72 = rw reached.long need.row.wide in
              let step = gas_need tracers now up down reached.wide_rows wide (step_air_in reached inside) step_allowed t h total in
              rw (total_stepped up down step (limiter_at ledger t)) total

  -- all n
  pub after_all :
      {s : ℕ} {now_air : List ℕ} {now : List (List ℕ)} → SweptSoFar rows ledger air fluxes n tracers s now_air now → s ≡ n →
      AreSwept rows ledger air fluxes n tracers now_air now
  after_all reached e =
      record {
        air_is = reached.air_is ∙ ap (chain fluxes n air) e;
        wide_rows = reached.wide_rows;
        each = λ t h. reached.gas_is t h ∙ ap (λ (k : ℕ). gas_chain rows ledger air fluxes n k t) e;
      }
