-- What a call that moves air keeps, where the new air and the change of each gas keep their own.
-- Assumes a world that passes places 1 to 4; for two worlds alike, that each gas keeps its number of amounts.
use Rattle.std.specs.Prelude.{ℕ, ◌+◌, ◌*◌, ◌≤◌, ◌<◌, List, Bool, true, false, ◌≡◌, refl, ltb, length}
use Rattle.std.proofs.Common.{sym, ◌∙◌, ap, ltb-true, ltb-false}
use Rattle.model.specs.Basic.{at, sum}
use Rattle.model.specs.World.{World, world_cells, gas, block, gas_total, moved}
use Rattle.model.specs.Step.{no_exchange}
use Rattle.model.specs.Lists.{Alike}
use Rattle.model.proofs.Laws.Substep.{AirIn}
use Rattle.model.proofs.Laws.World.{length_gas, gas_absent, length_moved, gas_moved_lem}
use Rattle.model.proofs.Laws.Step.{Fits}
use Rattle.model.proofs.Laws.Keeps.{Keeps, entered_none}

-- the amounts of every cell have z units for each unit of air
abbrev pub Even : ℕ → ℕ → List ℕ → List ℕ → Type 0
Even cells z air had = (c : ℕ) → c < cells → at had c ≡ z * at air c

-- new air for the old that keeps length, limits and total
pub record KeepsAir (cells : ℕ) (air new : List ℕ) : Type 0 where
  pub air_length : length new ≡ cells
  pub air_in : AirIn cells new
  pub air_kept : sum cells (at new) ≡ sum cells (at air)

-- a change of a gas's amounts beside it that keeps length, total and whole-number ratios
pub record KeepsGas (cells : ℕ) (air new : List ℕ) (change : List ℕ → List ℕ) : Type 0 where
  pub gas_length : (had : List ℕ) → length had ≡ cells → length (change had) ≡ cells
  pub gas_kept : (had : List ℕ) → length had ≡ cells → sum cells (at (change had)) ≡ sum cells (at had)
  pub even_kept : (had : List ℕ) (z : ℕ) → length had ≡ cells → Even cells z air had → Even cells z new (change had)

pub moved_keeps :
    (w : World) → Fits w → (new : List ℕ) (change : ℕ → List ℕ → List ℕ) → KeepsAir (world_cells w.grid) w.air new →
    ((t : ℕ) → KeepsGas (world_cells w.grid) w.air new (change t)) → Keeps w (moved w new change) (λ t. no_exchange)
moved_keeps w fits new change air gases =
    record {
      fits =
          record {
            grid = fits.grid;
            air_length = air.air_length;
            tracers_length = length_moved w new change as_many;
            ledger_length = fits.ledger_length;
            air = air.air_in;
            totals = λ t h. rw (total t h) (fits.totals t h);
          };
      same_grid = refl;
      sound = λ all. all;
      booked = λ t h. entered_none;
      gas_kept = λ t h. ap (λ (x : ℕ). x + 0) (total t h);
      air_kept = air.air_kept;
      ratio_kept = λ t z h no-in no-out r. rw (gas_moved_lem w new change as_many t h) ((gases t).even_kept (gas w t) z (had t h) r);
    }
  where
    had : (t : ℕ) → t < w.grid.N → length (gas w t) ≡ world_cells w.grid
    had t h = length_gas w t fits.tracers_length h

    as_many : (t : ℕ) → t < w.grid.N → length (change t (gas w t)) ≡ world_cells w.grid
    as_many t h = (gases t).gas_length (gas w t) (had t h)

    total : (t : ℕ) → t < w.grid.N → gas_total (moved w new change) t ≡ gas_total w t
    total t h = rw (gas_moved_lem w new change as_many t h) ((gases t).gas_kept (gas w t) (had t h))

-- in two worlds of the same grid: the same new air, and the same new amounts of each own gas
pub moved_alike :
    (own : ℕ → Bool) (w v : World) (new newer : List ℕ) (change alter : ℕ → List ℕ → List ℕ) →
    ((t : ℕ) → t < w.grid.N → length (change t (gas w t)) ≡ world_cells w.grid) →
    ((t : ℕ) → t < v.grid.N → length (alter t (gas v t)) ≡ world_cells v.grid) → w.grid ≡ v.grid → new ≡ newer →
    ((t : ℕ) → t < w.grid.N → own t ≡ true → change t (gas w t) ≡ alter t (gas v t)) →
    ((t : ℕ) → own t ≡ true → block w t ≡ block v t) → Alike own (moved w new change) (moved v newer alter)
moved_alike own w v new newer change alter many many_v same_grid same_air sameChange same_block =
    record {
      same_grid = same_grid;
      same_air = same_air;
      same_gas = λ t o. same t o (ltb t w.grid.N) refl;
      same_block = same_block;
    }
  where
    same : (t : ℕ) → own t ≡ true → (b : Bool) → ltb t w.grid.N ≡ b → gas (moved w new change) t ≡ gas (moved v newer alter) t
    same t o true e =
        let present : t < w.grid.N = ltb-true t w.grid.N e in
        gas_moved_lem w new change many t present ∙ sameChange t present o ∙
        sym (gas_moved_lem v newer alter many_v t (rw (← same_grid) present))
    same t o false e =
        let absent : w.grid.N ≤ t = ltb-false t w.grid.N e in
        gas_absent (moved w new change) t (length_moved w new change many) absent ∙
        sym (gas_absent (moved v newer alter) t (length_moved v newer alter many_v) (rw (← same_grid) absent))
