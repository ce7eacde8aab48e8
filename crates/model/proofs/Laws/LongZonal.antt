-- What an accepted long zonal sweep keeps, and what it changes.
-- Assumes for what is kept a world that calls reach; for what it changes nothing.
use Rattle.std.specs.Prelude.{ℕ, ◌+◌, ◌≤◌, ◌<◌, List, true, ◌≡◌, refl, ℤ, pos, nat_abs, length}
use Rattle.std.proofs.Common.{true≢false, ⊎_elim, arith, leb-true, lit<}
use Rattle.std.proofs.lemmas.Bool.{not-false}
use Rattle.std.proofs.Math.ListN.{get_or-eq_default}
use Rattle.model.specs.Basic.{part}
use Rattle.model.specs.World.{World, world_cells, row_start, gas}
use Rattle.model.specs.Limiters.{rule_of}
use Rattle.model.specs.Sweep.{flux}
use Rattle.model.specs.Long.{long_air, long_gas, long_air_fits, long_swept}
use Rattle.model.specs.Step.{long_zonal, first_of, fluxes_within, no_exchange, meaning, own_places, accepted, refusal, step}
use Rattle.model.specs.Range.{LongInRange}
use Rattle.model.specs.Lists.{has_first}
use Rattle.model.proofs.Laws.Basic.{le_or_lt, every_at}
use Rattle.model.proofs.Laws.Grid.{in_range_lem, row_inside_lem}
use Rattle.model.proofs.Laws.Step.{Fits, passed, found, accepted_passed}
use Rattle.model.proofs.Laws.Substep.{AirIn}
use Rattle.model.proofs.Laws.Limiters.{rule_limited, rule_monotone}
use Rattle.model.proofs.Laws.Keeps.{Keeps, air_alike, MeaningKeeps}
use Rattle.model.proofs.Laws.Part.{cells_in_lem, part_keeps, ChangesOnly, part_air_is, part_gas_is, part_only, step_changes_only, part_alike}
use Rattle.model.proofs.Laws.Long.{LongServes, length_long_air, length_long_gas, long_air_lem, long_gas_lem, long_in_range}

-- no flux passes a limit that the fluxes keep within; one that is not lent is 0
pub flux_within : (fluxes : List ℤ) (limit : ℕ) → fluxes_within fluxes limit ≡ true → (f : ℕ) → nat_abs (flux fluxes f) ≤ limit
flux_within fluxes limit within f =
    ⊎_elim
    (λ (past : length fluxes ≤ f). rw (get_or-eq_default fluxes (pos 0) past) (omega arith))
    (λ (lent : f < length fluxes). leb-true _ _ (every_at (length fluxes) _ within f lent))
    (le_or_lt (length fluxes) f)

-- ---- what its own places tell, where they are passed: where the row lies, and that the sweep serves
pub record LongSweeps (w : World) (a : ℕ) (fluxes : List ℤ) : Type 0 where
  pub inside : a + w.grid.W ≤ world_cells w.grid
  pub serves : LongServes w.grid.W fluxes (part w.air a w.grid.W)

own_sweeps :
    (k r : ℕ) (fluxes : List ℤ) (w : World) → Fits w → first_of (own_places (long_zonal k r fluxes)) w ≡ 0 →
    LongSweeps w (row_start w.grid k r) fluxes
unfolding own_places long_air_fits
own_sweeps k r fluxes w fits e =
    let p = found k (λ g. g.K) _ w e in
    let q = found r (λ g. g.R) _ w p.1 in
    let small = passed _ _ w (lit< tt) q.1 in
    let turn = passed _ _ w (lit< tt) small.1 in
    let left = passed _ _ w (lit< tt) turn.1 in
    record {
      inside = row_inside_lem w.grid k r p.0 q.0;
      serves =
          record {
            some = omega (arith, (in_range_lem w.grid fits.grid).low_w);
            one_turn = λ f h. flux_within fluxes _ (not-false _ turn.0) f;
            air_in = every_at w.grid.W _ (not-false _ left.0);
          };
    }

pub long_sweeps : (k r : ℕ) (fluxes : List ℤ) (w : World) → refusal w (long_zonal k r fluxes) ≡ 0 → LongSweeps w (row_start w.grid k r) fluxes
long_sweeps k r fluxes w e =
    let p = accepted_passed w (long_zonal k r fluxes) e in
    own_sweeps k r fluxes w p.0 p.2

-- ---- the world after it
module _ (w : World) (fits : Fits w) (a : ℕ) (fluxes : List ℤ) (s : LongSweeps w a fluxes) where
  abbrev old : List ℕ
  old = part w.air a w.grid.W

  old_in_lem : AirIn w.grid.W old
  old_in_lem = cells_in_lem a w.grid.W (world_cells w.grid) s.inside w.air fits.air

  abbrev new : List ℕ
  new = long_air w.grid.W fluxes old

  abbrev change : ℕ → List ℕ → List ℕ
  change t = long_gas (rule_of w t) w.grid.W fluxes old

  change_many_lem : (t : ℕ) (had : List ℕ) → length had ≡ w.grid.W → length (change t had) ≡ w.grid.W
  change_many_lem t had e = length_long_gas (rule_of w t) w.grid.W fluxes old had

  swept_only : ChangesOnly w (long_swept w a fluxes) a w.grid.W
  unfolding long_swept
  swept_only =
      part_only w fits a w.grid.W s.inside new change (length_long_air w.grid.W fluxes old) change_many_lem

  swept_keeps : Keeps w (long_swept w a fluxes) (λ t. no_exchange)
  unfolding long_swept
  swept_keeps =
      part_keeps w fits a w.grid.W s.inside new change
      (long_air_lem w.grid.W fluxes old s.serves)
      (λ t. long_gas_lem w.grid.W fluxes old s.serves old_in_lem (rule_limited w t))

  swept_in_range : (t : ℕ) → t < w.grid.N → has_first w t ≡ true → LongInRange w (long_swept w a fluxes) a fluxes t
  unfolding long_swept
  swept_in_range t h first i hi =
      rw (
        part_air_is w fits a w.grid.W s.inside new change (length_long_air w.grid.W fluxes old) change_many_lem,
        part_gas_is w fits a w.grid.W s.inside new change (length_long_air w.grid.W fluxes old) change_many_lem t h,
      ) (long_in_range w.grid.W fluxes old s.serves old_in_lem (rule_limited w t) (part (gas w t) a w.grid.W) (rule_monotone w t first) i hi)

pub long_keeps : (k r : ℕ) (fluxes : List ℤ) → MeaningKeeps (meaning (long_zonal k r fluxes))
unfolding own_places long_swept first_of
long_keeps k r fluxes =
    record {
      same_places = λ own w v ww vv a named. air_alike own w v a (own_places (long_zonal k r fluxes));
      accepts =
          λ w fits e.
          let s = own_sweeps k r fluxes w fits e in
          record {
            keeps = swept_keeps w fits _ fluxes s;
            in_range = swept_in_range w fits _ fluxes s;
            alike =
                λ own v fv a named.
                (part_alike (λ g. row_start g k r) (λ g. g.W) (λ g. long_air g.W fluxes) (λ rule g. long_gas rule g.W fluxes) (λ g row e. length_long_air g.W fluxes row) (λ rule g row had e. length_long_gas rule g.W fluxes row had) own w v fits fv a s.inside, refl);
            apart = λ own other. absurd (true≢false other);
          };
    }

-- it writes that row's cells in that layer only, in the air and in all tracers; a refused one writes nothing
pub long_changes_only :
    (k r : ℕ) (fluxes : List ℤ) (w : World) →
    ChangesOnly w (step w (long_zonal k r fluxes)).next (row_start w.grid k r) w.grid.W
unfolding accepted
long_changes_only k r fluxes w =
    step_changes_only w (long_zonal k r fluxes) _ _ (λ e. swept_only w (accepted_passed w (long_zonal k r fluxes) e).0 _ fluxes (long_sweeps k r fluxes w e))
