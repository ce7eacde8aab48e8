-- What an accepted meridional sweep keeps; and the frame of any meridional sweep.
use Rattle.std.specs.Prelude.{ℕ, List, ◌≡◌, ℤ}
use Rattle.std.proofs.Common.{arith, lit<}
use Rattle.std.proofs.lemmas.Bool.{not-false}
use Rattle.model.specs.World.{World, layer_cells, layer_start}
use Rattle.model.specs.Sweep.{layer}
use Rattle.model.specs.Step.{meridional, first_of, meaning, own_places, accepted, refusal, step}
use Rattle.model.proofs.Laws.Grid.{layer_inside}
use Rattle.model.proofs.Laws.Layer.{layer_regular}
use Rattle.model.proofs.Laws.Step.{passed, found, accepted_passed}
use Rattle.model.proofs.Laws.Keeps.{air_alike, MeaningKeeps}
use Rattle.model.proofs.Laws.Part.{ChangesOnly, step_changes_only}
use Rattle.model.proofs.Laws.Sweep.{Sweeps, sweeps_keep, swept_changes_only}

-- what its own places tell, where they are passed
own_sweeps :
    (k : ℕ) (fluxes : List ℤ) (w : World) → first_of (own_places (meridional k fluxes)) w ≡ 0 →
    Sweeps w (layer w.grid.W w.grid.R) (layer_start w.grid k) fluxes 1
unfolding own_places layer
own_sweeps k fluxes w e =
    let p = found k (λ g. g.K) _ w e in
    let small = passed _ _ w (lit< tt) p.1 in
    let one = passed _ _ w (lit< tt) small.1 in
    record {
      regular = layer_regular w.grid.W w.grid.R;
      inside = layer_inside w.grid k p.0;
      positive = omega arith;
      most = omega arith;
      serving = not-false _ one.0;
    }

pub meridional_sweeps :
    (k : ℕ) (fluxes : List ℤ) (w : World) → refusal w (meridional k fluxes) ≡ 0 →
    Sweeps w (layer w.grid.W w.grid.R) (layer_start w.grid k) fluxes 1
meridional_sweeps k fluxes w e = own_sweeps k fluxes w (accepted_passed w (meridional k fluxes) e).2

pub meridional_keeps : (k : ℕ) (fluxes : List ℤ) → MeaningKeeps (meaning (meridional k fluxes))
unfolding own_places layer first_of
meridional_keeps k fluxes =
    sweeps_keep (λ g. layer g.W g.R) (λ g. layer_start g k) (λ g row. 1) fluxes _ _
    (λ own w v a. air_alike own w v a (own_places (meridional k fluxes)))
    (own_sweeps k fluxes)

-- ---- the frame: it writes only its layer; a refused one writes nothing
pub meridional_changes_only :
    (k : ℕ) (fluxes : List ℤ) (w : World) →
    ChangesOnly w (step w (meridional k fluxes)).next (layer_start w.grid k) (layer_cells w.grid)
unfolding accepted layer
meridional_changes_only k fluxes w =
    step_changes_only w (meridional k fluxes) _ _
    (λ e. swept_changes_only w (accepted_passed w (meridional k fluxes) e).0 _ _ fluxes 1 (meridional_sweeps k fluxes w e))
