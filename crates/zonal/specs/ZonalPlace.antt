-- The places of the three calls of a zonal sweep after those that they share with the long sweep, and what `zonal_place` finds: where the row starts, and its substep count.
use Rattle.std.specs.Prelude.{ℕ, ◌<◌, ◌≤◌, List, [], ◌∷◌, ◌≡◌, refl, eqb, ℤ, Option, None, Some, Result, Ok, Err, MatchResult, ok_or}
use Rattle.std.proofs.Common.{sym, ap₂, ◌∙◌}
use Rattle.std.specs.Result.{result_map_both}
use Rattle.model.specs.Limits.{most_substeps}
use Rattle.model.specs.World.{World, row_start}
use Rattle.model.specs.Sweep.{ring, substep_count}
use Rattle.model.specs.Step.{Place, place, other_count, zonal_count, zonal, count_zonal, zonal_with_count}
use Rattle.model.proofs.Laws.Grid.{in_range_lem}
use Rattle.units.specs.declared.Refusal.{Refusal}
use Rattle.units.specs.declared.Refusal.TheVariants.{Zonal}
use Rattle.units.specs.Answer.{Agrees}
use Rattle.units.specs.Agrees.{accepted_agrees}
use Rattle.places.specs.Walk.{Left, IsPlaced, Like, none, resume}
use Rattle.row.specs.Substeps.{RowNeed, row_mesh, IsFound}
use Rattle.row_place.specs.RowPlace.{SweepsRow, RowIn, lent_row, length_lent, row_lent}
use Rattle.zonal.specs.declared.ZonalRow.{ZonalRow}

-- the place behind those of both sweeps: no n from 1 to 16 serves
abbrev pub from_count : ℕ → ℕ → List ℤ → List Place
from_count k r fluxes = place 9 (λ w. eqb (zonal_count w k r fluxes) 0) ∷ []

pub zonal_sweeps_row : {w : World} {k r : ℕ} {fluxes : List ℤ} → SweepsRow w k r fluxes (zonal k r fluxes) (from_count k r fluxes)
zonal_sweeps_row = record { lent = refl; limiters = refl; books = refl; places = refl }

-- the count before the sweep is tested like the sweep; the sweep with a given count has one place more
pub count_like : {w : World} {k r : ℕ} {fluxes : List ℤ} → Like w (zonal k r fluxes) (count_zonal k r fluxes) []
count_like = record { lent = refl; limiters = refl; books = refl; places = refl }

pub given_like : {w : World} {k r n : ℕ} {fluxes : List ℤ} → Like w (zonal k r fluxes) (zonal_with_count k r n fluxes) (other_count k r n fluxes ∷ [])
given_like = record { lent = refl; limiters = refl; books = refl; places = refl }

module _ {w : World} {fluxes : List ℤ} {first : ℕ} (row : RowIn w fluxes first) where
  pub row_need : RowNeed (lent_row w first) fluxes
  row_need =
      record { long = length_lent row ∙ sym row.long; wide = rw row.long (in_range_lem w.grid row.fits.grid).high_w }

  -- where the cells are row r of layer k: what was found of their count, and what `ok_or` makes of it
  module _ (k r : ℕ) (start : first ≡ row_start w.grid k r) where
    count_is : substep_count (row_mesh fluxes) fluxes (lent_row w first) ≡ zonal_count w k r fluxes
    count_is = ap₂ (λ (n : ℕ) (l : List ℕ). substep_count (ring n) fluxes l) row.long (row_lent row k r start)

    pub counted : (search : Option ℕ) (found : Result ℕ Refusal) → found ≡ ok_or search Zonal → IsFound (lent_row w first) fluxes search →
        MatchResult found (λ n. (n ≡ zonal_count w k r fluxes) × (0 < n) × (n ≤ most_substeps)) (λ f. (f ≡ Zonal) × (zonal_count w k r fluxes ≡ 0))
    counted search found is searched = rw is (go search searched)
      where
        go : (o : Option ℕ) → IsFound (lent_row w first) fluxes o →
            MatchResult (ok_or o Zonal) (λ n. (n ≡ zonal_count w k r fluxes) × (0 < n) × (n ≤ most_substeps)) (λ f. (f ≡ Zonal) × (zonal_count w k r fluxes ≡ 0))
        go None searched = (refl, sym count_is ∙ searched)
        go (Some n) count = (count.is ∙ count_is, count.some, count.most)

-- ---- what `zonal_place` finds
pub record ZonalFound (w : World) (k r : ℕ) (fluxes : List ℤ) (found : ZonalRow) : Type 0 where
  pub left : Left w (Like w (zonal k r fluxes)) []
  pub row : RowIn w fluxes found.first
  pub start : found.first ≡ row_start w.grid k r
  pub count : found.substeps ≡ zonal_count w k r fluxes
  pub most : found.substeps ≤ most_substeps

abbrev pub IsZonalPlace : World → ℕ → ℕ → List ℤ → Result ZonalRow Refusal → Type 0
IsZonalPlace w k r fluxes = IsPlaced w (Like w (zonal k r fluxes)) (ZonalFound w k r fluxes)

-- the count found is that of the call that only counts
pub found_agrees : {w : World} {k r : ℕ} {fluxes : List ℤ} {found : ZonalRow} → ZonalFound w k r fluxes found →
    Agrees w (count_zonal k r fluxes) (Ok found.substeps) w
found_agrees found = accepted_agrees (none (resume found.left count_like)) refl found.count refl

-- so the answer that `zonal_place` gives, with the count of what it found, is that of the count before the sweep, accepted or refused
pub count_agrees : {w : World} {k r : ℕ} {fluxes : List ℤ} (answer : Result ZonalRow Refusal) → IsZonalPlace w k r fluxes answer →
    Agrees w (count_zonal k r fluxes) (result_map_both (λ (found : ZonalRow). found.substeps) (λ (r : Refusal). r) answer) w
count_agrees (Ok found) is = found_agrees is
count_agrees (Err r) refuses = refuses _ _ count_like
