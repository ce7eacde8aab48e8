-- The places that all sweeps of a row have before their own, and what `row_place` finds: where the row starts.
use Rattle.std.specs.Prelude.{ℕ, ◌+◌, ◌*◌, ◌-◌, ◌<◌, ◌≤◌, true, ◌≡◌, eqb, ℤ, length, Result}
use mathlib.Core.List.{List, [], ◌∷◌, ◌++◌, append_assoc}
use Rattle.std.proofs.Math.Path.{refl, ap}
use Rattle.std.proofs.Common.{◌∙◌, le_trans}
use Rattle.model.specs.Limits.{zonal_limit, total_limit, most_cells, block_numbers}
use Rattle.model.specs.Basic.{at, part, sum}
use Rattle.model.specs.World.{Grid, World, world_cells, row_start}
use Rattle.model.specs.Step.{Call, absent, Place, meaning, first_of, own_places, lent_fits, flux_too_large, row_air}
use Rattle.model.proofs.Laws.Basic.{length_part}
use Rattle.model.proofs.Laws.Grid.{InRange, in_range_lem, cells_most_lem}
use Rattle.model.proofs.Laws.Step.{Fits}
use Rattle.units.specs.declared.Refusal.{Refusal}
use Rattle.places.specs.declared.Lent.TheVariants.{RowFluxes}
use Rattle.places.specs.Walk.{Left, Refuses, IsPlaced, Like}
use Rattle.places.specs.Tested.{Lends, Passed}
use Rattle.units.specs.Lent.{part_lent}

-- the layer, the row and the fluxes
abbrev pub from_fluxes : List ℤ → List Place
from_fluxes fluxes = flux_too_large fluxes zonal_limit ∷ []

abbrev pub from_row : ℕ → List ℤ → List Place
from_row r fluxes = absent r (λ g. g.R) ∷ from_fluxes fluxes

abbrev pub row_places : ℕ → ℕ → List ℤ → List Place
row_places k r fluxes = absent k (λ g. g.K) ∷ from_row r fluxes

-- the calls that sweep row r of layer k, each with the places that it has behind these
pub record SweepsRow (w : World) (k r : ℕ) (fluxes : List ℤ) (call : Call) (rest : List Place) : Type 0 where
  pub lent : lent_fits w.grid call ≡ eqb (length fluxes) w.grid.W
  pub limiters : (meaning call).limiters ≡ true
  pub books : (meaning call).books ≡ true
  pub places : (meaning call).places ≡ row_places k r fluxes ++ rest

-- ---- W cells of a world that fits, from cell `first` on, with a flux for each
pub record RowIn (w : World) (fluxes : List ℤ) (first : ℕ) : Type 0 where
  pub fits : Fits w
  pub long : length fluxes ≡ w.grid.W
  pub inside : first + w.grid.W ≤ world_cells w.grid

-- their air, lent as `&air[a..e]` with e = a + W
abbrev pub lent_row : World → ℕ → List ℕ
lent_row w first = part w.air first (first + w.grid.W - first)

module _ {w : World} {fluxes : List ℤ} {first : ℕ} (row : RowIn w fluxes first) where
  pub row_in_air : first + w.grid.W ≤ length w.air
  row_in_air = rw row.fits.air_length row.inside

  pub row_near : first + w.grid.W ≤ most_cells
  row_near = le_trans row.inside (cells_most_lem (in_range_lem w.grid row.fits.grid))

  pub length_lent : length (lent_row w first) ≡ w.grid.W
  length_lent = ap length (part_lent w.air first w.grid.W) ∙ length_part w.air first w.grid.W row_in_air

  -- where they are row r of layer k
  pub row_lent : (k r : ℕ) → first ≡ row_start w.grid k r → lent_row w first ≡ row_air w k r
  row_lent k r start = part_lent w.air first w.grid.W ∙ ap (λ (n : ℕ). part w.air n w.grid.W) start

-- ---- the tracers of such a world, each with a row of W amounts from its cell `first` on; tracer t's amounts
abbrev pub gas_of : Grid → List ℕ → ℕ → List ℕ
gas_of g tracers t = part tracers (t * world_cells g) (world_cells g)

pub record RowInTracers (g : Grid) (tracers ledger : List ℕ) (first : ℕ) : Type 0 where
  pub range : InRange g
  pub tracers_long : length tracers ≡ g.N * world_cells g
  pub ledger_long : length ledger ≡ g.N * block_numbers
  pub inside : first + g.W ≤ world_cells g
  pub total : (t : ℕ) → t < g.N → sum (world_cells g) (at (gas_of g tracers t)) ≤ total_limit

pub row_in_tracers : {w : World} {fluxes : List ℤ} {first : ℕ} → RowIn w fluxes first → RowInTracers w.grid w.tracers w.ledger first
row_in_tracers {w} row =
    record {
      range = in_range_lem w.grid row.fits.grid;
      tracers_long = row.fits.tracers_length;
      ledger_long = row.fits.ledger_length;
      inside = row.inside;
      total = row.fits.totals;
    }

-- ---- what `row_place` finds
pub record RowFound (w : World) (k r : ℕ) (fluxes : List ℤ) (first : ℕ) : Type 0 where
  pub left : Left w (SweepsRow w k r fluxes) []
  pub row : RowIn w fluxes first
  pub start : first ≡ row_start w.grid k r

abbrev pub IsRowPlace : World → ℕ → ℕ → List ℤ → Result ℕ Refusal → Type 0
IsRowPlace w k r fluxes = IsPlaced w (SweepsRow w k r fluxes) (RowFound w k r fluxes)

module _ {w : World} {k r : ℕ} {fluxes : List ℤ} where
  -- the walk behind places 1 to 4, and their refusal
  pub row_begins : {totals : List ℕ} → Passed w (RowFluxes (length fluxes)) totals → Left w (SweepsRow w k r fluxes) (row_places k r fluxes)
  unfolding own_places
  row_begins passed =
      record {
        is =
            λ call rest sweeps.
            passed.left.is call (own_places call) (record { fit = sweeps.lent; limiters = sweeps.limiters; books = sweeps.books; own = refl }) ∙
            ap (λ (l : List Place). first_of l w) sweeps.places;
      }

  pub row_common : {refusal : Refusal} → Refuses w (Lends w (RowFluxes (length fluxes))) refusal → Refuses w (SweepsRow w k r fluxes) refusal
  row_common refused call rest sweeps =
      refused call (own_places call) (record { fit = sweeps.lent; limiters = sweeps.limiters; books = sweeps.books; own = refl })

  -- a call goes on behind these places, or is refused by them
  module _ {call : Call} {rest : List Place} (own : SweepsRow w k r fluxes call rest) where
    onward : {other : Call} {more : List Place} → Like w call other more → SweepsRow w k r fluxes other (rest ++ more)
    onward {other} {more} like =
        record {
          lent = like.lent ∙ own.lent;
          limiters = like.limiters ∙ own.limiters;
          books = like.books ∙ own.books;
          places =
              like.places ∙ ap (λ (l : List Place). l ++ more) own.places ∙ append_assoc (row_places k r fluxes) rest more;
        }

    pub row_left : Left w (SweepsRow w k r fluxes) [] → Left w (Like w call) rest
    row_left left = record { is = λ other more like. left.is other (rest ++ more) (onward like) }

    pub row_refuses : {refusal : Refusal} → Refuses w (SweepsRow w k r fluxes) refusal → Refuses w (Like w call) refusal
    row_refuses refused other more like = refused other (rest ++ more) (onward like)
