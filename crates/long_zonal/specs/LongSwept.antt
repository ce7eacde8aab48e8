-- A row swept in the air and in all tracers: what the long sweep needs, and that it leaves the model's `long_swept`.
use Rattle.std.specs.Prelude.{ℕ, ◌+◌, ◌-◌, ◌<◌, ◌≡◌, refl, ℤ, Ok}
use mathlib.Core.List.{List}
use Rattle.std.proofs.Math.Path.{ap, ap₂}
use Rattle.std.proofs.Common.{◌∙◌}
use borrow.Rule.Slice.PartMut.{put_mid}
use Rattle.std.proofs.Math.ListN.{length}
use Rattle.model.specs.Basic.{part, written, joined, tab}
use Rattle.model.specs.World.{Grid, World, world_cells, with_amounts}
use Rattle.model.specs.Limiters.{rule_for}
use Rattle.model.specs.Long.{long_air, long_gas, long_swept}
use Rattle.model.specs.Step.{row_air, long_zonal}
use Rattle.model.proofs.Laws.Entries.{joined_ext}
use Rattle.model.proofs.Laws.Grid.{cells_most_lem}
use Rattle.model.proofs.Laws.Long.{length_long_air}
use Rattle.model.proofs.Laws.LongZonal.{long_sweeps}
use Rattle.model.proofs.Laws.Substep.{AirIn}
use Rattle.units.specs.Limiter.{limiter_at}
use Rattle.units.specs.Answer.{Agrees}
use Rattle.units.specs.Agrees.{accepted_agrees}
use Rattle.places.specs.Walk.{none}
use Rattle.units.specs.Lent.{put_back}
use Rattle.row_place.specs.RowPlace.{RowInTracers, row_in_tracers, gas_of, lent_row, length_lent, row_lent}
use Rattle.long_row.specs.Air.{LongNeed, AreDepartures, DeparturesServe, air_by, air_by_is, departures_serve}
use Rattle.long_row.specs.Gas.{gas_by_is}
use Rattle.long_zonal.specs.LongPlace.{LongFound, long_need}
use Rattle.long_zonal.specs.LongTracers.{RowsNeed, rows_swept}

-- a row of W columns from cell `first` on, in a world of the grid's lengths, its air, and fluxes that serve
pub record RowReady (g : Grid) (tracers ledger air : List ℕ) (first : ℕ) (fluxes : List ℤ) : Type 0 where
  pub in_tracers : RowInTracers g tracers ledger first
  pub row : LongNeed air fluxes
  pub many : length air ≡ g.W
  pub serves : AirIn (length air) (long_air (length air) fluxes air)

-- every tracer's amounts with its row swept
abbrev pub swept_tracers : Grid → List ℕ → List ℕ → List ℕ → ℕ → List ℤ → List ℕ
swept_tracers g tracers ledger air first fluxes =
    joined
    (tab g.N
    (λ t.
    written (gas_of g tracers t) first (long_gas (rule_for (limiter_at ledger t)) g.W fluxes air (part (gas_of g tracers t) first g.W))))

-- the row's air and all tracers, swept
pub record IsSwept (g : Grid) (tracers ledger air : List ℕ) (first : ℕ) (fluxes : List ℤ) (after_air after : List ℕ) : Type 0 where
  pub air_is : after_air ≡ long_air g.W fluxes air
  pub tracers_are : after ≡ swept_tracers g tracers ledger air first fluxes

module _
    {g : Grid} {tracers ledger air : List ℕ} {first : ℕ} {fluxes : List ℤ} (ready : RowReady g tracers ledger air first fluxes)
    {e : List ℕ} (are : AreDepartures air fluxes e) where
  pub departures : length air + 1 < length e → DeparturesServe air e
  departures room = departures_serve ready.row are room ready.serves

  module _ {cells : ℕ} (same : cells ≡ world_cells g) where
    pub rows_need : length air + 1 < length e → RowsNeed tracers ledger air e first cells g.N
    rows_need room =
        record {
          departures = departures room;
          few = ready.in_tracers.range.high_n;
          few_cells = rw same (cells_most_lem ready.in_tracers.range);
          long = rw same ready.in_tracers.tracers_long;
          blocks = ready.in_tracers.ledger_long;
          inside = rw (same, ready.many) ready.in_tracers.inside;
          totals = rw same ready.in_tracers.total;
        }

    pub all_swept :
        {after_air after : List ℕ} → after_air ≡ air_by (length air) e → after ≡ rows_swept g.N cells first ledger e air tracers →
        IsSwept g tracers ledger air first fluxes after_air after
    all_swept isAir isTracers =
        record {
          air_is = isAir ∙ air_by_is ready.row are ∙ ap (λ (n : ℕ). long_air n fluxes air) ready.many;
          tracers_are =
              isTracers ∙ ap (λ (m : ℕ). rows_swept g.N m first ledger e air tracers) same ∙
              joined_ext g.N _ _
              (λ t h.
              ap (written (gas_of g tracers t) first)
              (gas_by_is (limiter_at ledger t) are _ ∙
              ap (λ (n : ℕ). long_gas (rule_for (limiter_at ledger t)) n fluxes air (part (gas_of g tracers t) first n)) ready.many));
        }

-- ---- the call, once its row is found
module _ {w : World} {k r : ℕ} {fluxes : List ℤ} {first : ℕ} (found : LongFound w k r fluxes first) where
  abbrev lent : List ℕ
  lent = lent_row w first

  lent_is : lent ≡ row_air w k r
  lent_is = row_lent found.row k r found.start

  pub row_ready : RowReady w.grid w.tracers w.ledger lent first fluxes
  row_ready =
      record {
        in_tracers = row_in_tracers found.row;
        row = long_need found.row k r found.start found.within;
        many = length_lent found.row;
        serves = rw (length_lent found.row, lent_is) (long_sweeps k r fluxes w (none found.left)).serves.air_in;
      }

  module _ {new after : List ℕ} (done : IsSwept w.grid w.tracers w.ledger lent first fluxes new after) where
    pub long_agrees :
        Agrees w (long_zonal k r fluxes) (Ok 0) (with_amounts w (put_mid first (first + w.grid.W - first) w.air new) after)
    unfolding long_swept
    long_agrees =
        accepted_agrees (none found.left) refl refl
        (ap₂ (with_amounts w)
        (put_back w.air new first w.grid.W (ap length done.air_is ∙ length_long_air w.grid.W fluxes lent) ∙
        ap₂ (written w.air) found.start (done.air_is ∙ ap (long_air w.grid.W fluxes) lent_is))
        (done.tracers_are ∙
        ap₂ (λ (i : ℕ) (l : List ℕ). swept_tracers w.grid w.tracers w.ledger l i fluxes) found.start lent_is))
