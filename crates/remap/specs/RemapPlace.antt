-- A remap's own places in order, what `remap_place` finds, and what the call leaves.
use Rattle.std.specs.Prelude.{ℕ, ◌+◌, ◌*◌, List, [], ◌∷◌, Bool, true, not, ◌≡◌, length, Result, Ok}
use Rattle.std.proofs.Math.Path.{refl}
use Rattle.std.proofs.Common.{ap₂, arith}
use Rattle.model.specs.Basic.{every}
use Rattle.model.specs.World.{World, layer_cells, with_amounts}
use Rattle.model.specs.Remap.{column, remap_serves, remap_count, remapped, remapped_air, remapped_gas}
use Rattle.model.specs.Step.{Place, place, table_fits, remap}
use Rattle.model.proofs.Laws.Grid.{in_range_lem, layer_cells_most}
use Rattle.model.proofs.Laws.Step.{Fits}
use Rattle.model.proofs.Laws.Remap.{remap_edges}
use Rattle.units.specs.declared.Refusal.{Refusal}
use Rattle.units.specs.Answer.{Agrees}
use Rattle.units.specs.Agrees.{accepted_agrees}
use Rattle.places.specs.Walk.{Left, IsPlaced, Like, none}
use Rattle.remap.specs.Served.{ColumnsNeed, serves_at}
use Rattle.remap.specs.Moved.{ColumnsAirNeed, ColumnsTracersNeed, AreMoved}

-- the place behind the table: some column's edges do not serve
abbrev pub from_serving : List ℕ → List Place
from_serving table = place 12 (λ w. not (remap_serves w table)) ∷ []

-- ---- what `remap_place` finds
pub record ColumnsFound (w : World) (table : List ℕ) : Type 0 where
  pub left : Left w (Like w (remap table)) []
  pub fits : Fits w
  pub pairs : length table ≡ 2 * (w.grid.K + 1)
  pub table_fit : table_fits w.grid.K table ≡ true

abbrev pub IsRemapPlace : {Found : Type 0} → World → List ℕ → Result Found Refusal → Type 0
IsRemapPlace w table = IsPlaced w (Like w (remap table)) (λ found. ColumnsFound w table)

-- ---- the columns of a world
module _ (w : World) {cells : ℕ} (e : cells ≡ layer_cells w.grid) {table : List ℕ} where
  pub columns_need : Fits w → length table ≡ 2 * (w.grid.K + 1) → table_fits w.grid.K table ≡ true → ColumnsNeed w.air table cells w.grid.K
  columns_need fits pairs table_fit =
      let range = in_range_lem w.grid fits.grid in
      record {
        some = range.low_k;
        fit = range.high_k;
        few = rw e (layer_cells_most range);
        long = rw e fits.air_length;
        pairs = pairs;
        fits = table_fit;
        air_in = rw e fits.air;
      }

pub serves_is :
    (w : World) {cells : ℕ} → cells ≡ layer_cells w.grid → (table : List ℕ) {ok : Bool} →
    ok ≡ every cells (serves_at w.grid.K cells table w.air) → ok ≡ remap_serves w table
unfolding remap_serves column
serves_is w e table served = rw e at served

-- ---- the call, once its places are passed
module _ {w : World} {table : List ℕ} (found : ColumnsFound w table) {cells : ℕ} (e : cells ≡ layer_cells w.grid) where
  air_need : ColumnsAirNeed w.air table cells w.grid.K
  unfolding column
  air_need =
      record {
        some = rw e (omega arith);
        columns = columns_need w e found.fits found.pairs found.table_fit;
        edges = rw e (remap_edges table w (none found.left));
      }

  pub tracers_need : ColumnsTracersNeed w.tracers w.ledger w.air table cells w.grid.K w.grid.N
  tracers_need =
      record {
        moves = air_need;
        some_tracers = (in_range_lem w.grid found.fits.grid).low_n;
        few = (in_range_lem w.grid found.fits.grid).high_n;
        long = rw e found.fits.tracers_length;
        blocks = found.fits.ledger_length;
        totals = rw e found.fits.totals;
      }

  pub remap_agrees : {new_tracers new_air : List ℕ} {steps count : ℕ} →
      AreMoved w.tracers w.ledger w.air table cells w.grid.K w.grid.N new_tracers new_air steps count →
      Agrees w (remap table) (Ok count) (with_amounts w new_air new_tracers)
  unfolding remapped remapped_air remapped_gas remap_count column
  remap_agrees moved =
      accepted_agrees (none found.left) refl (rw e at moved.counted) (ap₂ (with_amounts w) (rw e at moved.air_is) (rw e at moved.tracers_are))
