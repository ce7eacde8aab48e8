-- A row swept in the air and in all tracers: what the sweep needs, and that it leaves the model's `swept`, for the single sweep and for the sweep with a given count.
use Rattle.std.specs.Prelude.{ℕ, suc, ◌+◌, ◌*◌, ◌-◌, ◌≤◌, ◌<◌, true, not, ◌≡◌, refl, ◌≢◌, ℤ, Ok, Err}
use mathlib.Core.List.{List}
use Rattle.std.proofs.Common.{sym, ◌∙◌, le_trans, mul-le-mul_right, arith, eq-eqb, ne_eqb}
use Rattle.std.proofs.Math.Path.{ap, ap₂}
use borrow.Rule.Slice.PartMut.{put_mid}
use Rattle.std.proofs.Math.ListN.{length}
use Rattle.model.specs.Limits.{total_limit, most_substeps}
use Rattle.model.specs.Basic.{at, part, written, joined, tab, sum}
use Rattle.model.specs.World.{Grid, World, world_cells, row_start, with_amounts}
use Rattle.model.specs.Limiters.{rule_for}
use Rattle.model.specs.Sweep.{ring, air_after, gas_after, serves, swept}
use Rattle.model.specs.Step.{row_air, zonal_count, zonal, zonal_with_count}
use Rattle.model.proofs.Laws.Chain.{length_air_after}
use Rattle.model.proofs.Laws.Grid.{cells_most_lem}
use Rattle.model.proofs.Laws.Part.{cells_in_lem}
use Rattle.model.proofs.Laws.Sweep.{Sweeps}
use Rattle.model.proofs.Laws.Zonal.{zonal_sweeps}
use Rattle.model.proofs.Laws.Entries.{joined_ext, part_part, part_sum_le}
use Rattle.model.proofs.Laws.Substep.{AirIn}
use Rattle.units.specs.Limiter.{limiter_at}
use Rattle.units.specs.declared.Refusal.TheVariants.{GivenCount}
use Rattle.units.specs.Answer.{Agrees}
use Rattle.units.specs.Agrees.{accepted_agrees}
use Rattle.places.specs.Walk.{none, next, resume, refuse}
use Rattle.units.specs.Lent.{put_back}
use Rattle.row.specs.Substeps.{row_mesh, RowNeed, chain}
use Rattle.row_place.specs.RowPlace.{RowInTracers, row_in_tracers, gas_of, lent_row, row_in_air, row_lent}
use Rattle.rows.specs.Gas.{row_of}
use Rattle.rows.specs.Rows.{RowsFit, AreRows, StoreNeed, stored_rows}
use Rattle.rows.specs.Swept.{SweepNeed, AreSwept}
use Rattle.zonal.specs.declared.ZonalRow.{ZonalRow}
use Rattle.zonal.specs.ZonalPlace.{ZonalFound, given_like, row_need}

-- the W cells of the air from cell `first` on, lent as `&mut air[first..end]`
abbrev pub row_part : Grid → List ℕ → ℕ → List ℕ
row_part g air first = part air first (first + g.W - first)

-- a row of W columns from cell `first` on, in a world of the grid's lengths, and a count that serves
pub record RowReady (g : Grid) (air tracers ledger : List ℕ) (first : ℕ) (fluxes : List ℤ) (n : ℕ) : Type 0 where
  pub in_tracers : RowInTracers g tracers ledger first
  pub long : length fluxes ≡ g.W
  pub row : RowNeed (row_part g air first) fluxes
  pub in_air : first + g.W ≤ length air
  pub most : n ≤ most_substeps
  pub serving : serves (row_mesh fluxes) fluxes (row_part g air first) n ≡ true
  pub air_in : AirIn (length fluxes) (row_part g air first)

-- every tracer's amounts with its row swept, by the limiter of its block
abbrev pub swept_tracers : Grid → List ℕ → List ℕ → List ℕ → ℕ → List ℤ → ℕ → List ℕ
swept_tracers g tracers ledger air first fluxes n =
    joined
    (tab g.N
    (λ t. written (gas_of g tracers t) first (gas_after (rule_for (limiter_at ledger t)) (ring g.W) fluxes n air (part (gas_of g tracers t) first g.W) n)))

-- all air with the row's swept, and all tracers
pub record IsSwept (g : Grid) (air tracers ledger : List ℕ) (first : ℕ) (fluxes : List ℤ) (n : ℕ) (after_air after : List ℕ) : Type 0 where
  pub air_is : after_air ≡ written air first (chain fluxes n (row_part g air first) n)
  pub tracers_are : after ≡ swept_tracers g tracers ledger (row_part g air first) first fluxes n

module _
    {g : Grid} {air tracers ledger : List ℕ} {first : ℕ} {fluxes : List ℤ} {n : ℕ} (ready : RowReady g air tracers ledger first fluxes n)
    {cells : ℕ} (e : cells ≡ world_cells g) where
  abbrev lent : List ℕ
  lent = row_part g air first

  -- the rows fit, from the grid
  pub rows_fit : RowsFit tracers first cells g.W g.N
  rows_fit =
      record {
        few_columns = ready.in_tracers.range.high_w;
        row_inside = rw e ready.in_tracers.inside;
        few_cells = rw e (cells_most_lem ready.in_tracers.range);
        few_tracers = ready.in_tracers.range.high_n;
        long = rw e ready.in_tracers.tracers_long;
      }

  module _ {rows : List (List ℕ)} (loaded : AreRows tracers first cells g.W g.N rows) where
    -- tracer t's row is a part of its amounts
    row_of_gas : (t : ℕ) → t < g.N → row_of g.W rows t ≡ part (gas_of g tracers t) first g.W
    row_of_gas t h =
        let below : suc t * world_cells g ≤ g.N * world_cells g = mul-le-mul_right (world_cells g) h in
        (rw e at (loaded.each t h)) ∙
        sym (part_part tracers (t * world_cells g) (world_cells g) first g.W (omega (arith, ready.in_tracers.tracers_long)) ready.in_tracers.inside)

    -- its sum is at most the tracer's total
    row_total : (t : ℕ) → t < g.N → sum g.W (at (row_of g.W rows t)) ≤ total_limit
    row_total t h =
        rw (row_of_gas t h)
        (le_trans (part_sum_le (world_cells g) (gas_of g tracers t) first g.W ready.in_tracers.inside) (ready.in_tracers.total t h))

    pub rows_sweep : SweepNeed rows ledger lent fluxes n g.N
    rows_sweep =
        record {
          row = ready.row;
          most = ready.most;
          serving = ready.serving;
          air_in = ready.air_in;
          few = ready.in_tracers.range.high_n;
          blocks = omega (arith, ready.in_tracers.ledger_long);
          wide_rows = loaded.wide_rows;
          total = λ t h. rw ready.long (row_total t h);
        }

    module _ {new : List ℕ} {swept : List (List ℕ)} (done : AreSwept rows ledger lent fluxes n g.N new swept) where
      pub swept_fit : StoreNeed tracers first cells g.W g.N swept
      swept_fit = record { fit = rows_fit; wide_rows = done.wide_rows }

      new_long : length new ≡ g.W
      unfolding ring
      new_long =
          ap length done.air_is ∙ length_air_after (row_mesh fluxes) fluxes n lent ready.row.long n ∙ ready.long

      pub all_swept :
          {after : List ℕ} → after ≡ stored_rows tracers first cells g.W g.N swept →
          IsSwept g air tracers ledger first fluxes n (put_mid first (first + g.W - first) air new) after
      all_swept stored =
          record {
            air_is = put_back air new first g.W new_long ∙ ap (written air first) done.air_is;
            tracers_are =
                stored ∙
                joined_ext g.N (λ t. written (part tracers (t * cells) cells) first (row_of g.W swept t)) _
                (λ t h.
                ap₂ (λ (l r : List ℕ). written l first r)
                (ap (λ (m : ℕ). part tracers (t * m) m) e)
                ((rw ready.long at (done.each t h)) ∙
                ap (λ (l : List ℕ). gas_after (rule_for (limiter_at ledger t)) (ring g.W) fluxes n lent l n) (row_of_gas t h)));
          }

-- ---- the call, once its row is found
module _ {w : World} {k r : ℕ} {fluxes : List ℤ} {z : ZonalRow} (found : ZonalFound w k r fluxes z) where
  sweeps : Sweeps w (ring w.grid.W) (row_start w.grid k r) fluxes (zonal_count w k r fluxes)
  sweeps = zonal_sweeps k r fluxes w (none found.left)

  lent_is : lent_row w z.first ≡ row_air w k r
  lent_is = row_lent found.row k r found.start

  pub row_ready : RowReady w.grid w.air w.tracers w.ledger z.first fluxes z.substeps
  unfolding ring
  row_ready =
      record {
        in_tracers = row_in_tracers found.row;
        long = found.row.long;
        row = row_need found.row;
        in_air = row_in_air found.row;
        most = found.most;
        serving =
            ap₂ (λ (m : ℕ) (l : List ℕ). serves (ring m) fluxes l z.substeps) found.row.long lent_is ∙
            (rw found.count sweeps.serving);
        air_in =
            rw (lent_is, found.row.long)
            (cells_in_lem (row_start w.grid k r) w.grid.W (world_cells w.grid) sweeps.inside w.air found.row.fits.air);
      }

  module _ {air after : List ℕ} (done : IsSwept w.grid w.air w.tracers w.ledger z.first fluxes z.substeps air after) where
    -- the world afterwards is the model's
    row_swept_lem : with_amounts w air after ≡ swept w (ring w.grid.W) (row_start w.grid k r) fluxes (zonal_count w k r fluxes)
    unfolding swept ring
    row_swept_lem =
        ap₂ (with_amounts w)
        (done.air_is ∙
        ap₂ (λ (i n : ℕ). written w.air i (air_after (ring (length fluxes)) fluxes n (lent_row w z.first) n)) found.start found.count ∙
        ap₂ (λ (m : ℕ) (l : List ℕ). written w.air (row_start w.grid k r) (air_after (ring m) fluxes (zonal_count w k r fluxes) l (zonal_count w k r fluxes))) found.row.long lent_is)
        (done.tracers_are ∙
        ap₂ (λ (i n : ℕ). swept_tracers w.grid w.tracers w.ledger (lent_row w z.first) i fluxes n) found.start found.count ∙
        ap (λ (l : List ℕ). swept_tracers w.grid w.tracers w.ledger l (row_start w.grid k r) fluxes (zonal_count w k r fluxes)) lent_is)

    pub zonal_agrees : Agrees w (zonal k r fluxes) (Ok z.substeps) (with_amounts w air after)
    zonal_agrees = accepted_agrees (none found.left) refl found.count row_swept_lem

    -- and that of the sweep with a given count, if the count found was given
    pub given_agrees : {n : ℕ} → n ≡ z.substeps → Agrees w (zonal_with_count k r n fluxes) (Ok n) (with_amounts w air after)
    given_agrees {n} same =
        let is = same ∙ found.count in
        accepted_agrees (none (next (resume found.left given_like) (ap not (eq-eqb n _ is)))) refl refl
        (row_swept_lem ∙ ap (swept w (ring w.grid.W) (row_start w.grid k r) fluxes) (sym is))

  -- another count is refused
  pub given_refused : {n : ℕ} → n ≢ z.substeps → Agrees w (zonal_with_count k r n fluxes) (Err GivenCount) w
  given_refused {n} other =
      refuse (resume found.left given_like) (ap not (ne_eqb n _ (λ same. other (same ∙ sym found.count)))) refl
