-- What an accepted zonal sweep keeps, the count before it and the sweep with a given count; and the frame of any zonal sweep: what it changes, and on what its answer, count and new row depend.
-- Assumes for what is kept a world that fits, and takes the range as given; for the frame nothing, or that places 1 to 4 are passed.
use Prim.Native.Nat.{ℕ, zero, suc}
use mathlib.Core.List.{List, [], ◌++◌}
use Rattle.std.specs.Prelude.{Bool, true, false, ◌≡◌, ltb, ℤ}
use Rattle.std.proofs.Math.Bool.{not}
use Rattle.std.proofs.Math.Path.{refl, sym}
use Rattle.std.proofs.Common.{◌∙◌, ap, ap₂, eqb-true, lit<}
use Rattle.std.proofs.lemmas.Bool.{eqb-false, not-false}
use Rattle.std.proofs.Math.Dec.{eqb}
use Rattle.model.specs.Limits.{zonal_limit}
use Rattle.model.specs.Basic.{every}
use Rattle.model.specs.World.{Grid, World, row_start}
use Rattle.model.specs.Sweep.{ring, substep_count}
use Rattle.model.specs.Limiters.{limiter_fits, limiter_of}
use Rattle.model.specs.Step.{zonal, count_zonal, zonal_with_count, Place, first_of, broken_limiter, broken_book, flux_too_large, sweeps_row, meaning, lent_fits, common_places, limiter_places, book_places, own_places, accepted, refused, refusal, step, row_air, zonal_count}
use Rattle.model.specs.Lists.{SameReply}
use Rattle.model.proofs.Laws.Basic.{every_ext}
use Rattle.model.proofs.Laws.Grid.{row_inside_lem}
use Rattle.model.proofs.Laws.Ring.{ring_regular}
use Rattle.model.proofs.Laws.Chain.{count_smallest}
use Rattle.model.proofs.Laws.Step.{Fits, first_of_same, passed, found, step_accepted, step_refused, answer_is, behind_common, lent_refusal, common_passed, accepted_passed}
use Rattle.model.proofs.Laws.Keeps.{air_alike, MeaningKeeps, counts_keep}
use Rattle.model.proofs.Laws.Part.{ChangesOnly, step_changes_only, SameCells}
use Rattle.model.proofs.Laws.Sweep.{Sweeps, sweeps_keep, swept_same, swept_changes_only}

-- ---- what the places of a zonal sweep tell, where they are passed; `more` are those after 9
row_passed :
    (k r : ℕ) (fluxes : List ℤ) (more : List Place) (w : World) → first_of (sweeps_row k r fluxes (λ v. 0) more).places w ≡ 0 →
    Sweeps w (ring w.grid.W) (row_start w.grid k r) fluxes (zonal_count w k r fluxes) × (first_of more w ≡ 0)
unfolding ring
row_passed k r fluxes more w e =
    let p = found k (λ g. g.K) _ w e in
    let q = found r (λ g. g.R) _ w p.1 in
    let small = passed _ _ w (lit< tt) q.1 in
    let some = passed _ more w (lit< tt) small.1 in
    let count = count_smallest (ring w.grid.W) fluxes (row_air w k r) (eqb-false _ _ some.0) in (
      record {
        regular = ring_regular w.grid.W;
        inside = row_inside_lem w.grid k r p.0 q.0;
        positive = count.positive;
        most = count.most;
        serving = count.serving;
      },
      some.1,
    )

own_sweeps :
    (k r : ℕ) (fluxes : List ℤ) (w : World) → first_of (own_places (zonal k r fluxes)) w ≡ 0 →
    Sweeps w (ring w.grid.W) (row_start w.grid k r) fluxes (zonal_count w k r fluxes)
unfolding own_places
own_sweeps k r fluxes w e = (row_passed k r fluxes [] w e).0

pub zonal_sweeps :
    (k r : ℕ) (fluxes : List ℤ) (w : World) → refusal w (zonal k r fluxes) ≡ 0 →
    Sweeps w (ring w.grid.W) (row_start w.grid k r) fluxes (zonal_count w k r fluxes)
zonal_sweeps k r fluxes w e = own_sweeps k r fluxes w (accepted_passed w (zonal k r fluxes) e).2

-- .. and where a given count passes 20, it is from 1 to 16 and serves
pub given_sweeps :
    (k r n : ℕ) (fluxes : List ℤ) (w : World) → first_of (own_places (zonal_with_count k r n fluxes)) w ≡ 0 →
    Sweeps w (ring w.grid.W) (row_start w.grid k r) fluxes n
unfolding own_places
given_sweeps k r n fluxes w e =
    let p = row_passed k r fluxes _ w e in
    let same : n ≡ zonal_count w k r fluxes = eqb-true _ _ (not-false _ (passed _ [] w (lit< tt) p.1).0) in
    rw (← same) at p.0

-- ---- what each of the three keeps
pub zonal_keeps : (k r : ℕ) (fluxes : List ℤ) → MeaningKeeps (meaning (zonal k r fluxes))
unfolding own_places ring first_of
zonal_keeps k r fluxes =
    sweeps_keep (λ g. ring g.W) (λ g. row_start g k r) (λ g. substep_count (ring g.W) fluxes) fluxes _ _
    (λ own w v a. air_alike own w v a (own_places (zonal k r fluxes)))
    (own_sweeps k r fluxes)

pub count_keeps : (k r : ℕ) (fluxes : List ℤ) → MeaningKeeps (meaning (count_zonal k r fluxes))
count_keeps k r fluxes = counts_keep (zonal_keeps k r fluxes)

pub with_count_keeps : (k r n : ℕ) (fluxes : List ℤ) → MeaningKeeps (meaning (zonal_with_count k r n fluxes))
unfolding own_places ring first_of
with_count_keeps k r n fluxes =
    sweeps_keep (λ g. ring g.W) (λ g. row_start g k r) (λ g row. n) fluxes _ _
    (λ own w v a. air_alike own w v a (own_places (zonal_with_count k r n fluxes)))
    (given_sweeps k r n fluxes)

-- ---- the frame: "The sweep writes only that row's cells inside its layer, in the air and in all tracers"; a refused one writes nothing
pub zonal_changes_only :
    (k r : ℕ) (fluxes : List ℤ) (w : World) →
    ChangesOnly w (step w (zonal k r fluxes)).next (row_start w.grid k r) w.grid.W
unfolding accepted ring
zonal_changes_only k r fluxes w =
    step_changes_only w (zonal k r fluxes) _ _ (λ e. swept_changes_only w (accepted_passed w (zonal k r fluxes) e).0 _ _ fluxes _ (zonal_sweeps k r fluxes w e))

-- two worlds of the same grid with the same limiters, and with the same air and the same amounts of each tracer in row r of layer k
abbrev pub SameRow : ℕ → ℕ → World → World → Type 0
SameRow k r w v = SameCells (λ g. row_start g k r) (λ g. g.W) w v

-- once places 1 to 4 are passed, answer and count depend on that row's air, and on whether a limiter or a book is broken, alone
module _
    (k r : ℕ) (fluxes : List ℤ) (w v : World) (same_grid : w.grid ≡ v.grid) (same_air : row_air w k r ≡ row_air v k r)
    (same_limiters : broken_limiter.applies w ≡ broken_limiter.applies v) (same_books : broken_book.applies w ≡ broken_book.applies v) where
  pub count_row : zonal_count w k r fluxes ≡ zonal_count v k r fluxes
  count_row = ap₂ (λ (g : Grid) (air : List ℕ). substep_count (ring g.W) fluxes air) same_grid same_air

  own_places_row : first_of (own_places (zonal k r fluxes)) w ≡ first_of (own_places (zonal k r fluxes)) v
  unfolding own_places
  own_places_row =
      first_of_same _ _ w v (ap (λ (g : Grid). not (ltb k g.K)) same_grid)
      (λ layer. first_of_same _ _ w v (ap (λ (g : Grid). not (ltb r g.R)) same_grid)
      (λ there. first_of_same (flux_too_large fluxes zonal_limit) _ w v refl
      (λ small. first_of_same _ [] w v (ap (λ (n : ℕ). eqb n 0) count_row)
      (λ some. unfold first_of in refl))))

  abbrev places : List Place
  places = limiter_places (zonal k r fluxes) ++ (book_places (zonal k r fluxes) ++ own_places (zonal k r fluxes))

  places_row : first_of places w ≡ first_of places v
  unfolding limiter_places book_places
  places_row = first_of_same broken_limiter _ w v same_limiters (λ sound. first_of_same broken_book _ w v same_books (λ balanced. own_places_row))

  pub refusal_row : Fits w → Fits v → refusal w (zonal k r fluxes) ≡ refusal v (zonal k r fluxes)
  refusal_row fw fv = go (lent_fits w.grid (zonal k r fluxes)) refl
    where
      go : (b : Bool) → lent_fits w.grid (zonal k r fluxes) ≡ b → refusal w (zonal k r fluxes) ≡ refusal v (zonal k r fluxes)
      go true e = behind_common w (zonal k r fluxes) fw e ∙ places_row ∙ sym (behind_common v (zonal k r fluxes) fv (rw same_grid at e))
      go false e = lent_refusal w (zonal k r fluxes) fw e ∙ sym (lent_refusal v (zonal k r fluxes) fv (rw same_grid at e))

  -- so it gives the same answer and count in both
  pub reply_row : Fits w → Fits v → SameReply w v (zonal k r fluxes)
  unfolding accepted refused
  reply_row fw fv =
      let same = refusal_row fw fv in
      (answer_is w (zonal k r fluxes) ∙ same ∙ sym (answer_is v (zonal k r fluxes)), go (refusal w (zonal k r fluxes)) refl (sym same))
    where
      go : (n : ℕ) → refusal w (zonal k r fluxes) ≡ n → refusal v (zonal k r fluxes) ≡ n → (step w (zonal k r fluxes)).count ≡ (step v (zonal k r fluxes)).count
      go zero e f = rw (step_accepted w (zonal k r fluxes) e, step_accepted v (zonal k r fluxes) f) count_row
      go (suc n) e f = rw (step_refused w (zonal k r fluxes) n e, step_refused v (zonal k r fluxes) n f)

-- once places 1 to 4 are passed, answer, count and new row depend on that row, the limiters and whether a book is broken alone
module _ (k r : ℕ) (fluxes : List ℤ) (w v : World) (row : SameRow k r w v) (same_books : broken_book.applies w ≡ broken_book.applies v) where
  same_limiters_lem : broken_limiter.applies w ≡ broken_limiter.applies v
  same_limiters_lem =
      ap not
      (every_ext w.grid.N _ _ (λ t h. ap limiter_fits (row.same_limiters t h)) ∙
      ap (λ (g : Grid). every g.N (λ t. limiter_fits (limiter_of v t))) row.same_grid)

  same_step :
      Fits w → Fits v → (n : ℕ) → refusal w (zonal k r fluxes) ≡ n → refusal v (zonal k r fluxes) ≡ n →
      SameRow k r (step w (zonal k r fluxes)).next (step v (zonal k r fluxes)).next
  unfolding accepted refused ring
  same_step fw fv zero e f =
      rw (step_accepted w (zonal k r fluxes) e, step_accepted v (zonal k r fluxes) f)
      (swept_same (λ g. ring g.W) (λ g. row_start g k r) (λ g. substep_count (ring g.W) fluxes) fluxes w v fw fv (zonal_sweeps k r fluxes w e).inside row)
  same_step fw fv (suc n) e f =
      rw (step_refused w (zonal k r fluxes) n e, step_refused v (zonal k r fluxes) n f) row

  pub row_alone :
      first_of (common_places (zonal k r fluxes)) w ≡ 0 → first_of (common_places (zonal k r fluxes)) v ≡ 0 →
      SameReply w v (zonal k r fluxes) × SameRow k r (step w (zonal k r fluxes)).next (step v (zonal k r fluxes)).next
  unfolding common_places
  row_alone cw cv =
      let pw = common_passed w (zonal k r fluxes) [] cw in
      let pv = common_passed v (zonal k r fluxes) [] cv in
      let same = refusal_row k r fluxes w v row.same_grid row.same_air same_limiters_lem same_books pw.0 pv.0 in
      (reply_row k r fluxes w v row.same_grid row.same_air same_limiters_lem same_books pw.0 pv.0, same_step pw.0 pv.0 (refusal w (zonal k r fluxes)) refl (sym same))
