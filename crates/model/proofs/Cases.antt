-- A case: a world, a call, and what `step` gives. One computed test over a table of cases, and the law that a table without failing cases is a theorem of every case in it.
pub mod Marked
pub mod Further
pub mod Thin
pub mod RangeEnds
pub mod Long
pub mod Emitters
pub mod Walk
pub mod Readout
pub mod Presses
pub mod Limiters
pub mod Books
use Rattle.std.specs.Prelude.{ℕ, zero, suc, ◌+◌, ◌-◌, Bool, true, false, ◌&&◌, ◌≡◌, refl, eqb, take, drop}
use Prim.Native.String.{String}
use mathlib.Core.List.{List, [], ◌∷◌, ◌++◌, cons≢nil}
use Rattle.std.proofs.Math.Bool.{and-eq-true_iff}
use Rattle.std.proofs.lemmas.Bool.{false≢true}
use Rattle.std.proofs.Common.{ap₂, eqb-true}
use Rattle.model.specs.Basic.{sum, how_many, every, some, smallest, tab_from, joined}
use Rattle.model.specs.World.{Grid, World, world_cells}
use Rattle.model.specs.Scheme.{ratio, bounded, mismatch, high_piece}
use Rattle.model.specs.Limiters.{positive_rule, rule_for}
use Rattle.model.specs.Sweep.{ring, layer, leaving, after_flow, flux_part, parts, allowed, cell_mismatch, pieces, air_after, gas_after, serves, substep_count, swept}
use Rattle.model.specs.Remap.{column, edge, layer_mismatch, layers, amount_above, edges_serve, share_air, column_count, common_edges, remapped_air, remapped_gas, remap_serves, remap_count, remapped}
use Rattle.model.specs.Walk.{walk_step, walk}
use Rattle.model.specs.Long.{carried, departure, long_gas, long_air, long_air_fits, long_swept}
use Rattle.model.specs.Emitters.{record_fits, place_of, ticked}
use Rattle.model.specs.Step.{Call, Result, first_of, common_places, limiter_places, book_places, own_places, accepted, refused, refusal, step}

pub record Case : Type 0 where
  pub label : String
  pub world : World
  pub call : Call
  pub expected : Result

-- what a case claims
abbrev pub Gives : Case → Type 0
Gives c = step c.world c.call ≡ c.expected

-- ---- the books of a case's ledger, by the amounts that were loaded and those that stand now: what came is emitted, and what went withdrawn
unfoldable pub summed : List ℕ → ℕ
summed [] = 0
summed (x ∷ l) = x + summed l

-- of a ledger whose blocks have `width` numbers each, 56 or, with a book that is written over, 59
unfoldable pub with_books : (width cells n : ℕ) → (loaded now ledger : List ℕ) → List ℕ
with_books width cells zero loaded now ledger = ledger
with_books width cells (suc n) loaded now ledger =
    let old : ℕ = summed (take cells loaded) in
    let new : ℕ = summed (take cells now) in
    take 56 ledger ++ old ∷ (new - old) ∷ (old - new) ∷ with_books width cells n (drop cells loaded) (drop cells now) (drop width ledger)

-- to the numbers of emitters and limiters the books of a load of these tracers
abbrev pub on_record : Grid → (tracers ledger : List ℕ) → List ℕ
on_record g tracers ledger = with_books 56 (world_cells g) g.N tracers tracers ledger

-- a world after one emission, withdrawal or tick: other tracers, and the books that say so
abbrev pub exchanging : World → List ℕ → World
exchanging w tracers =
    record {
      grid = w.grid;
      air = w.air;
      tracers = tracers;
      ledger = with_books 59 (world_cells w.grid) w.grid.N w.tracers tracers w.ledger;
    }

-- equality of lists, grids and results, as tests
unfoldable pub same_list : List ℕ → List ℕ → Bool
same_list [] [] = true
same_list [] (y ∷ ys) = false
same_list (x ∷ xs) [] = false
same_list (x ∷ xs) (y ∷ ys) = eqb x y && same_list xs ys

unfoldable pub same_grid : Grid → Grid → Bool
same_grid g h = eqb g.W h.W && eqb g.R h.R && eqb g.K h.K && eqb g.N h.N

unfoldable pub same_result : Result → Result → Bool
same_result a b =
    eqb a.answer b.answer && eqb a.count b.count &&
    same_grid a.next.grid b.next.grid &&
    same_list a.next.air b.next.air &&
    same_list a.next.tracers b.next.tracers &&
    same_list a.next.ledger b.next.ledger

-- whether `step` gives what is expected
unfoldable pub as_expected : Case → Bool
as_expected c = same_result (step c.world c.call) c.expected

-- the labels of the cases that do not pass a test, for any kind of case
unfoldable pub failing_of : {C : Type 0} → (C → String) → (C → Bool) → List C → List String
failing_of label test [] = []
failing_of label test (c ∷ cs) =
    elim (test c) [ true ↦ failing_of label test cs | false ↦ label c ∷ failing_of label test cs ]

-- the labels of the cases in which `step` gives something else
unfoldable pub failing : List Case → List String
failing cs = failing_of (λ (c : Case). c.label) as_expected cs

-- Opens every definition that a case computes with
unfoldable pub computes : ℕ
unfolding sum how_many every some smallest tab_from joined ratio bounded mismatch high_piece positive_rule rule_for ring layer leaving after_flow flux_part parts allowed cell_mismatch pieces air_after gas_after serves substep_count swept column edge layer_mismatch layers amount_above edges_serve share_air column_count common_edges remapped_air remapped_gas remap_serves remap_count remapped walk_step walk carried departure long_gas long_air long_air_fits long_swept record_fits place_of ticked first_of common_places limiter_places book_places own_places accepted refused refusal step same_list same_grid same_result as_expected failing_of failing summed with_books
computes = 0

-- every case of a table has what is claimed of a case, for any kind of case
abbrev pub Every : {C : Type 0} → (C → Type 0) → List C → Type 0
Every Claim [] = Unit {0}
Every Claim (c ∷ cs) = Claim c × Every Claim cs

-- every case of the table holds
abbrev pub Hold : List Case → Type 0
Hold cs = Every Gives cs

both : (a b : Bool) → a && b ≡ true → (a ≡ true) × (b ≡ true)
both a b e = (and-eq-true_iff a b).0 e

pub list_eq : (xs ys : List ℕ) → same_list xs ys ≡ true → xs ≡ ys
unfolding same_list
list_eq [] [] e = refl
list_eq [] (y ∷ ys) e = absurd (false≢true e)
list_eq (x ∷ xs) [] e = absurd (false≢true e)
list_eq (x ∷ xs) (y ∷ ys) e =
    let h = both (eqb x y) (same_list xs ys) e in
    ap₂ ◌∷◌ (eqb-true x y h.0) (list_eq xs ys h.1)

grid_eq : (g h : Grid) → same_grid g h ≡ true → g ≡ h
unfolding same_grid
grid_eq g h e =
    let p = both _ (eqb g.N h.N) e in
    let q = both _ (eqb g.K h.K) p.0 in
    let r = both (eqb g.W h.W) (eqb g.R h.R) q.0 in
    λ i.
    record {
      W = eqb-true g.W h.W r.0 i;
      R = eqb-true g.R h.R r.1 i;
      K = eqb-true g.K h.K q.1 i;
      N = eqb-true g.N h.N p.1 i;
    }

result_eq : (a b : Result) → same_result a b ≡ true → a ≡ b
unfolding same_result
result_eq a b e =
    let o = both _ (same_list a.next.ledger b.next.ledger) e in
    let p = both _ (same_list a.next.tracers b.next.tracers) o.0 in
    let q = both _ (same_list a.next.air b.next.air) p.0 in
    let r = both _ (same_grid a.next.grid b.next.grid) q.0 in
    let s = both (eqb a.answer b.answer) (eqb a.count b.count) r.0 in
    λ i.
    record {
      answer = eqb-true a.answer b.answer s.0 i;
      count = eqb-true a.count b.count s.1 i;
      next =
          record {
            grid = grid_eq a.next.grid b.next.grid r.1 i;
            air = list_eq a.next.air b.next.air q.1 i;
            tracers = list_eq a.next.tracers b.next.tracers p.1 i;
            ledger = list_eq a.next.ledger b.next.ledger o.1 i;
          };
    }

-- one case less
first_passes :
    {C : Type 0} (label : C → String) (test : C → Bool) (c : C) (cs : List C) (b : Bool) → test c ≡ b →
    failing_of label test (c ∷ cs) ≡ [] → (b ≡ true) × (failing_of label test cs ≡ [])
unfolding failing_of
first_passes label test c cs true e h = (refl, rw (e, failing_of) at h)
first_passes label test c cs false e h = absurd (cons≢nil (rw (e, failing_of) at h))

-- a table without failing cases, where a case that passes the test has what is claimed
pub every_case :
    {C : Type 0} (label : C → String) (test : C → Bool) {Claim : C → Type 0} → ((c : C) → test c ≡ true → Claim c) →
    (cs : List C) → failing_of label test cs ≡ [] → Every Claim cs
every_case label test right [] h = tt
every_case label test right (c ∷ cs) h =
    let p = first_passes label test c cs _ refl h in
    (right c p.0, every_case label test right cs p.1)

expected_given : (c : Case) → as_expected c ≡ true → Gives c
unfolding as_expected
expected_given c e = result_eq (step c.world c.call) c.expected e

pub hold : (cs : List Case) → failing cs ≡ [] → Hold cs
unfolding failing
hold cs h = every_case (λ (c : Case). c.label) as_expected expected_given cs h
