-- The departures of a row's faces in a list, and the air between them: what the functions require and ensure. W is the row's length.
use Rattle.std.specs.Prelude.{ℕ, zero, suc, ◌+◌, ◌-◌, ◌*◌, ◌≤◌, ◌<◌, List, Bool, true, false, ◌&&◌, ◌≡◌, refl, ℤ, length, set}
use Rattle.std.proofs.Common.{sym, ◌∙◌, arith, le-leb, ltb-true, ltb-false, length-set}
use Rattle.std.proofs.Math.Path.{ap, ap₂}
use Rattle.std.proofs.lemmas.Bool.{lt-leb}
use Rattle.std.proofs.Math.Dec.{leb, ltb}
use Rattle.model.specs.Limits.{air_limit, most_columns}
use Rattle.model.specs.Basic.{at, part, sum, tab, every}
use Rattle.model.specs.World.{air_fits}
use Rattle.model.specs.Sweep.{west_of, flux, forward, backward}
use Rattle.model.specs.Remap.{air_above}
use Rattle.model.specs.Long.{turns, departure, long_air, long_air_fits}
use Rattle.model.proofs.Laws.Basic.{every_ext, length_part, at_part, tab_at, tab_ext, sum_le, sum_same, sum_fewer}
use Rattle.model.proofs.Laws.Entries.{entries_more}
use Rattle.model.proofs.Laws.Substep.{AirIn, air_bounds}
use Rattle.model.proofs.Laws.Long.{OneTurn, LongServes, line_all, departure_is, departure_most, air_between, departures_rise, length_long_air}
use Rattle.line.specs.Line.{AirNeed, serves_at, Served, IsNewAir}

-- 1 to 72 columns with air in range, a flux for each, and none above the row's air: what place 16 tests
pub record LongNeed (air : List ℕ) (fluxes : List ℤ) : Type 0 where
  pub some : 1 ≤ length air
  pub wide : length air ≤ most_columns
  pub long : length fluxes ≡ length air
  pub air_in : AirIn (length air) air
  pub one_turn : OneTurn (length air) fluxes air

-- the line's start, and the departure of each face
abbrev pub edge_of : List ℕ → List ℤ → ℕ → ℕ
edge_of air fluxes zero = 0
edge_of air fluxes (suc j) = departure (length air) fluxes air j

-- e has the first n of them, and all
abbrev pub EdgesTo : List ℕ → List ℤ → List ℕ → ℕ → Type 0
EdgesTo air fluxes e n = (j : ℕ) → j < n → at e j ≡ edge_of air fluxes j

pub record AreDepartures (air : List ℕ) (fluxes : List ℤ) (e : List ℕ) : Type 0 where
  pub is : EdgesTo air fluxes e (length air + 2)

-- such a list, of whatever fluxes, where the air afterwards serves
pub record DeparturesServe (air e : List ℕ) : Type 0 where
  pub some : 1 ≤ length air
  pub wide : length air ≤ most_columns
  pub air_in : AirIn (length air) air
  pub room : length air + 1 < length e
  pub first : at e 0 ≡ 0
  pub rises : (j : ℕ) → j < length air → at e (suc j) < at e (suc (suc j))
  pub most : (j : ℕ) → j < length air → at e (suc (suc j)) - at e (suc j) ≤ air_limit
  pub last : at e (suc (length air)) ≤ turns * air_above air (length air)

-- the air between the departures of each cell's two faces
abbrev pub air_by : ℕ → List ℕ → List ℕ
air_by W e = tab W (λ i. at e (suc (suc i)) - at e (suc i))

-- ---- the row's air
pub air_need : {air : List ℕ} → length air ≤ most_columns → AirIn (length air) air → AirNeed (length air) air
air_need {air} wide air_in =
    record { fit = wide; room = omega arith; most = λ i h. (air_bounds (at air i) (air_in i h)).1 }

-- an edge is past another where the air between them is at least 1
some_between : (a b : ℕ) → ltb a b ≡ leb 1 (b - a)
some_between a b = go (ltb a b) refl
  where
    go : (t : Bool) → ltb a b ≡ t → t ≡ leb 1 (b - a)
    go true h = sym (le-leb 1 (b - a) (omega (arith, ltb-true a b h)))
    go false h = sym (lt-leb 1 (b - a) (omega (arith, ltb-false a b h)))

-- the departures alone, lent as `&e[1..end]` with end = W + 2
abbrev faces : ℕ → List ℕ → List ℕ
faces W e = part e 1 (W + 2 - 1)

lent_at : (W : ℕ) (e : List ℕ) (j : ℕ) → j ≤ W → at (faces W e) j ≡ at e (suc j)
lent_at W e j h =
    let next : 1 + j ≡ suc j = omega arith in
    at_part e 1 (W + 2 - 1) j (omega arith) ∙ ap (at e) next

module _ {air : List ℕ} {fluxes : List ℤ} (need : LongNeed air fluxes) where
  abbrev W : ℕ
  W = length air

  -- ---- departures
  -- x is the air before face j, a turn further on
  abbrev pub Before : ℕ → ℕ → Type 0
  Before j x = x ≡ air_above air W + air_above air j

  pub before_first : {x : ℕ} → x ≡ sum W (at air) → Before 0 x
  unfolding sum
  before_first is = omega (arith, is)

  pub before_next : (j : ℕ) {x y : ℕ} → Before j x → y ≡ x + at air j → Before (suc j) y
  unfolding sum
  before_next j old is = omega (arith, old, is)

  module _ (j : ℕ) {x : ℕ} (h : j ≤ W) (before : Before j x) {f : ℤ} (own : f ≡ flux fluxes (west_of W j)) where
    pub departs : (x ≤ 4294967295) × (forward f ≤ x + backward f)
    departs =
        let all = sum_le W (at air) (λ t. air_limit) (λ t p. (air_bounds (at air t) (need.air_in t p)).1) in (
          omega (arith, before, all, sum_same W air_limit, sum_fewer (at air) j W h, need.wide),
          rw own (omega (arith, before, departure_is W fluxes air need.some need.one_turn j h)),
        )

    pub departure_at : {r : ℕ} → r ≡ x + backward f - forward f → r ≡ departure W fluxes air j
    departure_at is = is ∙ (rw own (omega (arith, before, departure_is W fluxes air need.some need.one_turn j h)))

  pub edges_first : (e : List ℕ) {v : ℕ} → 1 < length e → v ≡ departure W fluxes air 0 → EdgesTo air fluxes (set (set e 0 0) 1 v) 2
  edges_first e {v} room is =
      entries_more 0 (set e 0 0) 1 v (λ k x. x ≡ edge_of air fluxes k) (rw (length-set e 0 0) room)
      (entries_more 0 e 0 0 (λ k x. x ≡ edge_of air fluxes k) (omega arith) (λ k h. absurd (omega arith)) refl)
      is

  pub edges_more :
      (e : List ℕ) (j : ℕ) {v : ℕ} → j + 2 < length e → EdgesTo air fluxes e (j + 2) → v ≡ departure W fluxes air (suc j) →
      EdgesTo air fluxes (set e (j + 2) v) (j + 1 + 2)
  edges_more e j {v} room old is k h =
      let here : suc (suc j) ≡ j + 2 = omega arith in
      entries_more 0 e (j + 2) v (λ k x. x ≡ edge_of air fluxes k) room old (is ∙ ap (edge_of air fluxes) here) k (omega arith)

  -- ---- the air between them
  module _ {e : List ℕ} (are : AreDepartures air fluxes e) where
    edge_at : (j : ℕ) → j ≤ W → at e (suc j) ≡ departure W fluxes air j
    edge_at j h = are.is (suc j) (omega arith)

    between : (j : ℕ) → j < W → at e (suc (suc j)) - at e (suc j) ≡ at (long_air W fluxes air) j
    between j h =
        ap₂ ◌-◌ (edge_at (suc j) h) (edge_at j (omega arith)) ∙ sym (air_between W fluxes air need.some need.one_turn j h)

    pub air_by_is : air_by W e ≡ long_air W fluxes air
    air_by_is = tab_ext W _ _ between ∙ tab_at W (long_air W fluxes air) (length_long_air W fluxes air)

    pub serves_is : every W (serves_at (faces W e)) ≡ long_air_fits W fluxes air
    unfolding long_air_fits
    serves_is =
        every_ext W _ _
        (λ j h.
        ap₂ (λ (x y : ℕ). ltb x y && leb (y - x) air_limit) (lent_at W e j (omega arith)) (lent_at W e (suc j) h) ∙
        ap (λ (b : Bool). b && leb (at e (suc (suc j)) - at e (suc j)) air_limit) (some_between (at e (suc j)) (at e (suc (suc j)))) ∙
        ap air_fits (between j h))

    pub departures_serve : W + 1 < length e → AirIn W (long_air W fluxes air) → DeparturesServe air e
    departures_serve room serves =
        let all : LongServes W fluxes air = record { some = need.some; one_turn = need.one_turn; air_in = serves } in
        record {
          some = need.some;
          wide = need.wide;
          air_in = need.air_in;
          room = room;
          first = are.is 0 (omega arith);
          rises = λ j h. rw (edge_at j (omega arith), edge_at (suc j) h) (departures_rise W fluxes air all j h);
          most = λ j h. rw (between j h) (air_bounds (at (long_air W fluxes air) j) (serves j h)).1;
          last =
              rw (edge_at W (omega arith), ← line_all W air)
              (departure_most W fluxes air need.some need.one_turn W (omega arith));
        }

-- ---- the departures that are lent
module _ {air e : List ℕ} (departures : DeparturesServe air e) where
  pub faces_serve : Served (length air) (faces (length air) e)
  faces_serve =
      let at_face = lent_at (length air) e in
      record {
        room = omega (arith, length_part e 1 (length air + 2 - 1) (omega (arith, departures.room)));
        rises = λ j h. rw (at_face j (omega arith), at_face (suc j) h) (departures.rises j h);
        most = λ j h. rw (at_face j (omega arith), at_face (suc j) h) (departures.most j h);
      }

  pub air_by_lem : {r : List ℕ} → length r ≡ length air → IsNewAir (length air) (faces (length air) e) r → r ≡ air_by (length air) e
  air_by_lem {r} long new =
      sym (tab_at (length air) r long) ∙
      tab_ext (length air) _ _ (λ j h. new.is j h ∙ ap₂ ◌-◌ (lent_at (length air) e (suc j) h) (lent_at (length air) e j (omega arith)))
