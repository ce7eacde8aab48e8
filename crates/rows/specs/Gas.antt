-- A tracer's substep in a row, and in the rows of all tracers: what the functions require and ensure.
use Rattle.std.specs.Prelude.{ℕ, ◌+◌, ◌*◌, ◌-◌, ◌≤◌, ◌<◌, List, [], Bool, true, false, ◌≡◌, eqb, length, get_or, set}
use Rattle.std.proofs.Math.Path.{refl}
use Rattle.std.proofs.Common.{sym, ap, ap₂, ◌∙◌, arith, eqb-true, length-set, get_or-set_same, get_or-set_other}
use Rattle.std.proofs.lemmas.Bool.{eqb-false}
use borrow.Rule.Slice.PartMut.{put_mid}
use Rattle.model.specs.Limits.{total_limit, block_numbers}
use Rattle.model.specs.Basic.{at, part, sum}
use Rattle.model.specs.Scheme.{high_piece, low_piece}
use Rattle.model.specs.Limiters.{Limiter, rule_for}
use Rattle.model.specs.Sweep.{Flow, ring, east_of, west_of, allowed, after_flow, pieces}
use Rattle.model.proofs.Laws.Basic.{length_part}
use Rattle.model.proofs.Laws.Entries.{entries_more, entries_above}
use Rattle.model.proofs.Laws.Ring.{east_in, ring_regular}
use Rattle.model.proofs.Laws.Limiters.{limiter_limited}
use Rattle.model.proofs.Laws.Substep.{AirIn, allowed_is, length_after_flow, gas_total_after_flow}
use Rattle.units.specs.Limiter.{limiter_at}
use Rattle.units.specs.Limiter as units
use Rattle.substep.specs.Faces.{flow_of, Same, stepped}
use Rattle.substep.specs.Cells.{Moves}
use Rattle.substep.specs.Pieces.{GasNeed, HasAir, AreRatios, Neighbours, PieceNeed, mismatch_in}
use Rattle.substep.specs.Pieces.{has_air, high_need, high_is, low_need, low_is, gas_moves, gas_after_lem}
use Rattle.units.specs.Lent.{front_lent, front_back, length_front}
use Rattle.row.specs.Columns.{FaceRoom, Passing, column_neighbours, back_west}

-- ---- one tracer, in a row of as many columns as its air has entries
-- a substep of at most 72 columns
pub record StepNeed (gas air up down : List ℕ) : Type 0 where
  pub wide : length air ≤ 72
  pub room : FaceRoom (length air) up down
  pub need : GasNeed (ring (length air)) (flow_of up down) air gas

-- with the ratios, and room for the pieces
pub record PiecesNeed (air gas q up down high low : List ℕ) : Type 0 where
  pub need : GasNeed (ring (length air)) (flow_of up down) air gas
  pub room : FaceRoom (length air) up down
  pub ratios : AreRatios (length air) air gas q
  pub fit : length air ≤ length q
  pub piece_room : FaceRoom (length air) high low

-- two lists hold the piece through each face, of a tracer with the limiter l
abbrev pub ArePieces : Limiter → List ℕ → List ℕ → Flow → Flow → Type 0
ArePieces l air gas flow passed = Same (length air) passed (pieces (rule_for l) (ring (length air)) flow air gas)

-- its amounts after the substep
abbrev pub row_stepped : Limiter → List ℕ → List ℕ → List ℕ → List ℕ → List ℕ
row_stepped l gas air up down = stepped (rule_for l) (ring (length air)) (flow_of up down) air gas

module _ (l : Limiter) (gas air up down : List ℕ) where
  pub length_stepped : length (row_stepped l gas air up down) ≡ length air
  unfolding ring
  length_stepped = length_after_flow (ring (length air)) _ gas

module _ {gas air : List ℕ} (up down : List ℕ) (need : GasNeed (ring (length air)) (flow_of up down) air gas) where
  pub gas_long_lem : length gas ≡ length air
  unfolding ring
  gas_long_lem = need.gas_long

  pub ratios_need : (q : List ℕ) → length air ≤ length q → HasAir (length air) air gas q
  unfolding ring
  ratios_need q room = has_air need q room

  module _ (l : Limiter) where
    -- the row's total stays
    pub total_stepped : sum (length air) (at (row_stepped l gas air up down)) ≡ sum (length air) (at gas)
    unfolding ring
    total_stepped =
        let allows = allowed_is (ring (length air)) (flow_of up down) air need.permits in
        gas_total_after_flow (limiter_limited l) (ring (length air)) (ring_regular _) (flow_of up down) air gas need.air_in allows.covers

    module _ (high low : List ℕ) (are : ArePieces l air gas (flow_of up down) (flow_of high low)) where
      same : Same (ring (length air)).faces (flow_of high low) (pieces (rule_for l) (ring (length air)) (flow_of up down) air gas)
      unfolding ring
      same = are

      pub pieces_move : Moves (ring (length gas)) (flow_of high low) gas
      pieces_move = rw gas_long_lem (gas_moves l (ring_regular _) need same)

      pub pieces_pass : FaceRoom (length air) high low → Passing gas high low
      pieces_pass room = record { room = rw gas_long_lem room; moves = pieces_move }

      pub pieces_passed : after_flow (ring (length gas)) (flow_of high low) gas ≡ row_stepped l gas air up down
      pieces_passed =
          ap (λ (w : ℕ). after_flow (ring w) (flow_of high low) gas) gas_long_lem ∙ gas_after_lem l (ring_regular _) need same

-- at face i column i gives from its high end, and the column east of it from its low end
module _ (l : Limiter) {air gas q : List ℕ} (up down : List ℕ) (need : GasNeed (ring (length air)) (flow_of up down) air gas)
    (ratios : AreRatios (length air) air gas q) (fit : length air ≤ length q) {i : ℕ} (h : i < length air) {east : ℕ} (is_east : east ≡ east_of (length air) i) where
  -- the pieces of the model
  abbrev given : Flow
  given = pieces (rule_for l) (ring (length air)) (flow_of up down) air gas

  module _ {west : ℕ} (is_west : west ≡ west_of (length air) i) where
    around : Neighbours (ring (length air)) west i east
    around = column_neighbours (length air) i h west east is_west is_east

    pub face_gives_high : PieceNeed air gas q west i east (at up i)
    unfolding ring
    face_gives_high = high_need l (ring_regular _) need q ratios fit around i h refl

    pub face_high : high_piece (mismatch_in l q west i east) (at air i) (at gas i) (at up i) ≡ given.to_high i
    unfolding ring
    face_high = high_is l (ring_regular _) need q ratios fit around i h refl

  module _ {next : ℕ} (is_next : next ≡ east_of (length air) east) where
    near : Neighbours (ring (length air)) i east next
    near =
        column_neighbours (length air) east (rw is_east (east_in (length air) i h)) i next (back_west (length air) i h east is_east) is_next

    pub face_gives_low : PieceNeed air gas q i east next (at down i)
    unfolding ring
    face_gives_low = low_need l (ring_regular _) need q ratios fit near i h (sym is_east)

    pub face_low : low_piece (mismatch_in l q i east next) (at air east) (at gas east) (at down i) ≡ given.to_low i
    unfolding ring
    face_low = low_is l (ring_regular _) need q ratios fit near i h (sym is_east)

-- ---- the rows of all tracers
-- tracer t's row of w columns
abbrev pub row_of : ℕ → List (List ℕ) → ℕ → List ℕ
row_of w rows t = part (get_or rows t []) 0 w

-- the first n tracers have room for 72 columns
abbrev pub Wide : ℕ → List (List ℕ) → Type 0
Wide n rows = (t : ℕ) → t < n → length (get_or rows t []) ≡ 72

-- a row of 72 put in the place of another
pub wide_set : (n : ℕ) (rows : List (List ℕ)) (t : ℕ) (row : List ℕ) → t < length rows → length row ≡ 72 → Wide n rows → Wide n (set rows t row)
wide_set n rows t row room long wide k h = go (eqb k t) refl
  where
    go : (b : Bool) → eqb k t ≡ b → length (get_or (set rows t row) k []) ≡ 72
    go true e = rw (eqb-true k t e, get_or-set_same rows t row [] room) long
    go false e = rw (get_or-set_other rows t k row [] (eqb-false k t e)) (wide k h)

pub length_row : (n : ℕ) (rows : List (List ℕ)) → Wide n rows → (w t : ℕ) → t < n → w ≤ 72 → length (row_of w rows t) ≡ w
length_row n rows wide w t h fit = length_part (get_or rows t []) 0 w (omega (arith, wide t h))

-- a substep of the first n of at most 8 tracers, each of which has its block
pub record StepsNeed (n : ℕ) (rows : List (List ℕ)) (ledger air up down : List ℕ) : Type 0 where
  pub few : n ≤ 8
  pub blocks : n * block_numbers ≤ length ledger
  pub wide_rows : Wide n rows
  pub wide : length air ≤ 72
  pub room : FaceRoom (length air) up down
  pub air_in : AirIn (length air) air
  pub permits : allowed (ring (length air)) (flow_of up down) air ≡ true
  pub total : (t : ℕ) → t < n → sum (length air) (at (row_of (length air) rows t)) ≤ total_limit

-- the first n tracers are stepped
pub record AreSteps (n : ℕ) (rows : List (List ℕ)) (ledger air up down : List ℕ) (r : List (List ℕ)) : Type 0 where
  pub wide_rows : Wide n r
  pub each : (t : ℕ) → t < n → row_of (length air) r t ≡ row_stepped (limiter_at ledger t) (row_of (length air) rows t) air up down

-- of n tracers the first t are stepped, the others as they were
pub record Stepping (n : ℕ) (rows : List (List ℕ)) (ledger air up down : List ℕ) (now : List (List ℕ)) (t : ℕ) : Type 0 where
  pub some : length now ≡ 8
  pub wide_rows : Wide n now
  pub each : (k : ℕ) → k < t → row_of (length air) now k ≡ row_stepped (limiter_at ledger k) (row_of (length air) rows k) air up down
  pub left : (k : ℕ) → t ≤ k → get_or now k [] ≡ get_or rows k []

module _ {n : ℕ} {rows : List (List ℕ)} {ledger air up down : List ℕ} (wide_rows : Wide n rows) where
  pub stepping_none : length rows ≡ 8 → Stepping n rows ledger air up down rows 0
  stepping_none some =
      record { some = some; wide_rows = wide_rows; each = λ k h. absurd (omega arith); left = λ k h. refl }

-- what tracer t's substep needs
pub gas_need : (n : ℕ) (rows : List (List ℕ)) {air : List ℕ} (up down : List ℕ) → Wide n rows → length air ≤ 72 → AirIn (length air) air →
    allowed (ring (length air)) (flow_of up down) air ≡ true → (t : ℕ) → t < n → sum (length air) (at (row_of (length air) rows t)) ≤ total_limit →
    GasNeed (ring (length air)) (flow_of up down) air (row_of (length air) rows t)
unfolding ring
gas_need n rows {air} up down wide_rows wide air_in permits t h total =
    record { air_long = refl; gas_long = length_row n rows wide_rows (length air) t h wide; air_in = air_in; permits = permits; total = total }

module _ {n : ℕ} {rows : List (List ℕ)} {ledger air up down : List ℕ} (need : StepsNeed n rows ledger air up down) where
  -- where tracer t's block lies
  pub block_room : (t : ℕ) → t < n → (t * block_numbers + block_numbers ≤ length ledger) × (t < 8)
  block_room t h = units.block_room ledger need.blocks need.few h

  pub step_need : (t : ℕ) → t < n → StepNeed (row_of (length air) rows t) air up down
  step_need t h =
      record { wide = need.wide; room = need.room; need = gas_need n rows up down need.wide_rows need.wide need.air_in need.permits t h (need.total t h) }

module _ {n : ℕ} {rows : List (List ℕ)} {ledger air up down : List ℕ} {now : List (List ℕ)} {t : ℕ} (stepping : Stepping n rows ledger air up down now t) where
  -- the part of its row that is lent
  pub row_lent : part (get_or now t []) 0 (length air - 0) ≡ row_of (length air) rows t
  row_lent =
      front_lent (get_or now t []) (length air) ∙
      ap (λ (l : List ℕ). part l 0 (length air)) (stepping.left t (omega arith))

  -- and its amounts after a substep, with the limiter l that was read
  pub lent_stepped :
      {l : Limiter} → l ≡ limiter_at ledger t →
      row_stepped l (part (get_or now t []) 0 (length air - 0)) air up down ≡ row_stepped (limiter_at ledger t) (row_of (length air) rows t) air up down
  lent_stepped read = ap₂ (λ (l : Limiter) (g : List ℕ). row_stepped l g air up down) read row_lent

  module _ (few : n ≤ 8) (wide_air : length air ≤ 72) (h : t < n) where
    pub stepping_more :
        {new : List ℕ} → new ≡ row_stepped (limiter_at ledger t) (row_of (length air) rows t) air up down →
        Stepping n rows ledger air up down (set now t (put_mid 0 (length air - 0) (get_or now t []) new)) (t + 1)
    stepping_more {new} is =
        let row : List ℕ = put_mid 0 (length air - 0) (get_or now t []) new in
        let long : length new ≡ length air = ap length is ∙ length_stepped (limiter_at ledger t) (row_of (length air) rows t) air up down in
        let room : t < length now = omega (arith, stepping.some, few) in
        let fit : length air ≤ length (get_or now t []) = omega (arith, stepping.wide_rows t h, wide_air) in
        let wide = length_front (get_or now t []) new (length air) long fit ∙ stepping.wide_rows t h in
        let is_stepped : ℕ → List ℕ → Type 0 =
        λ k r. part r 0 (length air) ≡ row_stepped (limiter_at ledger k) (row_of (length air) rows k) air up down in
        record {
          some = length-set now t row ∙ stepping.some;
          wide_rows = wide_set n now t row room wide stepping.wide_rows;
          each =
              entries_more [] now t row is_stepped room stepping.each (front_back (get_or now t []) new (length air) long ∙ is);
          left = λ k p. entries_above [] now t row k p ∙ stepping.left k (omega arith);
        }
