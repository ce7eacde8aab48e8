-- `line::walk_turn` meets its contract. Assumes nothing.
use Rattle.std.proofs.Common.{ℕ, ◌+◌, ◌*◌, ◌-◌, ◌%◌, ◌≡◌, ◌≤◌, ◌<◌, List, length, set, refl, sym, ap, ◌∙◌, arith, rules}
use Rattle.units.specs.declared.Amount.{Amount}
use Rattle.units.specs.declared.Sum.{Sum}
use Rattle.units.specs.declared.Mismatch as code
use Rattle.model.specs.Limits.{most_columns}
use Rattle.model.specs.Basic.{at}
use Rattle.model.specs.Scheme.{low_piece}
use Rattle.model.specs.Walk.{Passes}
use Rattle.model.proofs.Laws.Entries.{entries_more}
use Rattle.line.specs.declared.Place.{Place}
use Rattle.line.specs.Line.{slope_in, line_walk, line_ends}
use Rattle.line.specs.Tracer.{Walking, TurnNeed, in_turn, ends_few, made_more, stands_here, passed_fits, gas_fits, ahead_here, walk_cell, ends_cell, ends_inside, ends_end, whole_cell, walk_edge, mark_rises, edge_passes, cell_giver}
use Rattle.line.proofs.walk_turn.Goals as goal

-- before a step: the walk stands at q, in cell c of the turn that began at p; r are the new cells, `have` and `t` the cell's amounts, which ends at `end`
record AtStep
    (n : ℕ) (air gas : List ℕ) (slopes : List code.Mismatch) (e : List ℕ) (m : ℕ) (newgas : List ℕ) (p q : Place) (r : List ℕ) (c : ℕ)
    (have : Amount 0) (t : Amount 1) (end : Sum 0) : Type 0 where
  need : TurnNeed n air gas slopes e m newgas p
  room : length r ≡ length newgas
  walking : Walking n air gas slopes e m r q
  cell : q.i ≡ p.i + c
  inside : c < n
  more : q.j < m
  air_is : have.0 ≡ at air c
  gas_is : t.0 ≡ at gas c
  ends_at : end.0 ≡ q.passed.0 + have.0

-- from what the loop keeps, and the step's first lines
at_step :
    {n : ℕ} {air gas : List ℕ} {slopes : List code.Mismatch} {e : List ℕ} {m : ℕ} {newgas : List ℕ} {p q : Place} {r : List ℕ} {c : ℕ}
    {have : Amount 0} {t : Amount 1} {end : Sum 0} → TurnNeed n air gas slopes e m newgas p → length r ≡ length newgas →
    record { walking : Walking n air gas slopes e m r q; cell : q.i ≡ p.i + c; inside : c < n; onward : p.j ≤ q.j } → q.j < m →
    have.0 ≡ at air c → t.0 ≡ at gas c → end.0 ≡ q.passed.0 + have.0 →
    AtStep n air gas slopes e m newgas p q r c have t end
at_step need room kept more air_is gas_is ends_at =
    record {
      need = need;
      room = room;
      walking = kept.walking;
      cell = kept.cell;
      inside = kept.inside;
      more = more;
      air_is = air_is;
      gas_is = gas_is;
      ends_at = ends_at;
    }

module _
    {n : ℕ} {air gas : List ℕ} {slopes : List code.Mismatch} {e : List ℕ} {m : ℕ} {newgas : List ℕ} {p q : Place} {r : List ℕ} {c : ℕ}
    {have : Amount 0} {t : Amount 1} {end : Sum 0} (s : AtStep n air gas slopes e m newgas p q r c have t end) where
  -- the cell's place in the line
  here : q.i % n ≡ c
  here = rw s.cell (in_turn s.need s.inside)

  end_is : end.0 ≡ q.passed.0 + at air (q.i % n)
  end_is = omega (arith, s.ends_at, s.air_is, ap (at air) here)

  gas_here : t.0 ≡ at gas (q.i % n)
  gas_here = s.gas_is ∙ ap (at gas) (sym here)

  -- the tracer of the cells passed and of this one fits
  fits : q.whole.0 + t.0 ≤ 4294967295
  fits = omega (arith, gas_fits s.need.line s.walking.stands, gas_here)

  -- the cell is one of three turns of at most 72
  cells_fit : q.i < 3 * most_columns
  cells_fit = omega (arith, (stands_here s.need.line s.walking.stands).layer, s.need.line.fit)

  ends_fit : q.ends < 5 * most_columns
  ends_fit = omega (arith, s.walking.ended, ends_few n air gas slopes e m (q.i + q.j), cells_fit, s.more, s.need.line.few)

  -- one cell more is passed, and no end
  cell_passed :
      {whole : Amount 1} → whole.0 ≡ q.whole.0 + t.0 → end.0 < at e (q.j + 1) →
      Walking n air gas slopes e m r (record { i = q.i + 1; passed = end; whole = whole; j = q.j; last = q.last; ends = q.ends })
  cell_passed sums lt =
      record {
        stands = walk_cell s.need.line s.walking.stands s.more end_is (omega (arith, sums, gas_here)) lt;
        made = made_more r (omega arith) s.walking.made;
        ended = s.walking.ended ∙ sym (ends_cell s.need.line s.walking.stands s.more (omega (arith, lt, end_is)));
      }

  -- ---- an edge is passed: the cell does not end before it
  module _ (le : at e (q.j + 1) ≤ end.0) where
    reached : at e (q.j + 1) ≤ q.passed.0 + at air (q.i % n)
    reached = omega (arith, le, end_is)

    -- what the code adds up there
    abbrev Adds : ℕ → Type 0
    Adds upto =
        upto ≡ q.whole.0 + low_piece (slope_in slopes (q.i % n)) (at air (q.i % n)) (at gas (q.i % n)) (at e (q.j + 1) - q.passed.0)

    -- at the cell's end, and inside it
    adds_cell : {upto : ℕ} → end.0 ≡ at e (q.j + 1) → upto ≡ q.whole.0 + t.0 → Adds upto
    adds_cell at_end sums =
        sums ∙ ap (λ (x : ℕ). q.whole.0 + x) (gas_here ∙ sym (whole_cell s.need.line s.walking.stands s.more (omega (arith, at_end, end_is))))

    adds_piece :
        {upto piece part : ℕ} → upto ≡ q.whole.0 + piece → piece ≡ low_piece (slope_in slopes c) have.0 t.0 part →
        part ≡ at e (q.j + 1) - q.passed.0 → Adds upto
    adds_piece sums piece_is part_is =
        let slope = ap (slope_in slopes) (sym here) in
        let air_here = s.air_is ∙ ap (at air) (sym here) in
        sums ∙ ap (λ (x : ℕ). q.whole.0 + x) (piece_is ∙ (λ z. low_piece (slope z) (air_here z) (gas_here z) (part_is z)))

    rises : {upto : ℕ} → Adds upto → q.last.0 ≤ upto
    rises = mark_rises s.need.line s.walking.stands s.more reached

    edge_passed :
        {upto : Amount 1} {amount ends : ℕ} → Adds upto.0 → amount ≡ upto.0 - q.last.0 →
        ends ≡ line_ends n air gas slopes e m (q.i + (q.j + 1)) →
        Walking n air gas slopes e m (set r q.j amount) (record { i = q.i; passed = q.passed; whole = q.whole; j = q.j + 1; last = upto; ends = ends })
    edge_passed {amount = amount} adds gains ended =
        record {
          stands = walk_edge s.need.line s.walking.stands s.more reached adds;
          made =
              entries_more 0 r q.j amount (λ t x. (k : ℕ) × (k < q.i + (q.j + 1)) × Passes (line_walk n air gas slopes e m) t x k)
              (omega (arith, s.need.line.room, s.room, s.more)) (made_more r (omega arith) s.walking.made)
              (q.i + q.j, omega arith, edge_passes s.need.line s.walking.stands s.more reached adds gains);
          ended = ended;
        }

    edge_at_end : {ends : ℕ} → end.0 ≡ at e (q.j + 1) → ends ≡ q.ends + 1 → ends ≡ line_ends n air gas slopes e m (q.i + (q.j + 1))
    edge_at_end at_end more =
        omega (arith, more, s.walking.ended, ends_end s.need.line s.walking.stands s.more (omega (arith, at_end, end_is)))

    edge_inside : (end.0 ≡ at e (q.j + 1) → ⊥) → q.ends ≡ line_ends n air gas slopes e m (q.i + (q.j + 1))
    edge_inside other = s.walking.ended ∙ sym (ends_inside s.need.line s.walking.stands s.more (omega (arith, le, end_is, other)))

pub plus-end-requires : goal.plus-end-requires
plus-end-requires c = omega (arith, passed_fits c.requires.line c.loop-place.invariant.walking.stands)

pub plus-requires : goal.plus-requires
plus-requires c = (search rules, fits (at_step c.requires c.loop-place.auto.newgas c.loop-place.invariant c.loop-place-test.true c.new-have.ensures c.new-t.ensures c.plus-end.ensures))

pub past_cell-place-requires : goal.past_cell-place-requires
past_cell-place-requires c = omega (arith, cells_fit (at_step c.requires c.loop-place.auto.newgas c.loop-place.invariant c.loop-place-test.true c.new-have.ensures c.new-t.ensures c.plus-end.ensures))

pub returns-then-c-n : goal.returns-then-c-n
returns-then-c-n c =
    let i = c.loop-place.invariant in
    rw c.past_cell-place.ensures
    (record {
      walking = cell_passed (at_step c.requires c.loop-place.auto.newgas c.loop-place.invariant c.loop-place-test.true c.new-have.ensures c.new-t.ensures c.plus-end.ensures) c.plus.ensures c.if-end-edge.true;
      turned = λ _. omega (arith, i.cell, c.if-c-n.true);
      onward = (omega (arith, i.cell), i.onward);
    })

pub loop-place-preserved-then-end-edge : goal.loop-place-preserved-then-end-edge
loop-place-preserved-then-end-edge c =
    let i = c.loop-place.invariant in
    rw c.past_cell-place.ensures
    (record {
      walking = cell_passed (at_step c.requires c.loop-place.auto.newgas c.loop-place.invariant c.loop-place-test.true c.new-have.ensures c.new-t.ensures c.plus-end.ensures) c.plus.ensures c.if-end-edge.true;
      cell = omega (arith, i.cell);
      inside = omega (arith, i.inside, c.if-c-n.false);
      onward = i.onward;
    })

-- ---- an edge at the cell's end
pub plus-upto-requires : goal.plus-upto-requires
plus-upto-requires c = (search rules, fits (at_step c.requires c.loop-place.auto.newgas c.loop-place.invariant c.loop-place-test.true c.new-have.ensures c.new-t.ensures c.plus-end.ensures))

pub minus-requires : goal.minus-requires
minus-requires c =
    let s = at_step c.requires c.loop-place.auto.newgas c.loop-place.invariant c.loop-place-test.true c.new-have.ensures c.new-t.ensures c.plus-end.ensures in
    (search rules, rises s c.if-end-edge.false (adds_cell s c.if-end-edge.false c.if-end-edge-2.true c.plus-upto.ensures))

pub overflow_add-place : goal.overflow_add-place
overflow_add-place c =
    let s = at_step c.requires c.loop-place.auto.newgas c.loop-place.invariant c.loop-place-test.true c.new-have.ensures c.new-t.ensures c.plus-end.ensures in
    rw c.past_edge-place.ensures (omega (arith, ends_fit s))

pub loop-place-preserved-then-end-edge-2 : goal.loop-place-preserved-then-end-edge-2
loop-place-preserved-then-end-edge-2 c =
    let i = c.loop-place.invariant in
    let s = at_step c.requires c.loop-place.auto.newgas c.loop-place.invariant c.loop-place-test.true c.new-have.ensures c.new-t.ensures c.plus-end.ensures in
    let adds = adds_cell s c.if-end-edge.false c.if-end-edge-2.true c.plus-upto.ensures in
    rw c.past_edge-place.ensures
    (record {
      walking = edge_passed s c.if-end-edge.false adds c.minus.ensures (edge_at_end s c.if-end-edge.false c.if-end-edge-2.true refl);
      cell = i.cell;
      inside = i.inside;
      onward = omega (arith, i.onward);
    })

-- ---- an edge inside the cell
pub air_inside-inside-requires : goal.air_inside-inside-requires
air_inside-inside-requires c =
    let i = c.loop-place.invariant in
    let ahead = ahead_here c.requires.line i.walking.stands c.loop-place-test.true in
    let most = c.requires.line.most c.loop-place.c i.inside in
    (ahead, omega (arith, most, c.plus-end.ensures, c.new-have.ensures, c.if-end-edge.false))

pub low_piece-requires : goal.low_piece-requires
low_piece-requires c =
    cell_giver c.requires.line c.loop-place.invariant.inside refl c.new-have.ensures c.new-t.ensures
    (omega (arith, c.air_inside-inside.ensures, c.plus-end.ensures, c.if-end-edge.false))

pub plus-next-requires : goal.plus-next-requires
plus-next-requires c = omega (arith, fits (at_step c.requires c.loop-place.auto.newgas c.loop-place.invariant c.loop-place-test.true c.new-have.ensures c.new-t.ensures c.plus-end.ensures), c.low_piece.ensures.within)

pub minus-requires-in-loop-place : goal.minus-requires-in-loop-place
minus-requires-in-loop-place c =
    let s = at_step c.requires c.loop-place.auto.newgas c.loop-place.invariant c.loop-place-test.true c.new-have.ensures c.new-t.ensures c.plus-end.ensures in
    (search rules, rises s c.if-end-edge.false (adds_piece s c.if-end-edge.false c.plus-next.ensures c.low_piece.ensures.is c.air_inside-inside.ensures))

pub loop-place-preserved : goal.loop-place-preserved
loop-place-preserved c =
    let i = c.loop-place.invariant in
    let s = at_step c.requires c.loop-place.auto.newgas c.loop-place.invariant c.loop-place-test.true c.new-have.ensures c.new-t.ensures c.plus-end.ensures in
    let adds = adds_piece s c.if-end-edge.false c.plus-next.ensures c.low_piece.ensures.is c.air_inside-inside.ensures in
    rw c.past_edge-place-in-loop-place.ensures
    (record {
      walking = edge_passed s c.if-end-edge.false adds c.minus-in-loop-place.ensures (edge_inside s c.if-end-edge.false c.if-end-edge-2.false);
      cell = i.cell;
      inside = i.inside;
      onward = omega (arith, i.onward);
    })
