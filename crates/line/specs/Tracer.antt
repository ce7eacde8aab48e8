-- A tracer's walk along a line, as the code makes it: where it stands after each step, and the amounts between the edges.
-- Assumes what `LineNeed` says of the lists and the edges.
use Rattle.std.specs.Prelude.{ℕ, suc, ◌+◌, ◌*◌, ◌-◌, ◌%◌, ◌≤◌, ◌<◌, List, ◌≡◌, length}
use Rattle.std.proofs.Common.{⊎_elim, sym, ap, ap₂, ◌∙◌, le_trans, zero-add, add-zero, mod-lt, mod-eq_of_lt, add-one, arith}
use Rattle.std.proofs.Math.Nat.{mod-add-mod, add-mod_right}
use Rattle.units.specs.declared.Amount.{Amount}
use Rattle.units.specs.declared.Mismatch as code
use Rattle.line.specs.declared.Place.{Place}
use Rattle.model.specs.Limits.{air_limit, most_columns, total_limit}
use Rattle.model.specs.Basic.{at, tab}
use Rattle.model.specs.Scheme.{Mismatch, opposite, low_piece}
use Rattle.model.specs.Remap.{ColumnLayer, amount_above}
use Rattle.model.specs.Walk.{Walk, walk_step, Passes}
use Rattle.model.proofs.Laws.Basic.{le_or_lt, steps_rise, term_le_sum, sum_more, sum_fewer, sum_le, sum_same}
use Rattle.model.proofs.Laws.Scheme.{Safe, ratio_safe, piece_whole}
use Rattle.model.proofs.Laws.Above.{air_of, amount_rises, amount_longer}
use Rattle.model.proofs.Laws.Walk.{Stands, stands, walk_start, walk_more, step_edge, step_layer, ends_none, ends_most, ends_more, ends_same}
use Rattle.model.proofs.Laws.Long.{line_all}
use Rattle.scheme.specs.Leaves.{mismatch_of, Giver}
use Rattle.model.specs.Long.{line_air, turns}
use Rattle.line.specs.Line.{slope_in, cell_at, LineNeed, line_walk, line_ends, IsWalk, IsBetween}

-- ---- G of two lines at a point that both reach
same_amount :
    (f : ℕ → ColumnLayer) → ((k : ℕ) → 1 ≤ (f k).air) → (m n x : ℕ) → x ≤ air_of f m → x ≤ air_of f n →
    amount_above (tab m f) x ≡ amount_above (tab n f) x
same_amount f has m n x reachM reachN =
    ⊎_elim
    (λ (h : m ≤ n). amount_longer f m n x (λ k _. has k) h reachM)
    (λ (h : n < m). sym (amount_longer f n m x (λ k _. has k) (omega arith) reachN))
    (le_or_lt m n)

-- where the code's walk stands: in cell i, with the air and the tracer of the cells before it, past edge j, with the tracer up to that edge
abbrev pub place : ℕ → ℕ → ℕ → ℕ → ℕ → Walk
place i passed whole j last = record { layers = i; above = passed; amount = whole; edges = j; mark = last }

abbrev pub place_of : Place → Walk
place_of p = place p.i p.passed.0 p.whole.0 p.j p.last.0

-- a walk that begins: no cell and no edge is passed
pub record AtStart (p : Place) : Type 0 where
  pub cells : p.i ≡ 0
  pub edges : p.j ≡ 0
  pub ends : p.ends ≡ 0
  pub air : p.passed.0 ≡ 0
  pub tracer : p.whole.0 ≡ 0
  pub mark : p.last.0 ≡ 0

-- the definition's walk stands at p, and a step of it has passed each new cell up to there
pub record Walking (n : ℕ) (air gas : List ℕ) (slopes : List code.Mismatch) (e : List ℕ) (m : ℕ) (newgas : List ℕ) (p : Place) : Type 0 where
  pub stands : line_walk n air gas slopes e m (p.i + p.j) ≡ place_of p
  pub made : (t : ℕ) → t < p.j → (s : ℕ) × (s < p.i + p.j) × Passes (line_walk n air gas slopes e m) t (at newgas t) s
  pub ended : p.ends ≡ line_ends n air gas slopes e m (p.i + p.j)

-- a turn can begin at p
pub record TurnNeed (n : ℕ) (air gas : List ℕ) (slopes : List code.Mismatch) (e : List ℕ) (m : ℕ) (newgas : List ℕ) (p : Place) : Type 0 where
  pub line : LineNeed n air gas slopes e m newgas
  pub walking : Walking n air gas slopes e m newgas p
  pub whole : p.i % n ≡ 0

-- the walk has gone on from p to r, a whole turn unless it is at its end
pub record IsTurn (n : ℕ) (air gas : List ℕ) (slopes : List code.Mismatch) (e : List ℕ) (m : ℕ) (newgas : List ℕ) (p r : Place) : Type 0 where
  pub walking : Walking n air gas slopes e m newgas r
  pub turned : r.j < m → r.i ≡ p.i + n
  pub onward : (p.i ≤ r.i) × (p.j ≤ r.j)

-- no more ends are passed than steps are made
pub ends_few : (n : ℕ) (air gas : List ℕ) (slopes : List code.Mismatch) (e : List ℕ) (m s : ℕ) → line_ends n air gas slopes e m s ≤ s
ends_few n air gas slopes e m s = ends_most _ _ _ s

-- what was made stays made as the walk goes on
pub made_more :
    {W : ℕ → Walk} {j k k' : ℕ} (r : List ℕ) → k ≤ k' → ((t : ℕ) → t < j → (s : ℕ) × (s < k) × Passes W t (at r t) s) →
    (t : ℕ) → t < j → (s : ℕ) × (s < k') × Passes W t (at r t) s
made_more r le made t h = let step = made t h in (step.0, omega (arith, step.1), step.2)

-- the walk begins, and the next turn begins where one has ended
pub walking_start :
    (n : ℕ) (air gas : List ℕ) (slopes : List code.Mismatch) (e : List ℕ) (m : ℕ) (newgas : List ℕ) (p : Place) → AtStart p →
    Walking n air gas slopes e m newgas p
walking_start n air gas slopes e m newgas p top =
    record {
      stands =
          ap₂ (λ (i j : ℕ). line_walk n air gas slopes e m (i + j)) top.cells top.edges ∙ walk_start _ _ _ ∙
          (λ z. place (sym top.cells z) (sym top.air z) (sym top.tracer z) (sym top.edges z) (sym top.mark z));
      made = λ t h. absurd (omega (arith, top.edges));
      ended = top.ends ∙ sym (ends_none _ _ _) ∙ sym (ap₂ (λ (i j : ℕ). line_ends n air gas slopes e m (i + j)) top.cells top.edges);
    }

pub need_again :
    {n : ℕ} {air gas : List ℕ} {slopes : List code.Mismatch} {e : List ℕ} {m : ℕ} {newgas : List ℕ} (next : List ℕ) → length next ≡ length newgas →
    LineNeed n air gas slopes e m newgas → LineNeed n air gas slopes e m next
need_again next same need =
    record {
      some = need.some;
      fit = need.fit;
      room_air = need.room_air;
      room_gas = need.room_gas;
      room_slopes = need.room_slopes;
      least = need.least;
      most = need.most;
      total = need.total;
      small = need.small;
      few = need.few;
      room_edges = need.room_edges;
      first = need.first;
      rises = need.rises;
      last = need.last;
      room = rw same need.room;
    }

pub turned_whole : (n i : ℕ) {next : ℕ} → next ≡ i + n → i % n ≡ 0 → next % n ≡ 0
turned_whole n i is whole = ap (λ (x : ℕ). x % n) is ∙ add-mod_right i n ∙ whole

module _
    {n : ℕ} {air gas : List ℕ} {slopes : List code.Mismatch} {e : List ℕ} {m : ℕ} {newgas : List ℕ} {p : Place}
    (need : TurnNeed n air gas slopes e m newgas p) where
  -- cell c of the turn, on the line
  pub in_turn : {c : ℕ} → c < n → (p.i + c) % n ≡ c
  in_turn {c} h = sym (mod-add-mod p.i n c) ∙ ap (λ (x : ℕ). (x + c) % n) need.whole ∙ rw (zero-add c) (mod-eq_of_lt h)

  pub turn_start :
      (line_walk n air gas slopes e m (p.i + 0 + p.j) ≡ place (p.i + 0) p.passed.0 p.whole.0 p.j p.last.0)
      × ((t : ℕ) → t < p.j → (s : ℕ) × (s < p.i + 0 + p.j) × Passes (line_walk n air gas slopes e m) t (at newgas t) s)
      × (p.ends ≡ line_ends n air gas slopes e m (p.i + 0 + p.j))
  turn_start = rw (add-zero p.i) (need.walking.stands, need.walking.made, need.walking.ended)

module _
    {n : ℕ} {air gas : List ℕ} {slopes : List code.Mismatch} {e : List ℕ} {m : ℕ} {newgas : List ℕ}
    (need : LineNeed n air gas slopes e m newgas) where
  abbrev f : ℕ → ColumnLayer
  f = cell_at n air gas slopes

  abbrev W : ℕ → Walk
  W = line_walk n air gas slopes e m

  least : (i : ℕ) → 1 ≤ at air (i % n)
  least i = need.least (i % n) (mod-lt i need.some)

  -- the walk stands within any number of cells that reach the last edge; three turns do
  stands_in : (cells : ℕ) → 1 ≤ cells → at e m ≤ line_air n air cells → (s : ℕ) → Stands f cells (at e) m s (W s)
  stands_in cells some reach = stands f cells some (λ i h. least i) (at e) m need.first need.rises reach

  in_turns : (s : ℕ) → Stands f (turns * n) (at e) m s (W s)
  in_turns = stands_in (turns * n) (omega (arith, need.some)) (rw (line_all n air) need.last)

  abbrev G : ℕ → ℕ
  G x = amount_above (tab (turns * n) f) x

  amounts_rise : (j : ℕ) → j < m → G (at e j) ≤ G (at e (suc j))
  amounts_rise j h = amount_rises f (turns * n) (λ i h. least i) safe (at e j) (at e (suc j)) (need.rises j h)
    where
      safe : (i : ℕ) → i < turns * n → Safe (slope_in slopes (i % n)) (at air (i % n)) (at gas (i % n))
      safe i p = ratio_safe (slope_in slopes (i % n)) (at air (i % n)) (at gas (i % n)) (need.small (i % n) (mod-lt i need.some))

  -- ---- the code's place
  module _ {i passed whole j last : ℕ} (is : W (i + j) ≡ place i passed whole j last) where
    pub stands_here : Stands f (turns * n) (at e) m (i + j) (place i passed whole j last)
    stands_here = rw is at (in_turns (i + j))

    pub passed_fits : passed ≤ turns * most_columns * air_limit
    passed_fits =
        let here = stands_here in
        let each = sum_le i (λ i. at air (i % n)) (λ t. air_limit) (λ t h. need.most (t % n) (mod-lt t need.some)) in
        omega (arith, here.above, each, sum_same i air_limit, here.layer, need.fit)

    -- the tracer of the cells before cell i, and of that one
    pub gas_fits : whole + at gas (i % n) ≤ turns * total_limit
    gas_fits =
        let here = stands_here in
        let gas_at : ℕ → ℕ = λ i. at gas (i % n) in
        omega (arith, here.amount, sum_more i gas_at, sum_fewer gas_at (i + 1) (turns * n) (omega (arith, here.layer)), line_all n gas, need.total)

    module _ (h : j < m) where
      pub ahead_here : passed ≤ at e (j + 1)
      ahead_here = rw add-one (stands_here.ahead h)

      pub walk_cell :
          {end whole' : ℕ} → end ≡ passed + at air (i % n) → whole' ≡ whole + at gas (i % n) → end < at e (j + 1) →
          W (i + 1 + j) ≡ place (i + 1) end whole' j last
      walk_cell {end} {whole'} ends sums lt =
          let lt' : passed + at air (i % n) < at e (suc j) = rw (← add-one j, ← ends) lt in
          let next : i + 1 + j ≡ suc (i + j) = omega arith in
          let one : suc i ≡ i + 1 = sym (add-one i) in
          ap W next ∙ walk_more f (at e) m (i + j) ∙ ap (walk_step f (at e) m) is ∙
          step_layer f (at e) m (place i passed whole j last) h lt' ∙
          (λ z. place (one z) (sym ends z) (sym sums z) j last)

      -- the ends passed, of a step past a cell, past an edge inside it, and past one at its end
      due : at e (suc j) ≡ at e (j + 1)
      due = ap (at e) (sym (add-one j))

      pub ends_cell : passed + at air (i % n) < at e (j + 1) → line_ends n air gas slopes e m (i + 1 + j) ≡ line_ends n air gas slopes e m (i + j)
      ends_cell lt =
          let next : i + 1 + j ≡ suc (i + j) = omega arith in
          ap (line_ends n air gas slopes e m) next ∙
          ends_same f (at e) m (i + j) is (λ (q : at e (suc j) ≡ passed + at air (i % n)). omega (arith, q, due, lt))

      pub ends_inside : at e (j + 1) < passed + at air (i % n) → line_ends n air gas slopes e m (i + (j + 1)) ≡ line_ends n air gas slopes e m (i + j)
      ends_inside lt =
          let next : i + (j + 1) ≡ suc (i + j) = omega arith in
          ap (line_ends n air gas slopes e m) next ∙
          ends_same f (at e) m (i + j) is (λ (q : at e (suc j) ≡ passed + at air (i % n)). omega (arith, q, due, lt))

      pub ends_end : at e (j + 1) ≡ passed + at air (i % n) → line_ends n air gas slopes e m (i + (j + 1)) ≡ line_ends n air gas slopes e m (i + j) + 1
      ends_end ends =
          let next : i + (j + 1) ≡ suc (i + j) = omega arith in
          ap (line_ends n air gas slopes e m) next ∙ ends_more f (at e) m (i + j) is h (due ∙ ends) ∙ sym (add-one _)

      -- a piece of the whole cell
      pub whole_cell :
          at e (j + 1) ≡ passed + at air (i % n) →
          low_piece (slope_in slopes (i % n)) (at air (i % n)) (at gas (i % n)) (at e (j + 1) - passed) ≡ at gas (i % n)
      whole_cell ends =
          let inside : at e (j + 1) - passed ≡ at air (i % n) = omega (arith, ends) in
          ap (low_piece (slope_in slopes (i % n)) (at air (i % n)) (at gas (i % n))) inside ∙
          piece_whole (opposite (slope_in slopes (i % n))) (at air (i % n)) (at gas (i % n)) (least i)

      module _ {next : ℕ} (le : at e (j + 1) ≤ passed + at air (i % n))
          (adds : next ≡ whole + low_piece (slope_in slopes (i % n)) (at air (i % n)) (at gas (i % n)) (at e (j + 1) - passed)) where
        pub walk_edge : W (i + (j + 1)) ≡ place i passed whole (j + 1) next
        walk_edge =
            let le' : at e (suc j) ≤ passed + at air (i % n) = rw (← add-one j) le in
            let one : suc j ≡ j + 1 = sym (add-one j) in
            let more : i + (j + 1) ≡ suc (i + j) = omega arith in
            ap W more ∙ walk_more f (at e) m (i + j) ∙ ap (walk_step f (at e) m) is ∙
            step_edge f (at e) m (place i passed whole j last) h le' ∙
            (λ z.
            place i passed whole (one z)
            ((ap (λ (x : ℕ). whole + low_piece (slope_in slopes (i % n)) (at air (i % n)) (at gas (i % n)) (at e x - passed)) one ∙ sym adds) z))

        -- the mark never falls, and what it gains is the new cell's
        pub mark_rises : last ≤ next
        mark_rises =
            let before = stands_here.mark in
            let after = (rw walk_edge at (in_turns (i + (j + 1)))).mark in
            omega (arith, before, after, ap (λ (x : ℕ). G (at e x)) (add-one j), amounts_rise j h)

        pub edge_passes : {amount : ℕ} → amount ≡ next - last → Passes W j amount (i + j)
        edge_passes gains =
            let more : suc (i + j) ≡ i + (j + 1) = omega arith in
            let after = ap W more ∙ walk_edge in
            record {
              before = ap (λ (w : Walk). w.edges) is;
              after = ap (λ (w : Walk). w.edges) after ∙ add-one j;
              gained = gains ∙ sym (ap₂ (λ (x y : Walk). y.mark - x.mark) is after);
            }

  -- the piece of a cell
  pub cell_giver :
      {c : ℕ} {d : code.Mismatch} {have : Amount 0} {t : Amount 1} {part : Amount 0} → c < n → mismatch_of d ≡ slope_in slopes c →
      have.0 ≡ at air c → t.0 ≡ at gas c → part.0 ≤ have.0 → Giver d have t part
  cell_giver {c} h isSlope isAir isGas fits =
      record {
        some = rw isAir (need.least c h);
        air = rw isAir (need.most c h);
        tracer = omega (arith, isGas, term_le_sum n (at gas) c h, need.total);
        part = fits;
        small = rw (isAir, isGas) (rw (ap (λ (D : Mismatch). D.size) isSlope) (need.small c h));
      }

  -- ---- what the walk has made
  pub walk_is :
      {i passed whole j last ends : ℕ} {r : List ℕ} → W (i + j) ≡ place i passed whole j last → m ≤ j →
      ((t : ℕ) → t < j → (s : ℕ) × (s < i + j) × Passes W t (at r t) s) → ends ≡ line_ends n air gas slopes e m (i + j) →
      IsWalk n air gas slopes e m r (i + j) ends
  walk_is {i} {j = j} is done made ended =
      let edges = ap (λ (w : Walk). w.edges) is in
      let here = stands_here is in
      record {
        reaches = edges ∙ omega (arith, here.edge);
        few =
            λ cells some reach.
            let inside = (stands_in cells some reach (i + j)).layer in
            omega (arith, inside, ap (λ (w : Walk). w.layers) is, here.edge);
        is = λ t h. made t (omega arith);
        ended = ended;
      }

  -- the amounts between the edges, however many cells are looked at
  pub between_is : {r : List ℕ} {steps ends : ℕ} → IsWalk n air gas slopes e m r steps ends → IsBetween n air gas slopes e m r
  between_is {r} walked =
      record {
        is =
            λ cells reach j h.
            let step = walked.is j h in
            let s = step.0 in
            let made = step.2 in
            made.gained ∙ ap₂ ◌-◌ (mark_at cells reach (suc s) (suc j) made.after) (mark_at cells reach s j made.before);
      }
    where
      same : (cells : ℕ) → at e m ≤ line_air n air cells → (j : ℕ) → j ≤ m → G (at e j) ≡ amount_above (tab cells f) (at e j)
      same cells reach j h =
          same_amount f least (turns * n) cells (at e j) (le_trans (steps_rise m (at e) need.rises j h) (rw (line_all n air) need.last))
          (le_trans (steps_rise m (at e) need.rises j h) reach)

      mark_at : (cells : ℕ) → at e m ≤ line_air n air cells → (s j : ℕ) → (W s).edges ≡ j → (W s).mark ≡ amount_above (tab cells f) (at e j)
      mark_at cells reach s j passes =
          (in_turns s).mark ∙ same cells reach (W s).edges (in_turns s).edge ∙ ap (λ (x : ℕ). amount_above (tab cells f) (at e x)) passes
