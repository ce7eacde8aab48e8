-- All columns remapped, of the air and of all tracers: what `move_columns` requires and ensures, and its loop.
use Rattle.std.specs.Prelude.{ℕ, zero, suc, ◌+◌, ◌-◌, ◌*◌, ◌/◌, ◌%◌, ◌≤◌, ◌<◌, List, ◌++◌, ◌≡◌, refl, length, take}
use Rattle.std.proofs.Common.{sym, ap, ap₂, ◌∙◌, mul-le-mul, add-one, arith, take-add, take_all}
use Rattle.std.proofs.Math.Nat.{zero-mul}
use Rattle.model.specs.Limits.{total_limit, most_layers, most_layer_cells, most_tracers, block_numbers}
use Rattle.model.specs.Basic.{at, part, sum, joined, tab_from, tab}
use Rattle.model.specs.Limiters.{Limiter, rule_for}
use Rattle.model.specs.Remap.{air_above, new_air, new_tracer, layers, column_count}
use Rattle.model.specs.Walk.{budget}
use Rattle.model.proofs.Laws.Basic.{sum_none, sum_more, sum_tab, sum_columns, term_le_sum}
use Rattle.model.proofs.Laws.Entries.{joined_more, joined_ext}
use Rattle.model.proofs.Laws.Column.{Edges}
use Rattle.units.specs.Limiter.{limiter_at}
use Rattle.units.specs.EachTracer.{length_gas}
use Rattle.line.specs.Line.{IsNewAir, Served}
use Rattle.column.specs.Column.{firsts}
use Rattle.column.specs.Gas.{IsCounted}
use Rattle.remap.specs.Columns.{ColumnNeed, column_of, column_set}
use Rattle.remap.specs.Served.{ReadNeed, IsColumn, ColumnsNeed, column_sum, count_at, read_need, column_spans, column_served, column_edges}
use Rattle.remap.specs.Upto.{Upto, column_left, upto_none, upto_more, upto_all}
use Rattle.remap.specs.Gas.{cap_at, layer_new, IsGasMoved}
use Rattle.remap.specs.Tracers.{gas_of, ColumnTracersNeed, AreTracersMoved}

-- what cell c of layer i shall have
abbrev pub air_new : ℕ → ℕ → List ℕ → List ℕ → ℕ → ℕ → ℕ
air_new k cells table air i c = new_air table (column_sum k cells air c) i

abbrev pub gas_new : Limiter → ℕ → ℕ → List ℕ → List ℕ → List ℕ → ℕ → ℕ → ℕ
gas_new l k cells table air gas i c = layer_new l k cells table (column_of k cells air c) gas c i

-- the air, a tracer and all tracers, when all columns are remapped
abbrev pub air_moved : ℕ → ℕ → List ℕ → List ℕ → List ℕ
air_moved k cells table air = tab (k * cells) (λ i. air_new k cells table air (i / cells) (i % cells))

abbrev pub gas_moved : Limiter → ℕ → ℕ → List ℕ → List ℕ → List ℕ → List ℕ
gas_moved l k cells table air gas = tab (k * cells) (λ i. gas_new l k cells table air gas (i / cells) (i % cells))

abbrev pub all_moved : ℕ → ℕ → ℕ → List ℕ → List ℕ → List ℕ → List ℕ → List ℕ
all_moved n k cells ledger table air tracers = joined (tab n (λ t. gas_moved (limiter_at ledger t) k cells table air (gas_of k cells tracers t)))

-- every column's edges serve
pub record ColumnsAirNeed (air table : List ℕ) (cells k : ℕ) : Type 0 where
  pub some : 0 < cells
  pub columns : ColumnsNeed air table cells k
  pub edges : (c : ℕ) → c < cells → Edges k table (column_sum k cells air c)

pub record ColumnsTracersNeed (tracers ledger air table : List ℕ) (cells k n : ℕ) : Type 0 where
  pub moves : ColumnsAirNeed air table cells k
  pub some_tracers : 1 ≤ n
  pub few : n ≤ most_tracers
  pub long : length tracers ≡ n * (k * cells)
  pub blocks : length ledger ≡ n * block_numbers
  pub totals : (t : ℕ) → t < n → sum (k * cells) (at (gas_of k cells tracers t)) ≤ total_limit

-- all columns are remapped; the walks, one for each tracer and column, take no more steps than their budgets together, each one less than its own;
-- the count is exactly the columns' counts added up
pub record AreMoved (tracers ledger air table : List ℕ) (cells k n : ℕ) (new_tracers new_air : List ℕ) (steps count : ℕ) : Type 0 where
  pub tracers_are : new_tracers ≡ all_moved n k cells ledger table air tracers
  pub air_is : new_air ≡ air_moved k cells table air
  pub most : steps ≤ n * cells * budget k
  pub exact : steps + n * cells ≡ n * cells * budget k
  pub counted : count ≡ sum cells (count_at k cells table air)

-- the first c columns are
pub record MovedUpto (tracers ledger air table : List ℕ) (cells k n c : ℕ) (now_tracers now_air : List ℕ) (steps count : ℕ) : Type 0 where
  pub air_upto : Upto k cells (air_new k cells table air) air c now_air
  pub long : length now_tracers ≡ length tracers
  pub each :
      (t : ℕ) → t < n →
      Upto k cells (gas_new (limiter_at ledger t) k cells table air (gas_of k cells tracers t)) (gas_of k cells tracers t) c (gas_of k cells now_tracers t)
  pub made : steps + n * c ≡ n * c * budget k
  pub counted : count ≡ sum c (count_at k cells table air)
  pub few_pairs : count ≤ budget most_layers * c

-- ---- the air
module _
    {air table : List ℕ} {cells k : ℕ} (need : ColumnsAirNeed air table cells k) {c : ℕ} (h : c < cells) {now : List ℕ}
    (upto : Upto k cells (air_new k cells table air) air c now) where
  pub air_room : ColumnNeed now c cells k
  air_room = record { fit = need.columns.fit; few = need.columns.few; place = h; long = upto.long ∙ need.columns.long }

  pub air_read : ReadNeed now table c cells k
  air_read =
      record {
        column = air_room;
        some = need.columns.some;
        pairs = need.columns.pairs;
        air_in = λ i p. rw (upto.left i c p (omega arith) h) ((read_need need.columns h).air_in i p);
      }

  module _ {a e : List ℕ} (is : IsColumn now table c cells k a e) where
    -- the air of column c is as it was
    column_old : IsColumn air table c cells k a e
    column_old =
        let same = column_left need.columns.long h upto in
        record {
          room_air = is.room_air;
          room_edges = is.room_edges;
          air_is = is.air_is ∙ same;
          least = is.least;
          most = is.most;
          edges_are = rw same at is.edges_are;
        }

    pub air_served : Served k e
    air_served = column_served need.columns.fit need.columns.some column_old (need.edges c h)

    air_more : {new next : List ℕ} → IsNewAir k e new → next ≡ column_set cells now c (at new) k → Upto k cells (air_new k cells table air) air (c + 1) next
    air_more {new} made stored =
        let edges = column_old.edges_are in
        upto_more need.columns.long h upto (at new) stored
        (λ i p. made.is i p ∙ ap₂ ◌-◌ (edges.is (suc i) p) (edges.is i (omega arith)))

-- ---- a tracer
column_total :
    {gas : List ℕ} {cells k c : ℕ} {new : ℕ → ℕ → ℕ} {now : List ℕ} → length gas ≡ k * cells → c < cells → Upto k cells new gas c now →
    sum (k * cells) (at gas) ≤ total_limit → sum k (at (column_of k cells now c)) ≤ total_limit
column_total {gas} {cells} {k} {c} {new} {now} long h upto total =
    let own : sum k (at (column_of k cells now c)) ≡ sum k (λ i. at gas (i * cells + c)) =
    ap (λ (l : List ℕ). sum k (at l)) (column_left long h upto) ∙ sum_tab k (λ i. at gas (i * cells + c)) in
    let whole = sum_columns k cells (at gas) in
    let term : sum k (λ i. at gas (i * cells + c)) ≤ sum cells (λ c. sum k (λ i. at gas (i * cells + c))) =
    term_le_sum cells (λ c. sum k (λ i. at gas (i * cells + c))) c h in
    omega arith

gas_more :
    {l : Limiter} {gas air table : List ℕ} {cells k c : ℕ} {now a e next : List ℕ} → length gas ≡ k * cells → c < cells → IsColumn air table c cells k a e →
    Upto k cells (gas_new l k cells table air gas) gas c now → IsGasMoved l now a e c cells k next →
    Upto k cells (gas_new l k cells table air gas) gas (c + 1) next
gas_more {l} {gas} {air} {table} {cells} {k} {c} {now} {a} long h is upto moved =
    upto_more long h upto (layer_new l k cells table (firsts k a) now c) (moved.is table (column_edges is))
    (λ i p.
    ap₂ (λ (x y : List ℕ). new_tracer table (air_above x k) (layers (rule_for l) (cap_at cells c) k x y) i) is.air_is (column_left long h upto))

-- ---- all tracers, and the air
-- amounts are their parts joined
parts_joined : (n m : ℕ) (l : List ℕ) → take (n * m) l ≡ joined (tab n (λ t. part l (t * m) m))
parts_joined zero m l = unfold joined tab_from in rw zero-mul
parts_joined (suc n) m l =
    let more : suc n * m ≡ n * m + m = omega arith in
    ap (λ (i : ℕ). take i l) more ∙ take-add (n * m) m l ∙
    ap (λ (x : List ℕ). x ++ part l (n * m) m) (parts_joined n m l) ∙
    sym (joined_more n (λ t. part l (t * m) m)) ∙ ap (λ (i : ℕ). joined (tab i (λ t. part l (t * m) m))) (add-one n)

module _ {tracers ledger air table : List ℕ} {cells k n : ℕ} (need : ColumnsTracersNeed tracers ledger air table cells k n) where
  gas_long_lem : {t : ℕ} → t < n → length (gas_of k cells tracers t) ≡ k * cells
  gas_long_lem h = length_gas tracers n (k * cells) need.long h

  pub moved_none : MovedUpto tracers ledger air table cells k n 0 tracers air 0 0
  moved_none =
      record {
        air_upto = upto_none need.moves.columns.long;
        long = refl;
        each = λ t h. upto_none (gas_long_lem h);
        made = omega arith;
        counted = sym (sum_none _);
        few_pairs = omega arith;
      }

  module _
      {c : ℕ} (h : c < cells) {now_tracers now_air : List ℕ} {steps count : ℕ}
      (upto : MovedUpto tracers ledger air table cells k n c now_tracers now_air steps count) where
    -- the sum of the steps fits
    pub all_steps : (s : ℕ) → s + n ≡ n * budget k → steps + s ≤ most_tracers * most_layer_cells * budget most_layers
    all_steps s made =
        let walks : n * suc c ≤ most_tracers * most_layer_cells =
        mul-le-mul {n₂ = most_tracers} {m₂ = most_layer_cells} need.few (omega (arith, need.moves.columns.few)) in
        let most : n * suc c * budget k ≤ most_tracers * most_layer_cells * budget most_layers =
        mul-le-mul {n₂ = most_tracers * most_layer_cells} {m₂ = budget most_layers} walks (omega (arith, need.moves.columns.fit)) in
        omega (arith, upto.made)

    module _ {a e : List ℕ} (is : IsColumn now_air table c cells k a e) where
      old : IsColumn air table c cells k a e
      old = column_old need.moves h upto.air_upto is

      pub tracers_need : ColumnTracersNeed now_tracers ledger a e c cells k n
      tracers_need =
          record {
            spans = column_spans need.moves.columns.fit need.moves.columns.some old (need.moves.edges c h);
            place = h;
            few_cells = need.moves.columns.few;
            some_tracers = need.some_tracers;
            few_tracers = need.few;
            long = upto.long ∙ need.long;
            blocks = need.blocks;
            totals = λ t p. column_total (gas_long_lem p) h (upto.each t p) (need.totals t p);
          }

      -- the pairs of this column
      pub pairs_here : {ends : ℕ} → IsCounted k a e ends → count_at k cells table air c + ends ≡ budget k
      pairs_here {ends} counted = ap (λ (l : List ℕ). column_count k table l + ends) (sym old.air_is) ∙ counted.is table (column_edges old)

      pub moved_more : {next_tracers new next_air : List ℕ} (s : ℕ) {ends : ℕ} → AreTracersMoved now_tracers ledger a e c cells k n next_tracers → s + n ≡ n * budget k →
          IsCounted k a e ends → IsNewAir k e new → next_air ≡ column_set cells now_air c (at new) k →
          MovedUpto tracers ledger air table cells k n (c + 1) next_tracers next_air (steps + s) (count + (budget k - ends))
      moved_more s tracersMoved steps-are counted made stored =
          record {
            air_upto = air_more need.moves h upto.air_upto is made stored;
            long = tracersMoved.long ∙ upto.long;
            each = λ t p. gas_more (gas_long_lem p) h old (upto.each t p) (tracersMoved.each t p);
            made = omega (arith, upto.made);
            counted = omega (arith, upto.counted, pairs_here counted, sum_more c (count_at k cells table air));
            few_pairs = omega (arith, upto.few_pairs, need.moves.columns.fit);
          }

  pub moved_all : {c : ℕ} {now_tracers now_air : List ℕ} {steps count : ℕ} → cells ≤ c → MovedUpto tracers ledger air table cells k n c now_tracers now_air steps count →
      AreMoved tracers ledger air table cells k n now_tracers now_air steps count
  moved_all {c} {now_tracers} all upto =
      let done : c ≡ cells = omega (arith, upto.air_upto.inside) in
      let exact = rw done at upto.made in
      record {
        tracers_are =
            sym (take_all (n * (k * cells)) now_tracers (omega (arith, upto.long, need.long))) ∙ parts_joined n (k * cells) now_tracers ∙
            joined_ext n _ _ (λ t h. upto_all (gas_long_lem h) need.moves.some all (upto.each t h));
        air_is = upto_all need.moves.columns.long need.moves.some all upto.air_upto;
        most = omega (arith, exact);
        exact = exact;
        counted = rw done at upto.counted;
      }
