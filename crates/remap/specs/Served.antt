-- A column with its edges, and place 12 for all columns.
use Rattle.std.specs.Prelude.{ℕ, suc, ◌+◌, ◌*◌, ◌≤◌, ◌<◌, List, Bool, true, false, ◌&&◌, ◌≡◌, length}
use Rattle.std.proofs.Common.{sym, ap, ap₂, ◌∙◌, arith}
use Rattle.model.specs.Limits.{air_limit, most_layers, most_layer_cells}
use Rattle.model.specs.Basic.{at, every}
use Rattle.model.specs.World.{air_fits}
use Rattle.model.specs.Remap.{air_above, edges_serve, column_count}
use Rattle.model.specs.Step.{table_fits}
use Rattle.model.proofs.Laws.Basic.{at_tab, every_none, every_more, every_false, sum_tab}
use Rattle.model.proofs.Laws.Substep.{air_bounds}
use Rattle.model.proofs.Laws.Column.{Edges}
use Rattle.line.specs.Line as line
use Rattle.line.specs.Line.{AirNeed, IsAirSum, Served}
use Rattle.column.specs.Column.{firsts, AreEdges}
use Rattle.column.specs.Gas.{Spans}
use Rattle.column.specs.Laws.{serving_is}
use Rattle.remap.specs.Columns.{ColumnNeed, column_of, cell_room}

-- the column at place c has air in range, and the table has k + 1 pairs
pub record ReadNeed (air table : List ℕ) (c cells k : ℕ) : Type 0 where
  pub column : ColumnNeed air c cells k
  pub some : 1 ≤ k
  pub pairs : length table ≡ 2 * (k + 1)
  pub air_in : (i : ℕ) → i < k → air_fits (at air (i * cells + c)) ≡ true

-- P of that column
abbrev pub column_sum : ℕ → ℕ → List ℕ → ℕ → ℕ
column_sum k cells air c = air_above (column_of k cells air c) k

-- a has the column's air, e the table's edges in it
pub record IsColumn (air table : List ℕ) (c cells k : ℕ) (a e : List ℕ) : Type 0 where
  pub room_air : k ≤ length a
  pub room_edges : k < length e
  pub air_is : firsts k a ≡ column_of k cells air c
  pub least : (i : ℕ) → i < k → 1 ≤ at a i
  pub most : (i : ℕ) → i < k → at a i ≤ air_limit
  pub edges_are : AreEdges table (column_sum k cells air c) k e

module _ {air table : List ℕ} {c cells k : ℕ} (need : ReadNeed air table c cells k) (a : List ℕ) (is : firsts k a ≡ column_of k cells air c) where
  loaded_at : (i : ℕ) → i < k → at a i ≡ at air (i * cells + c)
  loaded_at i h =
      sym (at_tab k (at a) i h) ∙ ap (λ (l : List ℕ). at l i) is ∙ at_tab k (λ i. at air (i * cells + c)) i h

  loaded_bounds : (i : ℕ) → i < k → (1 ≤ at a i) × (at a i ≤ air_limit)
  loaded_bounds i h = rw (loaded_at i h) (air_bounds _ (need.air_in i h))

  pub air_need : k ≤ length a → AirNeed k a
  air_need room = record { fit = omega (arith, need.column.fit); room = room; most = λ i h. (loaded_bounds i h).1 }

  pub column_is : {P : ℕ} {e : List ℕ} → k ≤ length a → k < length e → IsAirSum k a P → AreEdges table P k e → IsColumn air table c cells k a e
  column_is {P} {e} room_air room_edges sums edges =
      record {
        room_air = room_air;
        room_edges = room_edges;
        air_is = is;
        least = λ i h. (loaded_bounds i h).0;
        most = λ i h. (loaded_bounds i h).1;
        edges_are = rw (sums.is ∙ sym (sum_tab k (at a)) ∙ ap (λ (l : List ℕ). air_above l k) is) at edges;
      }

-- edges that serve, as the functions of one column need them
module _
    {air table : List ℕ} {c cells k : ℕ} {a e : List ℕ} (fit : k ≤ most_layers) (some : 1 ≤ k)
    (is : IsColumn air table c cells k a e) (edges : Edges k table (column_sum k cells air c)) where
  pub column_spans : Spans k a e
  column_spans =
      record {
        some = some;
        fit = fit;
        room_air = is.room_air;
        room_edges = is.room_edges;
        least = is.least;
        most = is.most;
        first = is.edges_are.is 0 (omega arith) ∙ edges.first;
        last = is.edges_are.is k (omega arith) ∙ edges.last ∙ ap (λ (l : List ℕ). air_above l k) (sym is.air_is);
        rises = λ j h. rw (is.edges_are.is j (omega arith), is.edges_are.is (suc j) (omega arith)) (edges.rises j h);
      }

  pub column_served : Served k e
  column_served =
      record {
        room = is.room_edges;
        rises = λ j h. rw (is.edges_are.is j (omega arith), is.edges_are.is (suc j) (omega arith)) (edges.rises j h);
        most = λ j h. rw (is.edges_are.is j (omega arith), is.edges_are.is (suc j) (omega arith)) (edges.most j h);
      }

-- the edges, of the loaded air
pub column_edges :
    {air table : List ℕ} {c cells k : ℕ} {a e : List ℕ} → IsColumn air table c cells k a e → AreEdges table (air_above (firsts k a) k) k e
column_edges is = rw is.air_is is.edges_are

-- ---- all columns
pub record ColumnsNeed (air table : List ℕ) (cells k : ℕ) : Type 0 where
  pub some : 1 ≤ k
  pub fit : k ≤ most_layers
  pub few : cells ≤ most_layer_cells
  pub long : length air ≡ k * cells
  pub pairs : length table ≡ 2 * (k + 1)
  pub fits : table_fits k table ≡ true
  pub air_in : (i : ℕ) → i < k * cells → air_fits (at air i) ≡ true

pub read_need : {air table : List ℕ} {cells k : ℕ} → ColumnsNeed air table cells k → {c : ℕ} → c < cells → ReadNeed air table c cells k
read_need {air} {table} {cells} {k} need {c} h =
    record {
      column = column;
      some = need.some;
      pairs = need.pairs;
      air_in = λ i p. need.air_in _ (omega (arith, (cell_room column p).0, need.long));
    }
  where
    column : ColumnNeed air c cells k
    column = record { fit = need.fit; few = need.few; place = h; long = need.long }

abbrev pub serves_at : ℕ → ℕ → List ℕ → List ℕ → ℕ → Bool
serves_at k cells table air c = edges_serve k table (column_sum k cells air c)

abbrev pub count_at : ℕ → ℕ → List ℕ → List ℕ → ℕ → ℕ
count_at k cells table air c = column_count k table (column_of k cells air c)

-- the first c columns serve
pub record ServedUpto (air table : List ℕ) (cells k c : ℕ) : Type 0 where
  pub inside : c ≤ cells
  pub serve : every c (serves_at k cells table air) ≡ true

module _ {air table : List ℕ} {cells k : ℕ} (need : ColumnsNeed air table cells k) where
  pub upto_start : ServedUpto air table cells k 0
  upto_start = record { inside = omega arith; serve = every_none _ }

  module _ {c : ℕ} (h : c < cells) {a e : List ℕ} (is : IsColumn air table c cells k a e) where
    pub not_served : {r : Bool} → r ≡ every k (line.serves_at e) → r ≡ false → false ≡ every cells (serves_at k cells table air)
    not_served tested fails = sym (every_false cells (serves_at k cells table air) c h (sym (tested ∙ serving_is is.edges_are) ∙ fails))

    pub one_more : {r : Bool} → r ≡ every k (line.serves_at e) → r ≡ true → ServedUpto air table cells k c → ServedUpto air table cells k (c + 1)
    one_more tested served upto =
        record {
          inside = omega arith;
          serve = every_more c (serves_at k cells table air) ∙ ap₂ ◌&&◌ upto.serve (sym (tested ∙ serving_is is.edges_are) ∙ served);
        }

  pub all_served : {c : ℕ} → ServedUpto air table cells k c → cells ≤ c → true ≡ every cells (serves_at k cells table air)
  all_served {c} upto done =
      let e : c ≡ cells = omega (arith, upto.inside) in
      sym upto.serve ∙ ap (λ (n : ℕ). every n (serves_at k cells table air)) e
