-- What an accepted remap keeps: the sums over all cells as sums over the columns, each column by the laws of Column.antt.
-- Assumes a world that calls reach, and of the table what the places 11 and 12 test.
use Prim.Native.Nat.{ℕ, ◌+◌, ◌*◌, ◌/◌, ◌%◌, ◌≤◌, ◌<◌}
use Rattle.std.specs.Prelude.{List, Bool, true, ◌≡◌, length}
use Rattle.std.proofs.Math.Bool.{◌&&◌}
use Rattle.std.proofs.Common.{true≢false, ◌∙◌, ap₂, div-lt_iff_lt-mul, mod-lt, mod-eq_of_lt, add-zero, mul-le-mul_right, arith, le-leb, lit<}
use Rattle.std.proofs.Math.Path.{sym, ap}
use Rattle.std.proofs.Math.Nat.{div-eq_of_lt, mul-add-div_right, mul-add-mod_self_right}
use Rattle.std.proofs.lemmas.Bool.{not-false}
use Rattle.model.specs.Limits.{air_limit}
use Rattle.model.specs.Basic.{at, sum}
use Rattle.model.specs.World.{Grid, World, layer_cells, world_cells, layer_start, gas}
use Rattle.model.specs.Remap.{column, column_air, column_count, is_cap, layers, new_air, new_tracer, over_cells, remapped_air, remapped_gas, remap_serves, remap_count, remapped}
use Rattle.model.specs.Scheme.{Rule}
use Rattle.model.specs.Limiters.{rule_for, limiter_in, rule_of}
use Rattle.model.specs.Range.{layer_in_range}
use Rattle.model.specs.Step.{remap, first_of, meaning, own_places, refusal}
use Rattle.model.specs.Lists.{Alike}
use Rattle.model.proofs.Laws.Basic.{every_at, sum_ext, sum_columns, length_tab, at_tab}
use Rattle.model.proofs.Laws.Substep.{AirIn, air_bounds}
use Rattle.model.proofs.Laws.World.{gas_moved_lem}
use Rattle.model.proofs.Laws.Step.{passed, accepted_passed}
use Rattle.model.proofs.Laws.Scheme.{Limited}
use Rattle.model.proofs.Laws.Fractions.{Monotone}
use Rattle.model.proofs.Laws.Limiters.{rule_limited, rule_monotone}
use Rattle.model.proofs.Laws.Keeps.{air_alike, MeaningKeeps}
use Rattle.model.proofs.Laws.Moved.{Even, KeepsAir, KeepsGas, moved_keeps, moved_alike}
use Rattle.model.proofs.Laws.Column.{Edges, edges_serve_lem, new_air_least, new_air_sum, new_tracer_sum, new_tracer_even, new_layer_in_range}

-- ---- cells by layer k and place c
module _ (g : Grid) where
  pub cell_in_lem : (k c : ℕ) → k < g.K → c < layer_cells g → layer_start g k + c < world_cells g
  cell_in_lem k c hk hc = omega (arith, mul-le-mul_right (layer_cells g) hk)

  layer_in : (i : ℕ) → i < world_cells g → i / layer_cells g < g.K
  layer_in i h = (div-lt_iff_lt-mul {k = layer_cells g} (omega arith)).1 h

  place_in : (i : ℕ) → i % layer_cells g < layer_cells g
  place_in i = mod-lt i (omega arith)

  at_over : (f : ℕ → ℕ → ℕ) (k c : ℕ) → k < g.K → c < layer_cells g → at (over_cells g f) (layer_start g k + c) ≡ f k c
  at_over f k c hk hc =
      at_tab (world_cells g) _ (layer_start g k + c) (cell_in_lem k c hk hc) ∙
      ap₂ f
      (mul-add-div_right (omega arith) k c ∙ rw (div-eq_of_lt hc) (add-zero k))
      (mul-add-mod_self_right k (layer_cells g) c ∙ mod-eq_of_lt hc)

  pub at_column : (l : List ℕ) (c k : ℕ) → k < g.K → at (column g l c) k ≡ at l (layer_start g k + c)
  unfolding column
  at_column l c k h = at_tab g.K _ k h

  sum_over : (f : ℕ → ℕ → ℕ) → sum (world_cells g) (at (over_cells g f)) ≡ sum (layer_cells g) (λ c. sum g.K (λ k. f k c))
  sum_over f =
      sum_columns g.K (layer_cells g) (at (over_cells g f)) ∙
      sum_ext (layer_cells g) _ _ (λ c hc. sum_ext g.K _ _ (λ k hk. at_over f k c hk hc))

  sum_list : (l : List ℕ) → sum (world_cells g) (at l) ≡ sum (layer_cells g) (λ c. sum g.K (at (column g l c)))
  sum_list l =
      sum_columns g.K (layer_cells g) (at l) ∙
      sum_ext (layer_cells g) _ _ (λ c hc. sum_ext g.K _ _ (λ k hk. sym (at_column l c k hk)))

-- ---- the amounts that a remap leaves in layer k at place c
abbrev air_at : Grid → List ℕ → List ℕ → ℕ → ℕ → ℕ
air_at g table air k c = new_air table (column_air g air c) k

abbrev gas_at : Rule → Grid → List ℕ → List ℕ → List ℕ → ℕ → ℕ → ℕ
gas_at rule g table air had k c =
    new_tracer table (column_air g air c) (layers rule (is_cap g c) g.K (column g air c) (column g had c)) k

module _ (g : Grid) (table air : List ℕ) (k c : ℕ) (hk : k < g.K) (hc : c < layer_cells g) where
  pub remapped_air_at : at (remapped_air g table air) (layer_start g k + c) ≡ new_air table (column_air g air c) k
  unfolding remapped_air
  remapped_air_at = at_over g (air_at g table air) k c hk hc

  pub remapped_gas_at :
      (rule : Rule) (had : List ℕ) →
      at (remapped_gas rule g table air had) (layer_start g k + c) ≡ new_tracer table (column_air g air c) (layers rule (is_cap g c) g.K (column g air c) (column g had c)) k
  unfolding remapped_gas
  remapped_gas_at rule had = at_over g (gas_at rule g table air had) k c hk hc

-- ---- a remap that serves
pub length_remapped : (rule : Rule) (g : Grid) (table air had : List ℕ) → length (remapped_gas rule g table air had) ≡ world_cells g
unfolding remapped_gas
length_remapped rule g table air had = length_tab (world_cells g) _

module _
    (g : Grid) (table air : List ℕ) (air_in : AirIn (world_cells g) air)
    (edges : (c : ℕ) → c < layer_cells g → Edges g.K table (column_air g air c)) where
  pub column_has : (c : ℕ) → c < layer_cells g → (k : ℕ) → k < g.K → 1 ≤ at (column g air c) k
  column_has c hc k hk = rw (at_column g air c k hk) (air_bounds _ (air_in _ (cell_in_lem g k c hk hc))).0

  air_in_lem : AirIn (world_cells g) (remapped_air g table air)
  unfolding remapped_air
  air_in_lem i h =
      let c : ℕ = i % layer_cells g in
      let hc : c < layer_cells g = place_in g i in
      let hk : i / layer_cells g < g.K = layer_in g i h in
      rw (at_tab (world_cells g) (λ i. air_at g table air (i / layer_cells g) (i % layer_cells g)) i h)
      (ap₂ ◌&&◌
      (le-leb 1 _ (new_air_least g.K table _ (edges c hc) _ hk))
      (le-leb _ air_limit ((edges c hc).most _ hk)))

  pub remap_air : KeepsAir (world_cells g) air (remapped_air g table air)
  unfolding remapped_air
  remap_air =
      record {
        air_length = length_tab (world_cells g) _;
        air_in = air_in_lem;
        air_kept =
            sum_over g (air_at g table air) ∙
            sum_ext (layer_cells g) _ _ (λ c hc. new_air_sum g.K table _ (edges c hc)) ∙
            sym (sum_list g air);
      }

  module _ {rule : Rule} (limited : Limited rule) where
    even_kept_lem :
        (had : List ℕ) (z : ℕ) → Even (world_cells g) z air had →
        Even (world_cells g) z (remapped_air g table air) (remapped_gas rule g table air had)
    unfolding remapped_air remapped_gas
    even_kept_lem had z even i h =
        let c : ℕ = i % layer_cells g in
        let hc : c < layer_cells g = place_in g i in
        at_tab (world_cells g) (λ i. gas_at rule g table air had (i / layer_cells g) (i % layer_cells g)) i h ∙
        new_tracer_even limited (is_cap g c) g.K table (column g air c) (column g had c) (column_has c hc) (edges c hc) z
        (λ k hk. at_column g had c k hk ∙ even _ (cell_in_lem g k c hk hc) ∙ ap (λ (x : ℕ). z * x) (sym (at_column g air c k hk)))
        (i / layer_cells g)
        (layer_in g i h) ∙
        ap (λ (x : ℕ). z * x) (sym (at_tab (world_cells g) (λ i. air_at g table air (i / layer_cells g) (i % layer_cells g)) i h))

    pub remap_gas : KeepsGas (world_cells g) air (remapped_air g table air) (remapped_gas rule g table air)
    unfolding remapped_gas
    remap_gas =
        record {
          gas_length = λ had e. length_remapped rule g table air had;
          gas_kept =
              λ had e.
              sum_over g (gas_at rule g table air had) ∙
              sum_ext (layer_cells g) _ _ (λ c hc. new_tracer_sum limited (is_cap g c) g.K table (column g air c) (column g had c) (column_has c hc) (edges c hc)) ∙
              sym (sum_list g had);
          even_kept = λ had z e. even_kept_lem had z;
        }

    remap_in_range :
        Monotone rule → (had : List ℕ) (c j : ℕ) → c < layer_cells g → j < g.K →
        layer_in_range g table air had (remapped_air g table air) (remapped_gas rule g table air had) c j ≡ true
    unfolding layer_in_range
    remap_in_range monotone had c j hc hj =
        rw (remapped_air_at g table air j c hj hc, remapped_gas_at g table air j c hj hc rule had)
        (new_layer_in_range limited (is_cap g c) g.K table (column g air c) (column g had c) (column_has c hc) (edges c hc) monotone j hj)

-- what its own places tell, where they are passed
own_edges :
    (table : List ℕ) (w : World) → first_of (own_places (remap table)) w ≡ 0 → (c : ℕ) → c < layer_cells w.grid →
    Edges w.grid.K table (column_air w.grid w.air c)
unfolding own_places remap_serves
own_edges table w e c h =
    let p = passed _ _ w (lit< tt) e in
    let q = passed _ _ w (lit< tt) p.1 in
    edges_serve_lem w.grid.K table _ (not-false _ p.0) (every_at _ _ (not-false _ q.0) c h)

pub remap_edges :
    (table : List ℕ) (w : World) → refusal w (remap table) ≡ 0 → (c : ℕ) → c < layer_cells w.grid →
    Edges w.grid.K table (column_air w.grid w.air c)
remap_edges table w e = own_edges table w (accepted_passed w (remap table) e).2

-- in two worlds alike
remap_alike :
    (table : List ℕ) (own : ℕ → Bool) (w v : World) → Alike own w v →
    Alike own (remapped w table) (remapped v table) × (remap_count w table ≡ remap_count v table)
unfolding remapped remap_count
remap_alike table own w v a = (
  moved_alike own w v _ _ (λ t. gases w t) (λ t. gases v t) (λ t h. length_remapped _ _ _ _ _) (λ t h. length_remapped _ _ _ _ _) a.same_grid
      (ap₂ (λ (g : Grid) (air : List ℕ). remapped_air g table air) a.same_grid a.same_air)
      (λ t h o.
      ap (λ (b : List ℕ). remapped_gas (rule_for (limiter_in b)) w.grid table w.air (gas w t)) (a.same_block t o) ∙
      ap₂ (λ (g : Grid) (air : List ℕ). remapped_gas (rule_of v t) g table air (gas w t)) a.same_grid a.same_air ∙
      ap (gases v t) (a.same_gas t o))
      a.same_block,
  ap₂ (λ (g : Grid) (air : List ℕ). sum (layer_cells g) (λ c. column_count g.K table (column g air c))) a.same_grid a.same_air,
)
  where
    gases : World → ℕ → List ℕ → List ℕ
    gases u t = remapped_gas (rule_of u t) u.grid table u.air

pub remap_keeps : (table : List ℕ) → MeaningKeeps (meaning (remap table))
unfolding own_places remapped remap_serves first_of
remap_keeps table =
    record {
      same_places = λ own w v ww vv a named. air_alike own w v a (own_places (remap table));
      accepts =
          λ w fits e.
          let g = w.grid in
          let air_in = fits.air in
          let edges = own_edges table w e in
          record {
            keeps = moved_keeps w fits _ _ (remap_air g table w.air air_in edges) (λ t. remap_gas g table w.air air_in edges (rule_limited w t));
            in_range =
                λ t h first.
                rw (gas_moved_lem w (remapped_air g table w.air) (λ t. remapped_gas (rule_of w t) g table w.air) (λ t h. length_remapped _ _ _ _ _) t h)
                (remap_in_range g table w.air air_in edges (rule_limited w t) (rule_monotone w t first) (gas w t));
            alike = λ own v fv a named. remap_alike table own w v a;
            apart = λ own other. absurd (true≢false other);
          };
    }
