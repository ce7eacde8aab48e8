-- A column in the lent amounts: copied, and written back.
use Prim.Native.Nat.{ℕ, zero, suc, ◌+◌, ◌*◌, ◌≤◌, ◌<◌}
use mathlib.Core.List.{List}
use Rattle.std.proofs.Math.Logic.{⊎_elim}
use Rattle.std.specs.Prelude.{◌≡◌, length}
use Rattle.std.proofs.Math.Path.{refl, ap}
use Rattle.std.proofs.Common.{sym, ap₂, ◌∙◌, mul-le-mul, eq-or-lt_of_le, add-one, arith}
use Rattle.std.proofs.Math.Nat.{mul-le-mul_right}
use Rattle.std.proofs.Math.ListN.{set, length-set}
use Rattle.std.proofs.Math.Seq.{get_or-set_same, get_or-set_other}
use Rattle.model.specs.Limits.{most_layers, most_layer_cells, most_cells}
use Rattle.model.specs.Basic.{at, tab}

-- the column at place c of k layers of `cells` places each
pub record ColumnNeed (l : List ℕ) (c cells k : ℕ) : Type 0 where
  pub fit : k ≤ most_layers
  pub few : cells ≤ most_layer_cells
  pub place : c < cells
  pub long : length l ≡ k * cells

abbrev pub column_of : ℕ → ℕ → List ℕ → ℕ → List ℕ
column_of k cells l c = tab k (λ i. at l (i * cells + c))

-- where its cell in layer i lies
pub cell_room : {l : List ℕ} {c cells k : ℕ} → ColumnNeed l c cells k → {i : ℕ} → i < k → (i * cells + c < length l) × (i * cells + c < most_cells)
cell_room {l} {c} {cells} {k} need {i} h =
    let below : suc i * cells ≤ k * cells = mul-le-mul_right cells h in
    let most : k * cells ≤ most_cells = mul-le-mul {n₂ = most_layers} {m₂ = most_layer_cells} need.fit need.few in
    let place : c < cells = need.place in
    let long : length l ≡ k * cells = need.long in
    (omega arith, omega arith)

-- the amounts with f 0, f 1, .. written over the column's first n cells
unfoldable pub column_set : ℕ → List ℕ → ℕ → (ℕ → ℕ) → ℕ → List ℕ
column_set cells l c f zero = l
column_set cells l c f (suc n) = set (column_set cells l c f n) (n * cells + c) (f n)

-- the same, where f and g agree
pub set_ext : (cells : ℕ) (l : List ℕ) (c : ℕ) (f g : ℕ → ℕ) (n : ℕ) → ((i : ℕ) → i < n → f i ≡ g i) → column_set cells l c f n ≡ column_set cells l c g n
unfolding column_set
set_ext cells l c f g zero same = refl
set_ext cells l c f g (suc n) same =
    ap₂ (λ (x : List ℕ) (y : ℕ). set x (n * cells + c) y) (set_ext cells l c f g n (λ i h. same i (omega arith))) (same n (omega arith))

module _ (cells : ℕ) (l : List ℕ) (c : ℕ) (f : ℕ → ℕ) where
  pub set_none : column_set cells l c f 0 ≡ l
  unfolding column_set
  set_none = refl

  pub set_more : (n : ℕ) (now : List ℕ) → now ≡ column_set cells l c f n → set now (n * cells + c) (f n) ≡ column_set cells l c f (n + 1)
  unfolding column_set
  set_more n now e = rw (add-one n) (ap (λ (x : List ℕ). set x (n * cells + c) (f n)) e)

  pub set_length : (n : ℕ) → length (column_set cells l c f n) ≡ length l
  unfolding column_set
  set_length zero = refl
  set_length (suc n) = length-set (column_set cells l c f n) (n * cells + c) (f n) ∙ set_length n

  -- the column's cells, and all others
  pub set_within : c < cells → (n : ℕ) → n * cells ≤ length l → (i : ℕ) → i < n → at (column_set cells l c f n) (i * cells + c) ≡ f i
  unfolding column_set
  set_within h zero room i p = absurd (omega arith)
  set_within h (suc n) room i p =
      ⊎_elim
      (λ (e : i ≡ n). ap (λ (j : ℕ). at (column_set cells l c f (suc n)) (j * cells + c)) e ∙ get_or-set_same (column_set cells l c f n) (n * cells + c) (f n) 0 (omega (arith, set_length n)) ∙ ap f (sym e))
      (λ (u : i < n).
      let below : suc i * cells ≤ n * cells = mul-le-mul_right cells u in
      get_or-set_other (column_set cells l c f n) (n * cells + c) (i * cells + c) (f n) 0
      (λ (q : i * cells + c ≡ n * cells + c). omega arith) ∙ set_within h n (omega arith) i u)
      (eq-or-lt_of_le (omega arith))

  pub set_outside : (n : ℕ) (j : ℕ) → ((i : ℕ) → i < n → j ≡ i * cells + c → ⊥) → at (column_set cells l c f n) j ≡ at l j
  unfolding column_set
  set_outside zero j none = refl
  set_outside (suc n) j none =
      get_or-set_other (column_set cells l c f n) (n * cells + c) j (f n) 0 (λ (q : j ≡ n * cells + c). none n (omega arith) q) ∙
      set_outside n j (λ i h. none i (omega arith))
