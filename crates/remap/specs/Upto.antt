-- A loop over the columns: those passed are as they shall be, the others as they were.
use Rattle.std.specs.Prelude.{ℕ, suc, ◌+◌, ◌*◌, ◌/◌, ◌%◌, ◌≤◌, ◌<◌, List, ◌≡◌, refl, length}
use Rattle.std.proofs.Common.{⊎_elim, sym, ap, ◌∙◌, mul-le-mul_right, div-lt_iff_lt-mul, mod-lt, div-add-mod', eq-or-lt_of_le, arith}
use Rattle.model.specs.Basic.{at, tab}
use Rattle.model.proofs.Laws.Basic.{tab_at, tab_ext, le_or_lt}
use Rattle.remap.specs.Columns.{column_of, column_set, set_length, set_within, set_outside}

-- new i c is what cell c of layer i shall have
pub record Upto (k cells : ℕ) (new : ℕ → ℕ → ℕ) (old : List ℕ) (c : ℕ) (now : List ℕ) : Type 0 where
  pub inside : c ≤ cells
  pub long : length now ≡ length old
  pub done : (i p : ℕ) → i < k → p < c → at now (i * cells + p) ≡ new i p
  pub left : (i p : ℕ) → i < k → c ≤ p → p < cells → at now (i * cells + p) ≡ at old (i * cells + p)

module _ {k cells : ℕ} {new : ℕ → ℕ → ℕ} {old : List ℕ} (long : length old ≡ k * cells) where
  pub upto_none : Upto k cells new old 0 old
  upto_none =
      record { inside = omega arith; long = refl; done = λ i p hi hp. absurd (omega arith); left = λ i p hi hc hp. refl }

  module _ {c : ℕ} (h : c < cells) {now : List ℕ} (upto : Upto k cells new old c now) where
    pub column_left : column_of k cells now c ≡ column_of k cells old c
    column_left = tab_ext k _ _ (λ i hi. upto.left i c hi (omega arith) h)

    -- another place's cell is none of the column's
    other : (i p : ℕ) → p < cells → (p ≡ c → ⊥) → (j : ℕ) → i * cells + p ≡ j * cells + c → ⊥
    other i p hp ne j e =
        ⊎_elim
        (λ (q : i ≤ j).
        ⊎_elim
        (λ (s : i ≡ j). ne (omega (arith, ap (λ (n : ℕ). n * cells) s)))
        (λ (s : i < j). omega (arith, mul-le-mul_right cells (step i j s)))
        (eq-or-lt_of_le q))
        (λ (q : j < i). omega (arith, mul-le-mul_right cells (step j i q)))
        (le_or_lt i j)
      where
        step : (a b : ℕ) → a < b → suc a ≤ b
        step a b s = s

    pub upto_more : (f : ℕ → ℕ) {next : List ℕ} → next ≡ column_set cells now c f k → ((i : ℕ) → i < k → f i ≡ new i c) → Upto k cells new old (c + 1) next
    upto_more f {next} e is =
        record {
          inside = omega arith;
          long = ap length e ∙ set_length cells now c f k ∙ upto.long;
          done =
              λ i p hi hp.
              ap (λ (l : List ℕ). at l (i * cells + p)) e ∙
              ⊎_elim
              (λ (s : p ≡ c). ap (λ (q : ℕ). at (column_set cells now c f k) (i * cells + q)) s ∙ set_within cells now c f h k (omega (arith, upto.long, long)) i hi ∙ is i hi ∙ ap (new i) (sym s))
              (λ (s : p < c). set_outside cells now c f k (i * cells + p) (λ j hj q. other i p (omega arith) (λ (z : p ≡ c). omega arith) j q) ∙ upto.done i p hi s)
              (eq-or-lt_of_le (omega arith));
          left =
              λ i p hi hc hp.
              ap (λ (l : List ℕ). at l (i * cells + p)) e ∙
              set_outside cells now c f k (i * cells + p) (λ j hj q. other i p hp (λ (z : p ≡ c). omega arith) j q) ∙
              upto.left i p hi (omega arith) hp;
        }

  -- all columns
  pub upto_all : 0 < cells → {c : ℕ} {now : List ℕ} → cells ≤ c → Upto k cells new old c now → now ≡ tab (k * cells) (λ i. new (i / cells) (i % cells))
  upto_all some {c} {now} all upto =
      sym (tab_at (k * cells) now (upto.long ∙ long)) ∙
      tab_ext (k * cells) (at now) (λ i. new (i / cells) (i % cells))
      (λ i h.
      ap (at now) (sym (div-add-mod' i cells)) ∙
      upto.done (i / cells) (i % cells) ((div-lt_iff_lt-mul {k = cells} some).1 h) (omega (arith, mod-lt i some)))
