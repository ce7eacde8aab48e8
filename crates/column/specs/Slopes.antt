-- A column's layers, with the mismatches by their ratios, as the model has them.
use Prim.Native.Nat.{ℕ, suc, ◌+◌, ◌-◌, ◌*◌, ◌%◌, ◌≤◌, ◌<◌}
use Rattle.std.specs.Prelude.{List, Bool, ◌||◌, ◌≡◌}
use Rattle.std.proofs.Math.Bool.{true, false, or-true, or-false}
use Rattle.std.proofs.Common.{true≢false, sym, ap, ap₂, ◌∙◌, mod-eq_of_lt, add-one, arith}
use Rattle.std.proofs.Math.Path.{refl}
use borrow.Author.Tests.{eqb-false, eq-eqb, ne_eqb}
use Rattle.std.proofs.Math.Dec.{eqb}
use Rattle.units.specs.declared.Mismatch as code
use Rattle.model.specs.Basic.{at, tab}
use Rattle.model.specs.Scheme.{Mismatch, ratio, plain}
use Rattle.model.specs.Limiters.{Limiter, rule_for}
use Rattle.model.specs.Remap.{layer_mismatch, layers}
use Rattle.model.proofs.Laws.Basic.{at_tab, tab_ext}
use Rattle.model.proofs.Laws.Limiters.{limiter_limited}
use Rattle.model.specs.Walk.{layer_of}
use Rattle.substep.specs.Pieces.{AreRatios}
use Rattle.line.specs.Line.{slope_in, cell_at}
use Rattle.column.specs.Column.{firsts}
use Rattle.column.specs.Gas.{mismatch_unless, slope_at, AreSlopes}

second : (a b : Bool) → a || b ≡ false → b ≡ false
second true b e = absurd (true≢false e)
second false b e = e

-- ---- the mismatches, as the code fills them
module _ (l : Limiter) (cap : Bool) (k : ℕ) (q : List ℕ) (i : ℕ) where
  pub slope_above : i + 1 < k → mismatch_unless l (cap || eqb i 0) (at q (i - 1)) (at q i) (at q (i + 1)) ≡ slope_at l cap k q i
  unfolding slope_at
  slope_above h = rw (add-one i, ne_eqb (suc i) k (λ (z : suc i ≡ k). omega arith), or-false (cap || eqb i 0))

  pub slope_last : suc i ≡ k → plain ≡ slope_at l cap k q i
  unfolding slope_at mismatch_unless
  slope_last e = rw (eq-eqb (suc i) k e, or-true (cap || eqb i 0))

-- ---- two limiters of one rule
module _ (l l' : Limiter) (same : rule_for l ≡ rule_for l') (cap : Bool) (k : ℕ) (q : List ℕ) where
  slope_same : (i : ℕ) → slope_at l cap k q i ≡ slope_at l' cap k q i
  unfolding slope_at mismatch_unless
  slope_same i = λ n. elim (cap || eqb i 0 || eqb (suc i) k) [ true ↦ plain | false ↦ same n (at q (i - 1)) (at q i) (at q (suc i)) ]

  pub slopes_same : {slopes : List code.Mismatch} → AreSlopes l cap k q slopes → AreSlopes l' cap k q slopes
  slopes_same filled =
      record { room_slopes = filled.room_slopes; all = record { is = λ c h. filled.all.is c h ∙ slope_same c } }

-- ---- the model's layers
module _
    {l : Limiter} {cap : Bool} {k : ℕ} {air gas q : List ℕ} {slopes : List code.Mismatch} (ratios : AreRatios k air gas q)
    (filled : AreSlopes l cap k q slopes) where
  own : (i : ℕ) → i < k → at q i ≡ ratio (at (firsts k air) i) (at (firsts k gas) i)
  own i h = ratios.is i h ∙ sym (ap₂ ratio (at_tab k (at air) i h) (at_tab k (at gas) i h))

  slope_model : (i : ℕ) → i < k → slope_at l cap k q i ≡ layer_mismatch (rule_for l) cap k (firsts k air) (firsts k gas) i
  unfolding slope_at mismatch_unless layer_mismatch
  slope_model i h = go (cap || eqb i 0 || eqb (suc i) k) refl
    where
      go : (b : Bool) → cap || eqb i 0 || eqb (suc i) k ≡ b → slope_at l cap k q i ≡ layer_mismatch (rule_for l) cap k (firsts k air) (firsts k gas) i
      go true e = rw (e, mismatch_unless, layer_mismatch)
      go false e =
          let other = eqb-false (suc i) k (second (cap || eqb i 0) (eqb (suc i) k) e) in
          rw (e, mismatch_unless, layer_mismatch)
          (λ n. rule_for l (own (i - 1) (omega arith) n) (own i h n) (own (suc i) (omega arith) n))

  pub layer_is : (t : ℕ) → t < k → cell_at k air gas slopes t ≡ layer_of (rule_for l) cap k (firsts k air) (firsts k gas) t
  layer_is t p =
      let own : t % k ≡ t = mod-eq_of_lt p in
      λ n.
      record {
        air = (ap (at air) own ∙ sym (at_tab k (at air) t p)) n;
        tracer = (ap (at gas) own ∙ sym (at_tab k (at gas) t p)) n;
        slope = (ap (slope_in slopes) own ∙ filled.all.is t p ∙ slope_model t p) n;
      }

  pub layers_are_lem : tab k (cell_at k air gas slopes) ≡ layers (rule_for l) cap k (firsts k air) (firsts k gas)
  unfolding layers
  layers_are_lem = tab_ext k (cell_at k air gas slopes) (layer_of (rule_for l) cap k (firsts k air) (firsts k gas)) layer_is

  -- at most twice the layer's ratio
  pub slope_small : (i : ℕ) → i < k → (slope_in slopes i).size ≤ 2 * ratio (at air i) (at gas i)
  unfolding slope_at mismatch_unless
  slope_small i h = rw (ap (λ (d : Mismatch). d.size) (filled.all.is i h), ← ratios.is i h) (go (cap || eqb i 0 || eqb (suc i) k) refl)
    where
      go : (b : Bool) → cap || eqb i 0 || eqb (suc i) k ≡ b → (slope_at l cap k q i).size ≤ 2 * at q i
      go true e = rw (e, mismatch_unless) (omega arith)
      go false e = rw (e, mismatch_unless) ((limiter_limited l).at_most_twice _ (at q i) _)
