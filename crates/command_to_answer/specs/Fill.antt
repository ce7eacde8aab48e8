-- A list filled entry by entry is the list of its values; the law of the decoding loop.
use Rattle.std.specs.Prelude.{ℕ, ◌+◌, ◌*◌, ◌<◌, List, [], ◌∷◌, ◌++◌, ◌≡◌, length, set, take}
use Rattle.std.proofs.Math.Path.{refl}
use Rattle.std.proofs.Common.{sym, ◌∙◌, ap, add-one, take-suc-set}
use Rattle.model.specs.Basic.{tab, tab_from}
use Rattle.program.specs.Bytes.{number_at}
use Rattle.model.proofs.Laws.Entries.{tab_more}

-- the n numbers of 4 bytes each at the start of some bytes, each read as `of` says
abbrev pub decoded : {A : Type 0} → (ℕ → A) → List ℕ → ℕ → List A
decoded of bytes n = tab n (λ i. of (number_at bytes (0 + 4 * i) 4))

module _ {A : Type 0} (l : List A) (f : ℕ → A) where
  pub filled_none : take 0 l ≡ tab 0 f
  unfolding tab_from
  filled_none = refl

  pub filled_more : (i : ℕ) (x : A) → x ≡ f i → i < length l → take i l ≡ tab i f → take (i + 1) (set l i x) ≡ tab (i + 1) f
  filled_more i x is h e =
      rw (add-one i) (take-suc-set l i x h) ∙ ap (λ (y : List A). y ++ (x ∷ [])) e ∙ ap (λ (y : A). tab i f ++ (y ∷ [])) is ∙ sym (tab_more i f)
