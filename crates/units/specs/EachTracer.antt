-- All tracers' amounts changed in place, one tracer after the other: each of the first t tracers has what it shall have, the others what they had.
use Rattle.std.specs.Prelude.{ℕ, suc, ◌+◌, ◌*◌, ◌≤◌, ◌<◌, List, [], ◌++◌, ◌≡◌, length, take, drop}
use Rattle.std.proofs.Common.{append_assoc, append-nil, sym, ap, ◌∙◌, mul-le-mul_right, arith, length-append, length-drop, take-append-drop, drop_of_length-le, drop-drop}
use Rattle.std.proofs.Math.Nat.{zero-mul}
use Rattle.std.proofs.Math.Seq.{drop-append-add}
use Rattle.model.specs.Basic.{part, written, joined, tab_from, tab}
use Rattle.model.proofs.Laws.Basic.{length_part, length_tab, get_d_tab, length_joined}
use Rattle.model.proofs.Laws.Entries.{joined_more, written_middle, part_part}

-- tracer t's amounts lie among all
module _ (tracers : List ℕ) (n m : ℕ) (long : length tracers ≡ n * m) {t : ℕ} (h : t < n) where
  pub gas_inside : t * m + m ≤ length tracers
  gas_inside =
      let below : suc t * m ≤ n * m = mul-le-mul_right m h in
      omega arith

  pub length_gas : length (part tracers (t * m) m) ≡ m
  length_gas = length_part tracers (t * m) m gas_inside

-- n tracers of m amounts each; each t is what tracer t shall have
pub record Changes (tracers : List ℕ) (n m : ℕ) (each : ℕ → List ℕ) : Type 0 where
  pub long : length tracers ≡ n * m
  pub sized : (t : ℕ) → t < n → length (each t) ≡ m

abbrev pub changed_up_to : List ℕ → ℕ → (ℕ → List ℕ) → ℕ → List ℕ
changed_up_to tracers m each t = joined (tab t each) ++ drop (t * m) tracers

module _ {tracers : List ℕ} {n m : ℕ} {each : ℕ → List ℕ} (changes : Changes tracers n m each) where
  length_done : (t : ℕ) → t ≤ n → length (joined (tab t each)) ≡ t * m
  length_done t h =
      length_joined m (tab t each) (λ i p. let q : i < t = rw (length_tab t each) at p in rw (get_d_tab t each i [] q) (changes.sized i (omega arith))) ∙
      ap (λ (x : ℕ). x * m) (length_tab t each)

  -- none yet, and all
  pub changed_none : tracers ≡ changed_up_to tracers m each 0
  unfolding joined tab_from
  changed_none = rw zero-mul

  pub changed_all : {now : List ℕ} → now ≡ changed_up_to tracers m each n → now ≡ joined (tab n each)
  changed_all e =
      e ∙ ap (λ (l : List ℕ). joined (tab n each) ++ l) (drop_of_length-le tracers {i = n * m} (omega (arith, changes.long))) ∙
      append-nil _

  pub length_up_to : {t : ℕ} → t ≤ n → length (changed_up_to tracers m each t) ≡ length tracers
  length_up_to {t} h =
      let below : t * m ≤ n * m = mul-le-mul_right m h in
      simp (length-append, length-drop) (omega (arith, length_done t h, changes.long))

  -- tracer t, when those before it are changed
  module _ {t : ℕ} (h : t < n) {now : List ℕ} (e : now ≡ changed_up_to tracers m each t) where
    abbrev done : List ℕ
    done = joined (tab t each)

    abbrev behind : List ℕ
    behind = drop ((t + 1) * m) tracers

    past : drop m (drop (t * m) tracers) ≡ behind
    past =
        let i : t * m + m ≡ (t + 1) * m = omega arith in
        drop-drop m (t * m) tracers ∙ ap (λ (i : ℕ). drop i tracers) i

    dropped : (first : ℕ) → drop (t * m + first) now ≡ drop (t * m + first) tracers
    dropped first =
        ap (drop (t * m + first)) e ∙
        ap (λ (i : ℕ). drop (i + first) (done ++ drop (t * m) tracers)) (sym (length_done t (omega arith))) ∙
        drop-append-add done (drop (t * m) tracers) first ∙ drop-drop first (t * m) tracers

    -- a part of its amounts is what it was
    pub part_kept : (first width : ℕ) → first + width ≤ m → part now (t * m + first) width ≡ part (part tracers (t * m) m) first width
    part_kept first width inside =
        ap (take width) (dropped first) ∙ sym (part_part tracers (t * m) m first width (gas_inside tracers n m changes.long h) inside)

    more : done ++ (each t ++ behind) ≡ changed_up_to tracers m each (t + 1)
    more = sym (append_assoc done (each t) behind) ∙ ap (λ (l : List ℕ). l ++ behind) (sym (joined_more t each))

    -- that part written as it shall be
    pub part_more : (new : List ℕ) (first : ℕ) → first + length new ≤ m → written (part tracers (t * m) m) first new ≡ each t →
        written now (t * m + first) new ≡ changed_up_to tracers m each (t + 1)
    part_more new first inside is =
        let gas = part tracers (t * m) m in
        let split : drop (t * m) tracers ≡ gas ++ behind = sym (take-append-drop m (drop (t * m) tracers)) ∙ ap (λ (l : List ℕ). gas ++ l) past in
        ap (λ (l : List ℕ). written l (t * m + first) new) (e ∙ ap (λ (l : List ℕ). done ++ l) split) ∙
        ap (λ (i : ℕ). written (done ++ (gas ++ behind)) (i + first) new) (sym (length_done t (omega arith))) ∙
        written_middle done gas behind new first (rw (length_gas tracers n m changes.long h) inside) ∙
        ap (λ (l : List ℕ). done ++ (l ++ behind)) is ∙
        more
