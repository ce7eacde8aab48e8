-- A part of a list that is lent as `&s[a..e]` or `&mut s[a..e]` with e = a + w, and put back; and its first w entries.
use Rattle.std.specs.Prelude.{ℕ, ◌+◌, ◌-◌, ◌≤◌, List, ◌++◌, ◌≡◌, length, take, drop}
use Rattle.std.proofs.Common.{append_assoc, sym, ap, ◌∙◌, arith, length-append, length-drop, drop-drop, take_at}
use Rattle.std.proofs.Math.Nat.{add-sub_cancel_left, sub-zero}
use borrow.Rule.Slice.PartMut.{put_mid}
use Rattle.model.specs.Basic.{part, written}

pub part_lent : (l : List ℕ) (a w : ℕ) → part l a (a + w - a) ≡ part l a w
part_lent l a w = rw (add-sub_cancel_left a w)

pub put_back : (l new : List ℕ) (a w : ℕ) → length new ≡ w → put_mid a (a + w - a) l new ≡ written l a new
put_back l new a w e =
    let k : a + (a + w - a) ≡ a + length new = omega arith in
    sym (append_assoc (take a l) new _) ∙
    ap (λ (r : List ℕ). take a l ++ new ++ r) (drop-drop (a + w - a) a l ∙ ap (λ (i : ℕ). drop i l) k)

-- ---- from the first entry on
pub front_lent : (l : List ℕ) (w : ℕ) → part l 0 (w - 0) ≡ part l 0 w
front_lent l w = rw sub-zero

module _ (l new : List ℕ) (w : ℕ) (long : length new ≡ w) where
  pub front_back : part (put_mid 0 (w - 0) l new) 0 w ≡ new
  front_back = take_at new _ w long

  pub length_front : w ≤ length l → length (put_mid 0 (w - 0) l new) ≡ length l
  length_front h = simp (length-append, length-drop) (omega arith)
