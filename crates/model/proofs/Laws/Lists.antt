-- What a list of calls keeps, from its start to its end, and so from its start to each of its points and from there to each later one.
-- Assumes a start that calls reach, as the world is that an accepted load leaves, a list without loads, and that each other call keeps what a call keeps.
use Rattle.std.specs.Prelude.{ℕ, zero, suc, ◌+◌, ◌-◌, ◌≤◌, ◌<◌, Bool, true, ◌≡◌, refl, take, drop}
use mathlib.Core.List.{List, [], ◌∷◌, ◌++◌}
use Rattle.std.proofs.Math.Bool.{and-eq-true_iff}
use Rattle.std.proofs.Common.{sym, ◌∙◌, ap, add-sub_of_le, arith, take-add}
use Rattle.model.specs.World.{World}
use Rattle.model.specs.Step.{Call, Exchange, meaning, step}
use Rattle.model.specs.Lists.{listed, call_at, after, point, history, HasRatio, CallInRange, Alike}
use Rattle.model.proofs.Laws.Step.{Reached}
use Rattle.model.proofs.Laws.Keeps.{Kept, kept_same, kept_trans, StepKeeps}

-- ---- lists without loads
pub listed_split : (call : Call) (calls : List Call) → listed (call ∷ calls) ≡ true → ((meaning call).listed ≡ true) × (listed calls ≡ true)
unfolding listed
listed_split call calls e = (and-eq-true_iff (meaning call).listed (listed calls)).0 e

pub listed_none : listed [] ≡ true
unfolding listed
listed_none = refl

pub listed_more : (call : Call) (calls : List Call) → (meaning call).listed ≡ true → listed calls ≡ true → listed (call ∷ calls) ≡ true
unfolding listed
listed_more call calls one rest = (and-eq-true_iff (meaning call).listed (listed calls)).1 (one, rest)

pub listed_append : (a b : List Call) → listed a ≡ true → listed b ≡ true → listed (a ++ b) ≡ true
listed_append [] b p q = q
listed_append (call ∷ a) b p q =
    let s = listed_split call a p in
    listed_more call (a ++ b) s.0 (listed_append a b s.1 q)

pub listed_take : (i : ℕ) (calls : List Call) → listed calls ≡ true → listed (take i calls) ≡ true
listed_take zero calls e = listed_none
listed_take (suc i) [] e = listed_none
listed_take (suc i) (call ∷ calls) e =
    let s = listed_split call calls e in
    listed_more call (take i calls) s.0 (listed_take i calls s.1)

pub listed_drop : (i : ℕ) (calls : List Call) → listed calls ≡ true → listed (drop i calls) ≡ true
listed_drop zero calls e = e
listed_drop (suc i) [] e = listed_none
listed_drop (suc i) (call ∷ calls) e = listed_drop i calls (listed_split call calls e).1

pub listed_at : (calls : List Call) (i : ℕ) → listed calls ≡ true → (meaning (call_at calls i)).listed ≡ true
listed_at [] i e = refl
listed_at (call ∷ calls) zero e = (listed_split call calls e).0
listed_at (call ∷ calls) (suc i) e = listed_at calls i (listed_split call calls e).1

-- ---- a list in two parts
pub after_append : (w : World) (a b : List Call) → after w (a ++ b) ≡ after (after w a) b
unfolding after
after_append w [] b = refl
after_append w (call ∷ a) b = after_append (step w call).next a b

-- its history: what is exchanged in the first, and then in the second
pub record Parted (w : World) (t : ℕ) (a b : List Call) : Type 0 where
  pub came : (history w t (a ++ b)).emitted ≡ (history w t a).emitted + (history (after w a) t b).emitted
  pub went : (history w t (a ++ b)).withdrawn ≡ (history w t a).withdrawn + (history (after w a) t b).withdrawn

pub history_append : (w : World) (t : ℕ) (a b : List Call) → Parted w t a b
unfolding history after
history_append w t [] b = record { came = omega arith; went = omega arith }
history_append w t (call ∷ a) b =
    let rest = history_append (step w call).next t a b in
    record { came = omega (arith, rest.came); went = omega (arith, rest.went) }

-- the calls up to point j are those up to an earlier point i, and those between
abbrev pub calls_between : List Call → ℕ → ℕ → List Call
calls_between calls i j = take (j - i) (drop i calls)

pub calls_between_lem : (calls : List Call) {i j : ℕ} → i ≤ j → take j calls ≡ take i calls ++ calls_between calls i j
calls_between_lem calls {i} {j} le = ap (λ (n : ℕ). take n calls) (sym (add-sub_of_le le)) ∙ take-add i (j - i) calls

-- ---- call i leads from point i to the next; past the list's end stands a reading, which promises no range
pub point_range :
    (w : World) (calls : List Call) (i t : ℕ) →
    CallInRange (point w calls i) (step (point w calls i) (call_at calls i)).next t (call_at calls i) →
    CallInRange (point w calls i) (point w calls (suc i)) t (call_at calls i)
unfolding after
point_range w [] i t holds = tt
point_range w (call ∷ calls) zero t holds = holds
point_range w (call ∷ calls) (suc i) t holds = point_range (step w call).next calls i t holds

-- ---- what a list keeps
module _ (keeps : (call : Call) → (meaning call).listed ≡ true → (w : World) → Reached w → StepKeeps w call) where
  pub list_kept : (w : World) (calls : List Call) → listed calls ≡ true → Reached w → Kept w (after w calls) (λ t. history w t calls)
  unfolding after history
  list_kept w [] e reached = kept_same reached (λ t. refl)
  list_kept w (call ∷ calls) e reached =
      let split = listed_split call calls e in
      let one = (keeps call split.0 w reached).kept in
      kept_trans one (list_kept (step w call).next calls split.1 one.reached)

  -- two worlds alike at the start are alike at the end
  pub list_alike :
      (own : ℕ → Bool) (w v : World) (calls : List Call) → listed calls ≡ true → Reached w → Reached v → Alike own w v →
      Alike own (after w calls) (after v calls)
  unfolding after
  list_alike own w v [] e ww vv a = a
  list_alike own w v (call ∷ calls) e ww vv a =
      let split = listed_split call calls e in
      let one = keeps call split.0 w ww in
      list_alike own (step w call).next (step v call).next calls split.1 one.kept.reached (keeps call split.0 v vv).kept.reached (one.independent own v vv a).0

  -- a ratio from point i to point j, between which nothing of the gas was emitted or withdrawn
  pub points_ratio :
      (i j : ℕ) (w : World) (calls : List Call) → listed calls ≡ true → Reached w → i ≤ j → (t z : ℕ) → t < w.grid.N →
      HasRatio (point w calls i) t z → history w t (take j calls) ≡ history w t (take i calls) →
      HasRatio (point w calls j) t z
  points_ratio i j w calls all reached le t z h ratio none =
      let first : List Call = take i calls in
      let between : List Call = calls_between calls i j in
      let split = calls_between_lem calls le in
      let parted = history_append w t first between in
      let same : history w t (first ++ between) ≡ history w t first = rw split at none in
      let now = list_kept w first (listed_take i calls all) reached in
      let later = list_kept (point w calls i) between (listed_take (j - i) (drop i calls) (listed_drop i calls all)) now.reached in
      rw (split, after_append w first between)
      (later.ratio_kept t z (rw now.same_grid h)
      (omega (arith, parted.came, ap (λ (x : Exchange). x.emitted) same))
      (omega (arith, parted.went, ap (λ (x : Exchange). x.withdrawn) same))
      ratio)
