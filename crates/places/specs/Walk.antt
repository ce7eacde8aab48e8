-- The walk through a call's places: the refusal is the first of the places left that applies, and so far none did. What a function that tests places gives.
use Rattle.std.specs.Prelude.{◌≡◌, ℕ, ◌<◌, ◌≤◌, Bool, true, false, not, List, [], ◌∷◌, ◌++◌, nat_lt, refl, Result, Ok, Err, IsErrAnd}
use Rattle.std.proofs.Common.{append_assoc, append-nil, sym, ap, ◌∙◌, lt-ltb, le-ltb}
use Rattle.std.proofs.lemmas.Result.{err_from_is_err_and}
use Rattle.model.specs.World.{World}
use Rattle.model.specs.Step.{Call, Place, meaning, first_of, lent_fits, refusal}
use Rattle.model.proofs.Laws.Step.{passes, stops}
use Rattle.units.specs.declared.Refusal.{Refusal}
use Rattle.units.specs.Answer.{refusal_number, Agrees}
use Rattle.units.specs.Agrees.{refused_agrees}

-- the places that are left to test, of `Calls`: calls that are tested alike, each with the places that it has behind these
pub record Left (w : World) (Calls : Call → List Place → Type 0) (ps : List Place) : Type 0 where
  pub is : (call : Call) (rest : List Place) → Calls call rest → refusal w call ≡ first_of (ps ++ rest) w

-- a refusal is `step`'s to each of the calls
abbrev pub Refuses : World → (Call → List Place → Type 0) → Refusal → Type 0
Refuses w Calls r = (call : Call) (rest : List Place) → Calls call rest → Agrees w call (Err r) w

-- what a function that tests places gives: such a refusal, or what it found, of which `Tells` tells
abbrev pub IsPlaced : {Found : Type 0} → World → (Call → List Place → Type 0) → (Found → Type 0) → Result Found Refusal → Type 0
IsPlaced w Calls Tells (Ok found) = Tells found
IsPlaced w Calls Tells (Err r) = Refuses w Calls r

-- a call that `?` ends answers that refusal
pub hands_on : {w : World} {Calls : Call → List Place → Type 0} {call : Call} {rest : List Place} {r : Refusal} {result : Result ℕ Refusal} →
    IsErrAnd result (λ y. y ≡ r) → Refuses w Calls r → Calls call rest → Agrees w call result w
hands_on {call = call} {rest = rest} {result = result} ended refused asks =
    let p = err_from_is_err_and result ended in
    rw (p.1, p.2) (refused call rest asks)

-- ---- one place: it does not apply, or it refuses
module _ {w : World} {Calls : Call → List Place → Type 0} {p : Place} {ps : List Place} (left : Left w Calls (p ∷ ps)) where
  pub next : p.applies w ≡ false → Left w Calls ps
  next e = record { is = λ call rest asks. left.is call rest asks ∙ passes p (ps ++ rest) w e }

  pub stop : {r : Refusal} → p.applies w ≡ true → refusal_number r ≡ p.number → Refuses w Calls r
  stop e number call rest asks = refused_agrees (left.is call rest asks ∙ stops p (ps ++ rest) w e ∙ sym number)

-- a place's test: what is named is there or missing, what is tested fits or not
pub there : {i n : ℕ} → i < n → not (nat_lt i n) ≡ false
there {i} {n} h = ap not (lt-ltb i n h)

pub missing : {i n : ℕ} → n ≤ i → not (nat_lt i n) ≡ true
missing {i} {n} h = ap not (le-ltb i n h)

pub fits : {r b : Bool} → r ≡ b → r ≡ true → not b ≡ false
fits e taken = ap not (sym e ∙ taken)

pub fails : {r b : Bool} → r ≡ b → r ≡ false → not b ≡ true
fails e left = ap not (sym e ∙ left)

-- ---- the calls that are tested like `call`, and then by the places `rest`
pub record Like (w : World) (call other : Call) (rest : List Place) : Type 0 where
  pub lent : lent_fits w.grid other ≡ lent_fits w.grid call
  pub limiters : (meaning other).limiters ≡ (meaning call).limiters
  pub books : (meaning other).books ≡ (meaning call).books
  pub places : (meaning other).places ≡ (meaning call).places ++ rest

module _ {w : World} {call : Call} where
  pub itself : Like w call call []
  itself = record { lent = refl; limiters = refl; books = refl; places = sym (append-nil (meaning call).places) }

  onward : {other third : Call} {rest more : List Place} → Like w call other rest → Like w other third more → Like w call third (rest ++ more)
  onward {other} {third} {rest} {more} one two =
      record {
        lent = two.lent ∙ one.lent;
        limiters = two.limiters ∙ one.limiters;
        books = two.books ∙ one.books;
        places =
            two.places ∙ ap (λ (l : List Place). l ++ more) one.places ∙ append_assoc (meaning call).places rest more;
      }

  -- a call goes on where one like it ends
  pub resume : {other : Call} {rest : List Place} → Left w (Like w call) [] → Like w call other rest → Left w (Like w other) rest
  resume {other} {rest} left like =
      record { is = λ third more asks. left.is third (rest ++ more) (onward like asks) }

  pub none : Left w (Like w call) [] → refusal w call ≡ 0
  unfolding first_of
  none left = left.is call [] itself

  -- refused by a place of its own
  pub refuse : {p : Place} {ps : List Place} {r : Refusal} → Left w (Like w call) (p ∷ ps) → p.applies w ≡ true →
      refusal_number r ≡ p.number → Agrees w call (Err r) w
  refuse {p} {ps} {r} left e number =
      refused_agrees (left.is call [] itself ∙ stops p (ps ++ []) w e ∙ sym number)
