-- Laws of what an auditor reads off the records: the loaded world is the one that the last accepted load left after the calls made since, so that each line of a call is what `step` gives there.
use Rattle.std.specs.Prelude.{ℕ, zero, suc, ◌+◌, ◌≤◌, ◌<◌, Bool, true, false, ◌⊎◌, length}
use mathlib.Core.List.{List, [], ◌∷◌, ◌++◌, cons≢nil}
use Rattle.std.proofs.lemmas.Bool.{false≢true}
use Rattle.std.proofs.Common.{inl, inr, sym, ◌∙◌, arith}
use Rattle.std.proofs.Math.Path.{◌≡◌, refl, ap, subst}
use Rattle.model.specs.World.{Grid, World, gas_total}
use Rattle.model.specs.Step.{Call, load, total, no_exchange, meaning, own_places, accepted, step, Result}
use Rattle.model.specs.Lists.{loaded_world, listed, after, history}
use Rattle.model.proofs.Laws.Step.{Fits, Reached, found as present, accepted_passed, loaded_reached, step_accepted, answer_is}
use Rattle.model.proofs.Laws.Entries.{below_or_not}
use Rattle.model.proofs.Laws.Lists.{after_append, listed_append}
use Rattle.model.proofs.Demand3.{calls_keep}
use Rattle.model.proofs.OnRecord.{OnRecord, loaded_on_record}
use Rattle.program.specs.Records.{Kind, unknown, grid_kind, load_kind, emission_kind, withdrawal_kind, zonal_kind, meridional_kind, remap_kind, total_kind, cell_kind, kind_of, State, start, gridded, loaded, world_of, grid_of, is_loaded, in_place, body_length, command_of, grid_refusal, Command, set_grid, set_world, make, Finding, nothing, fault, command, Line, line, after_load, Outcome, none, onward, last, found, needed, carried_out, outcome_of}
use Rattle.program.specs.Lines.{Entry, entry, entries_from}
use Rattle.program.proofs.Laws.Lines.{first_outcome, entries_none, entries_onward, entries_last}
use Rattle.program.proofs.Laws.Records.{found_misplaced, found_short, found_command}
use Rattle.program.specs.Totals.{Since, noted, since, world_now}

-- ---- what is noted stands behind a state: nothing before a load; then the loaded world is reached by the noted calls, none of which is a load, and the books began with the load
abbrev pub BooksBegin : World → Type 0
BooksBegin first = (t : ℕ) → t < first.grid.N → OnRecord first first t no_exchange

pub record Behind (w : World) (s : Since) : Type 0 where
  pub reached : Reached s.first
  pub begun : BooksBegin s.first
  pub now : w ≡ world_now s
  pub all_listed : listed s.calls ≡ true

abbrev pub Sound : State → Since → Type 0
Sound start s = Unit {0}
Sound (gridded g) s = Unit {0}
Sound (loaded w) s = Behind w s

-- ---- .. over a call
make_sound :
    (w : World) (call : Call) (s : Since) (l : Line) → (meaning call).listed ≡ true → Behind w s →
    Sound (loaded (step w call).next) (noted s (entry (command (make call)) l))
unfolding after listed
make_sound w call s l may behind =
    record {
      reached = behind.reached;
      begun = behind.begun;
      now = ap (λ (v : World). (step v call).next) behind.now ∙ sym (after_append s.first s.calls (call ∷ []));
      all_listed = listed_append s.calls (call ∷ []) behind.all_listed (rw may);
    }

-- ---- .. over a load: an accepted one begins anew, a refused one leaves nothing loaded
load_sound : (w : World) (s : Since) (l : Line) → l.answer ≡ (step w load).answer → Sound (after_load w) (noted s (entry (command (set_world w)) l))
unfolding after listed
load_sound w s l same = go (step w load).answer refl
  where
    e : Entry
    e = entry (command (set_world w)) l

    go : (n : ℕ) → (step w load).answer ≡ n → Sound (after_load w) (noted s e)
    go zero h =
        let begun : noted s e ≡ record { first = loaded_world w; calls = [] } = rw (same ∙ h, noted) in
        rw (h, after_load, begun) (record { reached = loaded_reached w h; begun = loaded_on_record w h; now = refl; all_listed = refl })
    go (suc n) h = rw (h, after_load) tt

-- ---- .. over any record that does not end the program
-- whether a list of calls may hold what a command asks for
abbrev may_stand : Command → Bool
may_stand (set_grid g) = true
may_stand (set_world w) = true
may_stand (make call) = (meaning call).listed

-- a call is found only in a loaded world, and a list may hold it
call_in_place :
    (s : State) (g : Grid) (kind : Kind) (body : List ℕ) (call : Call) → in_place s kind ≡ true →
    command_of g kind body ≡ make call → (is_loaded s ≡ true) × ((meaning call).listed ≡ true)
call_in_place s g unknown body call p e = absurd (false≢true p)
call_in_place s g grid_kind body call p e = absurd (let z : ◌≡◌ {A = ℕ} 0 1 = cc in omega arith)
call_in_place s g load_kind body call p e = absurd (let z : ◌≡◌ {A = ℕ} 0 1 = cc in omega arith)
call_in_place s g emission_kind body call p e = (p, ap may_stand (sym e))
call_in_place s g withdrawal_kind body call p e = (p, ap may_stand (sym e))
call_in_place s g zonal_kind body call p e = (p, ap may_stand (sym e))
call_in_place s g meridional_kind body call p e = (p, ap may_stand (sym e))
call_in_place s g remap_kind body call p e = (p, ap may_stand (sym e))
call_in_place s g total_kind body call p e = (p, ap may_stand (sym e))
call_in_place s g cell_kind body call p e = (p, ap may_stand (sym e))

pub found_call :
    (s : State) (byte : ℕ) (bytes : List ℕ) (call : Call) → found s (byte ∷ bytes) ≡ command (make call) →
    (is_loaded s ≡ true) × ((meaning call).listed ≡ true)
found_call s byte bytes call e = go (in_place s (kind_of byte)) refl (below_or_not (length bytes) (body_length (grid_of s) (kind_of byte)))
  where
    go :
        (b : Bool) → in_place s (kind_of byte) ≡ b →
        (length bytes < body_length (grid_of s) (kind_of byte)) ⊎ (body_length (grid_of s) (kind_of byte) ≤ length bytes) →
        (is_loaded s ≡ true) × ((meaning call).listed ≡ true)
    go false p h = absurd (let f = found_misplaced s byte bytes p in let z : ◌≡◌ {A = ℕ} 0 1 = cc in omega arith)
    go true p (inl h) = absurd (let f = found_short s byte bytes p h in let z : ◌≡◌ {A = ℕ} 0 1 = cc in omega arith)
    go true p (inr h) =
        let f = found_command s byte bytes p h in
        call_in_place s (grid_of s) (kind_of byte) bytes call p (cc)

-- the grid of an accepted record, which holds nothing loaded
grid_outcome : (s : State) (byte : ℕ) (g : Grid) (l : Line) (next : State) → carried_out s byte (set_grid g) ≡ onward l next → next ≡ gridded g
unfolding carried_out
grid_outcome s byte g l next e = go (grid_refusal g) refl
  where
    go : (n : ℕ) → grid_refusal g ≡ n → next ≡ gridded g
    go zero q = let o : onward (line byte 0 0) (gridded g) ≡ onward l next = rw (q, carried_out) at e in cc
    go (suc n) q =
        let o : last (line byte (suc n) 0) ≡ onward l next = rw (q, carried_out) at e in
        absurd (let z : ◌≡◌ {A = ℕ} 0 1 = cc in omega arith)

module _ (byte : ℕ) (s : Since) (l : Line) (next : State) where
  command_sound :
      (state : State) (c : Command) → ((call : Call) → c ≡ make call → (is_loaded state ≡ true) × ((meaning call).listed ≡ true)) → Sound state s →
      carried_out state byte c ≡ onward l next → Sound next (noted s (entry (command c) l))
  unfolding carried_out
  command_sound state (set_grid g) p sound e = rw (grid_outcome state byte g l next e) tt
  command_sound state (set_world w) p sound e =
      let n : after_load w ≡ next = cc in
      let m : line byte (step w load).answer (step w load).count ≡ l = cc in
      rw (← n) (load_sound w s l (sym (ap (λ (x : Line). x.answer) m)))
  command_sound start (make call) p sound e = absurd (false≢true (p call refl).0)
  command_sound (gridded g) (make call) p sound e = absurd (false≢true (p call refl).0)
  command_sound (loaded w) (make call) p sound e =
      let n : loaded (step w call).next ≡ next = cc in
      rw (← n) (make_sound w call s l (p call refl).1 sound)

  record_sound : (state : State) (bytes : List ℕ) → Sound state s → outcome_of state byte (found state (byte ∷ bytes)) ≡ onward l next → Sound next (noted s (entry (found state (byte ∷ bytes)) l))
  unfolding outcome_of
  record_sound state bytes sound e = go (found state (byte ∷ bytes)) refl
    where
      go : (r : Finding) → found state (byte ∷ bytes) ≡ r → Sound next (noted s (entry (found state (byte ∷ bytes)) l))
      go nothing q = absurd (let z : ◌≡◌ {A = ℕ} 0 1 = let o : none ≡ onward l next = rw q at e in cc in omega arith)
      go (fault n) q =
          absurd (let z : ◌≡◌ {A = ℕ} 0 1 = let o : last (line byte n 0) ≡ onward l next = rw q at e in cc in omega arith)
      go (command c) q =
          subst (λ (r : Finding). Sound next (noted s (entry r l))) (sym q)
          (command_sound state c (λ call same. found_call state byte bytes call (q ∙ ap command same)) sound (rw q at e))

-- ---- a call's line: answer and count are `step`'s in the world behind it
pub record Said (s : Since) (call : Call) (e : Entry) : Type 0 where
  pub reached : Reached s.first
  pub begun : BooksBegin s.first
  pub all_listed : listed s.calls ≡ true
  pub answered : e.printed.answer ≡ (step (world_now s) call).answer
  pub counted : e.printed.count ≡ (step (world_now s) call).count

abbrev Says : Since → Entry → Type 0
Says s e = (call : Call) → e.finding ≡ command (make call) → Said s call e

module _ (byte : ℕ) (bytes : List ℕ) (s : Since) where
  said :
      (state : State) (call : Call) → is_loaded state ≡ true → Sound state s → (e : Entry) →
      e.printed ≡ line byte (step (world_of state) call).answer (step (world_of state) call).count → Said s call e
  said start call p sound e same = absurd (false≢true p)
  said (gridded g) call p sound e same = absurd (false≢true p)
  said (loaded w) call p sound e same =
      record {
        reached = sound.reached;
        begun = sound.begun;
        all_listed = sound.all_listed;
        answered = ap (λ (x : Line). x.answer) same ∙ ap (λ (v : World). (step v call).answer) sound.now;
        counted = ap (λ (x : Line). x.count) same ∙ ap (λ (v : World). (step v call).count) sound.now;
      }

  -- what comes of a record that asks for a call
  module _ (state : State) (call : Call) (is : found state (byte ∷ bytes) ≡ command (make call)) where
    call_outcome : outcome_of state byte (found state (byte ∷ bytes)) ≡ onward (line byte (step (world_of state) call).answer (step (world_of state) call).count) (loaded (step (world_of state) call).next)
    unfolding outcome_of carried_out
    call_outcome = rw is

    call_ends_not : (l : Line) → outcome_of state byte (found state (byte ∷ bytes)) ≡ last l → ⊥
    call_ends_not l e = let o = call_outcome in let z : ◌≡◌ {A = ℕ} 0 1 = cc in omega arith

    call_printed :
        (l : Line) (next : State) → outcome_of state byte (found state (byte ∷ bytes)) ≡ onward l next →
        l ≡ line byte (step (world_of state) call).answer (step (world_of state) call).count
    call_printed l next e = let o = call_outcome in cc

  said_onward :
      (state : State) (l : Line) (next : State) → Sound state s →
      outcome_of state byte (found state (byte ∷ bytes)) ≡ onward l next → Says s (entry (found state (byte ∷ bytes)) l)
  said_onward state l next sound e call is =
      said state call (found_call state byte bytes call is).0 sound _ (call_printed state call is l next e)

  said_last : (state : State) (l : Line) → outcome_of state byte (found state (byte ∷ bytes)) ≡ last l → Says s (entry (found state (byte ∷ bytes)) l)
  said_last state l e call is = absurd (call_ends_not state call is l e)

-- ---- every record, one after the other: each call among some records says what is noted of those before it
abbrev AllSay : Since → List Entry → Type 0
AllSay s es = (before rest : List Entry) (e : Entry) → es ≡ before ++ (e ∷ rest) → Says (since s before) e

say_none : (s : Since) → AllSay s []
say_none s [] rest e h = absurd (cons≢nil (sym h))
say_none s (x ∷ before) rest e h = absurd (cons≢nil (sym h))

say_more : (s : Since) (x : Entry) (es : List Entry) → Says s x → AllSay (noted s x) es → AllSay s (x ∷ es)
unfolding since
say_more s x es first later [] rest e h = let same : x ≡ e = cc in subst (λ (y : Entry). Says s y) same first
say_more s x es first later (y ∷ before) rest e h =
    let same : x ≡ y = cc in
    let left : es ≡ before ++ (e ∷ rest) = cc in
    subst (λ (z : Entry). Says (since (noted s z) before) e) same (later before rest e left)

pub all_say : (skipped : ℕ) (state : State) (bytes : List ℕ) (s : Since) → Sound state s → AllSay s (entries_from skipped state bytes)
unfolding entries_from
all_say skipped state [] s sound = say_none s
all_say (suc skipped) state (byte ∷ bytes) s sound = all_say skipped state bytes s sound
all_say zero state (byte ∷ bytes) s sound =
    go (first_outcome state byte bytes) refl (λ next b later. all_say (needed state byte) next bytes b later)
  where
    go :
        (o : Outcome) → first_outcome state byte bytes ≡ o →
        ((next : State) (b : Since) → Sound next b → AllSay b (entries_from (needed state byte) next bytes)) →
        AllSay s (entries_from 0 state (byte ∷ bytes))
    go none q later = rw (entries_none state byte bytes q) (say_none s)
    go (last l) q later =
        rw (entries_last state byte bytes l q)
        (say_more s _ [] (said_last byte bytes s state l q) (say_none _))
    go (onward l next) q later =
        rw (entries_onward state byte bytes l next q)
        (say_more s _ _ (said_onward byte bytes s state l next sound q) (later next _ (record_sound byte s l next state bytes sound q)))

-- ---- an accepted total is the tracer's, and so, by demand 3, what the history says
total_count : (w : World) (t : ℕ) → Fits w → (step w (total t)).answer ≡ 0 → (t < w.grid.N) × ((step w (total t)).count ≡ gas_total w t)
unfolding accepted own_places
total_count w t fits e =
    let none_applies = sym (answer_is w (total t)) ∙ e in (
      (present t (λ g. g.N) _ w (accepted_passed w (total t) none_applies).2).0,
      ap (λ (r : Result). r.count) (step_accepted w (total t) none_applies),
    )

pub total_said :
    (t : ℕ) (s : Since) (e : Entry) → Said s (total t) e → e.printed.answer ≡ 0 →
    e.printed.count + (history s.first t s.calls).withdrawn ≡ gas_total s.first t + (history s.first t s.calls).emitted
total_said t s e said zeroed =
    let kept = calls_keep s.first s.calls said.all_listed said.reached in
    let c = total_count (world_now s) t kept.reached.fits (sym said.answered ∙ zeroed) in
    omega (arith, said.counted, c.1, kept.gas_kept t (rw kept.same_grid at c.0))
