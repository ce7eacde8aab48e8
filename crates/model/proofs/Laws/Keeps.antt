-- What one call keeps of a world, as a record of facts: an accepted call by its meaning, in every world, and from that any call in a world that calls reach, since a refused one changes nothing.
-- Independence speaks of two such worlds that are alike.
use Prim.Native.Nat.{ℕ, zero, suc, ◌+◌, ◌<◌}
use Rattle.std.specs.Prelude.{List, [], ◌∷◌, Bool, not, ◌≡◌, ltb}
use Rattle.std.proofs.Math.Bool.{true, false}
use Rattle.std.proofs.lemmas.Bool.{false≢true, not-false}
use Rattle.std.proofs.Math.Path.{refl, sym}
use Rattle.std.proofs.Common.{◌∙◌, ap, ap₂, arith, ltb-true, lt-ltb}
use Rattle.model.specs.Basic.{at, sum}
use Rattle.model.specs.World.{Grid, World, world_cells, gas, block, gas_total, air_total}
use Rattle.model.specs.Books.{loaded_sum, emitted_sum, withdrawn_sum}
use Rattle.model.specs.Step.{Call, Place, first_of, absent, Exchange, no_exchange, Named, nobody, tracer, Meaning, meaning, reads, counts, lent_fits, own_places, accepted, refused, refusal, step}
use Rattle.model.specs.Lists.{exchanged, added, HasRatio, CallInRange, has_first, Alike, names_own, names_no_other, SameReply}
use Rattle.model.proofs.Laws.Emitters.{Sound}
use Rattle.model.proofs.Laws.Step.{Fits, Balanced, Reached, first_of_same, step_accepted, step_refused, answer_is, own_refusal, lent_refusal, all_passed}

-- ---- an entry in a tracer's book: x is added, and what was loaded stays
pub record Entered (old new : List ℕ) (x : Exchange) : Type 0 where
  pub loaded : loaded_sum new ≡ loaded_sum old
  pub emitted : emitted_sum new ≡ emitted_sum old + x.emitted
  pub withdrawn : withdrawn_sum new ≡ withdrawn_sum old + x.withdrawn

pub entered_none : {b : List ℕ} → Entered b b no_exchange
entered_none = record { loaded = refl; emitted = omega arith; withdrawn = omega arith }

-- ---- what an accepted call keeps from a world that passes places 1 to 4 to the next one, where it exchanges x t of gas t
pub record Keeps (w next : World) (x : ℕ → Exchange) : Type 0 where
  pub fits : Fits next
  pub same_grid : next.grid ≡ w.grid
  pub sound :
      ((t : ℕ) → t < w.grid.N → Sound (world_cells w.grid) (block w t)) → (t : ℕ) → t < next.grid.N →
      Sound (world_cells next.grid) (block next t)
  pub booked : (t : ℕ) → t < w.grid.N → Entered (block w t) (block next t) (x t)
  pub gas_kept : (t : ℕ) → t < w.grid.N → gas_total next t + (x t).withdrawn ≡ gas_total w t + (x t).emitted
  pub air_kept : air_total next ≡ air_total w
  pub ratio_kept : (t z : ℕ) → t < w.grid.N → (x t).emitted ≡ 0 → (x t).withdrawn ≡ 0 → HasRatio w t z → HasRatio next t z

keeps_same : {w : World} → Fits w → Keeps w w (λ t. no_exchange)
keeps_same fits =
    record {
      fits = fits;
      same_grid = refl;
      sound = λ all. all;
      booked = λ t h. entered_none;
      gas_kept = λ t h. refl;
      air_kept = refl;
      ratio_kept = λ t z h p q r. r;
    }

-- books that balance go on balancing, since what moves a total is entered
pub still_balanced : {w next : World} {x : ℕ → Exchange} → Balanced w → Keeps w next x → Balanced next
still_balanced {w} {next} {x} all keeps t h =
    let here : t < w.grid.N = rw keeps.same_grid at h in
    let book = keeps.booked t here in
    omega (arith, all t here, book.loaded, book.emitted, book.withdrawn, keeps.gas_kept t here)

-- ---- what is kept from a world that calls reach to a later one, where x t of gas t is exchanged
pub record Kept (w next : World) (x : ℕ → Exchange) : Type 0 where
  pub reached : Reached next
  pub same_grid : next.grid ≡ w.grid
  pub booked : (t : ℕ) → t < w.grid.N → Entered (block w t) (block next t) (x t)
  pub gas_kept : (t : ℕ) → t < w.grid.N → gas_total next t + (x t).withdrawn ≡ gas_total w t + (x t).emitted
  pub air_kept : air_total next ≡ air_total w
  pub ratio_kept : (t z : ℕ) → t < w.grid.N → (x t).emitted ≡ 0 → (x t).withdrawn ≡ 0 → HasRatio w t z → HasRatio next t z

pub kept_from : {w next : World} {x y : ℕ → Exchange} → Reached w → ((t : ℕ) → y t ≡ x t) → Keeps w next x → Kept w next y
kept_from reached same k =
    record {
      reached = record { fits = k.fits; blocks = k.sound reached.blocks; balanced = still_balanced reached.balanced k };
      same_grid = k.same_grid;
      booked = λ t h. rw (same t) (k.booked t h);
      gas_kept = λ t h. rw (same t) (k.gas_kept t h);
      air_kept = k.air_kept;
      ratio_kept = λ t z h p q. k.ratio_kept t z h (rw (same t) at p) (rw (same t) at q);
    }

pub kept_same : {w : World} {x : ℕ → Exchange} → Reached w → ((t : ℕ) → x t ≡ no_exchange) → Kept w w x
kept_same reached none = kept_from reached none (keeps_same reached.fits)

pub kept_trans : {w v u : World} {x y : ℕ → Exchange} → Kept w v x → Kept v u y → Kept w u (λ t. added (x t) (y t))
kept_trans {w} {v} {u} {x} {y} p q =
    record {
      reached = q.reached;
      same_grid = q.same_grid ∙ p.same_grid;
      booked =
          λ t h.
          let one = p.booked t h in
          let two = q.booked t (still h) in
          record {
            loaded = two.loaded ∙ one.loaded;
            emitted = omega (arith, one.emitted, two.emitted);
            withdrawn = omega (arith, one.withdrawn, two.withdrawn);
          };
      gas_kept = λ t h. omega (arith, p.gas_kept t h, q.gas_kept t (still h));
      air_kept = q.air_kept ∙ p.air_kept;
      ratio_kept = λ t z h a b r. q.ratio_kept t z (still h) (omega arith) (omega arith) (p.ratio_kept t z h (omega arith) (omega arith) r);
    }
  where
    still : {t : ℕ} → t < w.grid.N → t < v.grid.N
    still h = rw p.same_grid h

-- ---- two worlds alike
pub alike_same : (own : ℕ → Bool) (w : World) → Alike own w w
alike_same own w = record { same_grid = refl; same_air = refl; same_gas = λ t h. refl; same_block = λ t h. refl }

pub alike_sym : {own : ℕ → Bool} {w v : World} → Alike own w v → Alike own v w
alike_sym a =
    record {
      same_grid = sym a.same_grid;
      same_air = sym a.same_air;
      same_gas = λ t h. sym (a.same_gas t h);
      same_block = λ t h. sym (a.same_block t h);
    }

pub alike_trans : {own : ℕ → Bool} {w v u : World} → Alike own w v → Alike own v u → Alike own w u
alike_trans a b =
    record {
      same_grid = a.same_grid ∙ b.same_grid;
      same_air = a.same_air ∙ b.same_air;
      same_gas = λ t h. a.same_gas t h ∙ b.same_gas t h;
      same_block = λ t h. a.same_block t h ∙ b.same_block t h;
    }

-- a present tracer that a call names is an own one, or another
pub names_present : (own : ℕ → Bool) (w : World) (t : ℕ) → t < w.grid.N → own t ≡ names_own own w (tracer t)
names_present own w t present = rw (lt-ltb t w.grid.N present, names_own)

-- which gases a call names in two worlds of the same grid
pub names_grid : (own : ℕ → Bool) (w v : World) → w.grid ≡ v.grid → (named : Named) → names_own own w named ≡ names_own own v named
names_grid own w v same_grid nobody = refl
names_grid own w v same_grid (tracer t) =
    ap (λ (g : Grid). elim (ltb t g.N) [ true ↦ own t | false ↦ true ]) same_grid

-- a world's grid and air, and nothing else of it
abbrev pub air_alone : World → World
air_alone w = record { grid = w.grid; air = w.air; tracers = []; ledger = [] }

-- a call in two worlds alike: the gases that it names, and its places
module _ (own : ℕ → Bool) (w v : World) (alike : Alike own w v) where
  pub named_alike : (t : ℕ) → names_own own w (tracer t) ≡ true → t < w.grid.N → gas w t ≡ gas v t
  named_alike t named present = alike.same_gas t (names_present own w t present ∙ named)

  pub named_block_alike : (t : ℕ) → names_own own w (tracer t) ≡ true → t < w.grid.N → block w t ≡ block v t
  named_block_alike t named present = alike.same_block t (names_present own w t present ∙ named)

  pub named_total_alike : (t : ℕ) → names_own own w (tracer t) ≡ true → t < w.grid.N → gas_total w t ≡ gas_total v t
  named_total_alike t named present =
      ap₂ (λ (g : Grid) (l : List ℕ). sum (world_cells g) (at l)) alike.same_grid (named_alike t named present)

  -- what is named is absent in both worlds or in neither; the last place; no place
  pub absent_alike :
      (i : ℕ) (many : Grid → ℕ) (ps : List Place) → (i < many w.grid → first_of ps w ≡ first_of ps v) →
      first_of (absent i many ∷ ps) w ≡ first_of (absent i many ∷ ps) v
  absent_alike i many ps rest =
      first_of_same (absent i many) ps w v
      (ap (λ (g : Grid). not (ltb i (many g))) alike.same_grid)
      (λ there. rest (ltb-true _ _ (not-false _ there)))

  pub none_alike : first_of [] w ≡ first_of [] v
  unfolding first_of
  none_alike = refl

  pub last_alike : (p : Place) → p.applies w ≡ p.applies v → first_of (p ∷ []) w ≡ first_of (p ∷ []) v
  last_alike p same = first_of_same p [] w v same (λ passed. none_alike)

  -- places that read the grid and the air alone
  pub air_alike : (ps : List Place) → first_of ps (air_alone w) ≡ first_of ps (air_alone v)
  air_alike ps =
      ap₂ (λ (g : Grid) (a : List ℕ). first_of ps (record { grid = g; air = a; tracers = []; ledger = [] })) alike.same_grid alike.same_air

-- ---- what a call keeps, by its meaning
-- one whose own places are passed, in a world that passes places 1 to 4; `alike` is for a call that names no other gas than the own ones, `apart` for one that names another
pub record AcceptedKeeps (w : World) (m : Meaning) : Type 0 where
  pub keeps : Keeps w (m.next w) (m.exchange w)
  pub in_range : (t : ℕ) → t < w.grid.N → has_first w t ≡ true → m.range w (m.next w) t
  pub alike :
      (own : ℕ → Bool) (v : World) → Fits v → Alike own w v → names_own own w m.names ≡ true →
      Alike own (m.next w) (m.next v) × (m.count w ≡ m.count v)
  pub apart : (own : ℕ → Bool) → names_own own w m.names ≡ false → Alike own w (m.next w)

-- its own places do not tell two worlds alike apart, if it names no other gas
pub record MeaningKeeps (m : Meaning) : Type 0 where
  pub same_places :
      (own : ℕ → Bool) (w v : World) → Reached w → Reached v → Alike own w v → names_own own w m.names ≡ true →
      first_of m.places w ≡ first_of m.places v
  pub accepts : (w : World) → Fits w → first_of m.places w ≡ 0 → AcceptedKeeps w m

-- a call that reads keeps all, if its places and its count read no other gas than the one that it names
pub reads_keep :
    (names : Named) (ps : List Place) (count : World → ℕ) →
    ((own : ℕ → Bool) (w v : World) → Reached w → Reached v → Alike own w v → names_own own w names ≡ true → first_of ps w ≡ first_of ps v) →
    ((own : ℕ → Bool) (w v : World) → Alike own w v → names_own own w names ≡ true → first_of ps w ≡ 0 → count w ≡ count v) →
    MeaningKeeps (reads names ps count)
reads_keep names ps count places counts =
    record {
      same_places = places;
      accepts =
          λ w fits e.
          record {
            keeps = keeps_same fits;
            in_range = λ t h first. tt;
            alike = λ own v fv a named. (a, counts own w v a named e);
            apart = λ own other. alike_same own w;
          };
    }

-- one that counts and writes nothing keeps all, if the call whose count it gives keeps what a call keeps
pub counts_keep : {m : Meaning} → MeaningKeeps m → MeaningKeeps (counts m)
counts_keep keeps =
    record {
      same_places = keeps.same_places;
      accepts =
          λ w fits e.
          record {
            keeps = keeps_same fits;
            in_range = λ t h first. tt;
            alike = λ own v fv a named. (a, ((keeps.accepts w fits e).alike own v fv a named).1);
            apart = λ own other. alike_same own w;
          };
    }

-- ---- what `step` keeps: a refused call changes nothing
pub record StepKeeps (w : World) (call : Call) : Type 0 where
  pub kept : Kept w (step w call).next (λ t. exchanged w t call)
  pub in_range :
      (t : ℕ) → t < w.grid.N → has_first w t ≡ true → (step w call).answer ≡ 0 → CallInRange w (step w call).next t call
  pub independent :
      (own : ℕ → Bool) (v : World) → Reached v → Alike own w v →
      Alike own (step w call).next (step v call).next × (names_no_other own w call ≡ true → SameReply w v call)

pub exchange_accepted : (w : World) (call : Call) → (step w call).answer ≡ 0 → (t : ℕ) → exchanged w t call ≡ (meaning call).exchange w t
exchange_accepted w call e t = rw (e, exchanged)

exchange_refused : (w : World) (call : Call) (n : ℕ) → (step w call).answer ≡ suc n → (t : ℕ) → exchanged w t call ≡ no_exchange
exchange_refused w call n e t = rw (e, exchanged)

module _ (call : Call) (keeps : MeaningKeeps (meaning call)) where
  pub accepts : (w : World) → refusal w call ≡ 0 → AcceptedKeeps w (meaning call)
  unfolding own_places
  accepts w e = let p = all_passed w call e in keeps.accepts w p.fits p.own

  step_kept : (w : World) → Reached w → (n : ℕ) → refusal w call ≡ n → Kept w (step w call).next (λ t. exchanged w t call)
  unfolding accepted refused
  step_kept w reached zero e =
      kept_from reached (exchange_accepted w call (answer_is w call ∙ e))
      (rw (step_accepted w call e) (accepts w e).keeps)
  step_kept w reached (suc n) e =
      rw (step_refused w call n e) (kept_same reached (exchange_refused w call n (answer_is w call ∙ e)))

  -- its refusal in two worlds alike, if it names no other gas
  refusal_alike :
      (own : ℕ → Bool) (w v : World) → Alike own w v → Reached w → Reached v → names_no_other own w call ≡ true →
      refusal w call ≡ refusal v call
  unfolding own_places
  refusal_alike own w v alike ww vv named = go (lent_fits w.grid call) refl
    where
      go : (b : Bool) → lent_fits w.grid call ≡ b → refusal w call ≡ refusal v call
      go true e =
          own_refusal w call ww e ∙ keeps.same_places own w v ww vv alike named ∙
          sym (own_refusal v call vv (rw alike.same_grid at e))
      go false e = lent_refusal w call ww.fits e ∙ sym (lent_refusal v call vv.fits (rw alike.same_grid at e))

  -- a call that names another gas leaves the own ones alone
  step_apart :
      (own : ℕ → Bool) (w : World) → Reached w → names_no_other own w call ≡ false → (n : ℕ) → refusal w call ≡ n →
      Alike own w (step w call).next
  unfolding accepted refused
  step_apart own w reached other zero e = rw (step_accepted w call e) ((accepts w e).apart own other)
  step_apart own w reached other (suc n) e = rw (step_refused w call n e) (alike_same own w)

  -- one that names no other does the same in both worlds
  step_alike :
      (own : ℕ → Bool) (w v : World) → Reached w → Reached v → Alike own w v → names_no_other own w call ≡ true → (n : ℕ) →
      refusal w call ≡ n → refusal v call ≡ n →
      Alike own (step w call).next (step v call).next × ((step w call).count ≡ (step v call).count)
  unfolding accepted refused
  step_alike own w v ww vv a named zero e f =
      rw (step_accepted w call e, step_accepted v call f) ((accepts w e).alike own v vv.fits a named)
  step_alike own w v ww vv a named (suc n) e f =
      rw (step_refused w call n e, step_refused v call n f) (a, refl)

  step_independent :
      (own : ℕ → Bool) (w v : World) → Reached w → Reached v → Alike own w v → (b : Bool) → names_no_other own w call ≡ b →
      Alike own (step w call).next (step v call).next × (b ≡ true → SameReply w v call)
  step_independent own w v ww vv a true e =
      let same = refusal_alike own w v a ww vv e in
      let r = step_alike own w v ww vv a e (refusal w call) refl (sym same) in
      (r.0, λ named. (answer_is w call ∙ same ∙ sym (answer_is v call), r.1))
  step_independent own w v ww vv a false e =
      let f = sym (names_grid own w v a.same_grid (meaning call).names) ∙ e in (
        alike_trans (alike_sym (step_apart own w ww e (refusal w call) refl)) (alike_trans a (step_apart own v vv f (refusal v call) refl)),
        λ named. absurd (false≢true named),
      )

  step_in_range :
      (w : World) → Reached w → (t : ℕ) → t < w.grid.N → has_first w t ≡ true → (step w call).answer ≡ 0 →
      CallInRange w (step w call).next t call
  unfolding accepted
  step_in_range w reached t h first e =
      let go = sym (answer_is w call) ∙ e in
      rw (step_accepted w call go) ((accepts w go).in_range t h first)

  pub step_keeps : (w : World) → Reached w → StepKeeps w call
  step_keeps w reached =
      record {
        kept = step_kept w reached (refusal w call) refl;
        in_range = step_in_range w reached;
        independent = λ own v rv a. step_independent own w v reached rv a (names_no_other own w call) refl;
      }
