-- What a call keeps that changes one tracer: its block of the ledger, or its amounts, with what is exchanged entered in its book.
-- Assumes a world that passes places 1 to 4.
use Rattle.std.specs.Prelude.{ℕ, ◌+◌, ◌*◌, ◌≤◌, ◌<◌, List, Bool, true, false, ◌≡◌, refl, ◌≢◌, eqb, length}
use Rattle.std.proofs.Common.{true≢false, sym, ◌∙◌, ap, ap₂, arith, eq-eqb, ne_eqb}
use Rattle.std.proofs.Math.Decide.{ℕ_discrete}
use Rattle.model.specs.Limits.{total_limit, block_numbers}
use Rattle.model.specs.World.{World, world_cells, with_amounts, gas, block, with_block, gas_total}
use Rattle.model.specs.Books.{entered}
use Rattle.model.specs.Step.{Exchange, no_exchange, booked}
use Rattle.model.specs.Lists.{Alike}
use Rattle.model.proofs.Laws.World.{length_block, length_with_block, block_changed, block_unchanged}
use Rattle.model.proofs.Laws.Emitters.{Sound, length_entered, entered_rest, entered_emitted, entered_withdrawn, entered_sound}
use Rattle.model.proofs.Laws.Step.{Fits}
use Rattle.model.proofs.Laws.Keeps.{Entered, entered_none, Keeps, alike_trans}

-- the ledger of a world has a block for each tracer
abbrev pub Blocks : World → Type 0
Blocks w = length w.ledger ≡ w.grid.N * block_numbers

-- ---- another block of tracer t
module _ (w : World) (long : Blocks w) (t : ℕ) (there : t < w.grid.N) (new : List ℕ) (many : length new ≡ block_numbers) where
  abbrev next : World
  next = with_block w t new

  pub block_sound :
      {cells : ℕ} → (Sound cells (block w t) → Sound cells new) → ((u : ℕ) → u < w.grid.N → Sound cells (block w u)) → (u : ℕ) → u < w.grid.N →
      Sound cells (block next u)
  block_sound {cells} still all u h = go (ℕ_discrete u t)
    where
      go : Dec (u ≡ t) → Sound cells (block next u)
      go (yes e) = rw (e, block_changed w long t there new many) (still (all t there))
      go (no e) = rw (block_unchanged w long t there new many u e) (all u h)

  -- the book of tracer t is as x says, the others as they were
  pub block_booked :
      (x : Exchange) → Entered (block w t) new x → (u : ℕ) → Entered (block w u) (block next u) (elim (eqb t u) [ true ↦ x | false ↦ no_exchange ])
  block_booked x book u = go (ℕ_discrete u t)
    where
      go : Dec (u ≡ t) → Entered (block w u) (block next u) (elim (eqb t u) [ true ↦ x | false ↦ no_exchange ])
      go (yes e) = rw (e, eq-eqb t t refl, block_changed w long t there new many) book
      go (no e) = rw (ne_eqb t u (λ q. e (sym q)), block_unchanged w long t there new many u e) entered_none

  pub block_apart : (own : ℕ → Bool) → own t ≡ false → Alike own w next
  block_apart own other =
      record {
        same_grid = refl;
        same_air = refl;
        same_gas = λ u o. refl;
        same_block = λ u o. sym (block_unchanged w long t there new many u (λ q. true≢false (sym o ∙ ap own q ∙ other)));
      }

-- a call that writes nothing but a block, and leaves its book
pub block_keeps :
    (w : World) → Fits w → (t : ℕ) → t < w.grid.N → (new : List ℕ) → length new ≡ block_numbers → Entered (block w t) new no_exchange →
    (Sound (world_cells w.grid) (block w t) → Sound (world_cells w.grid) new) → Keeps w (with_block w t new) (λ u. no_exchange)
block_keeps w fits t there new many book still =
    record {
      fits =
          record {
            grid = fits.grid;
            air_length = fits.air_length;
            tracers_length = fits.tracers_length;
            ledger_length = length_with_block w fits.ledger_length t there new many;
            air = fits.air;
            totals = fits.totals;
          };
      same_grid = refl;
      sound = block_sound w fits.ledger_length t there new many still;
      booked = λ u h. rw (none (eqb t u)) at (block_booked w fits.ledger_length t there new many no_exchange book u);
      gas_kept = λ u h. refl;
      air_kept = refl;
      ratio_kept = λ u z h p q r. r;
    }
  where
    none : (b : Bool) → elim b [ true ↦ no_exchange | false ↦ no_exchange ] ≡ no_exchange
    none true = refl
    none false = refl

-- in two worlds alike
pub block_alike :
    (own : ℕ → Bool) (w v : World) → Blocks w → Blocks v → Alike own w v → (t : ℕ) → t < w.grid.N → (new : List ℕ) →
    length new ≡ block_numbers → Alike own (with_block w t new) (with_block v t new)
block_alike own w v ww vv a t there new many =
    record {
      same_grid = a.same_grid;
      same_air = a.same_air;
      same_gas = a.same_gas;
      same_block = λ u o. same u o (ℕ_discrete u t);
    }
  where
    there_v : t < v.grid.N
    there_v = rw (← a.same_grid) there

    same : (u : ℕ) → own u ≡ true → Dec (u ≡ t) → block (with_block w t new) u ≡ block (with_block v t new) u
    same u o (yes e) = rw (e, block_changed w ww t there new many, block_changed v vv t there_v new many)
    same u o (no e) =
        block_unchanged w ww t there new many u e ∙ a.same_block u o ∙ sym (block_unchanged v vv t there_v new many u e)

-- ---- x of tracer t entered in its book
module _ (w : World) (long : Blocks w) (t : ℕ) (there : t < w.grid.N) (x : Exchange) where
  abbrev book : List ℕ
  book = entered (block w t) x.emitted x.withdrawn

  book_many : length book ≡ block_numbers
  book_many = length_entered (block w t) x.emitted x.withdrawn ∙ length_block w t long there

  book_entered : Entered (block w t) book x
  book_entered =
      let many = length_block w t long there in
      record {
        loaded = entered_rest (block w t) x.emitted x.withdrawn 56 (omega arith) (omega arith);
        emitted = entered_emitted (block w t) x.emitted x.withdrawn many;
        withdrawn = entered_withdrawn (block w t) x.emitted x.withdrawn many;
      }

  pub booked_own : block (booked w t x) t ≡ book
  booked_own = block_changed w long t there book book_many

  pub booked_other : (u : ℕ) → u ≢ t → block (booked w t x) u ≡ block w u
  booked_other = block_unchanged w long t there book book_many

  pub booked_apart : (own : ℕ → Bool) → own t ≡ false → Alike own w (booked w t x)
  booked_apart = block_apart w long t there book book_many

  pub booked_alike :
      (own : ℕ → Bool) (v : World) → Blocks v → Alike own w v → block w t ≡ block v t → (y : Exchange) → x ≡ y →
      Alike own (booked w t x) (booked v t y)
  booked_alike own v vv a same y xy =
      let books : book ≡ entered (block v t) y.emitted y.withdrawn = ap₂ (λ (b : List ℕ) (z : Exchange). entered b z.emitted z.withdrawn) same xy in
      rw (← books) (block_alike own w v long vv a t there book book_many)

-- ---- a call that changes the amounts of tracer t, and exchanges x of it
module _ (w : World) (fits : Fits w) (t : ℕ) (there : t < w.grid.N) (tracers : List ℕ) (x : Exchange) where
  abbrev changed : World
  changed = with_amounts w w.air tracers

  pub exchange_keeps :
      length tracers ≡ w.grid.N * world_cells w.grid → ((u : ℕ) → u ≢ t → gas changed u ≡ gas w u) →
      gas_total changed t + x.withdrawn ≡ gas_total w t + x.emitted → gas_total changed t ≤ total_limit →
      (x.emitted ≡ 0 → x.withdrawn ≡ 0 → gas changed t ≡ gas w t) →
      Keeps w (booked changed t x) (λ u. elim (eqb t u) [ true ↦ x | false ↦ no_exchange ])
  exchange_keeps many others balance most still =
      record {
        fits =
            record {
              grid = fits.grid;
              air_length = fits.air_length;
              tracers_length = many;
              ledger_length = length_with_block w fits.ledger_length t there _ (book_many w fits.ledger_length t there x);
              air = fits.air;
              totals = λ u h. totals u h (ℕ_discrete u t);
            };
        same_grid = refl;
        sound =
            block_sound w fits.ledger_length t there _ (book_many w fits.ledger_length t there x) (λ sound. entered_sound sound x.emitted x.withdrawn);
        booked =
            λ u h.
            block_booked w fits.ledger_length t there _ (book_many w fits.ledger_length t there x) x (book_entered w fits.ledger_length t there x) u;
        gas_kept = λ u h. kept u h (ℕ_discrete u t);
        air_kept = refl;
        ratio_kept = λ u z h no-in no-out r. rw (same u no-in no-out (ℕ_discrete u t)) r;
      }
    where
      -- what is exchanged of each gas
      of : ℕ → Exchange
      of u = elim (eqb t u) [ true ↦ x | false ↦ no_exchange ]

      own : of t ≡ x
      own = rw (of, eq-eqb t t refl)

      other : (u : ℕ) → u ≢ t → of u ≡ no_exchange
      other u h = rw (of, ne_eqb t u (λ q. h (sym q)))

      totals : (u : ℕ) → u < w.grid.N → Dec (u ≡ t) → gas_total changed u ≤ total_limit
      totals u h (yes q) = rw q most
      totals u h (no q) = rw (others u q) (fits.totals u h)

      kept : (u : ℕ) → u < w.grid.N → Dec (u ≡ t) → gas_total changed u + (of u).withdrawn ≡ gas_total w u + (of u).emitted
      kept u h (yes q) = rw (q, own) balance
      kept u h (no q) = rw (others u q, other u q)

      same : (u : ℕ) → (of u).emitted ≡ 0 → (of u).withdrawn ≡ 0 → Dec (u ≡ t) → gas changed u ≡ gas w u
      same u no-in no-out (yes q) = rw q (still (rw (q, own) at no-in) (rw (q, own) at no-out))
      same u no-in no-out (no q) = others u q

  -- in two worlds alike before the entry, and beside the own gases
  pub exchange_alike :
      (own : ℕ → Bool) (v : World) → Blocks v → Alike own changed v → block w t ≡ block v t → (y : Exchange) → x ≡ y →
      Alike own (booked changed t x) (booked v t y)
  exchange_alike own v vv a same y xy = booked_alike changed fits.ledger_length t there x own v vv a same y xy

  pub exchange_apart : (own : ℕ → Bool) → own t ≡ false → Alike own w changed → Alike own w (booked changed t x)
  exchange_apart own other apart = alike_trans apart (booked_apart changed fits.ledger_length t there x own other)
