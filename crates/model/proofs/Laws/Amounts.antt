-- What emission, withdrawal and the two readings keep when they are accepted: calls that move no air and no emitter.
-- Assumes a world that passes places 1 to 4.
use Rattle.std.specs.Prelude.{ℕ, ◌+◌, ◌-◌, ◌≤◌, ◌<◌, List, [], ◌∷◌, Bool, true, false, ◌||◌, ◌≡◌, refl, ◌≢◌, ltb, set}
use Rattle.std.proofs.Common.{true≢false, sym, ◌∙◌, ap, ap₂, arith, ltb-false, lit<, length-set}
use Rattle.std.proofs.Math.Decide.{ℕ_discrete}
use Rattle.std.proofs.lemmas.List.{set-get_or}
use Rattle.model.specs.Limits.{total_limit, sum_limit}
use Rattle.model.specs.Basic.{at}
use Rattle.model.specs.World.{World, world_cells, tracer_start, gas, block, gas_total}
use Rattle.model.specs.Books.{emitted_sum, withdrawn_sum}
use Rattle.model.specs.Step.{emission, withdrawal, total, cell, Place, first_of, absent, with_amount, amount_at, no_room, too_little, Exchange, tracer, meaning, changes}
use Rattle.model.specs.Lists.{Alike}
use Rattle.model.proofs.Laws.World.{length_gas, gas_changed, gas_unchanged, total_changed}
use Rattle.model.proofs.Laws.Basic.{neither}
use Rattle.model.proofs.Laws.Step.{passed, found}
use Rattle.model.proofs.Laws.OneTracer.{exchange_keeps, exchange_alike, exchange_apart}
use Rattle.model.proofs.Laws.Keeps.{names_present, named_alike, named_total_alike, named_block_alike, absent_alike, none_alike, last_alike, MeaningKeeps, reads_keep}

-- what a passed last place tells: the new amount is the old one with what comes in and without what goes out, and the total stays within its limit
record ChangeFits (w : World) (t c : ℕ) (new : ℕ → ℕ) (x : Exchange) : Type 0 where
  balance : amount_at w t c + x.emitted ≡ new (amount_at w t c) + x.withdrawn
  most : gas_total w t ≤ total_limit → gas_total w t + x.emitted ≤ total_limit + x.withdrawn

tracer_cell_alike :
    (own : ℕ → Bool) (w v : World) → Alike own w v → (t c : ℕ) (ps : List Place) →
    (t < w.grid.N → first_of ps w ≡ first_of ps v) →
    first_of (absent t (λ g. g.N) ∷ absent c world_cells ∷ ps) w ≡ first_of (absent t (λ g. g.N) ∷ absent c world_cells ∷ ps) v
tracer_cell_alike own w v a t c ps rest =
    absent_alike own w v a t (λ g. g.N) _ (λ present. absent_alike own w v a c world_cells ps (λ inside. rest present))

-- in two worlds alike, and beside the own gases
module _ (own : ℕ → Bool) (w : World) (t c : ℕ) (inside : c < world_cells w.grid) where
  amount_alike :
      (v : World) → Alike own w v → gas w t ≡ gas v t → (f : ℕ → ℕ) →
      Alike own (with_amount w t c (f (amount_at w t c))) (with_amount v t c (f (amount_at v t c)))
  amount_alike v a named f =
      record {
        same_grid = a.same_grid;
        same_air = a.same_air;
        same_gas = λ t' o. same t' o (ℕ_discrete t' t);
        same_block = a.same_block;
      }
    where
      x : ℕ
      x = f (amount_at w t c)

      y : ℕ
      y = f (amount_at v t c)

      inside_v : c < world_cells v.grid
      inside_v = rw (← a.same_grid) inside

      same : (t' : ℕ) → own t' ≡ true → Dec (t' ≡ t) → gas (with_amount w t c x) t' ≡ gas (with_amount v t c y) t'
      same t' o (yes q) = rw (q, gas_changed w t c x inside, gas_changed v t c y inside_v, named)
      same t' o (no q) =
          gas_unchanged w t c x inside t' q ∙ a.same_gas t' o ∙ sym (gas_unchanged v t c y inside_v t' q)

  amount_apart : (x : ℕ) → own t ≡ false → Alike own w (with_amount w t c x)
  amount_apart x other =
      record {
        same_grid = refl;
        same_air = refl;
        same_gas = λ t' o. sym (gas_unchanged w t c x inside t' (λ q. true≢false (sym o ∙ ap own q ∙ other)));
        same_block = λ t' o. refl;
      }

-- ---- the calls
pub total_keeps : (t : ℕ) → MeaningKeeps (meaning (total t))
total_keeps t =
    reads_keep (tracer t) _ _
    (λ own w v ww vv a named. absent_alike own w v a t (λ g. g.N) [] (λ present. none_alike own w v a))
    (λ own w v a named e. named_total_alike own w v a t named (found t (λ g. g.N) [] w e).0)

pub cell_keeps : (t c : ℕ) → MeaningKeeps (meaning (cell t c))
cell_keeps t c =
    reads_keep (tracer t) _ _
    (λ own w v ww vv a named. tracer_cell_alike own w v a t c [] (λ present. none_alike own w v a))
    (λ own w v a named e. ap (λ (l : List ℕ). at l c) (named_alike own w v a t named (found t (λ g. g.N) _ w e).0))

-- a call that changes one amount, where its last place reads no other gas, and leaves room for what comes in and goes out
changes_keep :
    (t c : ℕ) (last : Place) (new : ℕ → ℕ) (x : Exchange) →
    ((own : ℕ → Bool) (w v : World) → Alike own w v → gas w t ≡ gas v t → gas_total w t ≡ gas_total v t → block w t ≡ block v t → last.applies w ≡ last.applies v) →
    ((w : World) → first_of (last ∷ []) w ≡ 0 → ChangeFits w t c new x) → MeaningKeeps (changes t c last new x)
changes_keep t c last new x reading room =
    record {
      same_places =
          λ own w v ww vv a named.
          tracer_cell_alike own w v a t c _
          (λ present. last_alike own w v a last (reading own w v a (named_alike own w v a t named present) (named_total_alike own w v a t named present) (named_block_alike own w v a t named present)));
      accepts =
          λ w fits e.
          let p = found t (λ g. g.N) _ w e in
          let q = found c world_cells _ w p.1 in
          let r = room w q.1 in
          let had = amount_at w t c in
          let list = set w.tracers (tracer_start w.grid t + c) (new had) in
          let total = total_changed w t c (new had) q.0 (length_gas w t fits.tracers_length p.0) in
          let most = r.most (fits.totals t p.0) in
          record {
            keeps =
                exchange_keeps w fits t p.0 list x (length-set w.tracers _ (new had) ∙ fits.tracers_length) (gas_unchanged w t c (new had) q.0)
                (omega (arith, total, r.balance)) (omega (arith, total, r.balance, most))
                (λ no-in no-out.
                let same : new had ≡ had = omega (arith, r.balance) in
                gas_changed w t c (new had) q.0 ∙ ap (set (gas w t) c) same ∙ set-get_or (gas w t) c 0);
            in_range = λ t' h first. tt;
            alike =
                λ own v fv a named. (
                  exchange_alike w fits t p.0 list x own _ fv.ledger_length
                      (amount_alike own w t c q.0 v a (named_alike own w v a t named p.0) new) (named_block_alike own w v a t named p.0) x refl,
                  refl,
                );
            apart =
                λ own other.
                let else = names_present own w t p.0 ∙ other in
                exchange_apart w fits t p.0 list x own else (amount_apart own w t c q.0 (new had) else);
          };
    }

pub emission_keeps : (t c amount : ℕ) → MeaningKeeps (meaning (emission t c amount))
emission_keeps t c amount =
    changes_keep t c (no_room t (λ w. amount)) (λ T. T + amount) (record { emitted = amount; withdrawn = 0 })
    (λ own w v a gases totals blocks. ap₂ (λ (x : ℕ) (b : List ℕ). ltb total_limit (x + amount) || ltb sum_limit (emitted_sum b + amount)) totals blocks)
    (λ w e.
    let room = ltb-false total_limit (gas_total w t + amount) (neither _ _ (passed _ [] w (lit< tt) e).0).0 in
    record { balance = omega arith; most = λ h. omega (arith, room) })

pub withdrawal_keeps : (t c amount : ℕ) → MeaningKeeps (meaning (withdrawal t c amount))
withdrawal_keeps t c amount =
    changes_keep t c (too_little t c amount) (λ T. T - amount) (record { emitted = 0; withdrawn = amount })
    (λ own w v a gases totals blocks. ap₂ (λ (l b : List ℕ). ltb (at l c) amount || ltb sum_limit (withdrawn_sum b + amount)) gases blocks)
    (λ w e.
    let held = ltb-false (amount_at w t c) amount (neither _ _ (passed _ [] w (lit< tt) e).0).0 in
    record { balance = omega (arith, held); most = λ h. omega arith })
