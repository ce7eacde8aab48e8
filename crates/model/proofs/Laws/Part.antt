-- What a call keeps that changes m of the world's cells, from cell a on, and no others, if it keeps it in those cells; and such a call in two worlds.
-- Assumes a world that passes places 1 to 4, or, for what is kept, one that calls reach; the cells inside it, and as many amounts after the change as before.
use Rattle.std.specs.Prelude.{ℕ, zero, suc, ◌+◌, ◌*◌, ◌≤◌, ◌<◌, List, Bool, true, ◌≡◌, refl, ◌⊎◌, length}
use Rattle.std.proofs.Common.{sym, ◌∙◌, ap, ap₂, inl, inr, arith}
use Rattle.model.specs.Basic.{at, part, written, sum}
use Rattle.model.specs.World.{Grid, World, world_cells, gas, air_fits, moved_part}
use Rattle.model.specs.Scheme.{Rule}
use Rattle.model.specs.Limiters.{Limiter, rule_for, limiter_in, limiter_of, rule_of}
use Rattle.model.specs.Step.{Call, no_exchange, accepted, refused, refusal, step}
use Rattle.model.specs.Lists.{Alike}
use Rattle.model.proofs.Laws.Basic.{length_part, at_part, InPart, Outside, part_or_outside, Apart, part_apart, length_written, at_written_within, at_written_outside, part_written, sum_written}
use Rattle.model.proofs.Laws.Substep.{AirIn}
use Rattle.model.proofs.Laws.World.{length_gas, length_moved, gas_moved_lem}
use Rattle.model.proofs.Laws.Step.{Fits, step_accepted, step_refused}
use Rattle.model.proofs.Laws.Keeps.{Keeps}
use Rattle.model.proofs.Laws.Moved.{Even, KeepsAir, KeepsGas, moved_keeps, moved_alike}

-- some of the cells have air of 1 to 65,535, where all have
pub cells_in_lem : (a m cells : ℕ) → a + m ≤ cells → (air : List ℕ) → AirIn cells air → AirIn m (part air a m)
cells_in_lem a m cells inside air fits i h = rw (at_part air a m i h) (fits (a + i) (omega arith))

-- ---- amounts written over a part of a list keep there what they keep in the part
module _ (a m cells : ℕ) (inside : a + m ≤ cells) (air new : List ℕ) (whole : length air ≡ cells) (keeps : KeepsAir m (part air a m) new) where
  air_at_lem : (i : ℕ) → i < m → at (written air a new) (a + i) ≡ at new i
  air_at_lem = at_written_within air new a m cells whole keeps.air_length inside

  air_outside_lem : (c : ℕ) → Outside a m c → at (written air a new) c ≡ at air c
  air_outside_lem = at_written_outside air new a m cells whole keeps.air_length inside

  new_in : AirIn cells air → (c : ℕ) → c < cells → InPart a m c ⊎ Outside a m c → air_fits (at (written air a new) c) ≡ true
  new_in fits c h (inl (i, p, e)) = rw (← e, air_at_lem i p) (keeps.air_in i p)
  new_in fits c h (inr out) = rw (air_outside_lem c out) (fits c h)

  part_air : AirIn cells air → KeepsAir cells air (written air a new)
  part_air fits =
      record {
        air_length = length_written air new a m cells whole keeps.air_length inside;
        air_in = λ c h. new_in fits c h (part_or_outside a m c);
        air_kept = omega (arith, sum_written air new a m cells whole keeps.air_length inside, keeps.air_kept);
      }

  module _ {change : List ℕ → List ℕ} (gases : KeepsGas m (part air a m) new change) where
    module _ (had : List ℕ) (all : length had ≡ cells) where
      old_many : length (part had a m) ≡ m
      old_many = length_part had a m (omega arith)

      many : length (change (part had a m)) ≡ m
      many = gases.gas_length (part had a m) old_many

      gas_total_lem : sum cells (at (written had a (change (part had a m)))) ≡ sum cells (at had)
      gas_total_lem = omega (arith, sum_written had (change (part had a m)) a m cells all many inside, gases.gas_kept (part had a m) old_many)

      even_part : (z : ℕ) → Even cells z air had → Even m z (part air a m) (part had a m)
      even_part z even i h = rw (at_part had a m i h, at_part air a m i h) (even (a + i) (omega arith))

      even_kept_lem :
          (z : ℕ) → Even cells z air had → (c : ℕ) → c < cells → InPart a m c ⊎ Outside a m c →
          at (written had a (change (part had a m))) c ≡ z * at (written air a new) c
      even_kept_lem z even c h (inl (i, p, e)) =
          rw (← e, air_at_lem i p, at_written_within had (change (part had a m)) a m cells all many inside i p)
          (gases.even_kept (part had a m) z old_many (even_part z even) i p)
      even_kept_lem z even c h (inr out) =
          rw (air_outside_lem c out, at_written_outside had (change (part had a m)) a m cells all many inside c out) (even c h)

    part_gas : KeepsGas cells air (written air a new) (λ had. written had a (change (part had a m)))
    part_gas =
        record {
          gas_length = λ had all. length_written had _ a m cells all (many had all) inside;
          gas_kept = gas_total_lem;
          even_kept = λ had z all even c h. even_kept_lem had all z even c h (part_or_outside a m c);
        }

-- ---- the world after such a call
pub part_keeps :
    (w : World) → Fits w → (a m : ℕ) → a + m ≤ world_cells w.grid → (new : List ℕ) (change : ℕ → List ℕ → List ℕ) →
    KeepsAir m (part w.air a m) new → ((t : ℕ) → KeepsGas m (part w.air a m) new (change t)) →
    Keeps w (moved_part w a m new change) (λ t. no_exchange)
part_keeps w fits a m inside new change air gases =
    let cells : ℕ = world_cells w.grid in
    moved_keeps w fits _ _
    (part_air a m cells inside w.air new fits.air_length air fits.air)
    (λ t. part_gas a m cells inside w.air new fits.air_length air (gases t))

-- nothing changes but the m cells from cell a on, in the air and in each tracer
pub record ChangesOnly (w next : World) (a m : ℕ) : Type 0 where
  pub same_grid : next.grid ≡ w.grid
  pub air_length : length next.air ≡ length w.air
  pub tracers_length : length next.tracers ≡ length w.tracers
  pub same_ledger : next.ledger ≡ w.ledger
  pub air_outside : (c : ℕ) → Outside a m c → at next.air c ≡ at w.air c
  pub gas_outside : (t : ℕ) → t < w.grid.N → (c : ℕ) → Outside a m c → at (gas next t) c ≡ at (gas w t) c

module _
    (w : World) (fits : Fits w) (a m : ℕ) (inside : a + m ≤ world_cells w.grid) (new : List ℕ) (change : ℕ → List ℕ → List ℕ)
    (new_many : length new ≡ m) (change_many : (t : ℕ) (had : List ℕ) → length had ≡ m → length (change t had) ≡ m) where
  had_many : (t : ℕ) → t < w.grid.N → length (gas w t) ≡ world_cells w.grid
  had_many t h = length_gas w t fits.tracers_length h

  has_many : (t : ℕ) → t < w.grid.N → length (change t (part (gas w t) a m)) ≡ m
  has_many t h = change_many t _ (length_part (gas w t) a m (omega (arith, had_many t h)))

  as_many : (t : ℕ) → t < w.grid.N → length (written (gas w t) a (change t (part (gas w t) a m))) ≡ world_cells w.grid
  as_many t h = length_written (gas w t) _ a m (world_cells w.grid) (had_many t h) (has_many t h) inside

  gas_is_lem : (t : ℕ) → t < w.grid.N → gas (moved_part w a m new change) t ≡ written (gas w t) a (change t (part (gas w t) a m))
  gas_is_lem = gas_moved_lem w (written w.air a new) (λ t l. written l a (change t (part l a m))) as_many

  -- those cells have the new air, and each tracer's changed amounts
  pub part_air_is : part (moved_part w a m new change).air a m ≡ new
  part_air_is = part_written w.air new a m (world_cells w.grid) fits.air_length new_many inside

  pub part_gas_is : (t : ℕ) → t < w.grid.N → part (gas (moved_part w a m new change) t) a m ≡ change t (part (gas w t) a m)
  part_gas_is t h =
      rw (gas_is_lem t h) (part_written (gas w t) _ a m (world_cells w.grid) (had_many t h) (has_many t h) inside)

  -- and the others what they had
  pub part_only : ChangesOnly w (moved_part w a m new change) a m
  part_only =
      record {
        same_grid = refl;
        air_length = length_written w.air new a m (world_cells w.grid) fits.air_length new_many inside ∙ sym fits.air_length;
        tracers_length = length_moved w (written w.air a new) (λ t l. written l a (change t (part l a m))) as_many ∙ sym fits.tracers_length;
        same_ledger = refl;
        air_outside = at_written_outside w.air new a m (world_cells w.grid) fits.air_length new_many inside;
        gas_outside =
            λ t h c out.
            rw (gas_is_lem t h)
            (at_written_outside (gas w t) _ a m (world_cells w.grid) (had_many t h) (has_many t h) inside c out);
      }

-- so the air of cells that lie apart is as it was
pub air_apart : {w next : World} {a m : ℕ} → ChangesOnly w next a m → (b n : ℕ) → Apart a m b n → part next.air b n ≡ part w.air b n
air_apart {w} {next} {a} {m} only b n = part_apart w.air next.air a m b n only.air_length only.air_outside

-- a call changes no more than it does where it is accepted: a refused one changes nothing
pub step_changes_only :
    (w : World) (call : Call) (a m : ℕ) → (refusal w call ≡ 0 → ChangesOnly w (accepted w call).next a m) →
    ChangesOnly w (step w call).next a m
unfolding refused
step_changes_only w call a m when = go (refusal w call) refl
  where
    go : (n : ℕ) → refusal w call ≡ n → ChangesOnly w (step w call).next a m
    go zero e = rw (step_accepted w call e) (when e)
    go (suc n) e =
        rw (step_refused w call n e)
        (record { same_grid = refl; air_length = refl; tracers_length = refl; same_ledger = refl; air_outside = λ c out. refl; gas_outside = λ t h c out. refl })

-- ---- two worlds of the same grid with the same limiters, and with the same air and the same amounts of each tracer in some of their cells
pub record SameCells (start many : Grid → ℕ) (w v : World) : Type 0 where
  pub same_grid : w.grid ≡ v.grid
  pub same_air : part w.air (start w.grid) (many w.grid) ≡ part v.air (start v.grid) (many v.grid)
  pub same_gas : (t : ℕ) → t < w.grid.N → part (gas w t) (start w.grid) (many w.grid) ≡ part (gas v t) (start v.grid) (many v.grid)
  pub same_limiters : (t : ℕ) → t < w.grid.N → limiter_of w t ≡ limiter_of v t

-- ---- such a call in two worlds, where the cells come from the grid, their new air from their air, and a tracer's new amounts from their air and that tracer's amounts
module _
    (start many : Grid → ℕ) (new : Grid → List ℕ → List ℕ) (change : Rule → Grid → List ℕ → List ℕ → List ℕ)
    (new_many : (g : Grid) (row : List ℕ) → length row ≡ many g → length (new g row) ≡ many g)
    (change_many : (rule : Rule) (g : Grid) (row had : List ℕ) → length had ≡ many g → length (change rule g row had) ≡ many g) where
  abbrev cells_of : Grid → List ℕ → List ℕ
  cells_of g l = part l (start g) (many g)

  abbrev moved_by : World → Grid → List ℕ → World
  moved_by w g row = moved_part w (start g) (many g) (new g row) (λ t. change (rule_of w t) g row)

  abbrev moved_of : World → World
  moved_of w = moved_by w w.grid (cells_of w.grid w.air)

  -- worlds alike stay alike
  pub part_alike :
      (own : ℕ → Bool) (w v : World) → Fits w → Fits v → Alike own w v → start w.grid + many w.grid ≤ world_cells w.grid →
      Alike own (moved_of w) (moved_of v)
  part_alike own w v fw fv alike inside =
      rw (ap₂ (moved_by v) (sym alike.same_grid) (sym (ap₂ cells_of alike.same_grid alike.same_air))) same
    where
      a : ℕ
      a = start w.grid

      m : ℕ
      m = many w.grid

      row : List ℕ
      row = cells_of w.grid w.air

      row_many : length row ≡ m
      row_many = length_part w.air a m (omega (arith, fw.air_length))

      same : Alike own (moved_by w w.grid row) (moved_by v w.grid row)
      same =
          moved_alike own w v
          (written w.air a (new w.grid row))
          (written v.air a (new w.grid row))
          (λ t l. written l a (change (rule_of w t) w.grid row (part l a m)))
          (λ t l. written l a (change (rule_of v t) w.grid row (part l a m)))
          (as_many w fw a m inside (new w.grid row) (λ t. change (rule_of w t) w.grid row) (new_many _ _ row_many) (λ t. change_many _ _ row))
          (as_many v fv a m (rw (← alike.same_grid) inside) (new w.grid row) (λ t. change (rule_of v t) w.grid row) (new_many _ _ row_many) (λ t. change_many _ _ row))
          alike.same_grid
          (ap (λ (l : List ℕ). written l a (new w.grid row)) alike.same_air)
          (λ t h o.
          ap₂ (λ (b l : List ℕ). written l a (change (rule_for (limiter_in b)) w.grid row (part l a m))) (alike.same_block t o) (alike.same_gas t o))
          alike.same_block

  -- the cells afterwards come from the cells before
  module _ (w : World) (fits : Fits w) (inside : start w.grid + many w.grid ≤ world_cells w.grid) where
    row_is_many : length (cells_of w.grid w.air) ≡ many w.grid
    row_is_many = length_part w.air (start w.grid) (many w.grid) (omega (arith, fits.air_length))

    moved_air : cells_of w.grid (moved_of w).air ≡ new w.grid (cells_of w.grid w.air)
    moved_air =
        let row = cells_of w.grid w.air in
        part_air_is w fits _ _ inside (new w.grid row) (λ t. change (rule_of w t) w.grid row) (new_many _ row row_is_many) (λ t. change_many (rule_of w t) _ row)

    moved_gas :
        (t : ℕ) → t < w.grid.N →
        cells_of w.grid (gas (moved_of w) t) ≡ change (rule_of w t) w.grid (cells_of w.grid w.air) (cells_of w.grid (gas w t))
    moved_gas =
        let row = cells_of w.grid w.air in
        part_gas_is w fits _ _ inside (new w.grid row) (λ t. change (rule_of w t) w.grid row) (new_many _ row row_is_many) (λ t. change_many (rule_of w t) _ row)

  pub part_same :
      (w v : World) → Fits w → Fits v → start w.grid + many w.grid ≤ world_cells w.grid →
      SameCells start many w v → SameCells start many (moved_of w) (moved_of v)
  part_same w v fw fv inside s =
      record {
        same_grid = s.same_grid;
        same_air = moved_air w fw inside ∙ ap₂ new s.same_grid s.same_air ∙ sym (moved_air v fv inside_v);
        same_gas =
            λ t h.
            moved_gas w fw inside t h ∙
            ap₂ (λ (g : Grid) (row : List ℕ). change (rule_of w t) g row (cells_of w.grid (gas w t))) s.same_grid s.same_air ∙
            ap₂ (λ (l : Limiter) (had : List ℕ). change (rule_for l) v.grid (cells_of v.grid v.air) had) (s.same_limiters t h) (s.same_gas t h) ∙
            sym (moved_gas v fv inside_v t (rw (← s.same_grid) h));
        same_limiters = s.same_limiters;
      }
    where
      inside_v : start v.grid + many v.grid ≤ world_cells v.grid
      inside_v = rw (← s.same_grid) inside
