-- The layer of all tracers, swept tracer by tracer where it is lent.
use Rattle.std.specs.Prelude.{ℕ, ◌+◌, ◌*◌, ◌-◌, ◌≤◌, ◌<◌, List, true, ◌≡◌, length}
use Rattle.std.proofs.Common.{sym, ap, ap₂, ◌∙◌, le_of_eq, arith}
use Rattle.std.proofs.Math.Nat.{le_trans}
use borrow.Rule.Slice.PartMut.{put_mid}
use Rattle.model.specs.Limits.{total_limit, most_amounts, most_layer_cells, most_faces, block_numbers}
use Rattle.model.specs.Basic.{at, part, written, joined, tab, sum}
use Rattle.model.specs.World.{Grid, layer_cells, world_cells}
use Rattle.model.specs.Scheme.{Rule}
use Rattle.model.specs.Limiters.{Limiter, rule_for}
use Rattle.model.specs.Sweep.{Flow, layer, allowed}
use Rattle.model.proofs.Laws.Basic.{length_part, length_written}
use Rattle.model.proofs.Laws.Entries.{part_sum_le}
use Rattle.model.proofs.Laws.Grid.{InRange, amounts_most}
use Rattle.model.proofs.Laws.Layer.{layer_regular}
use Rattle.model.proofs.Laws.Substep.{AirIn, length_after_flow}
use Rattle.units.specs.Limiter.{limiter_at}
use Rattle.units.specs.Limiter as units
use Rattle.units.specs.EachTracer.{Changes, changed_up_to, gas_inside, length_gas, length_up_to, part_kept, part_more}
use Rattle.substep.specs.Faces.{flow_of, Same, stepped, same_stepped}
use Rattle.substep.specs.Pieces.{GasNeed}
use Rattle.units.specs.Lent.{part_lent, put_back}
use Rattle.layer_gas.specs.Gas.{Step}
use Rattle.meridional.specs.LayerPlace.{Rooms, layer_size, rooms_serve}

-- a layer's cells from cell `first` on, in tracers and a ledger of the grid's lengths, and an allowed substep over the layer's air
pub record LayerTracersNeed (g : Grid) (tracers ledger air : List ℕ) (flow : Flow) (first : ℕ) : Type 0 where
  pub range : InRange g
  pub tracers_long : length tracers ≡ g.N * world_cells g
  pub ledger_long : length ledger ≡ g.N * block_numbers
  pub inside : first + layer_cells g ≤ world_cells g
  pub air_long : length air ≡ layer_cells g
  pub air_in : AirIn (layer_cells g) air
  pub permits : allowed (layer g.W g.R) flow air ≡ true
  pub total : (t : ℕ) → t < g.N → sum (world_cells g) (at (part tracers (t * world_cells g) (world_cells g))) ≤ total_limit

-- tracer t's amounts with its layer swept
abbrev pub swept_one : Grid → List ℕ → List ℕ → List ℕ → Flow → ℕ → ℕ → List ℕ
swept_one g tracers ledger air flow first t =
    let had : List ℕ = part tracers (t * world_cells g) (world_cells g) in
    written had first (stepped (rule_for (limiter_at ledger t)) (layer g.W g.R) flow air (part had first (layer_cells g)))

-- those of all tracers
abbrev pub swept_tracers : Grid → List ℕ → List ℕ → List ℕ → Flow → ℕ → List ℕ
swept_tracers g tracers ledger air flow first = joined (tab g.N (swept_one g tracers ledger air flow first))

-- flows that agree at every face of the layer sweep them alike
pub swept_same : (g : Grid) (tracers ledger air : List ℕ) (first : ℕ) {one other : Flow} → Same (layer g.W g.R).faces one other →
    swept_tracers g tracers ledger air one first ≡ swept_tracers g tracers ledger air other first
swept_same g tracers ledger air first same =
    λ i.
    joined
    (tab g.N
    (λ t.
    let had : List ℕ = part tracers (t * world_cells g) (world_cells g) in
    written had first (same_stepped (layer g.W g.R) (layer_regular g.W g.R) same (rule_for (limiter_at ledger t)) air (part had first (layer_cells g)) i)))

-- all amounts when the first t tracers are swept
abbrev pub swept_up_to : Grid → List ℕ → List ℕ → List ℕ → Flow → ℕ → ℕ → List ℕ
swept_up_to g tracers ledger air flow first t = changed_up_to tracers (world_cells g) (swept_one g tracers ledger air flow first) t

module _ {g : Grid} {tracers ledger air : List ℕ} {flow : Flow} {first : ℕ} (need : LayerTracersNeed g tracers ledger air flow first) where
  abbrev all : ℕ
  all = world_cells g

  abbrev width : ℕ
  width = layer_cells g

  abbrev gas_of : ℕ → List ℕ
  gas_of t = part tracers (t * all) all

  length_passed : (rule : Rule) (gas : List ℕ) → length (stepped rule (layer g.W g.R) flow air gas) ≡ width
  unfolding layer
  length_passed rule gas = length_after_flow (layer g.W g.R) _ gas

  length_gas_of : {t : ℕ} → t < g.N → length (gas_of t) ≡ all
  length_gas_of h = length_gas tracers g.N all need.tracers_long h

  pub swept_changes : Changes tracers g.N all (swept_one g tracers ledger air flow first)
  swept_changes =
      record {
        long = need.tracers_long;
        sized = λ t h. length_written (gas_of t) _ first width all (length_gas_of h) (length_passed _ _) need.inside;
      }

  -- where tracer t's layer lies
  layer_room : (t : ℕ) → t < g.N → (t * all + first + width ≤ length tracers) × (t * all + first + width ≤ most_amounts)
  layer_room t h =
      let own = gas_inside tracers g.N all need.tracers_long h in
      let inside = need.inside in
      (omega arith, omega (arith, amounts_most need.range, need.tracers_long))

  pub layer_near : {t : ℕ} → t < g.N → {cells wide : ℕ} → cells ≡ all → wide ≡ width → t * cells + first + wide ≤ most_amounts
  layer_near {t} h same alike = rw (same, alike) (layer_room t h).1

  -- where its block lies
  pub block_room : {t : ℕ} → t < g.N → (t * block_numbers + block_numbers ≤ length ledger) × (t < 8)
  block_room {t} h =
      units.block_room ledger (le_of_eq (sym need.ledger_long)) need.range.high_n h

  -- tracer t's layer as it is lent when the tracers before it are swept: what it was
  module _
      {t : ℕ} (h : t < g.N) {now : List ℕ} (e : now ≡ swept_up_to g tracers ledger air flow first t) {cells wide : ℕ}
      (same : cells ≡ all) (alike : wide ≡ width) where
    abbrev lent : List ℕ
    lent = part now (t * cells + first) (t * cells + first + wide - (t * cells + first))

    lent_is : lent ≡ part (gas_of t) first width
    lent_is =
        part_lent now (t * cells + first) wide ∙
        ap₂ (λ (m k : ℕ). part now (t * m + first) k) same alike ∙
        part_kept swept_changes h e first width need.inside

    pub lent_inside : t * cells + first + wide ≤ length now
    lent_inside = rw (same, alike, e, length_up_to swept_changes {t = t} (omega arith)) (layer_room t h).0

    pub lent_need : GasNeed (layer g.W g.R) flow air lent
    unfolding layer
    lent_need =
        rw lent_is
        (record {
          air_long = need.air_long;
          gas_long = length_part (gas_of t) first width (rw (length_gas_of h) need.inside);
          air_in = need.air_in;
          permits = need.permits;
          total = le_trans (part_sum_le all (gas_of t) first width need.inside) (need.total t h);
        })

    -- one more, with the limiter l that was read
    pub swept_more : {l : Limiter} → l ≡ limiter_at ledger t → {new : List ℕ} → new ≡ stepped (rule_for l) (layer g.W g.R) flow air lent →
        put_mid (t * cells + first) (t * cells + first + wide - (t * cells + first)) now new ≡ swept_up_to g tracers ledger air flow first (t + 1)
    swept_more {l} read {new} f =
        let long : length new ≡ width = ap length f ∙ length_passed (rule_for l) lent in
        let own : new ≡ stepped (rule_for (limiter_at ledger t)) (layer g.W g.R) flow air (part (gas_of t) first width) =
        f ∙ ap₂ (λ (l : Limiter) (gas : List ℕ). stepped (rule_for l) (layer g.W g.R) flow air gas) read lent_is in
        put_back now new (t * cells + first) wide (long ∙ sym alike) ∙
        ap (λ (m : ℕ). written now (t * m + first) new) same ∙
        part_more swept_changes h e new first (omega (arith, need.inside)) (ap (written (gas_of t) first) own)

-- with the room that `sweep_tracers` declares
pub step_need : {g : Grid} → InRange g → {air gas airup airdown q gasup gasdown : List ℕ} → Rooms airup airdown → length q ≡ most_layer_cells →
    length gasup ≡ most_faces → length gasdown ≡ most_faces → GasNeed (layer g.W g.R) (flow_of airup airdown) air gas →
    Step g.W g.R air gas airup airdown q gasup gasdown
step_need range rooms ratios northward southward need =
    record {
      passes = rooms_serve range rooms;
      ratios = omega (arith, ratios, (layer_size range).cells);
      pieces = rooms_serve range (record { high = omega arith; low = omega arith });
      need = need;
    }
