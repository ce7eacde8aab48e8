-- `layer_gas::step_layer_gas` meets its contract: all pieces are taken, and then passed on.
use Rattle.std.proofs.Common.{ℕ, sym, subst, ◌∙◌, arith, rules}
use Rattle.model.proofs.Laws.Layer.{layer_regular}
use Rattle.units.specs.Limiter.{limiter_of}
use Rattle.substep.specs.Pieces.{HasAir, has_air, gas_moves, gas_after_lem}
use Rattle.layer.specs.Cells.{layer_cells_lem}
use Rattle.layer_gas.proofs.step_layer_gas.Goals as goal

pub fill_ratios-requires : goal.fill_ratios-requires
fill_ratios-requires c =
    let a = c.args in
    let need = c.requires.need in
    let some = has_air need a.q.now (omega (arith, layer_cells_lem a.shape.w a.shape.rows, c.requires.ratios)) in
    subst (λ (n : ℕ). HasAir n a.air.now a.gas.now a.q.now) (sym need.air_long) some

pub pass_layer-requires : goal.pass_layer-requires
pass_layer-requires c =
    let a = c.args in
    let need = c.requires.need in
    let long = need.gas_long ∙ layer_cells_lem a.shape.w a.shape.rows in (
      record { long = long; faces = search rules },
      gas_moves (limiter_of a.l) (layer_regular a.shape.w a.shape.rows) need c.fill_pieces.ensures,
    )

pub returns : goal.returns
returns c =
    let a = c.args in
    c.pass_layer.ensures ∙ gas_after_lem (limiter_of a.l) (layer_regular a.shape.w a.shape.rows) c.requires.need c.fill_pieces.ensures
