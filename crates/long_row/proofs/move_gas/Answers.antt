-- `long_row::move_gas` meets its contract: the amounts between the departures on the line of the row's cells.
use Rattle.std.proofs.Common.{◌∙◌, arith}
use Rattle.units.specs.Limiter.{limiter_of}
use Rattle.long_row.specs.Gas.{ratios_need, line_need, gas_by_lem}
use Rattle.long_row.proofs.move_gas.Goals as goal

pub fill_ratios-requires : goal.fill_ratios-requires
fill_ratios-requires c = ratios_need c.requires _ c.requires.departures.wide

pub tracer_between-requires : goal.tracer_between-requires
tracer_between-requires c =
    line_need c.requires (limiter_of c.args.l) c.fill_ratios.ensures c.fill_slopes.ensures (omega arith) (omega arith)

pub returns : goal.returns
returns c =
    c.copy_from_slice.ensures.after ∙
    gas_by_lem c.requires (limiter_of c.args.l) c.fill_ratios.ensures c.fill_slopes.ensures (omega arith) (omega arith)
    c.tracer_between.ensures
