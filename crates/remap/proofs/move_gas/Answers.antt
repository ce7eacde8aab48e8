-- `remap::move_gas` meets its contract: the column copied with its ratios, remapped and written back.
use Rattle.std.proofs.Common.{arith, rules}
use Rattle.remap.specs.Gas.{ratios_need, gas_need, gas_moved_lem}
use Rattle.remap.proofs.move_gas.Goals as goal

pub read_ratios-requires : goal.read_ratios-requires
read_ratios-requires c = (c.requires.column, ratios_need c.requires _ _ (search rules) (search rules))

pub remap_gas-walked-requires : goal.remap_gas-walked-requires
remap_gas-walked-requires c =
    let made = c.read_ratios.ensures in
    gas_need c.requires _ made.0 made.1 (omega arith) (omega arith) (omega arith) (omega arith)

pub write_column-requires : goal.write_column-requires
write_column-requires c = (c.requires.column, omega arith)

pub returns : goal.returns
returns c =
    let made = c.remap_gas-walked.ensures in
    (gas_moved_lem c.requires _ c.read_ratios.ensures.0 c.is_cap-cap.ensures made c.write_column.ensures, made.exact, made.counted)
