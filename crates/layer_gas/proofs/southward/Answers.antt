-- `layer_gas::southward` meets its contract: a cap is its own neighbour on both sides.
use Rattle.std.proofs.Common.{◌∙◌, arith}
use Rattle.units.specs.Limiter.{limiter_of}
use Rattle.substep.specs.Pieces.{piece_low}
use Rattle.layer_gas.specs.Gas.{north_cap_near, north_near}
use Rattle.layer_gas.proofs.southward.Goals as goal

pub low_end-requires : goal.low_end-requires
low_end-requires c =
    let near = north_cap_near c.args.shape.w c.args.shape.rows c.args.i (omega arith) in
    rw c.north_of-c.ensures (c.requires.need _ _ near)

pub returns-then-n-i : goal.returns-then-n-i
returns-then-n-i c =
    let near = north_cap_near c.args.shape.w c.args.shape.rows c.args.i (omega arith) in
    rw c.north_of-c.ensures at c.low_end.ensures ∙ piece_low (limiter_of c.args.l) c.requires.ratios near _

pub low_end-requires-2 : goal.low_end-requires-2
low_end-requires-2 c =
    let near = north_near c.args.shape.w c.args.shape.rows c.args.i (omega arith) in
    rw (c.south_of-a.ensures, c.north_of-c.ensures, c.north_of-b.ensures) (c.requires.need _ _ near)

pub returns : goal.returns
returns c =
    let near = north_near c.args.shape.w c.args.shape.rows c.args.i (omega arith) in
    let piece = rw (c.south_of-a.ensures, c.north_of-c.ensures, c.north_of-b.ensures) at c.low_end-2.ensures in
    piece ∙ piece_low (limiter_of c.args.l) c.requires.ratios near _
