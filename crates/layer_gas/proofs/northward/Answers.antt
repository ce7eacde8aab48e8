-- `layer_gas::northward` meets its contract: a cap is its own neighbour on both sides.
use Rattle.std.proofs.Common.{◌∙◌, arith}
use Rattle.units.specs.Limiter.{limiter_of}
use Rattle.substep.specs.Pieces.{piece_high}
use Rattle.layer_gas.specs.Gas.{south_cap_near, south_near}
use Rattle.layer_gas.proofs.northward.Goals as goal

pub high_end-requires : goal.high_end-requires
high_end-requires c =
    let near = south_cap_near c.args.shape.w c.args.shape.rows c.args.i (omega arith) in
    rw c.south_of-c.ensures (c.requires.need _ _ near)

pub returns-then-i-shape : goal.returns-then-i-shape
returns-then-i-shape c =
    let near = south_cap_near c.args.shape.w c.args.shape.rows c.args.i (omega arith) in
    rw c.south_of-c.ensures at c.high_end.ensures ∙ piece_high (limiter_of c.args.l) c.requires.ratios near _

pub high_end-requires-2 : goal.high_end-requires-2
high_end-requires-2 c =
    let near = south_near c.args.shape.w c.args.shape.rows c.args.i (omega arith) c.requires.face in
    rw (c.south_of-a.ensures, c.south_of-c.ensures, c.north_of-b.ensures) (c.requires.need _ _ near)

pub returns : goal.returns
returns c =
    let near = south_near c.args.shape.w c.args.shape.rows c.args.i (omega arith) c.requires.face in
    let piece = rw (c.south_of-a.ensures, c.south_of-c.ensures, c.north_of-b.ensures) at c.high_end-2.ensures in
    piece ∙ piece_high (limiter_of c.args.l) c.requires.ratios near _
