-- `layer_gas::fill_pieces` meets its contract.
use Rattle.std.proofs.Common.{◌≡◌, ◌∙◌, arith, rules}
use Rattle.model.specs.Sweep.{layer}
use Rattle.units.specs.Limiter.{limiter_of}
use Rattle.substep.specs.Faces.{same_more}
use Rattle.layer.specs.Cells.{layer_faces}
use Rattle.layer_gas.specs.Gas.{gives_north, gives_south, piece_north, piece_south}
use Rattle.layer_gas.proofs.fill_pieces.Goals as goal

pub northward-p-requires : goal.northward-p-requires
northward-p-requires c =
    rw c.new-to_north.ensures (gives_north (limiter_of c.args.l) c.args.shape.w c.args.shape.rows _ _ c.requires.0.need c.requires.0.ratios c.requires.1 c.loop-i.i c.loop-i-test.true)

pub southward-r-requires : goal.southward-r-requires
southward-r-requires c =
    rw c.new-to_south.ensures (gives_south (limiter_of c.args.l) c.args.shape.w c.args.shape.rows _ _ c.requires.0.need c.requires.0.ratios c.requires.1 c.loop-i.i c.loop-i-test.true)

pub loop-i-preserved : goal.loop-i-preserved
loop-i-preserved c =
    let l = c.loop-i in
    let limiter = limiter_of c.args.l in (
      search rules,
      search rules,
      same_more l.gas_up l.gas_down (search rules) (search rules) l.invariant.2
          (rw c.new-to_north.ensures at c.northward-p.ensures ∙ piece_north limiter c.args.shape.w c.args.shape.rows _ _ c.requires.0.need c.requires.0.ratios c.requires.1 l.i c.loop-i-test.true)
          (rw c.new-to_south.ensures at c.southward-r.ensures ∙ piece_south limiter c.args.shape.w c.args.shape.rows _ _ c.requires.0.need c.requires.0.ratios c.requires.1 l.i c.loop-i-test.true),
    )

pub returns : goal.returns
returns c =
    let l = c.loop-i in
    let done : l.i ≡ (layer c.args.shape.w c.args.shape.rows).faces = omega (arith, layer_faces c.args.shape.w c.args.shape.rows) in
    rw done at l.invariant.2
