-- `rows::fill_pieces` meets its contract.
use Rattle.std.proofs.Common.{length, ◌≡◌, ◌∙◌, arith, rules}
use Rattle.units.specs.Limiter.{limiter_of}
use Rattle.substep.specs.Faces.{same_more}
use Rattle.rows.specs.Gas.{face_gives_high, face_high, face_gives_low, face_low}
use Rattle.rows.proofs.fill_pieces.Goals as goal

pub high_end-p-requires : goal.high_end-p-requires
high_end-p-requires c =
    rw c.new-eastward.ensures (face_gives_high (limiter_of c.args.l) _ _ c.requires.need c.requires.ratios c.requires.fit c.loop-i-test.true c.east_of-east.ensures.0 c.west_of-west.ensures.0)

pub low_end-r-requires : goal.low_end-r-requires
low_end-r-requires c =
    rw c.new-westward.ensures (face_gives_low (limiter_of c.args.l) _ _ c.requires.need c.requires.ratios c.requires.fit c.loop-i-test.true c.east_of-east.ensures.0 c.east_of-next.ensures.0)

pub loop-i-preserved : goal.loop-i-preserved
loop-i-preserved c =
    let l = c.loop-i in
    let east = c.east_of-east.ensures.0 in
    let h = c.loop-i-test.true in (
      search rules,
      search rules,
      same_more l.up l.down (search rules) (search rules) l.invariant.2
          ((rw c.new-eastward.ensures at c.high_end-p.ensures) ∙ face_high (limiter_of c.args.l) _ _ c.requires.need c.requires.ratios c.requires.fit h east c.west_of-west.ensures.0)
          ((rw c.new-westward.ensures at c.low_end-r.ensures) ∙ face_low (limiter_of c.args.l) _ _ c.requires.need c.requires.ratios c.requires.fit h east c.east_of-next.ensures.0),
    )

pub returns : goal.returns
returns c =
    let l = c.loop-i in
    let done : l.i ≡ length c.args.air.now = omega arith in
    rw done at l.invariant.2
