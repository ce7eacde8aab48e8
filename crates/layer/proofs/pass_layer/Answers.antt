-- `layer::pass_layer` meets its contract: the south cap is passed on, then the rows, then the north cap.
use Rattle.std.proofs.Common.{set, rules}
use Rattle.layer.specs.Passing.{PassingRows, south_exchange, south_begun, north_exchange, north_all}
use Rattle.layer.proofs.pass_layer.Given as given
use Rattle.layer.proofs.pass_layer.Goals as goal
use Rattle.layer.proofs.pass_layer.Goals.{After-after}

pub after-requires : goal.after-requires
after-requires g c = (search rules, (search rules, rw c.new.ensures (south_exchange c.args.shape.w c.args.shape.rows c.requires.1 c.cap-south_in.ensures c.cap-south_out.ensures)))

-- the amounts once the south cap's is passed on
abbrev begun :
    (g : given.Over) (c : After-after g) →
    PassingRows c.args.shape.w c.args.shape.rows (set c.args.amounts.now 0 c.after.result.0) c.args.flow.up.now c.args.flow.down.now
begun g c = south_begun c.requires c.cap-south_in.ensures c.cap-south_out.ensures (rw c.new.ensures at c.after.ensures)

pub pass_rows-requires : goal.pass_rows-requires
pass_rows-requires g c = begun g (goal.at.pass_rows-requires g c).After-after

pub after-requires-2 : goal.after-requires-2
after-requires-2 g c =
    (search rules, (search rules, rw c.new-2.ensures (north_exchange c.args.shape.w c.args.shape.rows (begun g (goal.at.after-requires-2 g c).After-after).1 c.pass_rows.ensures.1 c.cap-north_in.ensures c.cap-north_out.ensures)))

pub returns : goal.returns
returns g c =
    north_all c.args.shape.w c.args.shape.rows (begun g (goal.at.returns g c).After-after).1 c.pass_rows.ensures.1 c.cap-north_in.ensures c.cap-north_out.ensures (rw c.new-2.ensures at c.after-2.ensures)
