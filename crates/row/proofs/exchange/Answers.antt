-- `row::exchange` meets its contract.
use Rattle.std.proofs.Common.{arith}
use Rattle.substep.specs.Faces.{flow_of}
use Rattle.row.specs.Columns.{column}
use Rattle.row.proofs.exchange.Goals as goal

pub returns : goal.returns
returns g c =
    let a = c.args in
    record {
      cell =
          column a.w a.i c.requires.0 (flow_of a.flow.up.now a.flow.down.now) c.west_of-west.ensures.0
          (rw (c.new.ensures, c.new-2.ensures) at c.both-enters.ensures.0) (rw (c.new-3.ensures, c.new-4.ensures) at c.both-leaves.ensures.0);
      sums = record { into = omega arith; from = omega arith };
    }
