-- `ledger::present_units` meets its contract: the sum one emitter further.
use Rattle.std.proofs.Common.{sym, arith}
use Rattle.model.proofs.Laws.Basic.{sum_none, sum_more}
use Rattle.model.specs.Emitters.{emitter_units}
use Rattle.ledger.proofs.present_units.Goals as goal

pub loop-i-init : goal.loop-i-init
loop-i-init c = record { sum = sym (sum_none _); fits = omega arith }

pub loop-i-preserved : goal.loop-i-preserved
loop-i-preserved c = record {
  sum = grind (arith, sum_more c.loop-i.i (emitter_units c.args.block.now));
  fits = grind arith;
}
