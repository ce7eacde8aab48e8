-- `places::fluxes_fit` meets its contract: the test one flux further.
use Rattle.std.proofs.Common.{◌&&◌, sym, ◌∙◌, ap₂, rules}
use Rattle.model.proofs.Laws.Basic.{every_none, every_more}
use Rattle.places.proofs.fluxes_fit.Goals as goal

pub loop-f-init : goal.loop-f-init
loop-f-init c = sym (every_none _)

pub loop-f-preserved : goal.loop-f-preserved
loop-f-preserved c = ap₂ ◌&&◌ c.loop-f.invariant (search rules) ∙ sym (every_more c.loop-f.f-index _)
