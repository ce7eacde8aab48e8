-- `scheme::ratio` meets its contract: the quotient is the model's.
use Rattle.std.proofs.Common.{refl}
use Rattle.model.specs.Scheme.{ratio}
use Rattle.scheme.proofs.ratio.Goals as goal

pub returns : goal.returns
unfolding ratio
returns c = refl
