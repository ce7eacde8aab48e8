-- That the fixed limiter's promise is for one substep and not for a list (y7-133), computed: after a load of one ratio, half a unit of gas to a unit of air, a flux of 1 out of column 1, five hundred times. No piece of one unit of air has a unit of gas, so the gas stays, and at last column 1 has as much gas as air, twice the ratio, under each limiter: three gases, the third with both bounds at the ratio.
-- Assumes nothing. It stands here and not in the model, whose edits would compute it anew each.
use Rattle.std.specs.Prelude.{[], ◌∷◌, ◌≡◌, refl, pos, replicate}
use Rattle.model.specs.World.{World}
use Rattle.model.specs.Step.{zonal, set_limiter}
use Rattle.model.specs.Lists.{loaded_world, after}
use Rattle.model.proofs.Cases.{computes}
use Rattle.model.proofs.Cases.Marked.{grid, world, four, six}
use Rattle.model.proofs.Cases.Limiters.{first, positive, fixed, blocks, lent}

abbrev half_full : World
half_full = world (grid 4 1 1 3) (replicate 6 1000) (replicate 18 500)

pub not_for_a_list :
    after (loaded_world half_full)
    (set_limiter 1 2 0 0 ∷ set_limiter 2 3 131072 131072 ∷ replicate 500 (zonal 0 0 (four (pos 0) (pos 1) (pos 0) (pos 0)))) ≡
    lent (grid 4 1 1 3) (six 1000 1000 500 1500 1000 1000) (replicate 18 500) (blocks (first ∷ positive ∷ fixed 131072 131072 ∷ []))
unfolding after blocks computes
not_for_a_list = refl
