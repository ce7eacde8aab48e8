-- `substep::fill_parts` meets its contract.
use Rattle.std.proofs.Common.{◌≡◌, ◌∙◌, ap, rules, to_z, of_z, w32}
use Rattle.model.specs.Sweep.{forward, backward, flux, flux_part, parts}
use Rattle.substep.specs.Faces.{same_more}
use Rattle.substep.proofs.fill_parts.Goals as goal

pub loop-i-preserved : goal.loop-i-preserved
unfolding parts
loop-i-preserved c =
    let l = c.loop-i in
    let x = flux c.args.fluxes.now l.i in
    let same : to_z w32 (of_z w32 x) ≡ x = search rules in (
      search rules,
      search rules,
      same_more l.up l.down (search rules) (search rules) l.invariant.2 (c.flux_part-high.ensures.is ∙ ap (flux_part _ _) (c.from-f.ensures.high ∙ ap forward same))
          (c.flux_part-low.ensures.is ∙ ap (flux_part _ _) (c.from-f.ensures.low ∙ ap backward same)),
    )
