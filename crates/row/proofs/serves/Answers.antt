-- `row::serves` meets its contract.
use Rattle.std.proofs.Common.{◌+◌, ◌≡◌, ◌&&◌, length, refl, sym, ◌∙◌, ap₂, arith, rules}
use Rattle.model.specs.Sweep.{ring}
use Rattle.model.proofs.Laws.Basic.{every_none, every_more}
use Rattle.substep.specs.Faces.{AreParts}
use Rattle.substep.specs.Cells.{air_moves}
use Rattle.row.specs.Substeps.{may, chain_start, may_here, after_here, serves_is, serves_not}
use Rattle.row.proofs.serves.Goals as goal
use Rattle.row.proofs.serves.Goals.{After-row_allowed}

-- what is lent on has the parts of substep s + 1
are_parts : (c : After-row_allowed) → AreParts c.args.fluxes.now c.args.n (c.loop-s.s + 1) c.lent-passes.result.up.now c.lent-passes.result.down.now
are_parts c = rw (c.lent-passes.ensures.0, c.lent-passes.ensures.1) c.fill_parts.ensures

-- the test was that of substep s + 1
test_is : (c : After-row_allowed) → may c.args.fluxes.now c.args.n c.args.air.now c.loop-s.s ≡ c.row_allowed.result
test_is c =
    let a = c.args in
    let l = c.loop-s in
    let passes = c.lent-passes.result in
    let long : length l.air ≡ length a.fluxes.now = l.auto.air ∙ c.requires.long in
    sym (c.row_allowed.ensures ∙ may_here a.fluxes.now a.n a.air.now l.s passes.up.now passes.down.now l.air (are_parts c) l.invariant.0 long)

pub loop-s-init : goal.loop-s-init
loop-s-init c = (chain_start c.args.fluxes.now c.args.n c.args.air.now, every_none _)

pub returns-then-not-row_allowed : goal.returns-then-not-row_allowed
returns-then-not-row_allowed c =
    let a = c.args in
    sym
    (serves_not a.fluxes.now a.n a.air.now c.loop-s.s c.loop-s-test.true (test_is (goal.at.returns-then-not-row_allowed c).After-row_allowed ∙ c.if-not-row_allowed.true))

pub pass-requires : goal.pass-requires
unfolding ring
pass-requires c =
    record {
      room = search rules;
      moves = air_moves _ _ _ refl (sym c.row_allowed.ensures ∙ c.if-not-row_allowed.false);
    }

pub loop-s-preserved : goal.loop-s-preserved
loop-s-preserved c =
    let a = c.args in
    let l = c.loop-s in
    let seen = (goal.at.loop-s-preserved c).After-row_allowed in
    let passes = c.lent-passes.result in
    let long : length l.air ≡ length a.fluxes.now = l.auto.air ∙ c.requires.long in
    let after_is = after_here a.fluxes.now a.n a.air.now l.s passes.up.now passes.down.now l.air (are_parts seen) l.invariant.0 long in (
      c.pass.ensures ∙ after_is,
      every_more l.s (may a.fluxes.now a.n a.air.now) ∙ ap₂ ◌&&◌ l.invariant.1 (test_is seen ∙ c.if-not-row_allowed.false),
    )

pub returns : goal.returns
returns c =
    let l = c.loop-s in
    let a = c.args in
    let done : l.s ≡ a.n = omega arith in
    sym (rw done at l.invariant.1) ∙ serves_is a.fluxes.now a.n a.air.now
