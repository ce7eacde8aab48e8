-- `row::row_allowed` meets its contract.
use Rattle.std.proofs.Common.{ℕ, ◌≡◌, ◌&&◌, length, sym, ◌∙◌, ap, ap₂, arith, false}
use Rattle.model.specs.Sweep.{ring}
use Rattle.model.proofs.Laws.Basic.{every_none, every_more, every_false}
use Rattle.substep.specs.Faces.{flow_of}
use Rattle.substep.specs.Cells.{may_pass, cell_allowed, cell_allows}
use Rattle.row.specs.Columns.{allowed_columns}
use Rattle.row.proofs.row_allowed.Goals as goal
use Rattle.row.proofs.row_allowed.Goals.{After-cell_allows}

-- what the test of column i found
test_is :
    (c : After-cell_allows) →
    c.cell_allows.result ≡ cell_allowed (ring (length c.args.air.now)) (flow_of c.args.flow.up.now c.args.flow.down.now) c.args.air.now c.loop-i.i
test_is c = c.cell_allows.ensures ∙ ap (λ (m : ℕ). may_pass m c.exchange.result.0.0 c.exchange.result.1.0) c.new.ensures ∙ cell_allows c.exchange.ensures.cell c.args.air.now

pub loop-i-init : goal.loop-i-init
loop-i-init c = every_none _

pub returns-then-not-cell_allows : goal.returns-then-not-cell_allows
returns-then-not-cell_allows c =
    let a = c.args in
    let test = cell_allowed (ring (length a.air.now)) (flow_of a.flow.up.now a.flow.down.now) a.air.now in
    let not : test c.loop-i.i ≡ false = sym (test_is (goal.at.returns-then-not-cell_allows c).After-cell_allows) ∙ c.if-not-cell_allows.true in
    sym (every_false (length a.air.now) test c.loop-i.i c.loop-i-test.true not) ∙ allowed_columns _ _ _

pub loop-i-preserved : goal.loop-i-preserved
loop-i-preserved c =
    every_more c.loop-i.i _ ∙ ap₂ ◌&&◌ c.loop-i.invariant (sym (test_is (goal.at.loop-i-preserved c).After-cell_allows) ∙ c.if-not-cell_allows.false)

pub returns : goal.returns
returns c =
    let done : c.loop-i.i ≡ length c.args.air.now = omega arith in
    sym (rw done at c.loop-i.invariant) ∙ allowed_columns _ _ _
