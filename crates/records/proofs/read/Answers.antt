-- `records::read` meets its contract: the tests in their order, and the body after the kind byte handed to the parser.
use Rattle.std.proofs.Common.{arith}
use Rattle.std.proofs.lemmas.Result.{err_from_is_err_and}
use Rattle.stages.specs.Laws.{stage_small}
use Rattle.records.specs.Laws.{finds_nothing, finds_misplaced, finds_short, finds_record}
use Rattle.records.proofs.read.Goals as goal

pub returns-in_default : goal.returns-in_default
returns-in_default c = finds_nothing c.args.stage c.args.input.now c.in_default.ensures.cases

pub returns-in_err-kind : goal.returns-in_err-kind
returns-in_err-kind c =
    let p = err_from_is_err_and c.from_residual.result c.from_residual.ensures.1 in
    rw (p.1, p.2, c.in-Some.ensures.cases.0) (finds_misplaced c.settled-sound.ensures _ c.in_err-kind.ensures _)

pub body_length-requires : goal.body_length-requires
body_length-requires c = stage_small c.settled-sound.result _ c.grid.ensures c.settled-sound.ensures.taken

pub returns-then-body-body_length : goal.returns-then-body-body_length
returns-then-body-body_length c =
    rw (c.in-Some.ensures.cases.0)
    (finds_short c.settled-sound.ensures _ c.in_ok-kind.kind c.in_ok-kind.ensures c.grid.ensures (omega arith))

pub returns : goal.returns
returns c =
    rw (c.in-Some.ensures.cases.0)
    (finds_record c.settled-sound.ensures _ c.in_ok-kind.kind c.in_ok-kind.ensures c.grid.ensures (omega arith) c.parse.ensures)
