-- `record_to_line::carry_out` meets its contract: what the reader finds, and what comes of it.
use Rattle.std.proofs.Common.{ℕ, ◌∙◌, ap}
use Rattle.program.specs.Records.{line}
use Rattle.stages.specs.Buffers.{buffers_in}
use Rattle.record_to_line.specs.Carry.{carries_nothing, carries_none, carries_fault, carry_need, carries_record}
use Rattle.record_to_line.proofs.carry_out.Goals as goal

pub returns-in_err-byte : goal.returns-in_err-byte
returns-in_err-byte c =
    rw c.from_residual.ensures (carries_nothing c.args.stage c.args.input.now (buffers_in c.args.buffers.now) c.in_err-byte.ensures.cases)

pub returns-in-Err : goal.returns-in-Err
returns-in-Err c =
    let input = c.in_ok-byte.ensures.cases.0 in
    let finds = rw input at c.in-Err.ensures in
    let kind = ap (λ (k : ℕ). line k c.from.result 0) c.from-kind.ensures in
    rw input (carries_fault c.settled-sound.ensures (buffers_in c.args.buffers.now) finds c.from.ensures (c.last_line.ensures.0 ∙ kind) c.last_line.ensures.1)

pub returns-in-Ok-None : goal.returns-in-Ok-None
returns-in-Ok-None c =
    let input = c.in_ok-byte.ensures.cases.0 in
    let finds = rw (c.in-Ok-None.field-0-is, input) at c.in-Ok-None.ensures in
    rw input (carries_none c.settled-sound.ensures (buffers_in c.args.buffers.now) finds)

pub carry_command-requires : goal.carry_command-requires
carry_command-requires c =
    let finds = rw (c.in-Ok-Some.field-0-is, c.in_ok-byte.ensures.cases.0) at c.in-Ok-Some.ensures in
    carry_need c.settled-sound.ensures finds (buffers_in c.args.buffers.now) c.grid.result c.grid.ensures

pub returns-in-Ok-Some : goal.returns-in-Ok-Some
returns-in-Ok-Some c =
    let input = c.in_ok-byte.ensures.cases.0 in
    let finds = rw (c.in-Ok-Some.field-0-is, input) at c.in-Ok-Some.ensures in
    rw input
    (carries_record c.settled-sound.ensures finds (buffers_in c.args.buffers.now) c.grid.result c.grid.ensures (rw c.from-kind.ensures at c.carry_command.ensures))
