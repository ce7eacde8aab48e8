-- `record_to_line::take_grid` meets its contract: the two outcomes of a grid's record.
use Rattle.std.proofs.Common.{sym, ◌∙◌}
use Rattle.record_to_line.specs.Laws.{refused_nonzero, grid_taken, grid_refused}
use Rattle.record_to_line.proofs.take_grid.Goals as goal

pub returns-in-Err : goal.returns-in-Err
returns-in-Err c =
    let number = c.from.ensures in
    grid_refused c.args.kind c.args.wanted _ (sym (rw c.in-Err.is at c.grid_refusal.ensures) ∙ sym number) (λ e. refused_nonzero c.in-Err.refusal (sym number ∙ e)) c.last_line.ensures.0 c.last_line.ensures.1

pub returns-in-Ok : goal.returns-in-Ok
returns-in-Ok c = grid_taken c.args.kind c.args.wanted (sym (rw c.in-Ok.is at c.grid_refusal.ensures)) c.line_of.ensures
