-- `record_to_line::carry_command` meets its contract: a grid, a load, or a call.
use Rattle.record_to_line.specs.Laws.{carries_grid}
use Rattle.record_to_line.proofs.carry_command.Goals as goal

pub returns-in-Grid : goal.returns-in-Grid
returns-in-Grid c = carries_grid c.in-Grid.is c.take_grid.ensures
