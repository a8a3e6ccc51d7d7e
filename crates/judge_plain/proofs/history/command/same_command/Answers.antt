use Rattle.judge_plain.proofs.OfHistory.RowLemmas.{rows_tell}
use Rattle.judge_plain.proofs.history.command.same_command.Goals as goal

pub returns : goal.returns
returns c = rows_tell c.args.x c.args.y c.row_of_command.result c.row_of_command-2.result c.same_rows.result c.row_of_command.ensures c.row_of_command-2.ensures c.same_rows.ensures
