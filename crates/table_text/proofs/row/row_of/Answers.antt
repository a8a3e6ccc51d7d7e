use Rattle.table_text.proofs.LineLemmas.{row_read}
use Rattle.table_text.proofs.row.row_of.Goals as goal

pub returns-clause-row : goal.returns-clause-row
returns-clause-row c = row_read c.args.text.now c.first_text.result.0.now _ c.in_ok-word.word c.operands_of.result.now c.in_ok-numbers.numbers.items c.first_text.ensures c.in_ok-word.ensures c.operands_of.ensures.operands c.in_ok-numbers.ensures.value
