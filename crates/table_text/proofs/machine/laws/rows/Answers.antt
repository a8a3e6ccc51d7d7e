use Rattle.table_text.proofs.OfMachine.RowLemmas.{binding_row, slot_row}
use Rattle.table_text.proofs.machine.laws.rows.Goals as goal

pub returns-clause-bindings : goal.returns-clause-bindings
returns-clause-bindings c = binding_row

pub returns-clause-slots : goal.returns-clause-slots
returns-clause-slots c = slot_row
