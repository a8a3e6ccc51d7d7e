use Rattle.table_text.proofs.ReadLemmas.{only_read, refused_by}
use Rattle.table_text.proofs.read.read_table.Goals as goal

pub returns-clause-only : goal.returns-clause-only
returns-clause-only c = only_read c.args.bytes.now c.text_or_fault.result c.text_or_fault.ensures.found c.text_or_fault.ensures.fault

pub returns-clause-refused : goal.returns-clause-refused
returns-clause-refused c = refused_by c.args.bytes.now c.text_or_fault.result c.text_or_fault.ensures.found c.text_or_fault.ensures.fault
