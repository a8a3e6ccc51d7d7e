use Rattle.std.proofs.Common.{arith}
use Rattle.table_text.proofs.OfSections.ReadLemmas.{only_read, refused_by}
use Rattle.table_text.proofs.sections.read.read_sections.Goals as goal

pub returns-clause-only : goal.returns-clause-only
returns-clause-only c = only_read c.args.domains c.args.bytes.now c.sections_or_fault.result (omega arith) c.sections_or_fault.ensures.found c.sections_or_fault.ensures.fault

pub returns-clause-refused : goal.returns-clause-refused
returns-clause-refused c = refused_by c.args.domains c.args.bytes.now c.sections_or_fault.result (omega arith) c.sections_or_fault.ensures.found c.sections_or_fault.ensures.fault
