use Rattle.table_text.proofs.OfSections.ReadLemmas.{one_text, no_fault}
use Rattle.table_text.proofs.sections.law.sections_are_spelled_once.Goals as goal

pub returns-clause-one_text : goal.returns-clause-one_text
returns-clause-one_text c = one_text

pub returns-clause-no_fault : goal.returns-clause-no_fault
returns-clause-no_fault c = no_fault
