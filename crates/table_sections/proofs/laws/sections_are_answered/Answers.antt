use Rattle.table_sections.proofs.SectionLemmas.{sections_are_answered as answered, sections_are_beside as beside}
use Rattle.table_sections.proofs.laws.sections_are_answered.Goals as goal

pub returns-clause-beside : goal.returns-clause-beside
returns-clause-beside c = beside

pub returns-clause-shared : goal.returns-clause-shared
returns-clause-shared c = answered
