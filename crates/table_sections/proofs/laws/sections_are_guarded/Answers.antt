use Rattle.table_sections.proofs.SectionLemmas.{sections_are_guarded as law}
use Rattle.table_sections.proofs.laws.sections_are_guarded.Goals as goal

pub returns : goal.returns
returns c = law
