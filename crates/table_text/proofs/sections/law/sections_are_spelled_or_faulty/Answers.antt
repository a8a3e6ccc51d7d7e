use Rattle.table_text.proofs.OfSections.AnswerLemmas.{answered}
use Rattle.table_text.proofs.sections.law.sections_are_spelled_or_faulty.Goals as goal

pub returns : goal.returns
returns c = answered
