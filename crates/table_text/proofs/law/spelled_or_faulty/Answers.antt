use Rattle.table_text.proofs.AnswerLemmas.{answered}
use Rattle.table_text.proofs.law.spelled_or_faulty.Goals as goal

pub returns : goal.returns
returns c = answered
