use Rattle.text_script.proofs.AnswerLemmas.{answered}
use Rattle.text_script.proofs.law.spelled_or_faulty.Goals as goal

pub returns : goal.returns
returns c = answered
