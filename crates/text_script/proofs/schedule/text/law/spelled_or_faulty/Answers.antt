use Rattle.text_script.proofs.OfSchedule.OfText.AnswerLemmas.{replay_answered}
use Rattle.text_script.proofs.schedule.text.law.spelled_or_faulty.Goals as goal

pub returns : goal.returns
returns c = replay_answered
