use Rattle.text_script.proofs.OfSchedule.OfText.ReplayLemmas.{same_replay}
use Rattle.text_script.proofs.schedule.text.law.one_replay.Goals as goal

pub returns : goal.returns
returns c = same_replay
