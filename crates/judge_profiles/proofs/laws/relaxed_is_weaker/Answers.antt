use Rattle.judge_profiles.proofs.LawLemmas.{weaker}
use Rattle.judge_profiles.proofs.laws.relaxed_is_weaker.Goals as goal

pub returns : goal.returns
returns c = weaker
