use Rattle.judge_profiles.proofs.LawLemmas.{strict}
use Rattle.judge_profiles.proofs.laws.strict_shows_all.Goals as goal

pub returns : goal.returns
returns c = strict
