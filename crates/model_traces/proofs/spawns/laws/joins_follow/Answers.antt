use Rattle.model_traces.proofs.OfSpawns.JoinLaws.{join_law}
use Rattle.model_traces.proofs.spawns.laws.joins_follow.Goals as goal

pub returns : goal.returns
returns c = join_law
