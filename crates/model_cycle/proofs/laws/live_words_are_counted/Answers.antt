use Rattle.model_cycle.proofs.Counting.{count_law}
use Rattle.model_cycle.proofs.laws.live_words_are_counted.Goals as goal

pub returns : goal.returns
returns c = count_law
