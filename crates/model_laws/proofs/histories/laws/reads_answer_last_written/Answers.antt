use Rattle.model_laws.proofs.OfHistories.ReadLemmas.{reads_law}
use Rattle.model_laws.proofs.histories.laws.reads_answer_last_written.Goals as goal

pub returns : goal.returns
returns c = reads_law
