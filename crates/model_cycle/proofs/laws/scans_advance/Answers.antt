use Rattle.model_cycle.proofs.Progressing.{progress_law}
use Rattle.model_cycle.proofs.laws.scans_advance.Goals as goal

pub returns : goal.returns
returns c = progress_law
