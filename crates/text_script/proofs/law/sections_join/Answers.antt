use Rattle.text_script.proofs.SoleLemmas.{sections_join}
use Rattle.text_script.proofs.law.sections_join.Goals as goal

pub returns : goal.returns
returns c = sections_join
