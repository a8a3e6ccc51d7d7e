use Rattle.model_core.proofs.Histories.FieldLemmas.{fields_law}
use Rattle.model_core.proofs.laws.fields_are_full.Goals as goal

pub returns : goal.returns
returns c = fields_law
