use Rattle.model_core.proofs.Histories.FieldLemmas.{load_answers_full}
use Rattle.do_fields.proofs.fields.fields.load.Goals as goal

pub returns-clause-full : goal.returns-clause-full
returns-clause-full c = load_answers_full _ _ _ _ _ _ _ _ _ _ c.load_as.ensures.did.answers
