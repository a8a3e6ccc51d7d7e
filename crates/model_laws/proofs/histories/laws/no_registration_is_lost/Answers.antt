use Rattle.model_laws.proofs.OfHistories.RegistrationLemmas.{not_lost_law}
use Rattle.model_laws.proofs.histories.laws.no_registration_is_lost.Goals as goal

pub returns : goal.returns
returns c = not_lost_law
