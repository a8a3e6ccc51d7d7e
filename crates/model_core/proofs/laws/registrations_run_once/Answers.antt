use Rattle.model_core.proofs.Collections.RegistrationLemmas.{registrations_law}
use Rattle.model_core.proofs.laws.registrations_run_once.Goals as goal

pub returns : goal.returns
returns c = registrations_law
