use Rattle.check_laws.proofs.OfTexts.Parting.{found, gone}
use Rattle.check_laws.proofs.texts.laws.texts_part.Goals as goal

pub returns-clause-found : goal.returns-clause-found
returns-clause-found c = found

pub returns-clause-gone : goal.returns-clause-gone
returns-clause-gone c = gone
