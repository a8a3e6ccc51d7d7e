use Rattle.check_laws.proofs.OfSections.Ordering.{read_orderly}
use Rattle.check_laws.proofs.sections.laws.scripts_are_orderly.Goals as goal

pub returns : goal.returns
returns c = read_orderly
