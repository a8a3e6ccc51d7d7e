use Rattle.check_laws.proofs.OfSections.Waiting.{some_goes_on}
use Rattle.check_laws.proofs.sections.laws.some_section_goes_on.Goals as goal

pub returns : goal.returns
returns c = some_goes_on
