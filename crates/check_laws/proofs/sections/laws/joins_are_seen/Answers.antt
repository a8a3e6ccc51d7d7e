use Rattle.check_laws.proofs.OfSections.Seeing.{joins_seen}
use Rattle.check_laws.proofs.sections.laws.joins_are_seen.Goals as goal

pub returns : goal.returns
returns c = joins_seen
