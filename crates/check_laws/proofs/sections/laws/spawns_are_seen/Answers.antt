use Rattle.check_laws.proofs.OfSections.Seeing.{spawns_seen}
use Rattle.check_laws.proofs.sections.laws.spawns_are_seen.Goals as goal

pub returns : goal.returns
returns c = spawns_seen
