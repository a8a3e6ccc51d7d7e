use Rattle.check_laws.proofs.OfSections.Printing.{prints_ok}
use Rattle.check_laws.proofs.sections.laws.spawns_print_ok.Goals as goal

pub returns : goal.returns
returns c = prints_ok
