use Rattle.text_script.proofs.OfSpawned.Reading.{print_once}
use Rattle.text_script.proofs.spawned.law.scripts_print_once.Goals as goal

pub returns : goal.returns
returns c = print_once
