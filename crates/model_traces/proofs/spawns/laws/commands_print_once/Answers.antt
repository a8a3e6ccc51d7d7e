use Rattle.model_traces.proofs.OfSpawns.Printing.{print_law}
use Rattle.model_traces.proofs.spawns.laws.commands_print_once.Goals as goal

pub returns : goal.returns
returns c = print_law
