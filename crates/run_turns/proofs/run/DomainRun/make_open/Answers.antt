use Rattle.std.proofs.Common.{List, sym, subst}
use Rattle.model_core.specs.declared.command.Command.{Command}
use Rattle.run_turns.specs.declared.supply.Supply.TheVariants.{Open}
use Rattle.run_turns.specs.Runs.{IsRun, unturned}
use Rattle.run_turns.proofs.Beginning.{begins_open}
use Rattle.run_turns.proofs.run.DomainRun.make_open.Goals as goal

pub begin-requires-clause-run : goal.begin-requires-clause-run
begin-requires-clause-run c = subst (λ (cs : List Command). IsRun (unturned c.args.dom cs c.args.hints Open)) (sym c.in_ok-commands.ensures.items) (begins_open c.args.dom c.args.hints c.requires.begins c.requires.deck)
