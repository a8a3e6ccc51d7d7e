use Rattle.run_turns.proofs.Beginning.{begins_listed}
use Rattle.run_turns.proofs.run.DomainRun.make.Goals as goal

pub begin-requires-clause-run : goal.begin-requires-clause-run
begin-requires-clause-run c = begins_listed c.args.dom c.args.commands.items c.args.hints c.requires.begins c.requires.deck
