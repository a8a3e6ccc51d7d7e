use Rattle.std.proofs.Common.{sym, subst}
use Rattle.run_turns.specs.declared.place.Place.{Place}
use Rattle.run_turns.specs.declared.supply.Supply.TheVariants.{Section}
use Rattle.run_turns.specs.Runs.{IsRun, standing}
use Rattle.run_turns.proofs.BeginningSection.{begins_section}
use Rattle.run_turns.proofs.run.DomainRun.make_spawning.Goals as goal

pub begin-requires-clause-run : goal.begin-requires-clause-run
begin-requires-clause-run c = subst (λ (p : Place). IsRun (standing c.args.dom c.args.commands.items c.args.hints Section p)) (sym c.first_place-place.ensures) (begins_section c.args.dom c.args.commands.items c.args.hints c.args.spawned c.requires.begins c.requires.deck)
