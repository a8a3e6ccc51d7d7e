use Rattle.std.proofs.Common.{ap, ◌∙◌, option_map, subst}
use Rattle.judge_outputs.specs.Scheduling.{PrintedTurns}
use Rattle.judge_outputs.specs.Turns.{schedule_written}
use Rattle.judge_outputs.proofs.TurnLemmas.{no_turns, printed_turns}
use Rattle.judge_outputs.proofs.scheduling.tell_found.Goals as goal

pub returns-in_ok-turns_text-in-Some : goal.returns-in_ok-turns_text-in-Some
returns-in_ok-turns_text-in-Some c = λ bytes input explains.
    printed_turns c.args.sizes.now bytes c.args.output.now c.in_ok-turns_text-in-Some.field-0.items c.args.script.now c.args.history.now c.in-Some.items.items input explains
    (subst (λ o. PrintedTurns c.args.sizes.now c.args.script.now c.args.output.now c.args.history.now (option_map (λ v. v.items) o)) c.in-Some.is c.in_ok-items.ensures)
    (c.in_ok-turns_text-in-Some.ensures ∙ ap schedule_written c.deref.ensures.value)

pub returns-in-None : goal.returns-in-None
returns-in-None c = λ bytes input explains.
    no_turns c.args.sizes.now bytes c.args.output.now c.new.result.items c.args.script.now c.args.history.now input explains
    (subst (λ o. PrintedTurns c.args.sizes.now c.args.script.now c.args.output.now c.args.history.now (option_map (λ v. v.items) o)) c.in-None.is c.in_ok-items.ensures)
    c.new.ensures.items
