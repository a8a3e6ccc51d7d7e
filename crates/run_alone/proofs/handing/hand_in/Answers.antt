use Rattle.std.proofs.Common.{◌∙◌, Option, ap, subst, sym}
use Rattle.model_core.specs.declared.reply.Reply.{Reply}
use Rattle.run_turns.specs.Runs.{AddsRan, IsRun, NowAnswers, RunView}
use Rattle.heap_rule.specs.Limits.{sizes_in}
use Rattle.run_turns.specs.Singly.Driving.{Awaits}
use Rattle.run_turns.proofs.OfSingly.Begun.{now_answered}
use Rattle.run_alone.specs.Lone.{IsLone}
use Rattle.run_alone.specs.Paces.{last_of}
use Rattle.run_alone.proofs.Handed.{arrivals_stay, made_adds, made_arrivals, off_adds, made_lone, made_last, made_unasked, off_awaits, off_last_any, off_lone, off_may}
use Rattle.run_alone.proofs.handing.hand_in.Goals as goal

pub returns-in-Some-clause-made : goal.returns-in-Some-clause-made
returns-in-Some-clause-made c = now_answered c.args.heap.now c.args.run.now c.at_once.new.run c.args.command c.in-Some.reply c.requires.here c.at_once.ensures.here c.requires.may.more
    (subst (λ (o : Option Reply). NowAnswers c.args.heap.now c.args.run.now c.at_once.new.run c.args.command o) c.in-Some.is c.at_once.ensures.answer)

pub returns-in-Some-clause-lone : goal.returns-in-Some-clause-lone
returns-in-Some-clause-lone c = made_lone c.args.heap.now c.args.run.now c.at_once.new.run c.args.command c.in-Some.reply
    (subst (λ (o : Option Reply). NowAnswers c.args.heap.now c.args.run.now c.at_once.new.run c.args.command o) c.in-Some.is c.at_once.ensures.answer)
    c.at_once.ensures.here c.shows_faithful.ensures c.requires.alone c.requires.may.more

pub returns-in-Some-clause-last : goal.returns-in-Some-clause-last
returns-in-Some-clause-last c = made_last c.args.heap.now c.args.run.now c.at_once.new.run c.args.command c.in-Some.reply
    (subst (λ (o : Option Reply). NowAnswers c.args.heap.now c.args.run.now c.at_once.new.run c.args.command o) c.in-Some.is c.at_once.ensures.answer)

pub returns-in-Some-clause-unasked : goal.returns-in-Some-clause-unasked
returns-in-Some-clause-unasked c = made_unasked c.args.heap.now c.args.run.now c.at_once.new.run c.args.command c.in-Some.reply
    (subst (λ (o : Option Reply). NowAnswers c.args.heap.now c.args.run.now c.at_once.new.run c.args.command o) c.in-Some.is c.at_once.ensures.answer)

pub submit-requires : goal.submit-requires
submit-requires c = record {
  may = off_may c.args.heap.now c.args.run.now c.at_once.new.run c.args.command c.requires.here c.at_once.ensures.here c.requires.may
      (subst (λ (o : Option Reply). NowAnswers c.args.heap.now c.args.run.now c.at_once.new.run c.args.command o) c.in_default.is c.at_once.ensures.answer);
}

pub returns-clause-awaits : goal.returns-clause-awaits
returns-clause-awaits c = λ none. subst (λ (r : RunView). Awaits c.args.heap.now c.args.run.now.token.view c.args.command r) (sym c.submit.ensures)
    (off_awaits c.args.heap.now c.args.run.now c.at_once.new.run c.args.command c.requires.here c.at_once.ensures.here c.requires.may
    (subst (λ (o : Option Reply). NowAnswers c.args.heap.now c.args.run.now c.at_once.new.run c.args.command o) c.in_default.is c.at_once.ensures.answer))

pub returns-clause-lone : goal.returns-clause-lone
returns-clause-lone c = subst (λ (r : RunView). IsLone c.args.heap.now r) (sym c.submit.ensures)
    (off_lone c.args.heap.now c.args.run.now c.at_once.new.run c.args.command c.requires.here c.at_once.ensures.here c.requires.may
    (subst (λ (o : Option Reply). NowAnswers c.args.heap.now c.args.run.now c.at_once.new.run c.args.command o) c.in_default.is c.at_once.ensures.answer)
    (subst IsRun c.submit.ensures c.shows_faithful-2.ensures) c.requires.alone)

pub returns-clause-last : goal.returns-clause-last
returns-clause-last c = ap (λ (r : RunView). last_of c.args.heap.now.config r) c.submit.ensures
    ∙ off_last_any c.args.heap.now c.args.run.now c.at_once.new.run c.args.command c.requires.here c.at_once.ensures.here c.requires.may
    (subst (λ (o : Option Reply). NowAnswers c.args.heap.now c.args.run.now c.at_once.new.run c.args.command o) c.in_default.is c.at_once.ensures.answer)
    c.at_once.ensures.stays

pub returns-in-Some-clause-arrivals : goal.returns-in-Some-clause-arrivals
returns-in-Some-clause-arrivals c = made_arrivals c.args.heap.now c.args.run.now c.at_once.new.run c.args.command c.in-Some.reply
    (subst (λ (o : Option Reply). NowAnswers c.args.heap.now c.args.run.now c.at_once.new.run c.args.command o) c.in-Some.is c.at_once.ensures.answer)

pub returns-clause-arrivals : goal.returns-clause-arrivals
returns-clause-arrivals c = ap (λ (r : RunView). r.token.view.own.arrivals) c.submit.ensures
    ∙ arrivals_stay c.args.heap.now c.args.run.now c.at_once.new.run c.args.command
    (subst (λ (o : Option Reply). NowAnswers c.args.heap.now c.args.run.now c.at_once.new.run c.args.command o) c.in_default.is c.at_once.ensures.answer)

pub returns-in-Some-clause-ran : goal.returns-in-Some-clause-ran
returns-in-Some-clause-ran c = made_adds c.args.heap.now c.args.run.now c.at_once.new.run c.args.command c.in-Some.reply
    (subst (λ (o : Option Reply). NowAnswers c.args.heap.now c.args.run.now c.at_once.new.run c.args.command o) c.in-Some.is c.at_once.ensures.answer) c.requires.here

pub returns-clause-ran : goal.returns-clause-ran
returns-clause-ran c = subst (λ (r : RunView). AddsRan (sizes_in c.args.heap.now.config) c.args.run.now r) (sym c.submit.ensures)
    (off_adds c.args.heap.now c.args.run.now c.at_once.new.run c.args.command c.requires.here c.at_once.ensures.here c.requires.may
    (subst (λ (o : Option Reply). NowAnswers c.args.heap.now c.args.run.now c.at_once.new.run c.args.command o) c.in_default.is c.at_once.ensures.answer))
