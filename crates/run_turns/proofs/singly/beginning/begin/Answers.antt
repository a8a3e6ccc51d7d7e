use Rattle.std.proofs.Common.{sym, subst}
use Rattle.std.specs.Prelude.{Option}
use Rattle.model_core.specs.declared.reply.Reply.{Reply}
use Rattle.run_turns.specs.Runs.{AddsRan, NowAnswers, submitted}
use Rattle.heap_rule.specs.Limits.{sizes_in}
use Rattle.run_turns.proofs.Adding.{adds_on, now_adds, submit_adds}
use Rattle.run_turns.proofs.AtOnce.{has_waited}
use Rattle.run_turns.proofs.OfSingly.Begun.{handed_in, may_still, now_answered}
use Rattle.run_turns.proofs.singly.beginning.begin.Goals as goal

pub returns-in-Some-clause-answers : goal.returns-in-Some-clause-answers
returns-in-Some-clause-answers c = now_answered c.args.heap.now c.args.run.now c.perform_now.new.self c.args.command c.in-Some.reply c.requires.here c.perform_now.ensures.here c.requires.may.more
    (subst (λ (o : Option Reply). NowAnswers c.args.heap.now c.args.run.now c.perform_now.new.self c.args.command o) c.in-Some.is c.perform_now.ensures.answer)

pub submit-requires : goal.submit-requires
submit-requires c = record {
  may = may_still c.args.run.now c.perform_now.new.self c.args.command c.requires.may
      (has_waited c.args.heap.now c.args.run.now c.perform_now.new.self c.args.command (subst (λ (o : Option Reply). NowAnswers c.args.heap.now c.args.run.now c.perform_now.new.self c.args.command o) c.in_default.is c.perform_now.ensures.answer));
}

pub returns-clause-answers : goal.returns-clause-answers
returns-clause-answers c = handed_in c.args.heap.now c.args.run.now c.perform_now.new.self c.submit.new.self c.args.command c.perform_now.ensures.here c.requires.may.more
    (has_waited c.args.heap.now c.args.run.now c.perform_now.new.self c.args.command (subst (λ (o : Option Reply). NowAnswers c.args.heap.now c.args.run.now c.perform_now.new.self c.args.command o) c.in_default.is c.perform_now.ensures.answer)) c.submit.ensures

pub returns-in-Some-clause-ran : goal.returns-in-Some-clause-ran
returns-in-Some-clause-ran c = now_adds c.args.heap.now c.args.run.now c.perform_now.new.self c.args.command c.perform_now.result c.requires.here c.perform_now.ensures.answer

pub returns-clause-ran : goal.returns-clause-ran
returns-clause-ran c = subst (AddsRan (sizes_in c.args.heap.now.config) c.args.run.now) (sym c.submit.ensures)
    (adds_on (sizes_in c.args.heap.now.config) c.args.run.now c.perform_now.new.self (submitted c.perform_now.new.self c.args.command)
    (now_adds c.args.heap.now c.args.run.now c.perform_now.new.self c.args.command c.perform_now.result c.requires.here c.perform_now.ensures.answer)
    (submit_adds (sizes_in c.args.heap.now.config) c.perform_now.new.self c.args.command))
