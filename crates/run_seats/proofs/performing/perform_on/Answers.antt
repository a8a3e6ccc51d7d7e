use Rattle.std.proofs.Common.{subst}
use Rattle.std.specs.Prelude.{Option}
use Rattle.model_core.specs.declared.reply.Reply.{Reply}
use Rattle.heap_rule.specs.Limits.{sizes_in}
use Rattle.run_turns.specs.Singly.Driving.{AwaitAnswers}
use Rattle.run_turns.proofs.Adding.{adds_on}
use Rattle.run_turns.proofs.OfSingly.Driven.{open_handed}
use Rattle.run_seats.proofs.performing.perform_on.Goals as goal

pub returns-in-Some-clause-answered : goal.returns-in-Some-clause-answered
returns-in-Some-clause-answered g c = subst (λ (o : Option Reply). AwaitAnswers c.args.heap.now c.args.run.now.token.view c.args.command c.begin.new.run o) c.in-Some.is c.begin.ensures.answers

pub returns-clause-answered : goal.returns-clause-answered
returns-clause-answered g c = c.await_reply.ensures.answered c.args.run.now.token.view c.args.command (subst (λ (o : Option Reply). AwaitAnswers c.args.heap.now c.args.run.now.token.view c.args.command c.begin.new.run o) c.in_default.is c.begin.ensures.answers)

pub returns-clause-ran : goal.returns-clause-ran
returns-clause-ran g c =
    let z = sizes_in c.args.heap.now.config in
    let awaits = subst (λ (o : Option Reply). AwaitAnswers c.args.heap.now c.args.run.now.token.view c.args.command c.begin.new.run o) c.in_default.is c.begin.ensures.answers in
    adds_on z c.args.run.now c.begin.new.run c.await_reply.new.run c.begin.ensures.ran (c.await_reply.ensures.ran (open_handed c.begin.new.run.supply awaits.more))
