use Rattle.std.proofs.Common.{◌∙◌, Option, subst, sym}
use Rattle.model_core.specs.declared.reply.Reply.{Reply}
use Rattle.run_turns.specs.Singly.Driving.{AwaitAnswers}
use Rattle.run_alone.proofs.Telling.{never_unanswered, tells_on}
use Rattle.run_alone.proofs.performing.finish.Goals as goal

pub unreachable-requires : goal.unreachable-requires
unreachable-requires c =
    let b = c.come_back-run.ensures.back in
    never_unanswered c.args.heap.now c.args.run c.make-run.result c.requires.lone.is c.make-run.ensures.lone.more c.make-run.ensures.lone.is c.requires.some (c.make-run.ensures.commands ∙ b.commands) (λ same. c.make-run.ensures.made (same ∙ sym b.next)) (c.answer.ensures.none.0 c.in-None.is)

pub returns-clause-answered : goal.returns-clause-answered
returns-clause-answered c = λ start command w.
    let h = c.args.heap.now in
    let b = c.come_back-run.ensures.back in
    subst (λ (o : Option Reply). AwaitAnswers h start command c.make-run.result o) (sym c.answer.ensures.answer ∙ c.in-Some.is)
    ((tells_on h c.args.run c.come_back-run.result c.make-run.result b.commands b.next b.tells c.make-run.ensures.tells).answers start command w)

pub returns-clause-ran : goal.returns-clause-ran
returns-clause-ran c = let b = c.come_back-run.ensures.back in (tells_on c.args.heap.now c.args.run c.come_back-run.result c.make-run.result b.commands b.next b.tells c.make-run.ensures.tells).ran
