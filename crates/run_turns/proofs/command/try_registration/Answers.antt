use Rattle.std.proofs.Common.{sym, subst}
use Rattle.model_core.specs.declared.command.Command.{Command}
use Rattle.run_turns.specs.declared.command.Attempt.TheVariants.{Made}
use Rattle.run_turns.specs.Tries.{AttemptAnswers}
use Rattle.run_turns.proofs.Trying.{finalise_answers, finalise_last_answers}
use Rattle.run_turns.proofs.command.try_registration.Goals as goal

pub returns-in-Finalise : goal.returns-in-Finalise
returns-in-Finalise c = λ served collected.
    let e = c.finalise-reply.ensures in
    subst (λ (command : Command). AttemptAnswers c.args.heap.now c.args.dom.now c.finalise-reply.new.dom command served collected (Made c.finalise-reply.result)) (sym c.in-Finalise.is)
    (finalise_answers c.args.heap.now c.args.dom.now c.finalise-reply.new.dom _ _ _ served collected c.finalise-reply.result e.did e.own)

pub returns-in-FinaliseLast : goal.returns-in-FinaliseLast
returns-in-FinaliseLast c = λ served collected.
    let e = c.finalise_last-reply.ensures in
    subst (λ (command : Command). AttemptAnswers c.args.heap.now c.args.dom.now c.finalise_last-reply.new.dom command served collected (Made c.finalise_last-reply.result)) (sym c.in-FinaliseLast.is)
    (finalise_last_answers c.args.heap.now c.args.dom.now c.finalise_last-reply.new.dom _ _ served collected c.finalise_last-reply.result e.did e.own)
