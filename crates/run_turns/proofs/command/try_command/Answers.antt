use Rattle.std.proofs.Common.{sym, subst}
use Rattle.model_core.specs.declared.command.Command.{Command}
use Rattle.run_turns.specs.Tries.{AttemptAnswers}
use Rattle.run_turns.proofs.command.try_command.Goals as goal

pub returns-in-Alloc-clause-answer : goal.returns-in-Alloc-clause-answer
returns-in-Alloc-clause-answer c = subst (λ (command : Command). AttemptAnswers c.args.heap.now c.args.dom.now c.alloc_in_area.new.dom command c.args.served c.args.collected c.alloc_in_area.result) (sym c.in-Alloc.is) (c.alloc_in_area.ensures c.args.served)

pub returns-in-AllocMaj-clause-answer : goal.returns-in-AllocMaj-clause-answer
returns-in-AllocMaj-clause-answer c = subst (λ (command : Command). AttemptAnswers c.args.heap.now c.args.dom.now c.alloc_in_pools.new.dom command c.args.served c.args.collected c.alloc_in_pools.result) (sym c.in-AllocMaj.is) (c.alloc_in_pools.ensures c.args.served)

pub returns-in-Ephe-clause-answer : goal.returns-in-Ephe-clause-answer
returns-in-Ephe-clause-answer c = subst (λ (command : Command). AttemptAnswers c.args.heap.now c.args.dom.now c.create_in_pools.new.dom command c.args.served c.args.collected c.create_in_pools.result) (sym c.in-Ephe.is) (c.create_in_pools.ensures c.args.served)

pub returns-in-Store-clause-answer : goal.returns-in-Store-clause-answer
returns-in-Store-clause-answer c = c.try_store.ensures c.args.served c.args.collected

pub returns-in_default-clause-answer : goal.returns-in_default-clause-answer
returns-in_default-clause-answer c = c.try_call.ensures c.args.served c.args.collected

pub returns-in-Finalise-clause-answer : goal.returns-in-Finalise-clause-answer
returns-in-Finalise-clause-answer c = c.try_registration.ensures c.args.served c.args.collected

pub returns-in-Raw-clause-answer : goal.returns-in-Raw-clause-answer
returns-in-Raw-clause-answer c = subst (λ (command : Command). AttemptAnswers c.args.heap.now c.args.dom.now c.raw_in_area.new.dom command c.args.served c.args.collected c.raw_in_area.result) (sym c.in-Raw.is) (c.raw_in_area.ensures c.args.served)
