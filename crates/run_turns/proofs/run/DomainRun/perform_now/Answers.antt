use Rattle.std.proofs.Common.{rules, ◌≡◌, ◌≢◌, None, subst}
use Rattle.model_core.specs.declared.command.Command.TheVariants.{Poll}
use Rattle.run_turns.specs.Runs.{IsUnqueued, RunView}
use Rattle.run_turns.proofs.AtOnce.{may_looked, none_waits, tried_now, wanted_off}
use Rattle.run_turns.proofs.run.DomainRun.perform_now.Goals as goal

pub try_now-requires-clause-may : goal.try_now-requires-clause-may
try_now-requires-clause-may c = may_looked c.args.self.now c.find_wants.new.run c.args.command c.find_wants.result c.find_wants.ensures.run c.requires.may

pub returns-then-find_wants-ne0-clause-answer : goal.returns-then-find_wants-ne0-clause-answer
returns-then-find_wants-ne0-clause-answer c = wanted_off c.args.heap.now c.args.self.now c.find_wants.new.run c.args.command c.find_wants.result c.if-find_wants-ne0.true c.find_wants.ensures.run

pub returns-clause-answer : goal.returns-clause-answer
returns-clause-answer c =
    let left : c.args.self.now.left ≡ None = search rules in
    let unqueued : IsUnqueued c.args.self.now.token = subst (λ (r : RunView). IsUnqueued r.token) c.self.view_is (none_waits c.self.inside.domain c.queued.result c.queued.ensures c.if-queued-ne0.false) in
    let other : c.args.command ≢ Poll = c.is_poll.ensures.no c.if-is_poll.false in
    tried_now c.args.heap.now c.args.self.now c.find_wants.new.run c.try_now.new.run c.args.command c.find_wants.result c.try_now.result left unqueued other c.find_wants.ensures.run c.if-find_wants-ne0.false c.try_now.ensures.answer
