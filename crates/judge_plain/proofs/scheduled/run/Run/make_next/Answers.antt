use Rattle.std.proofs.Common.{◌≡◌, ◌∷◌, rules}
use Rattle.model_traces.specs.Schedules.Scheduled.{left_of}
use Rattle.judge_plain.proofs.OfScheduled.EntryLemmas.{next_made}
use Rattle.judge_plain.proofs.scheduled.run.Run.make_next.Goals as goal

pub returns : goal.returns
returns c =
    let left : left_of c.args.self.now c.args.domain ≡ c.in-Some.command.now ∷ c.in-Some.rest.now = search rules in
    next_made c.args.self.now c.set_left.new.self c.make_command.new.self c.args.domain c.in-Some.command.now c.in-Some.rest.now left c.set_left.ensures c.in_ok-make_command.ensures
