use Rattle.std.proofs.Common.{sym, subst}
use Rattle.heap_rule.specs.Limits.{sizes_in}
use Rattle.run_turns.specs.Runs.{AreLastRan, IsHandedIn, RunView}
use Rattle.run_turns.proofs.Kept.{last_ran}
use Rattle.run_turns.proofs.run.DomainRun.ran_len.Goals as goal

pub returns-clause-of_history : goal.returns-clause-of_history
returns-clause-of_history c = λ handed.
    let r : RunView = record { token = c.self.inside.domain; commands = c.self.inside.commands.items; next = c.self.inside.next; replies = c.self.inside.replies.items; ended = c.self.inside.ended; left = c.self.inside.left; asked = c.self.inside.asked; collected = c.self.inside.collected; progress = c.self.inside.progress; due = c.self.inside.due; hints = c.self.inside.hints; supply = c.self.inside.supply; place = c.self.inside.place; spare = c.self.inside.spare; ran = c.self.inside.ran.items } in
    let mine : IsHandedIn r.supply = subst (λ (x : RunView). IsHandedIn x.supply) (sym c.self.view_is) handed in
    subst (λ (x : RunView). AreLastRan x x.ran) c.self.view_is (last_ran r.supply (sizes_in r.token.config) r.token.view.seen.front r.token.view.own.number r.replies r.ran mine c.self.invariant.0.answered)
