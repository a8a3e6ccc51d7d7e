use Rattle.std.proofs.Common.{◌≡◌, length, sym, subst}
use Rattle.run_turns.specs.declared.supply.Supply.TheVariants.{Open}
use Rattle.run_turns.specs.Runs.{IsHandedIn, RunView}
use Rattle.run_turns.proofs.Supplying.{closed_is_run}
use Rattle.run_turns.proofs.run.DomainRun.close.Goals as goal

pub invariant_of-self : goal.invariant_of-self
invariant_of-self c =
    let r : RunView = record { token = c.self.inside.domain; commands = c.self.inside.commands.items; next = c.self.inside.next; replies = c.self.inside.replies.items; ended = c.self.inside.ended; left = c.self.inside.left; asked = c.self.inside.asked; collected = c.self.inside.collected; progress = c.self.inside.progress; due = c.self.inside.due; hints = c.self.inside.hints; supply = c.self.inside.supply; place = c.self.inside.place; spare = c.self.inside.spare; ran = c.self.inside.ran.items } in
    let more : r.supply ≡ Open = subst (λ (x : RunView). x.supply ≡ Open) (sym c.self.view_is) c.requires.more in
    let done : r.next ≡ length r.commands = subst (λ (x : RunView). x.next ≡ length x.commands) (sym c.self.view_is) c.requires.done in
    let handed = subst IsHandedIn (sym more) tt in
    (closed_is_run r c.self.invariant.0 more done, record { answers = c.self.invariant.1.answers; one = λ _. c.self.invariant.1.one handed; apart = λ _. c.self.invariant.1.apart handed })
