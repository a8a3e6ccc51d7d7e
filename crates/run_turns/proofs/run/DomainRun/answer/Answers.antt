use Rattle.std.proofs.Common.{◌∙◌, ◌≤◌, List, length, slice_get, sym, ap, subst, arith, ⊎_elim}
use Rattle.std.specs.Prelude.{IfSome}
use Rattle.model_core.specs.declared.reply.Reply.{Reply}
use Rattle.heap_rule.specs.Limits.{sizes_in}
use Rattle.run_turns.specs.Runs.{IsHandedIn, IsLastReply, RunView}
use Rattle.run_turns.proofs.Kept.{last_said}
use Rattle.run_turns.proofs.run.DomainRun.answer.Goals as goal

pub returns-in-Open-clause-of_history : goal.returns-in-Open-clause-of_history
returns-in-Open-clause-of_history c =
    let r : RunView = record { token = c.self.inside.domain; commands = c.self.inside.commands.items; next = c.self.inside.next; replies = c.self.inside.replies.items; ended = c.self.inside.ended; left = c.self.inside.left; asked = c.self.inside.asked; collected = c.self.inside.collected; progress = c.self.inside.progress; due = c.self.inside.due; hints = c.self.inside.hints; supply = c.self.inside.supply; place = c.self.inside.place; spare = c.self.inside.spare; ran = c.self.inside.ran.items } in
    let is = c.self.invariant.0 in
    let handed : IsHandedIn r.supply = ⊎_elim (λ o. subst IsHandedIn (sym o) tt) (λ o. subst IsHandedIn (sym o) tt) c.in-Open.is in
    let held = is.one handed in
    let one : length r.replies ≤ 1 = let within = is.within in let answered = held.answered in let few = held.one in omega (arith, within, answered, few) in
    subst (λ (x : RunView). IfSome c.copied.result (IsLastReply x)) c.self.view_is
    (last_said r.supply (sizes_in r.token.config) r.token.view.seen.front r.token.view.own.number r.replies r.ran handed is.answered one c.copied.result
    (c.copied.ensures ∙ (c.first.ensures.value ∙ ap (λ (xs : List Reply). slice_get xs 0) c.deref.ensures.value)))
