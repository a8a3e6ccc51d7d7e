use Rattle.std.proofs.Common.{◌≡◌, ◌∙◌, ◌≤◌, List, [], ◌∷◌, ◌++◌, false, length, None, sym, ap, subst, arith}
use Rattle.std.specs.Prelude.{vec_capacity}
use Rattle.model_core.specs.declared.command.Command as model
use Rattle.model_core.specs.declared.reply.Reply.{Reply}
use Rattle.run_turns.specs.Runs.{IsHandedIn, IsRun, MaySubmit, RunView}
use Rattle.run_turns.proofs.Supplying.{submitted_is_run}
use Rattle.run_turns.proofs.run.DomainRun.submit.Goals as goal

pub invariant_of-self : goal.invariant_of-self
invariant_of-self c =
    let r : RunView = record { token = c.self.inside.domain; commands = c.self.inside.commands.items; next = c.self.inside.next; replies = c.self.inside.replies.items; ended = c.self.inside.ended; left = c.self.inside.left; asked = c.self.inside.asked; collected = c.self.inside.collected; progress = c.self.inside.progress; due = c.self.inside.due; hints = c.self.inside.hints; supply = c.self.inside.supply; place = c.self.inside.place; spare = c.self.inside.spare; ran = c.self.inside.ran.items } in
    let may : MaySubmit r c.args.command = subst (λ (x : RunView). MaySubmit x c.args.command) (sym c.self.view_is) c.requires.may in
    let handed : IsHandedIn c.self.inside.supply = subst IsHandedIn (sym may.more) tt in
    let commands : c.push_reserved.new.self.items ≡ c.args.command ∷ [] = c.push_reserved.ensures.items ∙ ap (λ (cs : List model.Command). cs ++ c.args.command ∷ []) c.clear.ensures.items in
    let replies : c.clear-2.new.self.items ≡ [] = c.clear-2.ensures.items in
    let one : length c.push_reserved.new.self.items ≡ 1 = ap (λ (cs : List model.Command). length cs) commands in
    let room = c.self.invariant.1.one handed in
    let first : 1 ≤ vec_capacity c.push_reserved.new.self = omega (arith, room.0, c.push_reserved.ensures.capacity, c.clear.ensures.capacity) in
    let second : 2 ≤ vec_capacity c.clear-2.new.self = omega (arith, room.1, c.clear-2.ensures.capacity) in (
      subst (λ (z : List model.Command × List Reply). IsRun (record r { commands = z.0; next = 0; replies = z.1; asked = None; collected = false })) (λ i. (sym commands i, sym replies i))
          (submitted_is_run r c.args.command c.self.invariant.0 may),
      record { answers = omega (arith, one, second); one = λ _. (first, second); apart = c.self.invariant.1.apart },
    )
