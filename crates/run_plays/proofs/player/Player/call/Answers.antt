use Rattle.std.proofs.Common.{◌∙◌, ap, subst, Option, ◌∷◌, [], ◌++◌, List}
use Rattle.model_core.specs.declared.command.Command as model
use Rattle.model_core.specs.declared.reply.Reply.{Reply}
use Rattle.run_turns.specs.Singly.Driving.{AwaitAnswers}
use Rattle.run_plays.specs.Playing.{PlayerView}
use Rattle.run_plays.proofs.Logs.{called_as, waits_as}
use Rattle.run_plays.proofs.player.Player.call.Goals as goal

pub invariant_of-self-in-Ok-Some : goal.invariant_of-self-in-Ok-Some
invariant_of-self-in-Ok-Some c =
    let p : PlayerView = record { shared = c.self.inside.run; made = c.self.inside.made.items; told = c.self.inside.told.items; awaits = c.self.inside.awaits } in
    called_as p c.args.command c.in-Ok-Some.reply c.begin.new.self c.push_reserved.new.self.items c.self.invariant c.begin.ensures.heap
    (c.push_reserved.ensures.items ∙ ap (λ (l : List (model.Command × Reply)). l ++ (c.args.command, c.in-Ok-Some.reply) ∷ []) c.try_reserve.ensures.items)
    (subst (λ (o : Option Reply). AwaitAnswers p.shared.heap p.shared.run.token.view c.args.command c.begin.new.self.run o) c.in-Ok-Some.field-0-is c.in-Ok-Some.ensures.answers)
    c.in-Ok-Some.ensures.ran

pub invariant_of-self-in-Ok-None : goal.invariant_of-self-in-Ok-None
invariant_of-self-in-Ok-None c =
    let p : PlayerView = record { shared = c.self.inside.run; made = c.self.inside.made.items; told = c.self.inside.told.items; awaits = c.self.inside.awaits } in
    waits_as p c.args.command c.begin.new.self c.try_reserve.new.self.items c.self.invariant c.begin.ensures.heap c.try_reserve.ensures.items
    (subst (λ (o : Option Reply). AwaitAnswers p.shared.heap p.shared.run.token.view c.args.command c.begin.new.self.run o) c.in-Ok-None.field-0-is c.in-Ok-None.ensures.answers)
    c.in-Ok-None.ensures.ran
