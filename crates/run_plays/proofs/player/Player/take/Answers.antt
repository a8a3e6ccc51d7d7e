use Rattle.std.proofs.Common.{◌≡◌, ◌∙◌, sym, ap, List, ◌∷◌, [], ◌++◌}
use Rattle.model_core.specs.declared.reply.Reply.{Reply}
use Rattle.run_plays.specs.Playing.{PlayerView}
use Rattle.run_plays.proofs.Logs.{none_taken, taken_as}
use Rattle.run_plays.proofs.player.Player.take.Goals as goal

pub returns-in_default-clause-takes : goal.returns-in_default-clause-takes
returns-in_default-clause-takes c =
    let none = none_taken c.self.inside.run c.take_ran.new.self c.take_ran.ensures.others (sym c.in_default.is ∙ c.take_ran.ensures.oldest) in
    let is = c.self.view_is in
    let same : c.take_ran.new.self ≡ c.self.inside.run = none.0 in
    let told : c.try_reserve.new.self.items ≡ c.self.inside.told.items = c.try_reserve.ensures.items in
    ((λ i. record { shared = same i; made = c.self.inside.made.items; told = told i; awaits = c.self.inside.awaits }) ∙ is, ap (λ (v : PlayerView). v.shared.run.ran) (sym is) ∙ none.1)

pub invariant_of-self-2 : goal.invariant_of-self-2
invariant_of-self-2 c =
    let p : PlayerView = record { shared = c.self.inside.run; made = c.self.inside.made.items; told = c.self.inside.told.items; awaits = c.self.inside.awaits } in
    taken_as p c.in-Some.reply c.take_ran.new.self c.push_reserved.new.self.items c.self.invariant (sym c.in-Some.is ∙ c.take_ran.ensures.oldest) c.take_ran.ensures.others
    (c.push_reserved.ensures.items ∙ ap (λ (l : List Reply). l ++ c.in-Some.reply ∷ []) c.try_reserve.ensures.items)
