use Rattle.std.proofs.Common.{◌≡◌, ◌∙◌, sym, ap, subst, None, ◌∷◌, [], ◌++◌, List, refl}
use Rattle.model_core.specs.declared.command.Command as model
use Rattle.model_core.specs.declared.reply.Reply.{Reply}
use Rattle.run_plays.specs.Playing.{Notes, PlayerView}
use Rattle.run_plays.proofs.Logs.{turned_idle, turned_made, turned_still}
use Rattle.run_plays.proofs.player.Player.turn.Goals as goal

pub invariant_of-self-in_default : goal.invariant_of-self-in_default
invariant_of-self-in_default c =
    let p : PlayerView = record { shared = c.self.inside.run; made = c.self.inside.made.items; told = c.self.inside.told.items; awaits = c.self.inside.awaits } in
    turned_idle p c.turn-came.new.self c.try_reserve.new.self.items c.self.invariant c.turn-came.ensures.heap c.try_reserve.ensures.items c.turn-came.ensures.goes_on c.turn-came.ensures.stretch c.in_default.is

pub invariant_of-self-in_default-answer : goal.invariant_of-self-in_default-answer
invariant_of-self-in_default-answer c =
    let p : PlayerView = record { shared = c.self.inside.run; made = c.self.inside.made.items; told = c.self.inside.told.items; awaits = c.self.inside.awaits } in
    turned_still p c.in-Some.command c.turn-came.new.self c.try_reserve.new.self.items c.self.invariant c.turn-came.ensures.heap c.try_reserve.ensures.items c.turn-came.ensures.goes_on c.turn-came.ensures.stretch c.in-Some.is (sym c.in_default-answer.is ∙ c.answer.ensures.answer)

pub invariant_of-self-2 : goal.invariant_of-self-2
invariant_of-self-2 c =
    let p : PlayerView = record { shared = c.self.inside.run; made = c.self.inside.made.items; told = c.self.inside.told.items; awaits = c.self.inside.awaits } in
    turned_made p c.in-Some.command c.in-Some-answer.reply c.turn-came.new.self c.push_reserved.new.self.items c.self.invariant c.turn-came.ensures.heap
    (c.push_reserved.ensures.items ∙ ap (λ (l : List (model.Command × Reply)). l ++ (c.in-Some.command, c.in-Some-answer.reply) ∷ []) c.try_reserve.ensures.items)
    c.turn-came.ensures.goes_on c.turn-came.ensures.stretch c.in-Some.is (sym c.in-Some-answer.is ∙ c.answer.ensures.answer)

pub returns-clause-awaited : goal.returns-clause-awaited
returns-clause-awaited c =
    let p : PlayerView = record { shared = c.self.inside.run; made = c.self.inside.made.items; told = c.self.inside.told.items; awaits = c.self.inside.awaits } in
    let is : p ≡ c.args.self.now = c.self.view_is in
    let q : PlayerView = record { shared = c.turn-came.new.self; made = c.push_reserved.new.self.items; told = c.self.inside.told.items; awaits = None } in (
      c.in-Some.command,
      (
        ap (λ (v : PlayerView). v.awaits) (sym is) ∙ c.in-Some.is,
        subst (λ (v : PlayerView). Notes c.in-Some.command c.in-Some-answer.reply v q) is (record {
          heap = c.turn-came.ensures.heap;
          number = c.turn-came.ensures.goes_on.number;
          made = c.push_reserved.ensures.items ∙ ap (λ (l : List (model.Command × Reply)). l ++ (c.in-Some.command, c.in-Some-answer.reply) ∷ []) c.try_reserve.ensures.items;
          told = refl;
          done = refl;
        }),
      ),
    )
