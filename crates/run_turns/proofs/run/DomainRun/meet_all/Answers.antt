use Rattle.std.proofs.Common.{◌≡◌, ◌∙◌, ◌∷◌, ◌++◌, [], List, Option, None, refl, sym, ap, subst}
use Rattle.heap_rule.specs.Standing.{with_front}
use Rattle.heap_rule.specs.Token.{Token, IsIn}
use Rattle.heap_rule.proofs.Ends.{popped}
use Rattle.gc_pause.specs.declared.stops.answer.Look.{Look}
use Rattle.run_turns.specs.Meeting.{AllRunsMet, Brought}
use Rattle.run_turns.specs.Runs.{RunView, IsRun}
use Rattle.run_turns.proofs.Bringing.{all_met}
use Rattle.run_turns.proofs.MeetingLemmas.{seeing_is_run}
use Rattle.run_turns.proofs.Moving.{token_is}
use Rattle.run_turns.proofs.run.DomainRun.meet_all.Goals as goal

pub invariant_of-result : goal.invariant_of-result
invariant_of-result c =
    let r : RunView = record { token = c.self.inside.domain; commands = c.self.inside.commands.items; next = c.self.inside.next; replies = c.self.inside.replies.items; ended = c.self.inside.ended; left = c.self.inside.left; asked = c.self.inside.asked; collected = c.self.inside.collected; progress = c.self.inside.progress; due = c.self.inside.due; hints = c.self.inside.hints; supply = c.self.inside.supply; place = c.self.inside.place; spare = c.self.inside.spare; ran = c.self.inside.ran.items } in
    let was : c.push_reserved.new.self.items ≡ r.token ∷ [] = c.push_reserved.ensures.items ∙ ap (λ (ts : List Token). ts ++ r.token ∷ []) c.requires.empty in
    let here = subst (λ (x : RunView). IsIn x.token c.args.heap.now) (sym c.self.view_is) c.requires.here in
    let brought = subst (λ (a : Option Look). Brought c.args.heap.now.config c.push_reserved.new.self.items c.bring.new.room.items 0 c.args.others.now c.bring.new.others a) (c.bring.ensures.looks.1 refl) c.bring.ensures.brought in
    let m = all_met c.args.heap.now r c.push_reserved.new.self.items c.bring.new.room.items c.pop.new.self.items c.in-Some.domain c.args.others.now c.bring.new.others None was brought c.in-Some.ensures.items in
    let met = token_is c.args.heap.now r.token c.in-Some.domain (with_front r.token.view m.history) here (popped c.args.heap.now c.bring.new.room.items c.pop.new.self.items c.in-Some.domain c.in-Some.ensures.items c.bring.ensures.here).1 m.first in (
      subst (λ (t : Token). IsRun (record r { token = t })) (sym met) (seeing_is_run c.args.heap.now r m.history here c.self.invariant.0 m.begins),
      c.self.invariant.1,
    )

pub returns-clause-met : goal.returns-clause-met
returns-clause-met c =
    let r : RunView = record { token = c.self.inside.domain; commands = c.self.inside.commands.items; next = c.self.inside.next; replies = c.self.inside.replies.items; ended = c.self.inside.ended; left = c.self.inside.left; asked = c.self.inside.asked; collected = c.self.inside.collected; progress = c.self.inside.progress; due = c.self.inside.due; hints = c.self.inside.hints; supply = c.self.inside.supply; place = c.self.inside.place; spare = c.self.inside.spare; ran = c.self.inside.ran.items } in
    let was : c.push_reserved.new.self.items ≡ r.token ∷ [] = c.push_reserved.ensures.items ∙ ap (λ (ts : List Token). ts ++ r.token ∷ []) c.requires.empty in
    let here = subst (λ (x : RunView). IsIn x.token c.args.heap.now) (sym c.self.view_is) c.requires.here in
    let brought = subst (λ (a : Option Look). Brought c.args.heap.now.config c.push_reserved.new.self.items c.bring.new.room.items 0 c.args.others.now c.bring.new.others a) (c.bring.ensures.looks.1 refl) c.bring.ensures.brought in
    let m = all_met c.args.heap.now r c.push_reserved.new.self.items c.bring.new.room.items c.pop.new.self.items c.in-Some.domain c.args.others.now c.bring.new.others None was brought c.in-Some.ensures.items in
    let met = token_is c.args.heap.now r.token c.in-Some.domain (with_front r.token.view m.history) here (popped c.args.heap.now c.bring.new.room.items c.pop.new.self.items c.in-Some.domain c.in-Some.ensures.items c.bring.ensures.here).1 m.first in
    subst (λ (p : RunView × RunView). AllRunsMet c.args.heap.now p.0 p.1 c.args.others.now c.bring.new.others) (λ i. (c.self.view_is i, record r { token = sym met i })) m.all

pub returns-clause-room : goal.returns-clause-room
returns-clause-room c =
    let r : RunView = record { token = c.self.inside.domain; commands = c.self.inside.commands.items; next = c.self.inside.next; replies = c.self.inside.replies.items; ended = c.self.inside.ended; left = c.self.inside.left; asked = c.self.inside.asked; collected = c.self.inside.collected; progress = c.self.inside.progress; due = c.self.inside.due; hints = c.self.inside.hints; supply = c.self.inside.supply; place = c.self.inside.place; spare = c.self.inside.spare; ran = c.self.inside.ran.items } in
    let was : c.push_reserved.new.self.items ≡ r.token ∷ [] = c.push_reserved.ensures.items ∙ ap (λ (ts : List Token). ts ++ r.token ∷ []) c.requires.empty in
    let here = subst (λ (x : RunView). IsIn x.token c.args.heap.now) (sym c.self.view_is) c.requires.here in
    let brought = subst (λ (a : Option Look). Brought c.args.heap.now.config c.push_reserved.new.self.items c.bring.new.room.items 0 c.args.others.now c.bring.new.others a) (c.bring.ensures.looks.1 refl) c.bring.ensures.brought in
    let m = all_met c.args.heap.now r c.push_reserved.new.self.items c.bring.new.room.items c.pop.new.self.items c.in-Some.domain c.args.others.now c.bring.new.others None was brought c.in-Some.ensures.items in
    let met = token_is c.args.heap.now r.token c.in-Some.domain (with_front r.token.view m.history) here (popped c.args.heap.now c.bring.new.room.items c.pop.new.self.items c.in-Some.domain c.in-Some.ensures.items c.bring.ensures.here).1 m.first in
    let capacity = c.push_reserved.ensures.capacity in
    (m.empty, c.pop.ensures.capacity ∙ (c.bring.ensures.room ∙ capacity))
