use Rattle.std.proofs.Common.{◌≡◌, ◌≢◌, ◌+◌, ◌<◌, ◌≤◌, arith, false, refl, List, [], ◌∷◌, ◌++◌, length, Some, None, slice_get, sym, subst}
use Rattle.std.specs.Prelude.{vec_capacity}
use Rattle.model_core.specs.declared.reply.Reply.{Reply}
use Rattle.run_turns.specs.declared.place.Place.TheVariants.{Before}
use Rattle.run_turns.specs.declared.supply.Supply.{Supply}
use Rattle.run_turns.specs.declared.supply.Supply.TheVariants.{Section}
use Rattle.run_turns.specs.Sections.{FitsIn}
use Rattle.run_turns.specs.Runs.{HasReserved, IsRun, IsUnqueued, MakesCommand, RunView, places_in}
use Rattle.run_turns.specs.Runs.CalmDid.{Makes}
use Rattle.heap_rule.specs.Standing.{ShowsRegisters}
use Rattle.run_turns.proofs.SectionTurns.{expanded_is_run, single_completes, single_four, single_join, single_ready}
use Rattle.run_turns.proofs.Supplying.{sectioned_by}
use Rattle.run_turns.proofs.Turning.{next_replies}
use Rattle.run_turns.proofs.sections.make_command.Goals as goal

pub expand-reply-requires-clause-fits : goal.expand-reply-requires-clause-fits
expand-reply-requires-clause-fits c =
    let r : RunView = record { token = c.run.inside.domain; commands = c.run.inside.commands.items; next = c.run.inside.next; replies = c.run.inside.replies.items; ended = c.run.inside.ended; left = c.run.inside.left; asked = c.run.inside.asked; collected = c.run.inside.collected; progress = c.run.inside.progress; due = c.run.inside.due; hints = c.run.inside.hints; supply = c.run.inside.supply; place = c.run.inside.place; spare = c.run.inside.spare; ran = c.run.inside.ran.items } in
    let at : slice_get r.commands r.next ≡ Some c.args.command.now = subst (λ (x : RunView). slice_get x.commands x.next ≡ Some c.args.command.now) (sym c.run.view_is) c.requires.next in
    let sectioned : r.supply ≡ Section = sectioned_by r.supply c.args.command.now (single_four c.args.command.now c.requires.single) (c.run.invariant.0.fit r.next c.args.command.now at) in
    subst (λ (s : Supply). FitsIn s c.args.command.now) sectioned (c.run.invariant.0.fit r.next c.args.command.now at)

pub expand-reply-requires-clause-shows : goal.expand-reply-requires-clause-shows
expand-reply-requires-clause-shows c =
    let r : RunView = record { token = c.run.inside.domain; commands = c.run.inside.commands.items; next = c.run.inside.next; replies = c.run.inside.replies.items; ended = c.run.inside.ended; left = c.run.inside.left; asked = c.run.inside.asked; collected = c.run.inside.collected; progress = c.run.inside.progress; due = c.run.inside.due; hints = c.run.inside.hints; supply = c.run.inside.supply; place = c.run.inside.place; spare = c.run.inside.spare; ran = c.run.inside.ran.items } in
    let at : slice_get r.commands r.next ≡ Some c.args.command.now = subst (λ (x : RunView). slice_get x.commands x.next ≡ Some c.args.command.now) (sym c.run.view_is) c.requires.next in
    let sectioned : r.supply ≡ Section = sectioned_by r.supply c.args.command.now (single_four c.args.command.now c.requires.single) (c.run.invariant.0.fit r.next c.args.command.now at) in
    subst (λ (x : RunView). ShowsRegisters c.args.heap.now.config x.token.view) (sym c.run.view_is) (c.requires.shows (subst (λ (x : RunView). x.supply ≡ Section) c.run.view_is sectioned))

pub push_reserved-requires : goal.push_reserved-requires
push_reserved-requires c =
    let r : RunView = record { token = c.run.inside.domain; commands = c.run.inside.commands.items; next = c.run.inside.next; replies = c.run.inside.replies.items; ended = c.run.inside.ended; left = c.run.inside.left; asked = c.run.inside.asked; collected = c.run.inside.collected; progress = c.run.inside.progress; due = c.run.inside.due; hints = c.run.inside.hints; supply = c.run.inside.supply; place = c.run.inside.place; spare = c.run.inside.spare; ran = c.run.inside.ran.items } in
    let at : slice_get r.commands r.next ≡ Some c.args.command.now = subst (λ (x : RunView). slice_get x.commands x.next ≡ Some c.args.command.now) (sym c.run.view_is) c.requires.next in
    let few : length r.replies < length r.commands + length r.commands = next_replies r c.run.invariant.0 c.args.command.now at in
    let room : length r.commands + length r.commands ≤ vec_capacity c.run.inside.replies = c.run.invariant.1.answers in
    omega (arith, few, room)

pub invariant_of-run : goal.invariant_of-run
invariant_of-run c =
    let r : RunView = record { token = c.run.inside.domain; commands = c.run.inside.commands.items; next = c.run.inside.next; replies = c.run.inside.replies.items; ended = c.run.inside.ended; left = c.run.inside.left; asked = c.run.inside.asked; collected = c.run.inside.collected; progress = c.run.inside.progress; due = c.run.inside.due; hints = c.run.inside.hints; supply = c.run.inside.supply; place = c.run.inside.place; spare = c.run.inside.spare; ran = c.run.inside.ran.items } in
    let running : r.ended ≡ false = subst (λ (x : RunView). x.ended ≡ false) (sym c.run.view_is) c.requires.running in
    let left : r.left ≡ None = subst (λ (x : RunView). x.left ≡ None) (sym c.run.view_is) c.requires.left in
    let going : r.place ≢ Before = subst (λ (x : RunView). x.place ≢ Before) (sym c.run.view_is) c.requires.going in
    let at : slice_get r.commands r.next ≡ Some c.args.command.now = subst (λ (x : RunView). slice_get x.commands x.next ≡ Some c.args.command.now) (sym c.run.view_is) c.requires.next in
    let sectioned : r.supply ≡ Section = sectioned_by r.supply c.args.command.now (single_four c.args.command.now c.requires.single) (c.run.invariant.0.fit r.next c.args.command.now at) in
    let is = expanded_is_run c.args.heap.now r c.expand-reply.new.dom c.run.invariant.0 sectioned running left c.args.command.now c.expand-reply.result at going (single_join c.args.command.now c.requires.single) c.expand-reply.ensures.expands c.expand-reply.ensures.rest in
    let room : HasReserved r.supply (length r.commands) r.spare (vec_capacity c.run.inside.commands) (vec_capacity c.push_reserved.new.self) (places_in c.run.inside.ran) = subst (λ n. HasReserved r.supply (length r.commands) r.spare (vec_capacity c.run.inside.commands) n (places_in c.run.inside.ran)) (sym c.push_reserved.ensures.capacity) c.run.invariant.1 in
    (subst (λ (rs : List Reply). IsRun (record r { token = c.expand-reply.new.dom; next = r.next + 1; replies = rs; asked = None; collected = false; due = 0 })) (sym c.push_reserved.ensures.items) is, room)

pub returns-clause-did : goal.returns-clause-did
returns-clause-did c =
    let r : RunView = record { token = c.run.inside.domain; commands = c.run.inside.commands.items; next = c.run.inside.next; replies = c.run.inside.replies.items; ended = c.run.inside.ended; left = c.run.inside.left; asked = c.run.inside.asked; collected = c.run.inside.collected; progress = c.run.inside.progress; due = c.run.inside.due; hints = c.run.inside.hints; supply = c.run.inside.supply; place = c.run.inside.place; spare = c.run.inside.spare; ran = c.run.inside.ran.items } in
    let going : r.place ≢ Before = subst (λ (x : RunView). x.place ≢ Before) (sym c.run.view_is) c.requires.going in
    let at : slice_get r.commands r.next ≡ Some c.args.command.now = subst (λ (x : RunView). slice_get x.commands x.next ≡ Some c.args.command.now) (sym c.run.view_is) c.requires.next in
    let sectioned : r.supply ≡ Section = sectioned_by r.supply c.args.command.now (single_four c.args.command.now c.requires.single) (c.run.invariant.0.fit r.next c.args.command.now at) in
    let reply : Reply = c.expand-reply.result in
    let now : List Reply → RunView = λ rs. record r { token = c.expand-reply.new.dom; next = r.next + 1; replies = rs; asked = None; collected = false; due = 0 } in
    let made : MakesCommand c.args.heap.now r.token r (now (r.replies ++ reply ∷ [])) c.args.command.now = record {
      sectioned = sectioned;
      goes_on = subst (λ (x : RunView). x.ended ≡ false) (sym c.run.view_is) c.requires.running;
      going = going;
      four = single_four c.args.command.now c.requires.single;
      next = at;
      unqueued = subst (λ (x : RunView). IsUnqueued x.token) (sym c.run.view_is) c.requires.unqueued;
      ready = single_ready c.args.heap.now.config r.token.view.own _ c.args.command.now c.requires.single (λ less. let no = c.if-remembered_room-words_for.false in let a = c.remembered_room.ensures in let b = c.words_for.ensures in omega (arith, no, a, b, less));
      reply = reply;
      completes = single_completes c.args.heap.now r.token c.expand-reply.new.dom c.args.command.now reply c.requires.single c.expand-reply.ensures.expands;
      rest = c.expand-reply.ensures.rest;
      run = refl;
    } in
    Makes c.args.command.now (subst (λ (x : RunView). MakesCommand c.args.heap.now x.token x (now c.push_reserved.new.self.items) c.args.command.now) c.run.view_is
    (subst (λ (rs : List Reply). MakesCommand c.args.heap.now r.token r (now rs) c.args.command.now) (sym c.push_reserved.ensures.items) made))
