use Rattle.std.proofs.Common.{◌≡◌, ◌≢◌, false, ◌+◌, ◌<◌, ◌≤◌, arith, List, Some, None, sym, subst, length, slice_get}
use Rattle.std.specs.Prelude.{vec_capacity}
use Rattle.model_core.specs.declared.reply.Reply.{Reply}
use Rattle.heap_rule.specs.declared.config.Config.{Config}
use Rattle.heap_rule.specs.Token.{IsIn}
use Rattle.step_finalisers.specs.Registering.{count_of}
use Rattle.run_turns.specs.Tries.{registrations_of}
use Rattle.run_turns.specs.Runs.{HasReserved, RunView, IsRun, places_in}
use Rattle.run_turns.specs.declared.place.Place.TheVariants.{Before}
use Rattle.run_turns.proofs.MeetingLemmas.{refused_is_run}
use Rattle.run_turns.proofs.Turning.{tried_is_run, next_enlists, next_labels, next_replies, next_room}
use Rattle.run_turns.proofs.Supplying.{fits_ordinary}
use Rattle.run_turns.proofs.turns.try_next.Goals as goal

pub try_command-requires-clause-room : goal.try_command-requires-clause-room
try_command-requires-clause-room c =
    let r : RunView = record { token = c.run.inside.domain; commands = c.run.inside.commands.items; next = c.run.inside.next; replies = c.run.inside.replies.items; ended = c.run.inside.ended; left = c.run.inside.left; asked = c.run.inside.asked; collected = c.run.inside.collected; progress = c.run.inside.progress; due = c.run.inside.due; hints = c.run.inside.hints; supply = c.run.inside.supply; place = c.run.inside.place; spare = c.run.inside.spare; ran = c.run.inside.ran.items } in
    next_room r c.run.invariant.0 c.args.command.now (subst (λ (x : RunView). slice_get x.commands x.next ≡ Some c.args.command.now) (sym c.run.view_is) c.requires.next)

pub try_command-requires-clause-serial : goal.try_command-requires-clause-serial
try_command-requires-clause-serial c =
    let r : RunView = record { token = c.run.inside.domain; commands = c.run.inside.commands.items; next = c.run.inside.next; replies = c.run.inside.replies.items; ended = c.run.inside.ended; left = c.run.inside.left; asked = c.run.inside.asked; collected = c.run.inside.collected; progress = c.run.inside.progress; due = c.run.inside.due; hints = c.run.inside.hints; supply = c.run.inside.supply; place = c.run.inside.place; spare = c.run.inside.spare; ran = c.run.inside.ran.items } in
    next_labels r c.run.invariant.0 c.args.command.now (subst (λ (x : RunView). slice_get x.commands x.next ≡ Some c.args.command.now) (sym c.run.view_is) c.requires.next)

pub try_command-requires-clause-enlists : goal.try_command-requires-clause-enlists
try_command-requires-clause-enlists c =
    let r : RunView = record { token = c.run.inside.domain; commands = c.run.inside.commands.items; next = c.run.inside.next; replies = c.run.inside.replies.items; ended = c.run.inside.ended; left = c.run.inside.left; asked = c.run.inside.asked; collected = c.run.inside.collected; progress = c.run.inside.progress; due = c.run.inside.due; hints = c.run.inside.hints; supply = c.run.inside.supply; place = c.run.inside.place; spare = c.run.inside.spare; ran = c.run.inside.ran.items } in
    let at : slice_get r.commands r.next ≡ Some c.args.command.now = subst (λ (x : RunView). slice_get x.commands x.next ≡ Some c.args.command.now) (sym c.run.view_is) c.requires.next in
    let here : IsIn r.token c.args.heap.now = subst (λ (x : RunView). IsIn x.token c.args.heap.now) (sym c.run.view_is) c.requires.here in
    subst (λ (k : Config). registrations_of c.args.command.now + count_of r.token.view.own.finalisers ≤ k.finals) here.1 (next_enlists r c.run.invariant.0 c.args.command.now at)

pub push_reserved-requires : goal.push_reserved-requires
push_reserved-requires c =
    let r : RunView = record { token = c.run.inside.domain; commands = c.run.inside.commands.items; next = c.run.inside.next; replies = c.run.inside.replies.items; ended = c.run.inside.ended; left = c.run.inside.left; asked = c.run.inside.asked; collected = c.run.inside.collected; progress = c.run.inside.progress; due = c.run.inside.due; hints = c.run.inside.hints; supply = c.run.inside.supply; place = c.run.inside.place; spare = c.run.inside.spare; ran = c.run.inside.ran.items } in
    let at : slice_get r.commands r.next ≡ Some c.args.command.now = subst (λ (x : RunView). slice_get x.commands x.next ≡ Some c.args.command.now) (sym c.run.view_is) c.requires.next in
    let few : length r.replies < length r.commands + length r.commands = next_replies r c.run.invariant.0 c.args.command.now at in
    let room : length r.commands + length r.commands ≤ vec_capacity c.run.inside.replies = c.run.invariant.1.answers in
    omega (arith, few, room)

pub invariant_of-run : goal.invariant_of-run
invariant_of-run c =
    let r : RunView = record { token = c.run.inside.domain; commands = c.run.inside.commands.items; next = c.run.inside.next; replies = c.run.inside.replies.items; ended = c.run.inside.ended; left = c.run.inside.left; asked = c.run.inside.asked; collected = c.run.inside.collected; progress = c.run.inside.progress; due = c.run.inside.due; hints = c.run.inside.hints; supply = c.run.inside.supply; place = c.run.inside.place; spare = c.run.inside.spare; ran = c.run.inside.ran.items } in
    let at : slice_get r.commands r.next ≡ Some c.args.command.now = subst (λ (x : RunView). slice_get x.commands x.next ≡ Some c.args.command.now) (sym c.run.view_is) c.requires.next in
    let running : r.ended ≡ false = subst (λ (x : RunView). x.ended ≡ false) (sym c.run.view_is) c.requires.running in
    let left : r.left ≡ None = subst (λ (x : RunView). x.left ≡ None) (sym c.run.view_is) c.requires.left in
    let going : r.place ≢ Before = subst (λ (x : RunView). x.place ≢ Before) (sym c.run.view_is) c.requires.going in
    let is = tried_is_run c.args.heap.now r c.try_command.new.dom c.args.command.now c.in-Made.reply c.run.inside.domain.view.own _ c.run.invariant.0 running left at going c.requires.ordinary c.in-Made.ensures.answer.0 c.in-Made.ensures.answer.1 in
    let room : HasReserved r.supply (length r.commands) r.spare (vec_capacity c.run.inside.commands) (vec_capacity c.push_reserved.new.self) (places_in c.run.inside.ran) = subst (λ n. HasReserved r.supply (length r.commands) r.spare (vec_capacity c.run.inside.commands) n (places_in c.run.inside.ran)) (sym c.push_reserved.ensures.capacity) c.run.invariant.1 in
    (subst (λ (rs : List Reply). IsRun (record r { token = c.try_command.new.dom; next = r.next + 1; replies = rs; asked = None; collected = false; due = 0 })) (sym c.push_reserved.ensures.items) is, room)

pub try_command-requires-clause-fits : goal.try_command-requires-clause-fits
try_command-requires-clause-fits c =
    let r : RunView = record { token = c.run.inside.domain; commands = c.run.inside.commands.items; next = c.run.inside.next; replies = c.run.inside.replies.items; ended = c.run.inside.ended; left = c.run.inside.left; asked = c.run.inside.asked; collected = c.run.inside.collected; progress = c.run.inside.progress; due = c.run.inside.due; hints = c.run.inside.hints; supply = c.run.inside.supply; place = c.run.inside.place; spare = c.run.inside.spare; ran = c.run.inside.ran.items } in
    let at : slice_get r.commands r.next ≡ Some c.args.command.now = subst (λ (x : RunView). slice_get x.commands x.next ≡ Some c.args.command.now) (sym c.run.view_is) c.requires.next in
    fits_ordinary r.supply c.args.command.now c.requires.ordinary (c.run.invariant.0.fit r.next c.args.command.now at)

pub invariant_of-run-in-NoRoom : goal.invariant_of-run-in-NoRoom
invariant_of-run-in-NoRoom c =
    let r : RunView = record { token = c.run.inside.domain; commands = c.run.inside.commands.items; next = c.run.inside.next; replies = c.run.inside.replies.items; ended = c.run.inside.ended; left = c.run.inside.left; asked = c.run.inside.asked; collected = c.run.inside.collected; progress = c.run.inside.progress; due = c.run.inside.due; hints = c.run.inside.hints; supply = c.run.inside.supply; place = c.run.inside.place; spare = c.run.inside.spare; ran = c.run.inside.ran.items } in
    let here : IsIn r.token c.args.heap.now = subst (λ (x : RunView). IsIn x.token c.args.heap.now) (sym c.run.view_is) c.requires.here in
    let left : r.left ≡ None = subst (λ (x : RunView). x.left ≡ None) (sym c.run.view_is) c.requires.left in
    (refused_is_run c.args.heap.now r c.try_command.new.dom c.args.command.now _ here c.run.invariant.0 left c.in-NoRoom.ensures.answer.0, c.run.invariant.1)
