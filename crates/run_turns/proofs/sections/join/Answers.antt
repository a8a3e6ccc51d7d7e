use Rattle.std.proofs.Common.{◌≡◌, ◌≢◌, ℤ, ◌+◌, ◌<◌, ◌≤◌, arith, false, refl, List, [], ◌∷◌, ◌++◌, length, Some, None, slice_get, sym, subst}
use Rattle.std.specs.Prelude.{vec_capacity}
use Rattle.model_core.specs.declared.command.Command.TheVariants.{Join}
use Rattle.model_core.specs.declared.reply.Reply.{Reply}
use Rattle.do_spawn.specs.Expanding.{LooksAt}
use Rattle.do_spawn.proofs.Making.{words_of_registers}
use Rattle.run_turns.specs.declared.place.Place.TheVariants.{Before}
use Rattle.run_turns.specs.declared.supply.Supply.{Supply}
use Rattle.run_turns.specs.declared.supply.Supply.TheVariants.{Section}
use Rattle.run_turns.specs.Sections.{FitsIn}
use Rattle.run_turns.specs.Runs.{HasReserved, HeldBack, IsRun, IsUnqueued, MakesCommand, RunView, TakeAnswers, places_in}
use Rattle.run_turns.specs.Runs.CalmDid.{Makes}
use Rattle.run_turns.proofs.SectionTurns.{held_is_run, joined_is_run, join_waits}
use Rattle.run_turns.proofs.Supplying.{sectioned_by}
use Rattle.run_turns.proofs.Turning.{next_replies}
use Rattle.run_turns.proofs.sections.join.Goals as goal

pub take-requires-clause-dst : goal.take-requires-clause-dst
take-requires-clause-dst c =
    let r : RunView = record { token = c.run.inside.domain; commands = c.run.inside.commands.items; next = c.run.inside.next; replies = c.run.inside.replies.items; ended = c.run.inside.ended; left = c.run.inside.left; asked = c.run.inside.asked; collected = c.run.inside.collected; progress = c.run.inside.progress; due = c.run.inside.due; hints = c.run.inside.hints; supply = c.run.inside.supply; place = c.run.inside.place; spare = c.run.inside.spare; ran = c.run.inside.ran.items } in
    let at : slice_get r.commands r.next ≡ Some (Join c.args.dst c.args.section) = subst (λ (x : RunView). slice_get x.commands x.next ≡ Some (Join c.args.dst c.args.section)) (sym c.run.view_is) c.requires.next in
    let sectioned : r.supply ≡ Section = sectioned_by r.supply (Join c.args.dst c.args.section) (λ e. e) (c.run.invariant.0.fit r.next (Join c.args.dst c.args.section) at) in
    let fits = subst (λ (s : Supply). FitsIn s (Join c.args.dst c.args.section)) sectioned (c.run.invariant.0.fit r.next (Join c.args.dst c.args.section) at) in
    fits.0

pub take-requires-clause-section : goal.take-requires-clause-section
take-requires-clause-section c =
    let r : RunView = record { token = c.run.inside.domain; commands = c.run.inside.commands.items; next = c.run.inside.next; replies = c.run.inside.replies.items; ended = c.run.inside.ended; left = c.run.inside.left; asked = c.run.inside.asked; collected = c.run.inside.collected; progress = c.run.inside.progress; due = c.run.inside.due; hints = c.run.inside.hints; supply = c.run.inside.supply; place = c.run.inside.place; spare = c.run.inside.spare; ran = c.run.inside.ran.items } in
    let at : slice_get r.commands r.next ≡ Some (Join c.args.dst c.args.section) = subst (λ (x : RunView). slice_get x.commands x.next ≡ Some (Join c.args.dst c.args.section)) (sym c.run.view_is) c.requires.next in
    let sectioned : r.supply ≡ Section = sectioned_by r.supply (Join c.args.dst c.args.section) (λ e. e) (c.run.invariant.0.fit r.next (Join c.args.dst c.args.section) at) in
    let fits = subst (λ (s : Supply). FitsIn s (Join c.args.dst c.args.section)) sectioned (c.run.invariant.0.fit r.next (Join c.args.dst c.args.section) at) in
    fits.1

pub push_reserved-requires : goal.push_reserved-requires
push_reserved-requires c =
    let r : RunView = record { token = c.run.inside.domain; commands = c.run.inside.commands.items; next = c.run.inside.next; replies = c.run.inside.replies.items; ended = c.run.inside.ended; left = c.run.inside.left; asked = c.run.inside.asked; collected = c.run.inside.collected; progress = c.run.inside.progress; due = c.run.inside.due; hints = c.run.inside.hints; supply = c.run.inside.supply; place = c.run.inside.place; spare = c.run.inside.spare; ran = c.run.inside.ran.items } in
    let at : slice_get r.commands r.next ≡ Some (Join c.args.dst c.args.section) = subst (λ (x : RunView). slice_get x.commands x.next ≡ Some (Join c.args.dst c.args.section)) (sym c.run.view_is) c.requires.next in
    let few : length r.replies < length r.commands + length r.commands = next_replies r c.run.invariant.0 (Join c.args.dst c.args.section) at in
    let room : length r.commands + length r.commands ≤ vec_capacity c.run.inside.replies = c.run.invariant.1.answers in
    omega (arith, few, room)

pub invariant_of-run : goal.invariant_of-run
invariant_of-run c =
    let r : RunView = record { token = c.run.inside.domain; commands = c.run.inside.commands.items; next = c.run.inside.next; replies = c.run.inside.replies.items; ended = c.run.inside.ended; left = c.run.inside.left; asked = c.run.inside.asked; collected = c.run.inside.collected; progress = c.run.inside.progress; due = c.run.inside.due; hints = c.run.inside.hints; supply = c.run.inside.supply; place = c.run.inside.place; spare = c.run.inside.spare; ran = c.run.inside.ran.items } in
    let running : r.ended ≡ false = subst (λ (x : RunView). x.ended ≡ false) (sym c.run.view_is) c.requires.running in
    let left : r.left ≡ None = subst (λ (x : RunView). x.left ≡ None) (sym c.run.view_is) c.requires.left in
    let going : r.place ≢ Before = subst (λ (x : RunView). x.place ≢ Before) (sym c.run.view_is) c.requires.going in
    let at : slice_get r.commands r.next ≡ Some (Join c.args.dst c.args.section) = subst (λ (x : RunView). slice_get x.commands x.next ≡ Some (Join c.args.dst c.args.section)) (sym c.run.view_is) c.requires.next in
    let sectioned : r.supply ≡ Section = sectioned_by r.supply (Join c.args.dst c.args.section) (λ e. e) (c.run.invariant.0.fit r.next (Join c.args.dst c.args.section) at) in
    let taken = subst (TakeAnswers c.args.heap.now r.token c.take.new.dom c.args.dst c.args.section) c.in_default.is c.take.ensures.taken in
    let waits = join_waits r c.args.dst c.args.section going at in
    let is = held_is_run c.args.heap.now r c.take.new.dom c.run.invariant.0 sectioned running left c.args.section waits.0 (subst (λ (z : ℤ). LooksAt c.args.heap.now r.token c.take.new.dom c.args.section z false) (sym waits.1) taken) (words_of_registers _ _ c.take.ensures.rest) in
    (is, c.run.invariant.1)

pub invariant_of-run-2 : goal.invariant_of-run-2
invariant_of-run-2 c =
    let r : RunView = record { token = c.run.inside.domain; commands = c.run.inside.commands.items; next = c.run.inside.next; replies = c.run.inside.replies.items; ended = c.run.inside.ended; left = c.run.inside.left; asked = c.run.inside.asked; collected = c.run.inside.collected; progress = c.run.inside.progress; due = c.run.inside.due; hints = c.run.inside.hints; supply = c.run.inside.supply; place = c.run.inside.place; spare = c.run.inside.spare; ran = c.run.inside.ran.items } in
    let running : r.ended ≡ false = subst (λ (x : RunView). x.ended ≡ false) (sym c.run.view_is) c.requires.running in
    let left : r.left ≡ None = subst (λ (x : RunView). x.left ≡ None) (sym c.run.view_is) c.requires.left in
    let going : r.place ≢ Before = subst (λ (x : RunView). x.place ≢ Before) (sym c.run.view_is) c.requires.going in
    let at : slice_get r.commands r.next ≡ Some (Join c.args.dst c.args.section) = subst (λ (x : RunView). slice_get x.commands x.next ≡ Some (Join c.args.dst c.args.section)) (sym c.run.view_is) c.requires.next in
    let sectioned : r.supply ≡ Section = sectioned_by r.supply (Join c.args.dst c.args.section) (λ e. e) (c.run.invariant.0.fit r.next (Join c.args.dst c.args.section) at) in
    let taken = subst (TakeAnswers c.args.heap.now r.token c.take.new.dom c.args.dst c.args.section) c.in-Some.is c.take.ensures.taken in
    let is = joined_is_run c.args.heap.now r c.take.new.dom c.run.invariant.0 sectioned running left c.args.dst c.args.section c.in-Some.reply at going taken (words_of_registers _ _ c.take.ensures.rest) in
    let room : HasReserved r.supply (length r.commands) r.spare (vec_capacity c.run.inside.commands) (vec_capacity c.push_reserved.new.self) (places_in c.run.inside.ran) = subst (λ n. HasReserved r.supply (length r.commands) r.spare (vec_capacity c.run.inside.commands) n (places_in c.run.inside.ran)) (sym c.push_reserved.ensures.capacity) c.run.invariant.1 in
    (subst (λ (rs : List Reply). IsRun (record r { token = c.take.new.dom; next = r.next + 1; replies = rs; asked = None; collected = false; due = 0 })) (sym c.push_reserved.ensures.items) is, room)

pub returns-in_default-clause-answer : goal.returns-in_default-clause-answer
returns-in_default-clause-answer c =
    let r : RunView = record { token = c.run.inside.domain; commands = c.run.inside.commands.items; next = c.run.inside.next; replies = c.run.inside.replies.items; ended = c.run.inside.ended; left = c.run.inside.left; asked = c.run.inside.asked; collected = c.run.inside.collected; progress = c.run.inside.progress; due = c.run.inside.due; hints = c.run.inside.hints; supply = c.run.inside.supply; place = c.run.inside.place; spare = c.run.inside.spare; ran = c.run.inside.ran.items } in
    let going : r.place ≢ Before = subst (λ (x : RunView). x.place ≢ Before) (sym c.run.view_is) c.requires.going in
    let at : slice_get r.commands r.next ≡ Some (Join c.args.dst c.args.section) = subst (λ (x : RunView). slice_get x.commands x.next ≡ Some (Join c.args.dst c.args.section)) (sym c.run.view_is) c.requires.next in
    let sectioned : r.supply ≡ Section = sectioned_by r.supply (Join c.args.dst c.args.section) (λ e. e) (c.run.invariant.0.fit r.next (Join c.args.dst c.args.section) at) in
    let taken = subst (TakeAnswers c.args.heap.now r.token c.take.new.dom c.args.dst c.args.section) c.in_default.is c.take.ensures.taken in
    let waits = join_waits r c.args.dst c.args.section going at in
    let held : HeldBack c.args.heap.now r.token r (record r { token = c.take.new.dom; collected = false; due = 0 }) c.args.section = record {
      sectioned = sectioned;
      goes_on = subst (λ (x : RunView). x.ended ≡ false) (sym c.run.view_is) c.requires.running;
      waits = waits.0;
      unqueued = subst (λ (x : RunView). IsUnqueued x.token) (sym c.run.view_is) c.requires.unqueued;
      looked = subst (λ (z : ℤ). LooksAt c.args.heap.now r.token c.take.new.dom c.args.section z false) (sym waits.1) taken;
      rest = c.take.ensures.rest;
      run = refl;
    } in
    subst (λ (x : RunView). HeldBack c.args.heap.now x.token x (record r { token = c.take.new.dom; collected = false; due = 0 }) c.args.section) c.run.view_is held

pub returns-clause-answer : goal.returns-clause-answer
returns-clause-answer c =
    let r : RunView = record { token = c.run.inside.domain; commands = c.run.inside.commands.items; next = c.run.inside.next; replies = c.run.inside.replies.items; ended = c.run.inside.ended; left = c.run.inside.left; asked = c.run.inside.asked; collected = c.run.inside.collected; progress = c.run.inside.progress; due = c.run.inside.due; hints = c.run.inside.hints; supply = c.run.inside.supply; place = c.run.inside.place; spare = c.run.inside.spare; ran = c.run.inside.ran.items } in
    let going : r.place ≢ Before = subst (λ (x : RunView). x.place ≢ Before) (sym c.run.view_is) c.requires.going in
    let at : slice_get r.commands r.next ≡ Some (Join c.args.dst c.args.section) = subst (λ (x : RunView). slice_get x.commands x.next ≡ Some (Join c.args.dst c.args.section)) (sym c.run.view_is) c.requires.next in
    let sectioned : r.supply ≡ Section = sectioned_by r.supply (Join c.args.dst c.args.section) (λ e. e) (c.run.invariant.0.fit r.next (Join c.args.dst c.args.section) at) in
    let taken = subst (TakeAnswers c.args.heap.now r.token c.take.new.dom c.args.dst c.args.section) c.in-Some.is c.take.ensures.taken in
    let now : List Reply → RunView = λ rs. record r { token = c.take.new.dom; next = r.next + 1; replies = rs; asked = None; collected = false; due = 0 } in
    let made : MakesCommand c.args.heap.now r.token r (now (r.replies ++ c.in-Some.reply ∷ [])) (Join c.args.dst c.args.section) = record {
      sectioned = sectioned;
      goes_on = subst (λ (x : RunView). x.ended ≡ false) (sym c.run.view_is) c.requires.running;
      going = going;
      four = λ e. e;
      next = at;
      unqueued = subst (λ (x : RunView). IsUnqueued x.token) (sym c.run.view_is) c.requires.unqueued;
      ready = λ e. e;
      reply = c.in-Some.reply;
      completes = taken;
      rest = words_of_registers _ _ c.take.ensures.rest;
      run = refl;
    } in
    Makes (Join c.args.dst c.args.section) (subst (λ (x : RunView). MakesCommand c.args.heap.now x.token x (now c.push_reserved.new.self.items) (Join c.args.dst c.args.section)) c.run.view_is
    (subst (λ (rs : List Reply). MakesCommand c.args.heap.now r.token r (now rs) (Join c.args.dst c.args.section)) (sym c.push_reserved.ensures.items) made))
