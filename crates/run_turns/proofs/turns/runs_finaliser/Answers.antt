use Rattle.std.proofs.Common.{◌≡◌, ◌+◌, ◌<◌, ◌≤◌, ℕ, List, None, false, length, sym, ap, ◌∙◌, subst, arith}
use Rattle.std.specs.Prelude.{vec_capacity}
use Rattle.model_core.specs.declared.reply.Reply.{Reply}
use Rattle.heap_rule.specs.Token.{IsIn}
use Rattle.step_finalisers.specs.Registering.{count_of}
use Rattle.step_finalisers.specs.Running.{ran_own}
use Rattle.run_turns.specs.Runs.{HasReserved, IsRun, RunView, places_in, ran_with, said_with}
use Rattle.run_turns.proofs.Owing.{ran_count}
use Rattle.run_turns.proofs.Turning.{ran_apart, ran_is_run, ran_replies}
use Rattle.run_turns.proofs.turns.runs_finaliser.Goals as goal

pub keep_ran-requires-clause-among : goal.keep_ran-requires-clause-among
keep_ran-requires-clause-among c = λ other.
    let r : RunView = record { token = c.run.inside.domain; commands = c.run.inside.commands.items; next = c.run.inside.next; replies = c.run.inside.replies.items; ended = c.run.inside.ended; left = c.run.inside.left; asked = c.run.inside.asked; collected = c.run.inside.collected; progress = c.run.inside.progress; due = c.run.inside.due; hints = c.run.inside.hints; supply = c.run.inside.supply; place = c.run.inside.place; spare = c.run.inside.spare; ran = c.run.inside.ran.items } in
    let ran = c.in-Some.ensures.ran in
    let few : length r.replies < length r.commands + length r.commands = ran_replies r c.run.invariant.0 (count_of (ran_own ran.first r.token.view.own).finalisers) (ran_count ran.first r.token.view.own ran.is_first) other in
    let room : length r.commands + length r.commands ≤ vec_capacity c.run.inside.replies = c.run.invariant.1.answers in
    omega (arith, few, room)

pub keep_ran-requires-clause-apart : goal.keep_ran-requires-clause-apart
keep_ran-requires-clause-apart c = λ handed.
    let r : RunView = record { token = c.run.inside.domain; commands = c.run.inside.commands.items; next = c.run.inside.next; replies = c.run.inside.replies.items; ended = c.run.inside.ended; left = c.run.inside.left; asked = c.run.inside.asked; collected = c.run.inside.collected; progress = c.run.inside.progress; due = c.run.inside.due; hints = c.run.inside.hints; supply = c.run.inside.supply; place = c.run.inside.place; spare = c.run.inside.spare; ran = c.run.inside.ran.items } in
    let ran = c.in-Some.ensures.ran in
    let few : length r.ran < r.spare = ran_apart r c.run.invariant.0 (count_of (ran_own ran.first r.token.view.own).finalisers) (ran_count ran.first r.token.view.own ran.is_first) handed in
    let room : r.spare ≤ places_in c.run.inside.ran = c.run.invariant.1.apart handed in
    omega (arith, few, room)

pub invariant_of-run-2 : goal.invariant_of-run-2
invariant_of-run-2 c =
    let r : RunView = record { token = c.run.inside.domain; commands = c.run.inside.commands.items; next = c.run.inside.next; replies = c.run.inside.replies.items; ended = c.run.inside.ended; left = c.run.inside.left; asked = c.run.inside.asked; collected = c.run.inside.collected; progress = c.run.inside.progress; due = c.run.inside.due; hints = c.run.inside.hints; supply = c.run.inside.supply; place = c.run.inside.place; spare = c.run.inside.spare; ran = c.run.inside.ran.items } in
    let here : IsIn r.token c.args.heap.now = subst (λ (x : RunView). IsIn x.token c.args.heap.now) (sym c.run.view_is) c.requires.here in
    let running : r.ended ≡ false = subst (λ (x : RunView). x.ended ≡ false) (sym c.run.view_is) c.requires.running in
    let left : r.left ≡ None = subst (λ (x : RunView). x.left ≡ None) (sym c.run.view_is) c.requires.left in
    let e = c.in-Some.ensures in
    let is = ran_is_run c.args.heap.now r c.run_next.new.dom c.in-Some.ran c.run.invariant.0 running left here e.continues.here e.continues.goes_on.goes_on e.ran in
    let k = c.keep_ran.ensures in
    let said = k.replies ∙ ap (λ (x : Reply). said_with r.supply r.replies x) c.reply.ensures in
    let apart = k.ran ∙ ap (λ (x : Reply). ran_with r.supply r.ran x) c.reply.ensures in
    let room : HasReserved r.supply (length r.commands) r.spare (vec_capacity c.run.inside.commands) (vec_capacity c.keep_ran.new.replies) (places_in c.keep_ran.new.ran) = subst (λ (z : ℕ × ℕ). HasReserved r.supply (length r.commands) r.spare (vec_capacity c.run.inside.commands) z.0 z.1) (λ i. (sym k.room i, sym k.places i)) c.run.invariant.1 in
    (subst (λ (z : List Reply × (List Reply × ℕ)). IsRun (record r { token = c.run_next.new.dom; replies = z.0; ran = z.1.0; due = z.1.1 })) (λ i. (sym said i, (sym apart i, sym c.queued-run-inside.ensures i))) is, room)
