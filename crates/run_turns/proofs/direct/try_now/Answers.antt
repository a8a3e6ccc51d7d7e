use Rattle.std.proofs.Common.{◌≡◌, ◌≤◌, ℕ, List, None, length, arith, sym, ap, subst}
use Rattle.std.specs.Prelude.{vec_capacity}
use Rattle.model_core.specs.declared.command.Command as model
use Rattle.model_core.specs.declared.reply.Reply.{Reply}
use Rattle.heap_rule.specs.Token.{IsIn}
use Rattle.run_turns.specs.Runs.{IsHandedIn, IsRun, IsUnqueued, MaySubmit, RunView, cleared}
use Rattle.run_turns.proofs.AtOnce.{cleared_is_run, open_acts, submits_enlists}
use Rattle.run_turns.proofs.MeetingLemmas.{untried_is_run}
use Rattle.run_turns.proofs.direct.try_now.Goals as goal

pub try_command-requires-clause-runs : goal.try_command-requires-clause-runs
try_command-requires-clause-runs c =
    let r : RunView = record { token = c.run.inside.domain; commands = c.run.inside.commands.items; next = c.run.inside.next; replies = c.run.inside.replies.items; ended = c.run.inside.ended; left = c.run.inside.left; asked = c.run.inside.asked; collected = c.run.inside.collected; progress = c.run.inside.progress; due = c.run.inside.due; hints = c.run.inside.hints; supply = c.run.inside.supply; place = c.run.inside.place; spare = c.run.inside.spare; ran = c.run.inside.ran.items } in
    let may : MaySubmit r c.args.command.now = subst (λ (x : RunView). MaySubmit x c.args.command.now) (sym c.run.view_is) c.requires.may in
    open_acts c.args.heap.now r (subst (λ (x : RunView). IsIn x.token c.args.heap.now) (sym c.run.view_is) c.requires.here) c.run.invariant.0 may.more (subst (λ (x : RunView). x.left ≡ None) (sym c.run.view_is) c.requires.left) (subst (λ (x : RunView). IsUnqueued x.token) (sym c.run.view_is) c.requires.unqueued)

pub try_command-requires-clause-enlists : goal.try_command-requires-clause-enlists
try_command-requires-clause-enlists c =
    let r : RunView = record { token = c.run.inside.domain; commands = c.run.inside.commands.items; next = c.run.inside.next; replies = c.run.inside.replies.items; ended = c.run.inside.ended; left = c.run.inside.left; asked = c.run.inside.asked; collected = c.run.inside.collected; progress = c.run.inside.progress; due = c.run.inside.due; hints = c.run.inside.hints; supply = c.run.inside.supply; place = c.run.inside.place; spare = c.run.inside.spare; ran = c.run.inside.ran.items } in
    submits_enlists c.args.heap.now r c.args.command.now (subst (λ (x : RunView). IsIn x.token c.args.heap.now) (sym c.run.view_is) c.requires.here) c.run.invariant.0 (subst (λ (x : RunView). MaySubmit x c.args.command.now) (sym c.run.view_is) c.requires.may)

pub forget-requires-clause-answered : goal.forget-requires-clause-answered
forget-requires-clause-answered c =
    let r : RunView = record { token = c.run.inside.domain; commands = c.run.inside.commands.items; next = c.run.inside.next; replies = c.run.inside.replies.items; ended = c.run.inside.ended; left = c.run.inside.left; asked = c.run.inside.asked; collected = c.run.inside.collected; progress = c.run.inside.progress; due = c.run.inside.due; hints = c.run.inside.hints; supply = c.run.inside.supply; place = c.run.inside.place; spare = c.run.inside.spare; ran = c.run.inside.ran.items } in
    let may : MaySubmit r c.args.command.now = subst (λ (x : RunView). MaySubmit x c.args.command.now) (sym c.run.view_is) c.requires.may in
    let handed : IsHandedIn r.supply = subst IsHandedIn (sym may.more) tt in
    (c.run.invariant.0.one handed).answered

pub invariant_of-run : goal.invariant_of-run
invariant_of-run c =
    let r : RunView = record { token = c.run.inside.domain; commands = c.run.inside.commands.items; next = c.run.inside.next; replies = c.run.inside.replies.items; ended = c.run.inside.ended; left = c.run.inside.left; asked = c.run.inside.asked; collected = c.run.inside.collected; progress = c.run.inside.progress; due = c.run.inside.due; hints = c.run.inside.hints; supply = c.run.inside.supply; place = c.run.inside.place; spare = c.run.inside.spare; ran = c.run.inside.ran.items } in
    let may : MaySubmit r c.args.command.now = subst (λ (x : RunView). MaySubmit x c.args.command.now) (sym c.run.view_is) c.requires.may in
    let left : r.left ≡ None = subst (λ (x : RunView). x.left ≡ None) (sym c.run.view_is) c.requires.left in
    let is = cleared_is_run c.args.heap.now r c.try_command.new.dom c.args.command.now c.in-Made.reply c.run.invariant.0 may left c.in-Made.ensures.answer.0 c.in-Made.ensures.answer.1 in
    let handed : IsHandedIn r.supply = subst IsHandedIn (sym may.more) tt in
    let before = c.run.invariant.1 in
    let kept = c.forget.ensures in
    let first : 1 ≤ vec_capacity c.forget.new.commands = omega (arith, (before.one handed).0, kept.one) in
    let second : 2 ≤ vec_capacity c.forget.new.replies = omega (arith, (before.one handed).1, kept.room) in
    let none : length c.forget.new.commands.items ≡ 0 = ap (λ (cs : List model.Command). length cs) c.forget.ensures.commands in (
      subst (λ (z : (List model.Command × ℕ) × List Reply). IsRun (record (cleared r c.try_command.new.dom) { commands = z.0.0; next = z.0.1; replies = z.1 })) (λ i. ((sym c.forget.ensures.commands i, sym c.forget.ensures.next i), sym c.forget.ensures.replies i)) is,
      record { answers = omega (arith, none); one = λ _. (first, second); apart = before.apart },
    )

pub invariant_of-run-in-Needs : goal.invariant_of-run-in-Needs
invariant_of-run-in-Needs c =
    let r : RunView = record { token = c.run.inside.domain; commands = c.run.inside.commands.items; next = c.run.inside.next; replies = c.run.inside.replies.items; ended = c.run.inside.ended; left = c.run.inside.left; asked = c.run.inside.asked; collected = c.run.inside.collected; progress = c.run.inside.progress; due = c.run.inside.due; hints = c.run.inside.hints; supply = c.run.inside.supply; place = c.run.inside.place; spare = c.run.inside.spare; ran = c.run.inside.ran.items } in
    let here : IsIn r.token c.args.heap.now = subst (λ (x : RunView). IsIn x.token c.args.heap.now) (sym c.run.view_is) c.requires.here in
    let left : r.left ≡ None = subst (λ (x : RunView). x.left ≡ None) (sym c.run.view_is) c.requires.left in
    (untried_is_run c.args.heap.now r c.try_command.new.dom c.args.command.now _ _ c.try_command.result here c.run.invariant.0 left c.in-Needs.is c.try_command.ensures.answer, c.run.invariant.1)
