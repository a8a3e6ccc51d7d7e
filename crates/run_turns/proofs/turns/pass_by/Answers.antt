use Rattle.std.proofs.Common.{◌≡◌, ◌+◌, ◌^◌, ◌<◌, ◌≤◌, ℕ, true, false, Some, length, sym, subst, arith}
use Rattle.std.specs.Prelude.{vec_capacity}
use Rattle.heap_rule.specs.Token.{Token, IsIn}
use Rattle.run_turns.specs.LookOutcomes.{PastAnswers}
use Rattle.run_turns.specs.Runs.{HasReserved, RunView, IsRun, WaitsForAnswer, places_in}
use Rattle.run_turns.proofs.Passed.{after_answers, after_is_run, keeps_reply, kept_run, looked_of}
use Rattle.run_turns.proofs.turns.pass_by.Goals as goal

pub keep_answer-requires-clause-room : goal.keep_answer-requires-clause-room
keep_answer-requires-clause-room c =
    let r : RunView = record { token = c.run.inside.domain; commands = c.run.inside.commands.items; next = c.run.inside.next; replies = c.run.inside.replies.items; ended = c.run.inside.ended; left = c.run.inside.left; asked = c.run.inside.asked; collected = c.run.inside.collected; progress = c.run.inside.progress; due = c.run.inside.due; hints = c.run.inside.hints; supply = c.run.inside.supply; place = c.run.inside.place; spare = c.run.inside.spare; ran = c.run.inside.ran.items } in
    let here : IsIn r.token c.args.heap.now = subst (λ (x : RunView). IsIn x.token c.args.heap.now) (sym c.run.view_is) c.requires.here in
    let left : r.left ≡ Some c.args.last = subst (λ (x : RunView). x.left ≡ Some c.args.last) (sym c.run.view_is) c.requires.left in
    let few : r.token.view.own.arrivals < 2 ^ 60 = subst (λ (x : RunView). x.token.view.own.arrivals < 2 ^ 60) (sym c.run.view_is) c.requires.few in
    let live = c.waits_for_answer-live.result in
    let waits : live ≡ true → WaitsForAnswer r = λ e. subst WaitsForAnswer (sym c.run.view_is) (c.waits_for_answer-live.ensures.yes e) in
    let looked = looked_of c.args.heap.now r c.look-found.new.dom.view c.args.last live c.look-found.result c.run.invariant.0 here left few waits c.look-found.ensures.answer in
    let past = c.pass-past.result in
    let z : Token = c.pass-past.new.dom in
    let given = c.pass-past.ensures.answer r.token.view looked in
    λ blocks reply came.
    let few_replies : length r.replies < length r.commands + length r.commands = keeps_reply c.args.decider c.args.heap.now r r.token.view z.view c.args.last live past blocks reply c.run.invariant.0 waits given.0 came in
    let room : length r.commands + length r.commands ≤ vec_capacity c.run.inside.replies = c.run.invariant.1.answers in
    let long = c.run.inside.replies.ok.0 in
    omega (arith, few_replies, room, long)

pub invariant_of-run : goal.invariant_of-run
invariant_of-run c =
    let r : RunView = record { token = c.run.inside.domain; commands = c.run.inside.commands.items; next = c.run.inside.next; replies = c.run.inside.replies.items; ended = c.run.inside.ended; left = c.run.inside.left; asked = c.run.inside.asked; collected = c.run.inside.collected; progress = c.run.inside.progress; due = c.run.inside.due; hints = c.run.inside.hints; supply = c.run.inside.supply; place = c.run.inside.place; spare = c.run.inside.spare; ran = c.run.inside.ran.items } in
    let here : IsIn r.token c.args.heap.now = subst (λ (x : RunView). IsIn x.token c.args.heap.now) (sym c.run.view_is) c.requires.here in
    let left : r.left ≡ Some c.args.last = subst (λ (x : RunView). x.left ≡ Some c.args.last) (sym c.run.view_is) c.requires.left in
    let few : r.token.view.own.arrivals < 2 ^ 60 = subst (λ (x : RunView). x.token.view.own.arrivals < 2 ^ 60) (sym c.run.view_is) c.requires.few in
    let live = c.waits_for_answer-live.result in
    let waits : live ≡ true → WaitsForAnswer r = λ e. subst WaitsForAnswer (sym c.run.view_is) (c.waits_for_answer-live.ensures.yes e) in
    let looked = looked_of c.args.heap.now r c.look-found.new.dom.view c.args.last live c.look-found.result c.run.invariant.0 here left few waits c.look-found.ensures.answer in
    let past = c.pass-past.result in
    let z : Token = c.pass-past.new.dom in
    let given = c.pass-past.ensures.answer r.token.view looked in
    let kept = c.keep_answer.ensures in
    let now = kept_run c.args.heap.now.config r z past c.args.last c.pass-past.new.progress c.pass-past.new.hints c.keep_answer.new.next c.queued.result c.keep_answer.new.due c.keep_answer.new.replies.items c.left_after-run-inside.result c.keep_answer.new.asked c.keep_answer.new.collected kept.next kept.replies c.left_after-run-inside.ensures kept.asked kept.collected kept.due c.queued.ensures in (
      subst IsRun (sym now) (after_is_run c.args.decider c.args.heap.now r z c.args.last live c.pass-past.new.progress c.pass-past.new.hints past c.pass-past.ensures.deck c.run.invariant.0 left here c.pass-past.ensures.here given.0 waits c.pass-past.ensures.knows),
      subst (λ (n : ℕ). HasReserved r.supply (length r.commands) r.spare (vec_capacity c.run.inside.commands) n (places_in c.run.inside.ran)) (sym kept.capacity) c.run.invariant.1,
    )

pub returns-clause-answer : goal.returns-clause-answer
returns-clause-answer c =
    let r : RunView = record { token = c.run.inside.domain; commands = c.run.inside.commands.items; next = c.run.inside.next; replies = c.run.inside.replies.items; ended = c.run.inside.ended; left = c.run.inside.left; asked = c.run.inside.asked; collected = c.run.inside.collected; progress = c.run.inside.progress; due = c.run.inside.due; hints = c.run.inside.hints; supply = c.run.inside.supply; place = c.run.inside.place; spare = c.run.inside.spare; ran = c.run.inside.ran.items } in
    let here : IsIn r.token c.args.heap.now = subst (λ (x : RunView). IsIn x.token c.args.heap.now) (sym c.run.view_is) c.requires.here in
    let left : r.left ≡ Some c.args.last = subst (λ (x : RunView). x.left ≡ Some c.args.last) (sym c.run.view_is) c.requires.left in
    let few : r.token.view.own.arrivals < 2 ^ 60 = subst (λ (x : RunView). x.token.view.own.arrivals < 2 ^ 60) (sym c.run.view_is) c.requires.few in
    let live = c.waits_for_answer-live.result in
    let waits : live ≡ true → WaitsForAnswer r = λ e. subst WaitsForAnswer (sym c.run.view_is) (c.waits_for_answer-live.ensures.yes e) in
    let looked = looked_of c.args.heap.now r c.look-found.new.dom.view c.args.last live c.look-found.result c.run.invariant.0 here left few waits c.look-found.ensures.answer in
    let past = c.pass-past.result in
    let z : Token = c.pass-past.new.dom in
    let given = c.pass-past.ensures.answer r.token.view looked in
    let rests : live ≡ false → WaitsForAnswer r → ⊥ = λ e w. c.waits_for_answer-live.ensures.no e (subst WaitsForAnswer c.run.view_is w) in
    let kept = c.keep_answer.ensures in
    let now = kept_run c.args.heap.now.config r z past c.args.last c.pass-past.new.progress c.pass-past.new.hints c.keep_answer.new.next c.queued.result c.keep_answer.new.due c.keep_answer.new.replies.items c.left_after-run-inside.result c.keep_answer.new.asked c.keep_answer.new.collected kept.next kept.replies c.left_after-run-inside.ensures kept.asked kept.collected kept.due c.queued.ensures in
    subst (λ (p : RunView × RunView). PastAnswers c.args.heap.now c.args.decider p.0 p.1 past) (λ i. (c.run.view_is i, sym now i))
    (after_answers c.args.decider c.args.heap.now r z c.args.last live c.pass-past.new.progress c.pass-past.new.hints past left here c.pass-past.ensures.here given.0 (c.pass-past.ensures.hints r.token.view looked) waits rests)
