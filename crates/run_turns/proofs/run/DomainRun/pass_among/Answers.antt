use Rattle.std.proofs.Common.{◌≡◌, ◌∙◌, ◌∷◌, ◌++◌, ◌+◌, ◌^◌, ◌<◌, ◌≤◌, [], ℕ, true, false, List, Some, length, sym, ap, subst, arith}
use Rattle.std.specs.Prelude.{vec_capacity}
use Rattle.heap_rule.specs.Phases.{Pause}
use Rattle.heap_rule.specs.Token.{Token, IsIn}
use Rattle.gc_pause.specs.declared.stops.answer.Look.TheVariants.{NotAll}
use Rattle.run_turns.specs.LookOutcomes.{run_after}
use Rattle.run_turns.specs.Meeting.{ArrivedLeast, PassesAmong, StandsBehind}
use Rattle.run_turns.specs.Runs.{GoesOn, HasReserved, RunView, IsRun, WaitsForAnswer, places_in, run_seeing}
use Rattle.run_turns.proofs.Bringing.{all_met, goes_behind}
use Rattle.run_turns.proofs.GoingLemmas.{past_goes}
use Rattle.run_turns.proofs.MeetingLemmas.{seeing_is_run}
use Rattle.run_turns.proofs.Passed.{after_answers, after_is_run, after_passes, keeps_reply, kept_run, looked_of, waited_seeing, waits_seeing}
use Rattle.run_turns.proofs.run.DomainRun.pass_among.Goals as goal

pub pass-past-requires-clause-looked : goal.pass-past-requires-clause-looked
pass-past-requires-clause-looked c =
    let r : RunView = record { token = c.self.inside.domain; commands = c.self.inside.commands.items; next = c.self.inside.next; replies = c.self.inside.replies.items; ended = c.self.inside.ended; left = c.self.inside.left; asked = c.self.inside.asked; collected = c.self.inside.collected; progress = c.self.inside.progress; due = c.self.inside.due; hints = c.self.inside.hints; supply = c.self.inside.supply; place = c.self.inside.place; spare = c.self.inside.spare; ran = c.self.inside.ran.items } in
    let was : c.push_reserved.new.self.items ≡ r.token ∷ [] = c.push_reserved.ensures.items ∙ ap (λ (ts : List Token). ts ++ r.token ∷ []) c.requires.empty in
    let here = subst (λ (x : RunView). IsIn x.token c.args.heap.now) (sym c.self.view_is) c.requires.here in
    let found = c.in-Some-bring.found in
    let t : Token = c.in-Some-pop.domain in
    let last = c.in-Some.last in
    let live = c.waits_for_answer-live.result in
    let m = all_met c.args.heap.now r c.push_reserved.new.self.items c.bring.new.room.items c.pop.new.self.items t c.args.others.now c.bring.new.others (Some found) was c.in-Some-bring.ensures.brought c.in-Some-pop.ensures.items in
    let q : RunView = run_seeing r m.history in
    let is = seeing_is_run c.args.heap.now r m.history here c.self.invariant.0 m.begins in
    let few : q.token.view.own.arrivals < 2 ^ 60 = subst (λ (x : RunView). x.token.view.own.arrivals < 2 ^ 60) (sym c.self.view_is) c.requires.may.few in
    let waits : live ≡ true → WaitsForAnswer q = λ e. waits_seeing r m.history (subst WaitsForAnswer (sym c.self.view_is) (c.waits_for_answer-live.ensures.yes e)) in
    let looked = looked_of c.args.heap.now q t.view last live found is here c.in-Some.is few waits m.first.0 in
    (q.token.view, looked)

pub keep_answer-requires-clause-room : goal.keep_answer-requires-clause-room
keep_answer-requires-clause-room c =
    let r : RunView = record { token = c.self.inside.domain; commands = c.self.inside.commands.items; next = c.self.inside.next; replies = c.self.inside.replies.items; ended = c.self.inside.ended; left = c.self.inside.left; asked = c.self.inside.asked; collected = c.self.inside.collected; progress = c.self.inside.progress; due = c.self.inside.due; hints = c.self.inside.hints; supply = c.self.inside.supply; place = c.self.inside.place; spare = c.self.inside.spare; ran = c.self.inside.ran.items } in
    let was : c.push_reserved.new.self.items ≡ r.token ∷ [] = c.push_reserved.ensures.items ∙ ap (λ (ts : List Token). ts ++ r.token ∷ []) c.requires.empty in
    let here = subst (λ (x : RunView). IsIn x.token c.args.heap.now) (sym c.self.view_is) c.requires.here in
    let found = c.in-Some-bring.found in
    let t : Token = c.in-Some-pop.domain in
    let last = c.in-Some.last in
    let live = c.waits_for_answer-live.result in
    let m = all_met c.args.heap.now r c.push_reserved.new.self.items c.bring.new.room.items c.pop.new.self.items t c.args.others.now c.bring.new.others (Some found) was c.in-Some-bring.ensures.brought c.in-Some-pop.ensures.items in
    let q : RunView = run_seeing r m.history in
    let is = seeing_is_run c.args.heap.now r m.history here c.self.invariant.0 m.begins in
    let few : q.token.view.own.arrivals < 2 ^ 60 = subst (λ (x : RunView). x.token.view.own.arrivals < 2 ^ 60) (sym c.self.view_is) c.requires.may.few in
    let waits : live ≡ true → WaitsForAnswer q = λ e. waits_seeing r m.history (subst WaitsForAnswer (sym c.self.view_is) (c.waits_for_answer-live.ensures.yes e)) in
    let looked = looked_of c.args.heap.now q t.view last live found is here c.in-Some.is few waits m.first.0 in
    let past = c.pass-past.result in
    let z : Token = c.pass-past.new.dom in
    let given = c.pass-past.ensures.answer q.token.view looked in
    λ blocks reply came.
    let few_replies : length r.replies < length r.commands + length r.commands = keeps_reply c.args.decider c.args.heap.now q q.token.view z.view last live past blocks reply is waits given.0 came in
    let room : length r.commands + length r.commands ≤ vec_capacity c.self.inside.replies = c.self.invariant.1.answers in
    let long = c.self.inside.replies.ok.0 in
    omega (arith, few_replies, room, long)

pub invariant_of-run : goal.invariant_of-run
invariant_of-run c =
    let r : RunView = record { token = c.self.inside.domain; commands = c.self.inside.commands.items; next = c.self.inside.next; replies = c.self.inside.replies.items; ended = c.self.inside.ended; left = c.self.inside.left; asked = c.self.inside.asked; collected = c.self.inside.collected; progress = c.self.inside.progress; due = c.self.inside.due; hints = c.self.inside.hints; supply = c.self.inside.supply; place = c.self.inside.place; spare = c.self.inside.spare; ran = c.self.inside.ran.items } in
    let was : c.push_reserved.new.self.items ≡ r.token ∷ [] = c.push_reserved.ensures.items ∙ ap (λ (ts : List Token). ts ++ r.token ∷ []) c.requires.empty in
    let here = subst (λ (x : RunView). IsIn x.token c.args.heap.now) (sym c.self.view_is) c.requires.here in
    let found = c.in-Some-bring.found in
    let t : Token = c.in-Some-pop.domain in
    let last = c.in-Some.last in
    let live = c.waits_for_answer-live.result in
    let m = all_met c.args.heap.now r c.push_reserved.new.self.items c.bring.new.room.items c.pop.new.self.items t c.args.others.now c.bring.new.others (Some found) was c.in-Some-bring.ensures.brought c.in-Some-pop.ensures.items in
    let q : RunView = run_seeing r m.history in
    let is = seeing_is_run c.args.heap.now r m.history here c.self.invariant.0 m.begins in
    let few : q.token.view.own.arrivals < 2 ^ 60 = subst (λ (x : RunView). x.token.view.own.arrivals < 2 ^ 60) (sym c.self.view_is) c.requires.may.few in
    let waits : live ≡ true → WaitsForAnswer q = λ e. waits_seeing r m.history (subst WaitsForAnswer (sym c.self.view_is) (c.waits_for_answer-live.ensures.yes e)) in
    let looked = looked_of c.args.heap.now q t.view last live found is here c.in-Some.is few waits m.first.0 in
    let past = c.pass-past.result in
    let z : Token = c.pass-past.new.dom in
    let given = c.pass-past.ensures.answer q.token.view looked in
    let rests : live ≡ false → WaitsForAnswer q → ⊥ = λ e w. c.waits_for_answer-live.ensures.no e (subst WaitsForAnswer c.self.view_is (waited_seeing r m.history w)) in
    let hints = c.pass-past.ensures.hints q.token.view looked in
    let kept = c.keep_answer.ensures in
    let now = kept_run c.args.heap.now.config q z past last c.pass-past.new.progress c.pass-past.new.hints c.keep_answer.new.next c.queued.result c.keep_answer.new.due c.keep_answer.new.replies.items c.left_after-run-inside.result c.keep_answer.new.asked c.keep_answer.new.collected kept.next kept.replies c.left_after-run-inside.ensures kept.asked kept.collected kept.due c.queued.ensures in (
      subst IsRun (sym now) (after_is_run c.args.decider c.args.heap.now q z last live c.pass-past.new.progress c.pass-past.new.hints past c.pass-past.ensures.deck is c.in-Some.is here c.pass-past.ensures.here given.0 waits c.pass-past.ensures.knows),
      subst (λ (n : ℕ). HasReserved r.supply (length r.commands) r.spare (vec_capacity c.self.inside.commands) n (places_in c.self.inside.ran)) (sym kept.capacity) c.self.invariant.1,
    )

pub returns-clause-passed : goal.returns-clause-passed
returns-clause-passed c =
    let r : RunView = record { token = c.self.inside.domain; commands = c.self.inside.commands.items; next = c.self.inside.next; replies = c.self.inside.replies.items; ended = c.self.inside.ended; left = c.self.inside.left; asked = c.self.inside.asked; collected = c.self.inside.collected; progress = c.self.inside.progress; due = c.self.inside.due; hints = c.self.inside.hints; supply = c.self.inside.supply; place = c.self.inside.place; spare = c.self.inside.spare; ran = c.self.inside.ran.items } in
    let was : c.push_reserved.new.self.items ≡ r.token ∷ [] = c.push_reserved.ensures.items ∙ ap (λ (ts : List Token). ts ++ r.token ∷ []) c.requires.empty in
    let here = subst (λ (x : RunView). IsIn x.token c.args.heap.now) (sym c.self.view_is) c.requires.here in
    let found = c.in-Some-bring.found in
    let t : Token = c.in-Some-pop.domain in
    let last = c.in-Some.last in
    let live = c.waits_for_answer-live.result in
    let m = all_met c.args.heap.now r c.push_reserved.new.self.items c.bring.new.room.items c.pop.new.self.items t c.args.others.now c.bring.new.others (Some found) was c.in-Some-bring.ensures.brought c.in-Some-pop.ensures.items in
    let q : RunView = run_seeing r m.history in
    let is = seeing_is_run c.args.heap.now r m.history here c.self.invariant.0 m.begins in
    let few : q.token.view.own.arrivals < 2 ^ 60 = subst (λ (x : RunView). x.token.view.own.arrivals < 2 ^ 60) (sym c.self.view_is) c.requires.may.few in
    let waits : live ≡ true → WaitsForAnswer q = λ e. waits_seeing r m.history (subst WaitsForAnswer (sym c.self.view_is) (c.waits_for_answer-live.ensures.yes e)) in
    let looked = looked_of c.args.heap.now q t.view last live found is here c.in-Some.is few waits m.first.0 in
    let past = c.pass-past.result in
    let z : Token = c.pass-past.new.dom in
    let given = c.pass-past.ensures.answer q.token.view looked in
    let rests : live ≡ false → WaitsForAnswer q → ⊥ = λ e w. c.waits_for_answer-live.ensures.no e (subst WaitsForAnswer c.self.view_is (waited_seeing r m.history w)) in
    let hints = c.pass-past.ensures.hints q.token.view looked in
    let kept = c.keep_answer.ensures in
    let now = kept_run c.args.heap.now.config q z past last c.pass-past.new.progress c.pass-past.new.hints c.keep_answer.new.next c.queued.result c.keep_answer.new.due c.keep_answer.new.replies.items c.left_after-run-inside.result c.keep_answer.new.asked c.keep_answer.new.collected kept.next kept.replies c.left_after-run-inside.ensures kept.asked kept.collected kept.due c.queued.ensures in
    let moves = λ (b : ℕ) (none : found ≡ NotAll b). m.acts c.requires.may.all (subst (λ (x : RunView). ArrivedLeast x c.args.others.now) (sym c.self.view_is) c.requires.may.least) b (ap Some none) in
    let both = after_passes c.args.decider c.args.heap.now q z last live c.pass-past.new.progress c.pass-past.new.hints m.pause t.view found past moves m.first.1 c.in-Some.is here c.pass-past.ensures.here given.0 given.1 hints waits rests in
    let stands = subst (λ (pause : Pause). StandsBehind c.args.heap.now c.args.decider pause q (run_after c.args.heap.now.config q z past last c.pass-past.new.progress c.pass-past.new.hints) both.0) (sym m.same) both.1 in
    let among : PassesAmong c.args.heap.now c.args.decider r (run_after c.args.heap.now.config q z past last c.pass-past.new.progress c.pass-past.new.hints) c.args.others.now c.bring.new.others = record { met = q; all_met = m.all; passes = both.0; stands = stands } in
    subst (λ (p : RunView × RunView). PassesAmong c.args.heap.now c.args.decider p.0 p.1 c.args.others.now c.bring.new.others) (λ i. (c.self.view_is i, sym now i)) among

pub returns-clause-goes_on : goal.returns-clause-goes_on
returns-clause-goes_on c =
    let r : RunView = record { token = c.self.inside.domain; commands = c.self.inside.commands.items; next = c.self.inside.next; replies = c.self.inside.replies.items; ended = c.self.inside.ended; left = c.self.inside.left; asked = c.self.inside.asked; collected = c.self.inside.collected; progress = c.self.inside.progress; due = c.self.inside.due; hints = c.self.inside.hints; supply = c.self.inside.supply; place = c.self.inside.place; spare = c.self.inside.spare; ran = c.self.inside.ran.items } in
    let was : c.push_reserved.new.self.items ≡ r.token ∷ [] = c.push_reserved.ensures.items ∙ ap (λ (ts : List Token). ts ++ r.token ∷ []) c.requires.empty in
    let here = subst (λ (x : RunView). IsIn x.token c.args.heap.now) (sym c.self.view_is) c.requires.here in
    let found = c.in-Some-bring.found in
    let t : Token = c.in-Some-pop.domain in
    let last = c.in-Some.last in
    let live = c.waits_for_answer-live.result in
    let m = all_met c.args.heap.now r c.push_reserved.new.self.items c.bring.new.room.items c.pop.new.self.items t c.args.others.now c.bring.new.others (Some found) was c.in-Some-bring.ensures.brought c.in-Some-pop.ensures.items in
    let q : RunView = run_seeing r m.history in
    let is = seeing_is_run c.args.heap.now r m.history here c.self.invariant.0 m.begins in
    let few : q.token.view.own.arrivals < 2 ^ 60 = subst (λ (x : RunView). x.token.view.own.arrivals < 2 ^ 60) (sym c.self.view_is) c.requires.may.few in
    let waits : live ≡ true → WaitsForAnswer q = λ e. waits_seeing r m.history (subst WaitsForAnswer (sym c.self.view_is) (c.waits_for_answer-live.ensures.yes e)) in
    let looked = looked_of c.args.heap.now q t.view last live found is here c.in-Some.is few waits m.first.0 in
    let past = c.pass-past.result in
    let z : Token = c.pass-past.new.dom in
    let given = c.pass-past.ensures.answer q.token.view looked in
    let rests : live ≡ false → WaitsForAnswer q → ⊥ = λ e w. c.waits_for_answer-live.ensures.no e (subst WaitsForAnswer c.self.view_is (waited_seeing r m.history w)) in
    let hints = c.pass-past.ensures.hints q.token.view looked in
    let kept = c.keep_answer.ensures in
    let now = kept_run c.args.heap.now.config q z past last c.pass-past.new.progress c.pass-past.new.hints c.keep_answer.new.next c.queued.result c.keep_answer.new.due c.keep_answer.new.replies.items c.left_after-run-inside.result c.keep_answer.new.asked c.keep_answer.new.collected kept.next kept.replies c.left_after-run-inside.ensures kept.asked kept.collected kept.due c.queued.ensures in
    let past_is = after_answers c.args.decider c.args.heap.now q z last live c.pass-past.new.progress c.pass-past.new.hints past c.in-Some.is here c.pass-past.ensures.here given.0 hints waits rests in
    subst (λ (p : RunView × RunView). GoesOn p.0 p.1) (λ i. (c.self.view_is i, sym now i)) (goes_behind r _ m.history m.begins (past_goes c.args.decider c.args.heap.now q _ past past_is is))

pub returns-clause-room : goal.returns-clause-room
returns-clause-room c =
    let r : RunView = record { token = c.self.inside.domain; commands = c.self.inside.commands.items; next = c.self.inside.next; replies = c.self.inside.replies.items; ended = c.self.inside.ended; left = c.self.inside.left; asked = c.self.inside.asked; collected = c.self.inside.collected; progress = c.self.inside.progress; due = c.self.inside.due; hints = c.self.inside.hints; supply = c.self.inside.supply; place = c.self.inside.place; spare = c.self.inside.spare; ran = c.self.inside.ran.items } in
    let was : c.push_reserved.new.self.items ≡ r.token ∷ [] = c.push_reserved.ensures.items ∙ ap (λ (ts : List Token). ts ++ r.token ∷ []) c.requires.empty in
    let here = subst (λ (x : RunView). IsIn x.token c.args.heap.now) (sym c.self.view_is) c.requires.here in
    let found = c.in-Some-bring.found in
    let t : Token = c.in-Some-pop.domain in
    let last = c.in-Some.last in
    let live = c.waits_for_answer-live.result in
    let m = all_met c.args.heap.now r c.push_reserved.new.self.items c.bring.new.room.items c.pop.new.self.items t c.args.others.now c.bring.new.others (Some found) was c.in-Some-bring.ensures.brought c.in-Some-pop.ensures.items in
    let q : RunView = run_seeing r m.history in
    let is = seeing_is_run c.args.heap.now r m.history here c.self.invariant.0 m.begins in
    let few : q.token.view.own.arrivals < 2 ^ 60 = subst (λ (x : RunView). x.token.view.own.arrivals < 2 ^ 60) (sym c.self.view_is) c.requires.may.few in
    let waits : live ≡ true → WaitsForAnswer q = λ e. waits_seeing r m.history (subst WaitsForAnswer (sym c.self.view_is) (c.waits_for_answer-live.ensures.yes e)) in
    let looked = looked_of c.args.heap.now q t.view last live found is here c.in-Some.is few waits m.first.0 in
    (m.empty, c.pop.ensures.capacity ∙ (c.in-Some-bring.ensures.room ∙ c.push_reserved.ensures.capacity))
