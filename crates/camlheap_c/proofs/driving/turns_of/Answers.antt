use Rattle.std.proofs.Common.{◌≡◌, ◌⊎◌, ◌<◌, ◌∙◌, ℕ, inl, Option, Some, None, refl, sym, subst, arith}
use Rattle.model_core.specs.declared.reply.Reply.{Reply}
use Rattle.heap_rule.specs.Token.{SharedHeap}
use Rattle.run_turns.specs.Singly.Driving.{AwaitAnswers, Awaits}
use Rattle.camlheap_c.specs.declared.crossing.CamlheapReply.{CamlheapReply}
use Rattle.camlheap_c.specs.Exported.{GoesOn}
use Rattle.run_turns.specs.Driving.{goes_further, goes_nowhere}
use Rattle.run_seats.specs.Shared.Idling.{still_along, stays_along}
use Rattle.run_seats.specs.Shared.Leaving.{may_along}
use Rattle.heap_rule.specs.Limits.{sizes_in}
use Rattle.run_turns.proofs.Adding.{adds_nowhere}
use Rattle.run_turns.specs.declared.singly.turning.Came.{Came}
use Rattle.run_turns.specs.Singly.Turning.{CameTo}
use Rattle.camlheap_c.proofs.Waiting.{came_below, ends, hungry_waits_not, made, not_done, not_made, ran_on, tells_last, waits_as}
use Rattle.camlheap_c.proofs.driving.turns_of.Goals as goal

pub returns-in-Some-clause-goes_on : goal.returns-in-Some-clause-goes_on
returns-in-Some-clause-goes_on c start command waits =
    let here = c.turns.invariant.awaits start command waits in
    let got = c.await_turn-came.ensures.answers start command here in
    let answered = subst (λ (o : Option Reply). AwaitAnswers c.turns.run.heap start command c.await_turn-came.new.self.run o) c.in-Some.is got in
    let heap = c.await_turn-came.ensures.heap ∙ c.turns.invariant.heap in
    made start command c.args.run.now c.await_turn-came.new.self c.args.reply.now c.in-Some.answer c.reply_of.result heap c.reply_of.ensures (subst (λ (h : SharedHeap). AwaitAnswers h start command c.await_turn-came.new.self.run (Some c.in-Some.answer)) c.turns.invariant.heap answered)

pub returns-then-told-ne-AGAIN-clause-goes_on : goal.returns-then-told-ne-AGAIN-clause-goes_on
returns-then-told-ne-AGAIN-clause-goes_on c start command waits =
    let here = c.turns.invariant.awaits start command waits in
    let got = c.await_turn-came.ensures.answers start command here in
    let none : c.await_turn-came.result.1 ≡ None = c.in_default.is in
    let still : Awaits c.turns.run.heap start command c.await_turn-came.new.self.run = subst (λ (o : Option Reply). AwaitAnswers c.turns.run.heap start command c.await_turn-came.new.self.run o) none got in
    let heap = c.await_turn-came.ensures.heap ∙ c.turns.invariant.heap in
    let other : c.turn_code-told.result ≡ 0 → ⊥ = λ is. not_done c.await_turn-came.result.0 (sym c.turn_code-told.ensures ∙ is) in
    let came_to = c.await_turn-came.ensures.came in
    let which : (c.turn_code-told.result ≡ 1) ⊎ (c.turn_code-told.result ≡ 2) = waits_as c.await_turn-came.result.0 c.turn_code-told.result c.turn_code-told.ensures
    (λ done. hungry_waits_not c.turns.run.heap c.turns.run.heap start command c.turns.run.run c.await_turn-came.new.self.run still (subst (λ (x : Came). CameTo c.turns.run.heap c.turns.run.run c.await_turn-came.new.self.run x) done came_to))
    (λ over. (c.await_turn-came.ensures.ended over).1 still.more) in
    subst (λ (r : CamlheapReply). GoesOn start command c.args.run.now c.await_turn-came.new.self c.args.reply.now r c.turn_code-told.result) (sym c.turns.invariant.unread)
    (not_made start command c.args.run.now c.await_turn-came.new.self c.args.reply.now c.turn_code-told.result other which heap (subst (λ (h : SharedHeap). Awaits h start command c.await_turn-came.new.self.run) c.turns.invariant.heap still))

pub turns-init : goal.turns-init
turns-init c = record { heap = refl; unread = refl; further = goes_nowhere _; idle = λ may. still_along _; ran = λ handed. adds_nowhere (sizes_in c.args.run.now.heap.config) c.args.run.now.run; awaits = λ start command waits. waits }

pub returns-in-Some-clause-further : goal.returns-in-Some-clause-further
returns-in-Some-clause-further c = goes_further _ _ _ c.turns.invariant.further c.await_turn-came.ensures.goes_on

pub returns-in-Some-clause-idle : goal.returns-in-Some-clause-idle
returns-in-Some-clause-idle c may = let so = c.turns.invariant.idle may in stays_along _ _ _ so (c.await_turn-came.ensures.idle (may_along _ _ so may))

pub returns-then-told-ne-AGAIN-clause-further : goal.returns-then-told-ne-AGAIN-clause-further
returns-then-told-ne-AGAIN-clause-further c = goes_further _ _ _ c.turns.invariant.further c.await_turn-came.ensures.goes_on

pub returns-then-told-ne-AGAIN-clause-idle : goal.returns-then-told-ne-AGAIN-clause-idle
returns-then-told-ne-AGAIN-clause-idle c may = let so = c.turns.invariant.idle may in stays_along _ _ _ so (c.await_turn-came.ensures.idle (may_along _ _ so may))

pub returns-then-told-ne-AGAIN-clause-ended : goal.returns-then-told-ne-AGAIN-clause-ended
returns-then-told-ne-AGAIN-clause-ended c is = c.await_turn-came.ensures.ended (ends c.await_turn-came.result.0 (sym c.turn_code-told.ensures ∙ is))

pub turns-preserved : goal.turns-preserved
turns-preserved c = record {
  heap = c.await_turn-came.ensures.heap ∙ c.turns.invariant.heap;
  unread = c.turns.invariant.unread;
  further = goes_further _ _ _ c.turns.invariant.further c.await_turn-came.ensures.goes_on;
  idle = λ may. let so = c.turns.invariant.idle may in stays_along _ _ _ so (c.await_turn-came.ensures.idle (may_along _ _ so may));
  ran = ran_on c.args.run.now c.turns.run c.await_turn-came.new.self c.turns.invariant.heap c.turns.invariant.further c.turns.invariant.ran c.await_turn-came.ensures.goes_on c.await_turn-came.ensures.stretch;
  awaits = λ start command waits.
      let here = c.turns.invariant.awaits start command waits in
      let got = c.await_turn-came.ensures.answers start command here in
      let none : c.await_turn-came.result.1 ≡ None = c.in_default.is in
      let still : Awaits c.turns.run.heap start command c.await_turn-came.new.self.run = subst (λ (o : Option Reply). AwaitAnswers c.turns.run.heap start command c.await_turn-came.new.self.run o) none got in
      subst (λ (h : SharedHeap). Awaits h start command c.await_turn-came.new.self.run) (sym c.await_turn-came.ensures.heap) still;
}

pub returns-clause-goes_on : goal.returns-clause-goes_on
returns-clause-goes_on c start command waits =
    let here = c.turns.invariant.awaits start command waits in
    let other : 1 ≡ 0 → ⊥ = λ is. omega (arith, is) in
    subst (λ (r : CamlheapReply). GoesOn start command c.args.run.now c.turns.run c.args.reply.now r 1) (sym c.turns.invariant.unread)
    (not_made start command c.args.run.now c.turns.run c.args.reply.now 1 other (inl refl) c.turns.invariant.heap (subst (λ (h : SharedHeap). Awaits h start command c.turns.run.run) c.turns.invariant.heap here))

pub returns-then-told-ne-AGAIN-clause-told : goal.returns-then-told-ne-AGAIN-clause-told
returns-then-told-ne-AGAIN-clause-told c = subst (λ (n : ℕ). n < 5) (sym c.turn_code-told.ensures) (came_below c.await_turn-came.result.0)

pub returns-then-told-ne-AGAIN-clause-last : goal.returns-then-told-ne-AGAIN-clause-last
returns-then-told-ne-AGAIN-clause-last c other again = tells_last c.args.run.now c.turns.run c.await_turn-came.new.self c.await_turn-came.result.0 c.turn_code-told.result c.turns.invariant.heap c.turns.invariant.further c.turn_code-told.ensures c.await_turn-came.ensures.came

pub returns-then-told-ne-AGAIN-clause-ran : goal.returns-then-told-ne-AGAIN-clause-ran
returns-then-told-ne-AGAIN-clause-ran c = ran_on c.args.run.now c.turns.run c.await_turn-came.new.self c.turns.invariant.heap c.turns.invariant.further c.turns.invariant.ran c.await_turn-came.ensures.goes_on c.await_turn-came.ensures.stretch

pub returns-in-Some-clause-ran : goal.returns-in-Some-clause-ran
returns-in-Some-clause-ran c = ran_on c.args.run.now c.turns.run c.await_turn-came.new.self c.turns.invariant.heap c.turns.invariant.further c.turns.invariant.ran c.await_turn-came.ensures.goes_on c.await_turn-came.ensures.stretch
