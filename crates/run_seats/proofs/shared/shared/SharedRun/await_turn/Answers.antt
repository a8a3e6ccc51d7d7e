use Rattle.std.proofs.Common.{◌≡◌, ◌∙◌, refl, ap, sym, subst}
use Rattle.heap_rule.specs.Token.{IsIn, SharedHeap}
use Rattle.run_turns.specs.Runs.{RunView}
use Rattle.run_turns.specs.Singly.Driving.{AwaitAnswers, Awaits}
use Rattle.run_turns.specs.Singly.Turning.{CameTo}
use Rattle.run_seats.specs.Shared.Idling.{StaysAlong}
use Rattle.run_seats.specs.Shared.Sharing.{MayClose, SharedView}
use Rattle.run_seats.proofs.OfShared.Idling.{idle_turn}
use Rattle.run_seats.proofs.shared.shared.SharedRun.await_turn.Goals as goal

pub returns-clause-answers : goal.returns-clause-answers
returns-clause-answers c start command waits =
    let heap : c.deref.result.now ≡ c.args.self.now.heap = c.deref.ensures ∙ ap (λ (v : SharedView). v.heap) c.self.view_is in
    let run : c.self.inside.run ≡ c.args.self.now.run = ap (λ (v : SharedView). v.run) c.self.view_is in
    subst (λ (h : SharedHeap). AwaitAnswers h start command c.await_turn-told.new.run c.await_turn-told.result.1) heap
    (c.await_turn-told.ensures.answers start command (subst (λ (w : SharedHeap × RunView). Awaits w.0 start command w.1) (λ i. (sym heap i, sym run i)) waits))

pub returns-clause-came : goal.returns-clause-came
returns-clause-came c =
    let heap : c.deref.result.now ≡ c.args.self.now.heap = c.deref.ensures ∙ ap (λ (v : SharedView). v.heap) c.self.view_is in
    let run : c.self.inside.run ≡ c.args.self.now.run = ap (λ (v : SharedView). v.run) c.self.view_is in
    subst (λ (w : SharedHeap × RunView). CameTo w.0 w.1 c.await_turn-told.new.run c.await_turn-told.result.0) (λ i. (heap i, run i)) c.await_turn-told.ensures.came

pub returns-clause-exact : goal.returns-clause-exact
returns-clause-exact c other came =
    let heap : c.deref.result.now ≡ c.args.self.now.heap = c.deref.ensures ∙ ap (λ (v : SharedView). v.heap) c.self.view_is in
    let run : c.self.inside.run ≡ c.args.self.now.run = ap (λ (v : SharedView). v.run) c.self.view_is in
    c.await_turn-told.ensures.exact other (subst (λ (w : SharedHeap × RunView). CameTo w.0 w.1 c.await_turn-told.new.run other) (λ i. (sym heap i, sym run i)) came)

pub returns-clause-idle : goal.returns-clause-idle
returns-clause-idle c may =
    let r = c.self.inside.run in
    let n = c.await_turn-told.new.run in
    let was : MayClose (record { heap = c.self.inside.heap.value; run = r }) = subst MayClose (sym c.self.view_is) may in
    let here : IsIn r.token c.deref.result.now = subst (IsIn r.token) (sym c.deref.ensures) c.self.invariant in
    let stays = (idle_turn c.deref.result.now r n (record { here = here; more = was.is_open; done = was.done }) c.await_turn-told.ensures.here c.await_turn-told.ensures.goes_on c.await_turn-told.ensures.stretch).1 in
    subst (λ (v : SharedView). StaysAlong v (record { heap = c.self.inside.heap.value; run = n })) c.self.view_is (refl, stays)
