use Rattle.std.proofs.Common.{◌≡◌, ◌∙◌, ap, sym, subst}
use Rattle.heap_rule.specs.Token.{SharedHeap}
use Rattle.run_turns.specs.Runs.{RunView}
use Rattle.run_turns.specs.Singly.Turning.{CameTo}
use Rattle.run_seats.specs.Shared.Sharing.{SharedView}
use Rattle.run_seats.proofs.shared.shared.SharedRun.turn.Goals as goal

pub returns-clause-came : goal.returns-clause-came
returns-clause-came c =
    let heap : c.deref.result.now ≡ c.args.self.now.heap = c.deref.ensures ∙ ap (λ (v : SharedView). v.heap) c.self.view_is in
    let run : c.self.inside.run ≡ c.args.self.now.run = ap (λ (v : SharedView). v.run) c.self.view_is in
    subst (λ (w : SharedHeap × RunView). CameTo w.0 w.1 c.turn_below.new.run c.turn_below.result) (λ i. (heap i, run i)) c.turn_below.ensures.came

pub returns-clause-exact : goal.returns-clause-exact
returns-clause-exact c other came =
    let heap : c.deref.result.now ≡ c.args.self.now.heap = c.deref.ensures ∙ ap (λ (v : SharedView). v.heap) c.self.view_is in
    let run : c.self.inside.run ≡ c.args.self.now.run = ap (λ (v : SharedView). v.run) c.self.view_is in
    c.turn_below.ensures.exact other (subst (λ (w : SharedHeap × RunView). CameTo w.0 w.1 c.turn_below.new.run other) (λ i. (sym heap i, sym run i)) came)
