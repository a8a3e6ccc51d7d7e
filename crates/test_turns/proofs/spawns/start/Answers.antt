use Rattle.std.proofs.Common.{All, arith, sym, subst}
use Rattle.std.proofs.lemmas.List.Elements.{All-push, All-same}
use Rattle.heap_rule.specs.Token.{IsIn}
use Rattle.run_turns.specs.Runs.{RunView}
use Rattle.test_turns.proofs.spawns.start.Goals as goal

pub invariant_of-result : goal.invariant_of-result
invariant_of-result c =
    let h = c.in_ok-heap.heap in
    let none : All (λ (r : RunView). IsIn r.token h) c.new-runs.result.items = subst (All (λ (r : RunView). IsIn r.token h)) (sym c.new-runs.ensures.items) (λ k d below. absurd (omega (arith, below))) in
    let one : All (λ (r : RunView). IsIn r.token h) c.push.new.self.items = All-same (λ (r : RunView). IsIn r.token h) _ _ c.in_ok-push.ensures.items (All-push (λ (r : RunView). IsIn r.token h) c.new-runs.result.items c.in_ok-run_of.field-0 none c.in_ok-run_of.ensures) in
    record { here = All-same (λ (r : RunView). IsIn r.token h) _ _ c.in_ok-push-2.ensures.items (All-push (λ (r : RunView). IsIn r.token h) c.push.new.self.items c.in_ok-run_of-2.field-0 one c.in_ok-run_of-2.ensures) }
