use Rattle.std.proofs.Common.{◌<◌, ℕ, subst}
use Rattle.std.specs.Prelude.{◌^◌}
use Rattle.heap_rule.specs.Token.{Token}
use Rattle.run_turns.specs.Singly.Turning.CameTo.{Turns}
use Rattle.run_turns.proofs.singly.turning.turn_below.Goals as goal

pub returns-clause-came : goal.returns-clause-came
returns-clause-came c =
    let few : c.domain.result.now.view.own.arrivals < 2 ^ 60 = subst (λ (n : ℕ). n < 2 ^ 60) c.arrivals.ensures c.if-arrivals-ge-MOST_ARRIVALS.false in
    Turns c.turn.result (subst (λ (t : Token). t.view.own.arrivals < 2 ^ 60) c.domain.ensures few) c.turn.ensures.answer c.reached.ensures
