use Rattle.std.proofs.Common.{◌≡◌, ◌∙◌, [], ◌∷◌, ◌++◌, List, subst}
use Rattle.model_core.specs.declared.state.Sizes.{Sizes}
use Rattle.model_core.specs.Fronts.{IsFrontOf}
use Rattle.model_core.specs.History.{Legal}
use Rattle.heap_rule.specs.Ending.{AllBegin}
use Rattle.heap_rule.specs.Limits.{sizes_in}
use Rattle.heap_rule.specs.Token.{Token}
use Rattle.run_session.specs.Stopping.{EndedView, Follows}
use Rattle.run_session.proofs.Collectors.{follows}
use Rattle.run_session.proofs.ended.EndedSession.stop.Goals as goal

pub returns-clause-follows : goal.returns-clause-follows
returns-clause-follows c =
    let z = sizes_in c.self.inside.heap.config in
    let history = c.stop.result.history in
    let last = c.self.inside.run.token in
    let items : c.push_reserved.new.self.items ≡ last ∷ [] = c.push_reserved.ensures.items ∙ (λ i. c.self.invariant.4 i ++ c.into_domain.ensures i ∷ []) in
    let begins : AllBegin history (last ∷ []) = subst (λ (ts : List Token). AllBegin history ts) items c.stop.ensures.fronts in
    let first : IsFrontOf 0 history last.view.seen.front = subst (λ n. IsFrontOf n history last.view.seen.front) c.self.invariant.2 begins.0 in
    let legal : Legal z history = subst (λ (y : Sizes). Legal y history) c.stop.ensures.sizes c.stop.ensures.legal in
    subst (λ (v : EndedView). Follows (sizes_in v.config) v.front history) c.self.view_is (follows z last.view.seen.front history c.config-limits.ensures.limits c.self.invariant.1 first legal)
