use Rattle.std.proofs.Common.{◌∙◌, ◌∷◌, ◌++◌, [], ap, subst}
use Rattle.heap_rule.specs.Token.{SharedHeap}
use Rattle.run_seats.specs.Shared.Sharing.{SharedView}
use Rattle.run_joined.specs.Together.{MetBelow}
use Rattle.run_joined.proofs.Meetings.{left_here, met_first}
use Rattle.run_joined.proofs.together.one_history.Goals as goal

pub meet_below-first-requires-clause-here : goal.meet_below-first-requires-clause-here
meet_below-first-requires-clause-here c = left_here c.deref.result.now c.requires.one.heap c.args.runs.now.items c.pop.new.self.items c.in-Some.last c.in-Some.ensures.items c.requires.one.here (c.deref.ensures ∙ c.into_parts-share.ensures.heap)

pub returns-clause-met : goal.returns-clause-met
returns-clause-met c =
    met_first c.into_parts-share.result.0.value c.requires.one.heap c.into_parts-share.result.1 c.meet_below-first.result c.args.runs.now.items c.pop.new.self.items c.meet_below-first.new.runs.items c.push_reserved.new.self.items c.in-Some.last c.in_ok-others.others.items c.meet_below-first.new.others.items
    (subst (λ (g : SharedHeap). MetBelow g c.into_parts-share.result.1 c.meet_below-first.result c.pop.new.self.items c.meet_below-first.new.runs.items c.in_ok-others.others.items c.meet_below-first.new.others.items) c.deref.ensures c.meet_below-first.ensures.met)
    c.in_ok-others.ensures.items c.in-Some.ensures.items c.requires.one.here c.into_parts-share.ensures.heap c.into_parts-share.ensures.run
    (c.push_reserved.ensures.items ∙ ap (λ (s : SharedView). c.meet_below-first.new.runs.items ++ s ∷ []) c.of.ensures) c.shows_faithful.ensures
