use Rattle.std.proofs.Common.{ap}
use Rattle.heap_rule.specs.declared.view.DomainView.{DomainView}
use Rattle.gc_copy.proofs.Meeting.{grown_colours, head_may_colours, claimed_after}
use Rattle.gc_copy.proofs.claiming.claim.Goals as goal

pub claim_met-requires-clause-works : goal.claim_met-requires-clause-works
claim_met-requires-clause-works c = let h = c.colours_now-colours in (grown_colours c.args.heap.now.config c.args.dom.now.view h.new.dom.view h.result h.ensures.knows c.requires.works).works

pub claim_met-requires-clause-met : goal.claim_met-requires-clause-met
claim_met-requires-clause-met c = let h = c.colours_now-colours in head_may_colours c.args.heap.now.config c.args.dom.now.view h.new.dom.view h.result c.args.young h.ensures.knows c.requires.met

pub returns-clause-claimed : goal.returns-clause-claimed
returns-clause-claimed c = let h = c.colours_now-colours in
    claimed_after c.args.heap.now.config c.args.young c.claim_met.result c.args.dom.now.view h.new.dom.view c.claim_met.new.dom.view
    (ap (λ (z : DomainView). z.own.pending.items) h.ensures.knows)
    (grown_colours c.args.heap.now.config c.args.dom.now.view h.new.dom.view h.result h.ensures.knows c.requires.works) c.claim_met.ensures.claimed
