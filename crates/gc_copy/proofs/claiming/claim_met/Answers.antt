use Rattle.std.proofs.Common.{ℕ, ◌∙◌, Option, ap, subst}
use Rattle.heap_words.specs.Unpacked.{Unpacks}
use Rattle.heap_rule.specs.declared.view.DomainView.{DomainView}
use Rattle.gc_copy.specs.Heads.{IsForward, forward_word}
use Rattle.gc_copy.proofs.Meeting.{grown_armed, head_may_armed, head_grown, head_claimed, head_items, head_known, met_with, claimed_after}
use Rattle.gc_copy.proofs.claiming.claim_met.Goals as goal

pub young_head_load-word-requires-clause-may : goal.young_head_load-word-requires-clause-may
young_head_load-word-requires-clause-may c = let a = c.armed_now-armed in head_may_armed c.args.heap.now.config c.args.dom.now.view a.new.dom.view a.result c.args.young a.ensures.knows c.requires.met

pub copy_of-requires : goal.copy_of-requires
copy_of-requires c = let a = c.armed_now-armed in let h = c.young_head_load-word in head_known c.args.heap.now.config c.args.young a.new.dom.view h.result h.new.dom.view h.ensures.told c.config-limits.ensures.limits

pub returns-in-Some-clause-claimed : goal.returns-in-Some-clause-claimed
returns-in-Some-clause-claimed c = let k = c.args.heap.now.config in let x = c.args.dom.now.view in let a = c.armed_now-armed in let h = c.young_head_load-word in let g = grown_armed k x a.new.dom.view a.result a.ensures.knows c.requires.works in
    claimed_after k c.args.young c.in-Some.copy x a.new.dom.view h.new.dom.view (ap (λ (z : DomainView). z.own.pending.items) a.ensures.knows) g (head_claimed k c.args.young a.new.dom.view h.result h.new.dom.view h.ensures.told c.config-limits.ensures.limits c.in-Some.copy g.works c.in-Some.ensures.found)

pub claim_as-requires-clause-works : goal.claim_as-requires-clause-works
claim_as-requires-clause-works c = let k = c.args.heap.now.config in let x = c.args.dom.now.view in let a = c.armed_now-armed in let h = c.young_head_load-word in
    (head_grown k c.args.young a.new.dom.view h.result h.new.dom.view h.ensures.told c.config-limits.ensures.limits (grown_armed k x a.new.dom.view a.result a.ensures.knows c.requires.works).works).works

pub claim_as-requires-clause-met : goal.claim_as-requires-clause-met
claim_as-requires-clause-met c = let a = c.armed_now-armed in let h = c.young_head_load-word in let colours = c.requires.colours in
    met_with c.args.heap.now.config c.args.young a.new.dom.view h.result h.new.dom.view h.ensures.told c.config-limits.ensures.limits c.requires.young
    (colours.0, ap (λ (z : DomainView). z.seen.share.colours) a.ensures.knows ∙ colours.1) (a.result, ap (λ (z : DomainView). z.seen.share.armed) a.ensures.knows)
    (subst (λ (o : Option ℕ). Unpacks IsForward forward_word h.result o) c.in_default.is c.copy_of.ensures)

pub returns-clause-claimed : goal.returns-clause-claimed
returns-clause-claimed c = let k = c.args.heap.now.config in let x = c.args.dom.now.view in let a = c.armed_now-armed in let h = c.young_head_load-word in let g = grown_armed k x a.new.dom.view a.result a.ensures.knows c.requires.works in
    claimed_after k c.args.young c.claim_as.result x a.new.dom.view c.claim_as.new.dom.view (ap (λ (z : DomainView). z.own.pending.items) a.ensures.knows) g
    (claimed_after k c.args.young c.claim_as.result a.new.dom.view h.new.dom.view c.claim_as.new.dom.view
    (head_items k c.args.young a.new.dom.view h.result h.new.dom.view h.ensures.told c.config-limits.ensures.limits)
    (head_grown k c.args.young a.new.dom.view h.result h.new.dom.view h.ensures.told c.config-limits.ensures.limits g.works) c.claim_as.ensures.claimed)
