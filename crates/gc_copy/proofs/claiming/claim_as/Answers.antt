use Rattle.std.proofs.Common.{ℕ, ◌+◌, ◌*◌, ◌≤◌, Option, true≢false, sym, subst, ◌∙◌, arith}
use Rattle.heap_words.specs.Unpacked.{Unpacks}
use Rattle.gc_copy.specs.Heads.{IsForward, forward_word}
use Rattle.gc_copy.proofs.Meeting.{head_for, old_small, met_inside}
use Rattle.gc_copy.proofs.Preparing.{place_old}
use Rattle.gc_copy.proofs.Racing.{claim_won, claim_lost, lost_known, lost_leads}
use Rattle.gc_copy.proofs.claiming.claim_as.Goals as goal
use Rattle.heap_rule.specs.Places.{HasClass}

pub words_of-requires : goal.words_of-requires
words_of-requires c = let m = c.requires.met in (m.place.shape, head_for c.args.heap.now.config c.args.dom.now.view c.args.young c.args.word c.requires.works.fit m)

pub class_for-class-requires : goal.class_for-class-requires
class_for-class-requires c = let m = c.requires.met in let w = c.requires.works.fit in
    subst HasClass (sym (c.words_of.ensures m.place.shape (head_for c.args.heap.now.config c.args.dom.now.view c.args.young c.args.word w m))) (w c.args.young m.place m.met).classed

pub claim_exchange-found-requires-clause-inside : goal.claim_exchange-found-requires-clause-inside
claim_exchange-found-requires-clause-inside c = let m = c.requires.met in met_inside c.args.heap.now.config c.args.dom.now.view c.args.young m.place c.requires.works.fit m.met

pub pack_head-new-requires : goal.pack_head-new-requires
pack_head-new-requires c =
    let k = c.args.heap.now.config in
    let p = c.prepare-copy.ensures.prepared in
    let class = c.class_for-class in
    let o = place_old k class.result c.prepare-copy.result class.ensures.class (p.works.placed class.result c.prepare-copy.result class.ensures.class p.here) in
    let a : ℕ = c.prepare-copy.result in
    let h : a + 3 ≤ k.pools * 4096 = o.1 in (o.0, old_small k a c.config-limits.ensures.limits (let g : a ≤ k.pools * 4096 = omega arith in g))

pub returns-then-won-clause-claimed : goal.returns-then-won-clause-claimed
returns-then-won-clause-claimed c =
    claim_won c.args.heap.now.config c.args.young c.args.word c.class_for-class.result c.prepare-copy.result c.args.dom.now.view c.prepare-copy.new.dom.view c.write_copy.new.dom.view c.class_for-class.ensures.class c.requires.met c.requires.young
    c.prepare-copy.ensures.prepared c.write_copy.ensures.written c.claim_exchange-found.new.dom.view c.claim_exchange-found.result.0 c.claim_exchange-found.ensures.told c.requires.works c.config-limits.ensures.limits (c.claim_exchange-found.ensures.won.0 c.if-won.true)

pub copy_of-requires : goal.copy_of-requires
copy_of-requires c =
    lost_known c.args.heap.now.config c.args.young c.args.word c.class_for-class.result c.prepare-copy.result c.args.dom.now.view c.prepare-copy.new.dom.view c.write_copy.new.dom.view c.class_for-class.ensures.class c.requires.met c.requires.young
    c.prepare-copy.ensures.prepared c.write_copy.ensures.written c.claim_exchange-found.new.dom.view c.claim_exchange-found.result.0 c.claim_exchange-found.ensures.told c.requires.works c.config-limits.ensures.limits
    (λ e. true≢false (sym (c.claim_exchange-found.ensures.won.1 e) ∙ c.if-won.false))

pub unreachable-requires : goal.unreachable-requires
unreachable-requires c =
    lost_leads c.args.heap.now.config c.args.young c.args.word c.class_for-class.result c.prepare-copy.result c.args.dom.now.view c.prepare-copy.new.dom.view c.write_copy.new.dom.view c.class_for-class.ensures.class c.requires.met c.requires.young
    c.prepare-copy.ensures.prepared c.write_copy.ensures.written c.claim_exchange-found.new.dom.view c.claim_exchange-found.result.0 c.claim_exchange-found.ensures.told c.requires.works c.config-limits.ensures.limits
    (λ e. true≢false (sym (c.claim_exchange-found.ensures.won.1 e) ∙ c.if-won.false))
    (subst (λ (o : Option ℕ). Unpacks IsForward forward_word c.claim_exchange-found.result.0 o) c.in_default.is c.copy_of.ensures)

pub returns-clause-claimed : goal.returns-clause-claimed
returns-clause-claimed c =
    claim_lost c.args.heap.now.config c.args.young c.args.word c.class_for-class.result c.prepare-copy.result c.args.dom.now.view c.prepare-copy.new.dom.view c.write_copy.new.dom.view c.class_for-class.ensures.class c.requires.met c.requires.young
    c.prepare-copy.ensures.prepared c.write_copy.ensures.written c.claim_exchange-found.new.dom.view c.claim_exchange-found.result.0 c.claim_exchange-found.ensures.told c.requires.works c.config-limits.ensures.limits c.in-Some.other
    (λ e. true≢false (sym (c.claim_exchange-found.ensures.won.1 e) ∙ c.if-won.false))
    c.in-Some.ensures.found
