use Rattle.std.proofs.Common.{◌≡◌, ◌∙◌, true, false, sym}
use Rattle.weak_maps.proofs.OfLists.MachineLemmas.{first_domain, forgets_at, legal_at, get_told, typed_get}
use Rattle.weak_maps.proofs.FrameLemmas.{reads_then}
use Rattle.weak_maps.proofs.OfLists.FrameLemmas.{reads_alone}
use Rattle.weak_maps.proofs.lists.calls.list_get.Goals as goal

pub returns-then-is_other_kind-clause-reads : goal.returns-then-is_other_kind-clause-reads
returns-then-is_other_kind-clause-reads g c = reads_alone c.requires.alone c.shows_legal.ensures.inside c.shows_legal.ensures.legal c.shows_legal-2.ensures.legal c.map_get-reply.ensures.reads

pub returns-clause-reads : goal.returns-clause-reads
returns-clause-reads g c = reads_alone c.requires.alone c.shows_legal.ensures.inside c.shows_legal.ensures.legal c.shows_legal-3.ensures.legal (reads_then c.map_get-reply.ensures.reads c.settle.ensures.leaves)

pub returns-then-is_other_kind-clause-answer : goal.returns-then-is_other_kind-clause-answer
returns-then-is_other_kind-clause-answer g c =
    typed_get (g.M.Machine.sizes c.args.m.now) c.shows_legal.ensures.limits c.requires.alone _ (first_domain (g.M.Machine.sizes c.args.m.now) _ c.requires.alone c.shows_legal.ensures.inside) _ _ c.map_get-reply.ensures.reads.grows (legal_at _ _ _ c.map_get-reply.ensures.reads.stays.sizes c.shows_legal-2.ensures.legal) c.args.dst c.args.map c.args.key c.map_get-reply.result (c.is_other_kind.ensures.0 c.if-is_other_kind.true) c.map_get-reply.ensures.answer

pub returns-clause-answer : goal.returns-clause-answer
returns-clause-answer g c =
    get_told (g.M.Machine.sizes c.args.m.now) c.shows_legal.ensures.limits c.requires.alone _ (first_domain (g.M.Machine.sizes c.args.m.now) _ c.requires.alone c.shows_legal.ensures.inside) _ _ c.map_get-reply.ensures.reads.grows (legal_at _ _ _ c.map_get-reply.ensures.reads.stays.sizes c.shows_legal-2.ensures.legal) _ (forgets_at _ _ _ _ _ _ c.map_get-reply.ensures.reads.stays.sizes c.map_get-reply.ensures.reads.stays.domain c.settle.ensures.forgets) c.args.dst c.args.map c.args.key c.map_get-reply.result c.requires.few.0 (λ e. let clash : true ≡ false = sym (c.is_other_kind.ensures.1 e) ∙ c.if-is_other_kind.false in cc) c.map_get-reply.ensures.answer
