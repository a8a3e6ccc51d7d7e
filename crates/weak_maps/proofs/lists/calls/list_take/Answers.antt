use Rattle.std.proofs.Common.{◌≡◌, ◌∙◌, true, false, sym}
use Rattle.weak_maps.proofs.OfLists.MachineLemmas.{first_domain, forgets_at, legal_at, take_told, typed_take}
use Rattle.weak_maps.proofs.FrameLemmas.{leaves_trans}
use Rattle.weak_maps.proofs.OfLists.FrameLemmas.{leaves_alone}
use Rattle.weak_maps.proofs.lists.calls.list_take.Goals as goal

pub returns-then-is_other_kind-clause-leaves : goal.returns-then-is_other_kind-clause-leaves
returns-then-is_other_kind-clause-leaves g c = leaves_alone c.requires.alone c.shows_legal.ensures.inside c.shows_legal.ensures.legal c.shows_legal-2.ensures.legal c.map_take-reply.ensures.leaves

pub returns-clause-leaves : goal.returns-clause-leaves
returns-clause-leaves g c = leaves_alone c.requires.alone c.shows_legal.ensures.inside c.shows_legal.ensures.legal c.shows_legal-3.ensures.legal (leaves_trans c.map_take-reply.ensures.leaves c.settle.ensures.leaves)

pub returns-then-is_other_kind-clause-answer : goal.returns-then-is_other_kind-clause-answer
returns-then-is_other_kind-clause-answer g c =
    typed_take (g.M.Machine.sizes c.args.m.now) c.shows_legal.ensures.limits c.requires.alone _ (first_domain (g.M.Machine.sizes c.args.m.now) _ c.requires.alone c.shows_legal.ensures.inside) _ _ c.map_take-reply.ensures.leaves.grows (legal_at _ _ _ c.map_take-reply.ensures.leaves.stays.sizes c.shows_legal-2.ensures.legal) c.args.map c.args.key c.map_take-reply.result (c.is_other_kind.ensures.0 c.if-is_other_kind.true) c.map_take-reply.ensures.answer

pub returns-clause-answer : goal.returns-clause-answer
returns-clause-answer g c =
    take_told (g.M.Machine.sizes c.args.m.now) c.shows_legal.ensures.limits c.requires.alone _ (first_domain (g.M.Machine.sizes c.args.m.now) _ c.requires.alone c.shows_legal.ensures.inside) _ _ c.map_take-reply.ensures.leaves.grows (legal_at _ _ _ c.map_take-reply.ensures.leaves.stays.sizes c.shows_legal-2.ensures.legal) _ (forgets_at _ _ _ _ _ _ c.map_take-reply.ensures.leaves.stays.sizes c.map_take-reply.ensures.leaves.stays.domain c.settle.ensures.forgets) c.args.map c.args.key c.map_take-reply.result (λ e. let clash : true ≡ false = sym (c.is_other_kind.ensures.1 e) ∙ c.if-is_other_kind.false in cc) c.map_take-reply.ensures.answer c.map_take-reply.ensures.follows
