use Rattle.weak_maps.proofs.OfLists.MachineLemmas.{first_domain, forgets_at, legal_at, clean_told}
use Rattle.weak_maps.proofs.FrameLemmas.{leaves_trans}
use Rattle.weak_maps.proofs.OfLists.FrameLemmas.{leaves_alone}
use Rattle.weak_maps.proofs.lists.calls.list_clean.Goals as goal

pub returns-clause-leaves : goal.returns-clause-leaves
returns-clause-leaves g c = leaves_alone c.requires.alone c.shows_legal.ensures.inside c.shows_legal.ensures.legal c.shows_legal-3.ensures.legal (leaves_trans c.map_clean-empty.ensures.leaves c.settle.ensures.leaves)

pub returns-clause-cleans : goal.returns-clause-cleans
returns-clause-cleans g c =
    clean_told (g.M.Machine.sizes c.args.m.now) c.shows_legal.ensures.limits c.requires.alone _ (first_domain (g.M.Machine.sizes c.args.m.now) _ c.requires.alone c.shows_legal.ensures.inside) _ _ c.map_clean-empty.ensures.leaves.grows (legal_at _ _ _ c.map_clean-empty.ensures.leaves.stays.sizes c.shows_legal-2.ensures.legal) _ (forgets_at _ _ _ _ _ _ c.map_clean-empty.ensures.leaves.stays.sizes c.map_clean-empty.ensures.leaves.stays.domain c.settle.ensures.forgets) c.args.map c.map_clean-empty.result c.map_clean-empty.ensures.answer
