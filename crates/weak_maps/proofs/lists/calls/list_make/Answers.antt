use Rattle.std.proofs.Common.{ℕ}
use Rattle.model_core.specs.declared.state.Sizes.{Sizes}
use Rattle.weak_maps.proofs.OfLists.MachineLemmas.{first_domain}
use Rattle.weak_maps.proofs.OfLists.MakeLemmas.{make_told}
use Rattle.weak_maps.proofs.OfLists.FrameLemmas.{allocates_alone}
use Rattle.weak_maps.proofs.lists.calls.list_make.Goals as goal

pub returns-clause-allocates : goal.returns-clause-allocates
returns-clause-allocates g c = allocates_alone c.requires.alone c.shows_legal.ensures.inside c.shows_legal.ensures.legal c.shows_legal-2.ensures.legal c.perform-made.ensures.spends

pub returns-clause-made : goal.returns-clause-made
returns-clause-made g c =
    let z : Sizes = g.M.Machine.sizes c.args.m.now in
    let d : ℕ = g.M.Machine.domain c.args.m.now in
    make_told z c.shows_legal.ensures.limits c.requires.alone d (first_domain z d c.requires.alone c.shows_legal.ensures.inside) _ _ c.perform-made.result c.args.dst c.requires.few c.perform-made.ensures.performed
