use Rattle.std.proofs.Common.{◌≡◌, ◌∙◌, sym}
use Rattle.model_core.specs.declared.state.Sizes.{Sizes}
use Rattle.weak_tables.specs.declared.find.Find.TheVariants.{Key, Spare, Nowhere}
use Rattle.weak_tables.proofs.SearchLemmas.{met_key}
use Rattle.weak_tables.proofs.searching.look_up.Goals as goal

pub returns-in-Spare-clause-found : goal.returns-in-Spare-clause-found
returns-in-Spare-clause-found g c =
    let z : Sizes = g.M.Machine.sizes c.args.m.now in
    λ root chains held table. met_key z c.shows_legal.ensures.limits _ _ root chains c.args.label.now c.search.result (c.search.ensures.searched root chains held table) (λ e. let clash : Key ≡ Spare = sym e ∙ c.in-Spare.is in cc)

pub returns-in-Nowhere-clause-found : goal.returns-in-Nowhere-clause-found
returns-in-Nowhere-clause-found g c =
    let z : Sizes = g.M.Machine.sizes c.args.m.now in
    λ root chains held table. met_key z c.shows_legal.ensures.limits _ _ root chains c.args.label.now c.search.result (c.search.ensures.searched root chains held table) (λ e. let clash : Key ≡ Nowhere = sym e ∙ c.in-Nowhere.is in cc)
