use Rattle.std.proofs.Common.{◌∙◌}
use Rattle.model_core.specs.declared.state.Sizes.{Sizes}
use Rattle.weak_tables.proofs.TakeLemmas.{all_cleared, at_sizes}
use Rattle.weak_tables.proofs.taking.clear.Goals as goal

pub returns-clause-cleared : goal.returns-clause-cleared
returns-clause-cleared g c =
    let z : Sizes = g.M.Machine.sizes c.args.m.now in
    all_cleared z c.shows_legal.ensures.limits _ _ _ _ _ _ _ c.perform_between-eight.ensures.performed
    (at_sizes z _ _ _ _ _ c.perform_between-eight.ensures.passes.keeps.sizes c.perform_between-nine.ensures.performed)
    (at_sizes z _ _ _ _ _ (c.perform_between-nine.ensures.passes.keeps.sizes ∙ c.perform_between-eight.ensures.passes.keeps.sizes) c.perform_between-ten.ensures.performed)
