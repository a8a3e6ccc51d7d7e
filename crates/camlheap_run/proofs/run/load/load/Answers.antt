use Rattle.std.proofs.Common.{ℕ, sym, ap, subst}
use Rattle.model_core.specs.declared.state.Sizes.{Sizes}
use Rattle.text_script.specs.declared.version.Version.TheVariants.{One, Two}
use Rattle.text_script.specs.Spelling.{Spells, spelling}
use Rattle.camlheap_run.proofs.run.load.load.Goals as goal

pub run-requires-clause-script : goal.run-requires-clause-script
run-requires-clause-script g c κs within =
    let bytes = spelling One c.in-Ok.script.sections in
    (bytes, subst (λ (d : ℕ). Spells Two d c.in-Ok.script bytes) (sym (ap (λ (z : Sizes). z.domains) c.sizes-sizes.ensures)) (c.in-Ok.ensures.spelled Two))
