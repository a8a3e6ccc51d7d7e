use Rattle.std.proofs.Common.{◌≡◌}
use Rattle.text_script.specs.declared.version.Version.TheVariants.{One}
use Rattle.text_script.specs.Generated.{generated}
use Rattle.text_script.proofs.generator.generate.Given as goal

-- the sections so far
abbrev pub invariant-loop-domain : goal.invariant-loop-domain
invariant-loop-domain l = l.script ≡ record { version = One; sections = generated l.base l.domain l.commands }
