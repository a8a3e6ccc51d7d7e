use Rattle.std.proofs.Common.{◌≡◌}
use Rattle.text_script.specs.Generated.{section_of}
use Rattle.text_script.proofs.generator.section.Given as goal

-- the commands so far
abbrev pub invariant-loop-place : goal.invariant-loop-place
invariant-loop-place l = l.section.items ≡ section_of l.base l.place l.domain
