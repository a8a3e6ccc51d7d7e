use Rattle.std.proofs.Common.{◌≡◌, flat_map}
use Rattle.std.specs.List.{range_with_len}
use Rattle.model_core.specs.Output.{section_text}
use Rattle.judge_plain.proofs.scheduled.text.text_of.Given as goal

-- the sections so far
abbrev pub invariant-domains : goal.invariant-domains
invariant-domains l = l.text.items ≡ flat_map (section_text l.sizes l.history) (range_with_len 0 l.domain)
