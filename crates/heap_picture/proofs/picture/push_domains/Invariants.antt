use Rattle.std.proofs.Common.{◌≡◌, ◌++◌, string_bytes, flat_map, take}
use Rattle.heap_picture.specs.Fates.{fate_of}
use Rattle.heap_picture.specs.Text.{domain_text}
use Rattle.heap_picture.proofs.picture.push_domains.Given as goal

-- what is written so far
abbrev pub invariant-loop-domain : goal.invariant-loop-domain
invariant-loop-domain l = string_bytes l.out ≡ string_bytes l.fn.out ++ flat_map (domain_text l.hides (fate_of l.fates)) (take l.domain-index l.domains)
