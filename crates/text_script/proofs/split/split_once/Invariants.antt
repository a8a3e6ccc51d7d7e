use Rattle.std.proofs.Common.{◌≡◌, take, drop, ◌++◌}
use Rattle.std.specs.Prelude.{option_map}
use Rattle.text_script.specs.Split.{split_at_mark}
use Rattle.text_script.proofs.split.split_once.Given as goal

-- nothing before the place is the mark
abbrev pub invariant-loop-at : goal.invariant-loop-at
invariant-loop-at l = split_at_mark l.mark l.bytes ≡ option_map (λ p. (take l.at l.bytes ++ p.0, p.1)) (split_at_mark l.mark (drop l.at l.bytes))
