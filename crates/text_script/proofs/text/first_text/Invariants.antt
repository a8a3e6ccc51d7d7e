use Rattle.std.proofs.Common.{◌≡◌, ◌++◌, take, drop}
use Rattle.text_script.specs.Split.{first_text}
use Rattle.text_script.proofs.text.first_text.Given as goal

-- no mark stands before the place
abbrev pub invariant-loop-at : goal.invariant-loop-at
invariant-loop-at l = first_text l.bytes ≡ take l.at l.bytes ++ first_text (drop l.at l.bytes)
