use Rattle.std.proofs.Common.{◌≡◌, ◌+◌, drop}
use Rattle.text_script.specs.Faults.{first_out_of_range}
use Rattle.text_script.proofs.line.first_out_of_range.Given as goal

-- the numbers so far are in their ranges
abbrev pub invariant-loop-at : goal.invariant-loop-at
invariant-loop-at l = first_out_of_range l.grammar.version l.grammar.domains 1 l.kinds l.numbers ≡ first_out_of_range l.grammar.version l.grammar.domains (l.at + 1) (drop l.at l.kinds) (drop l.at l.numbers)
