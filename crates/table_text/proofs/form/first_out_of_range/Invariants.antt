use Rattle.std.proofs.Common.{◌≡◌, ◌+◌, drop}
use Rattle.table_text.specs.Faults.{first_out_of_range}
use Rattle.table_text.proofs.form.first_out_of_range.Given as goal

-- the numbers so far are in their ranges
abbrev pub invariant-loop-at : goal.invariant-loop-at
invariant-loop-at l = first_out_of_range 1 l.kinds l.numbers ≡ first_out_of_range (l.at + 1) (drop l.at l.kinds) (drop l.at l.numbers)
