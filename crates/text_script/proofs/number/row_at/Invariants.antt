use Rattle.std.proofs.Common.{◌≡◌, ◌≤◌, ◌-◌, length, take, drop, []}
use Rattle.text_script.specs.Split.{numbers_behind}
use Rattle.text_script.proofs.NumberLemmas.{done}
use Rattle.text_script.proofs.number.row_at.Given as goal

-- the numbers so far, and those to come, are those of the line
abbrev pub invariant-numbers : goal.invariant-numbers
invariant-numbers l = record {
  said : done [] (numbers_behind l.fn.count (drop l.fn.at l.fn.bytes)) ≡ done (take l.i l.numbers) (numbers_behind (l.fn.count - l.i) (drop l.end l.bytes));
  four : length l.numbers ≡ 4;
  begun : l.fn.at ≤ l.end;
}
