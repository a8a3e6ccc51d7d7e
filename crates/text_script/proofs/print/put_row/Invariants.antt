use Rattle.std.proofs.Common.{◌≡◌, ◌≤◌, ◌+◌, ◌*◌, ◌++◌, pos, map, take, drop}
use Rattle.text_script.specs.Forms.{form}
use Rattle.text_script.proofs.TextLemmas.{spaced}
use Rattle.text_script.proofs.print.put_row.Given as goal

-- what was printed, and what is still to come
abbrev pub invariant-loop-number : goal.invariant-loop-number
invariant-loop-number l = record {
  printed : take l.at l.out ++ spaced (map pos (drop l.number-index l.numbers)) ≡ (form l.fn.word).text ++ spaced (map pos l.numbers);
  short : l.at ≤ 13 + 11 * l.number-index;
  begun : l.initial.at ≤ l.at;
  rest : drop l.at l.out ≡ drop l.at l.initial.out;
}
