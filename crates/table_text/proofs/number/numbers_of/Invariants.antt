use Rattle.std.proofs.Common.{◌≡◌, ◌+◌, length, map}
use Rattle.std.specs.Prelude.{option_map}
use Rattle.text_script.specs.Number.{numbers, clipped}
use Rattle.table_text.specs.Faults.{texts_behind}
use Rattle.table_text.proofs.NumberLemmas.{behind}
use Rattle.table_text.proofs.number.numbers_of.Given as goal

-- the numbers so far, and those to come, are those of the line
abbrev pub invariant-texts : goal.invariant-texts
invariant-texts l =
    let texts = texts_behind (option_map (λ r. r.now) l.rest) in
    let all = texts_behind (option_map (λ r. r.now) l.initial.rest) in
    record {
      said : behind l.numbers.items (numbers texts) ≡ option_map (map clipped) (numbers all);
      count : l.counter + length texts ≡ length all;
      read : length l.numbers.items ≡ l.counter;
    }
