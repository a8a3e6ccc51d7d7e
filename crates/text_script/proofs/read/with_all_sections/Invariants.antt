use Rattle.std.proofs.Common.{◌≡◌, ◌≤◌, ◌-◌, ◌++◌, [], length, max, replicate}
use Rattle.text_script.proofs.read.with_all_sections.Given as goal

-- the empty sections so far
abbrev pub invariant-loop : goal.invariant-loop
invariant-loop l = record {
  filled : l.script ≡ record l.initial.script { sections = l.initial.script.sections ++ replicate (l.counter - length l.initial.script.sections) [] };
  begun : length l.initial.script.sections ≤ l.counter;
  within : l.counter ≤ max (length l.initial.script.sections) l.domains;
}
