use Rattle.std.proofs.Common.{◌≡◌, ◌≤◌, ◌+◌, ◌-◌, ◌++◌, length, drop}
use Rattle.text_script.specs.Spelling.{spelling, script_lines, IsWritten}
use Rattle.text_script.specs.Spawning.{place_in}
use Rattle.text_script.specs.Steps.{Knows}
use Rattle.text_script.proofs.read.read_on.Given as goal

-- what was read is spelled as the script so far
abbrev pub invariant-lines : goal.invariant-lines
invariant-lines l = record {
  version : l.script.version ≡ l.grammar.version;
  spelled : spelling l.grammar.version l.fn.script.sections ++ l.behind ≡ spelling l.grammar.version l.script.sections ++ drop l.at l.behind;
  is_written : IsWritten l.grammar.version l.grammar.domains l.script.sections;
  number : l.line ≡ length (script_lines l.grammar.version l.script.sections) + 1;
  knows : Knows l.spawns.named l.spawns.own (place_in l.script.sections);
  few : l.line ≤ 3 + l.at;
  inside : l.at ≤ length l.behind;
}

abbrev pub decreases-lines : goal.decreases-lines
decreases-lines l = length l.behind - l.at
