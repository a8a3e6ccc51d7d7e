use Rattle.std.proofs.Common.{◌≡◌, ◌≤◌, ◌++◌, length, true}
use Rattle.std.specs.Prelude.{◌==◌}
use Rattle.std.specs.List.{slice_split, list_all}
use Rattle.model_core.specs.Output.{line}
use Rattle.table_text.specs.Forms.{is_writable}
use Rattle.table_text.specs.Texts.{most_lines}
use Rattle.table_text.specs.Spelling.{first_line, spelled}
use Rattle.table_text.specs.Faults.{fault_from}
use Rattle.table_text.proofs.read.read_lines.Given as goal

-- what was read is spelled as the lines so far
abbrev pub invariant-lines : goal.invariant-lines
invariant-lines l = record {
  same : l.lines.version ≡ l.version;
  text : line (first_line l.version) ++ l.behind ≡ spelled l.version l.lines.lines ++ l.rest;
  writable : list_all is_writable l.lines.lines ≡ true;
  number : l.before ≡ length l.lines.lines;
  few : l.before ≤ most_lines l.version;
  faults : fault_from (most_lines l.version) 0 (slice_split (λ b. b == 10) l.behind) ≡ fault_from (most_lines l.version) l.before (slice_split (λ b. b == 10) l.rest);
}

abbrev pub decreases-lines : goal.decreases-lines
decreases-lines l = length l.rest
