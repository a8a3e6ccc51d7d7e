use Rattle.std.proofs.Common.{◌≤◌, length, sum_by}
use Rattle.table_text.proofs.OfSections.ReadLemmas.{ReadTo}
use Rattle.table_text.proofs.sections.read.read_behind.Given as goal

-- what was read is spelled as the sections so far
abbrev pub invariant-lines : goal.invariant-lines
invariant-lines l = record {
  read : ReadTo l.domains l.behind l.sections l.rest;
  few : length l.sections ≤ l.domains;
  room : sum_by length l.sections ≤ 199984;
}

abbrev pub decreases-lines : goal.decreases-lines
decreases-lines l = length l.rest
