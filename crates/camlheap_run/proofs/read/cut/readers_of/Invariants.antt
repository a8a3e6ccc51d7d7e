use Rattle.std.proofs.Common.{◌≡◌, ◌≤◌, ◌++◌, length, map, drop}
use Rattle.std.specs.List.{AllByRecursion}
use Rattle.text_script.specs.Sections.{headed}
use Rattle.camlheap_run.specs.Readers.{IsReaderOf, lines_of}
use Rattle.camlheap_run.proofs.read.cut.readers_of.Given as goal

-- what is cut, and what is left of the text
abbrev pub invariant-sections : goal.invariant-sections
invariant-sections l = record {
  each : AllByRecursion (IsReaderOf l.fn.version l.domains l.text) l.readers.items;
  count : length l.readers.items ≡ l.number;
  cut : drop l.fn.first l.text ≡ headed 0 (map (lines_of l.text) l.readers.items) ++ drop l.at l.text;
  inside : l.at ≤ length l.text;
}
