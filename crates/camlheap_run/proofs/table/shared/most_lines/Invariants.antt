use Rattle.std.proofs.Common.{◌≡◌, map, drop}
use Rattle.std.specs.Prelude.{max}
use Rattle.camlheap_run.specs.Tables.{most_lines_of}
use Rattle.camlheap_run.proofs.table.shared.most_lines.Given as goal

abbrev pub invariant-sections : goal.invariant-sections
invariant-sections l = max l.most (most_lines_of (map (λ v. v.items) (drop l.section-index l.sections))) ≡ most_lines_of (map (λ v. v.items) l.sections)
