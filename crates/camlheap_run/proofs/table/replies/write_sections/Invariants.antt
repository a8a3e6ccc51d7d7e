use Rattle.std.proofs.Common.{◌≡◌, map, take}
use Rattle.std.specs.Io.KnownBytes.{Appends}
use Rattle.camlheap_run.specs.Tables.{sections_text}
use Rattle.camlheap_run.proofs.table.replies.write_sections.Given as goal

abbrev pub invariant-sections : goal.invariant-sections
invariant-sections g l = record {
  calm : g.K.Sink.faults l.out ≡ g.K.Sink.faults l.initial.out;
  bytes : Appends (g.K.Sink.written l.initial.out) (g.K.Sink.written l.out) (sections_text 0 (map (λ v. v.items) (take l.domain l.sections)));
}
