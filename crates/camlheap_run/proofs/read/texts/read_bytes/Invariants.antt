use Rattle.std.proofs.Common.{◌≡◌, ◌≤◌, ◌-◌, length}
use Rattle.std.specs.Io.KnownBytes.{Consumes}
use Rattle.camlheap_run.specs.Reading.{most_read}
use Rattle.camlheap_run.proofs.read.texts.read_bytes.Given as goal

abbrev pub invariant-reading : goal.invariant-reading
invariant-reading g l = record {
  calm : g.S.Source.faults l.src ≡ g.S.Source.faults l.initial.src;
  few : length l.bytes.items ≤ most_read;
  bytes : Consumes (g.S.Source.left l.initial.src) (g.S.Source.left l.src) l.bytes.items;
}

abbrev pub decreases-reading : goal.decreases-reading
decreases-reading g l = most_read - length l.bytes.items
