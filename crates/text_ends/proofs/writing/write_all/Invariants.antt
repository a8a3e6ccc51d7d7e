use Rattle.std.proofs.Common.{length, ◌-◌, ◌≡◌, ◌≤◌, take}
use Rattle.std.specs.Io.KnownBytes.{Appends}
use Rattle.text_ends.proofs.writing.write_all.Given as goal

abbrev pub invariant-writing : goal.invariant-writing
invariant-writing g l = record {
  calm : g.K.Sink.faults l.out ≡ g.K.Sink.faults l.initial.out;
  inside : l.at ≤ length l.text;
  bytes : Appends (g.K.Sink.written l.initial.out) (g.K.Sink.written l.out) (take l.at l.text);
}

abbrev pub decreases-writing : goal.decreases-writing
decreases-writing g l = length l.text - l.at
