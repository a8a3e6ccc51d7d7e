use Rattle.std.proofs.Common.{◌≡◌, take}
use Rattle.std.specs.Prelude.{flat_map}
use Rattle.std.specs.Io.KnownBytes.{Appends}
use Rattle.camlheap_run.specs.Writing.{run_text}
use Rattle.camlheap_run.proofs.write.report.write_report.Given as goal

abbrev pub invariant-runs : goal.invariant-runs
invariant-runs g l = record {
  calm : g.K.Sink.faults l.out ≡ g.K.Sink.faults l.initial.out;
  bytes : Appends (g.K.Sink.written l.initial.out) (g.K.Sink.written l.out) (flat_map (run_text l.report) (take l.run-index l.runs));
}
