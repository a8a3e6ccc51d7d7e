use Rattle.std.proofs.Common.{◌≡◌, take}
use Rattle.std.specs.Prelude.{flat_map}
use Rattle.std.specs.Io.KnownBytes.{Appends}
use Rattle.camlheap_run.specs.Telling.{teller_text}
use Rattle.camlheap_run.proofs.write.tellers.write_tellers.Given as goal

abbrev pub invariant-tellers : goal.invariant-tellers
invariant-tellers g l = record {
  calm : g.K.Sink.faults l.out ≡ g.K.Sink.faults l.initial.out;
  bytes : Appends (g.K.Sink.written l.initial.out) (g.K.Sink.written l.out) (flat_map teller_text (take l.teller-index l.tellers));
}
