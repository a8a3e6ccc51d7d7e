use Rattle.std.specs.Io.KnownBytes.{Keeps}
use Rattle.text_ends.proofs.std_sink.write_retrying.Given as goal

abbrev pub invariant-tries : goal.invariant-tries
invariant-tries g l = record {
  bytes : Keeps (g.W.Write.contents l.initial.writer) (g.W.Write.contents l.writer);
}
