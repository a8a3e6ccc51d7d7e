use Rattle.std.proofs.Common.{◌≡◌, ◌++◌, ℕ, List}
use Rattle.std.specs.Io.KnownBytes.{Appends}
use Rattle.std.specs.Slice.Iter.{chunks_rest, chunks_size}
use Rattle.model_core.specs.Output.{printed}
use Rattle.camlheap_run.proofs.write.sections.write_replies.Given as goal

abbrev pub invariant-pages : goal.invariant-pages
invariant-pages g l = record {
  size : chunks_size l.some-iterator ≡ 64;
  calm : g.K.Sink.faults l.out ≡ g.K.Sink.faults l.initial.out;
  done : List ℕ;
  bytes : Appends (g.K.Sink.written l.initial.out) (g.K.Sink.written l.out) done;
  whole : done ++ printed (chunks_rest l.some-iterator) ≡ printed l.replies;
}
