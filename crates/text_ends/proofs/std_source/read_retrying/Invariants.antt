use Rattle.std.proofs.Common.{◌≡◌, length}
use Rattle.std.specs.Io.KnownBytes.{Keeps}
use Rattle.text_ends.proofs.std_source.read_retrying.Given as goal

abbrev pub invariant-tries : goal.invariant-tries
invariant-tries g l = record {
  room : length l.buf ≡ length l.initial.buf;
  bytes : Keeps (g.R.Read.remaining l.initial.reader) (g.R.Read.remaining l.reader);
}
