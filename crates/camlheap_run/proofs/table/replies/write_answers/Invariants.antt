use Rattle.std.proofs.Common.{◌≡◌, take}
use Rattle.std.specs.Io.KnownBytes.{Appends}
use Rattle.table_text.specs.Machine.Texts.{replies_text}
use Rattle.camlheap_run.proofs.table.replies.write_answers.Given as goal

abbrev pub invariant-replies : goal.invariant-replies
invariant-replies g l = record {
  calm : g.K.Sink.faults l.out ≡ g.K.Sink.faults l.initial.out;
  bytes : Appends (g.K.Sink.written l.initial.out) (g.K.Sink.written l.out) (replies_text (take l.reply-index l.replies));
}
