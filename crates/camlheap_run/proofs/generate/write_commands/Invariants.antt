use Rattle.std.proofs.Common.{◌≡◌, take}
use Rattle.std.specs.Io.KnownBytes.{Appends}
use Rattle.camlheap_run.specs.Generating.{commands_text}
use Rattle.camlheap_run.proofs.generate.write_commands.Given as goal

abbrev pub invariant-commands : goal.invariant-commands
invariant-commands g l = record {
  calm : g.K.Sink.faults l.out ≡ g.K.Sink.faults l.initial.out;
  bytes : Appends (g.K.Sink.written l.initial.out) (g.K.Sink.written l.out) (commands_text (take l.command-index l.commands));
}
