use Rattle.std.proofs.Common.{◌≡◌, ◌+◌, List, ◌++◌, length}
use Rattle.model_core.specs.declared.reply.Reply.{Reply}
use Rattle.example_handles.specs.Resources.{Settled}
use Rattle.example_handles.proofs.resource.close_waiting.Given as goal

abbrev pub invariant-waiting : goal.invariant-waiting
invariant-waiting l = record {
  took : List Reply;
  are : l.initial.seat.ran ≡ took ++ l.seat.ran;
  settled : Settled l.initial.resources took l.resources;
  left : l._place + length l.seat.ran ≡ length l.initial.seat.ran;
  same : l.seat ≡ record l.initial.seat { ran = l.seat.ran; finals = l.seat.finals };
  finals : l.seat.finals + length l.seat.ran ≡ l.initial.seat.finals + length l.initial.seat.ran;
}
