use Rattle.std.proofs.Common.{◌≡◌, ◌+◌, ◌++◌, ◌≤◌, length}
use Rattle.std.specs.Prelude.{vec_capacity}
use Rattle.run_seats.proofs.closing.take_all.Given as goal

abbrev pub invariant-waiting : goal.invariant-waiting
invariant-waiting l = record {
  are : l.initial.run.ran ≡ l.taken.items ++ l.run.ran;
  left : l._place + length l.run.ran ≡ length l.initial.run.ran;
  same : l.run ≡ record l.initial.run { ran = l.run.ran };
  room : length l.taken.items + length l.run.ran ≤ vec_capacity l.taken;
}
