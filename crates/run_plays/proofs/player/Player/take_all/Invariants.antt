use Rattle.std.proofs.Common.{◌≡◌, ◌+◌, ◌≤◌, length}
use Rattle.run_plays.specs.Plays.{seat_of}
use Rattle.run_plays.proofs.player.Player.take_all.Given as goal

abbrev pub invariant-loop : goal.invariant-loop
invariant-loop l = record {
  seat : seat_of l.self ≡ seat_of l.fn.self;
  few : length l.self.shared.run.ran + l.counter ≤ l.end;
}
