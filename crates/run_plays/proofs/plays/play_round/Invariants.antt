use Rattle.std.proofs.Common.{◌≡◌, length, map}
use Rattle.run_plays.specs.Plays.{seat_of}
use Rattle.run_plays.proofs.plays.play_round.Given as goal

abbrev pub invariant-loop-i : goal.invariant-loop-i
invariant-loop-i g l = record {
  seats : map (λ c. seat_of c.player) l.chairs.items ≡ map (λ c. seat_of c.player) l.initial.chairs.items;
  len : length l.chairs.items ≡ l.i-end;
}
