use Rattle.std.proofs.Common.{◌≡◌, map}
use Rattle.run_plays.specs.Plays.{seat_of}
use Rattle.run_plays.proofs.plays.plays_by_turns.Given as goal

abbrev pub invariant-loop : goal.invariant-loop
invariant-loop g l = record {
  seats : map (λ c. seat_of c.player) l.chairs.items ≡ map (λ c. seat_of c.player) l.initial.chairs.items;
}
