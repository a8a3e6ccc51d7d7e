use Rattle.std.proofs.Common.{◌≡◌, ◌≤◌, ◌+◌, ◌++◌, length, map}
use Rattle.std.specs.Prelude.{vec_capacity}
use Rattle.std.specs.List.{AllByRecursion}
use Rattle.std.specs.Vec.Iter.{into_iter_items, into_iter_len}
use Rattle.run_turns.specs.Runs.{IsRun}
use Rattle.run_seats.specs.Stopping.{IsOver, ran_of, token_of}
use Rattle.run_seats.proofs.closing.domains_of.Given as goal

abbrev pub invariant-runs : goal.invariant-runs
invariant-runs l = record {
  domains : l.domains.items ++ map token_of (into_iter_items l.trace-iterator) ≡ map token_of (into_iter_items l.initial.trace-iterator);
  ran : map (λ v. v.items) l.taken.items ++ map ran_of (into_iter_items l.trace-iterator) ≡ map ran_of (into_iter_items l.initial.trace-iterator);
  over : AllByRecursion (λ t. IsOver t.run) (into_iter_items l.trace-iterator);
  faithful : AllByRecursion (λ t. IsRun t.run) (into_iter_items l.trace-iterator) → AllByRecursion (λ t. IsRun t.run) (into_iter_items l.initial.trace-iterator);
  room : length l.domains.items + length (into_iter_items l.trace-iterator) ≤ vec_capacity l.domains;
  lists : length l.taken.items + length (into_iter_items l.trace-iterator) ≤ vec_capacity l.taken;
  len : into_iter_len l.trace-iterator ≡ length (into_iter_items l.trace-iterator);
}
