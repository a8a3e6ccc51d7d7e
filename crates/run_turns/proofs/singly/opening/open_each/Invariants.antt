use Rattle.std.proofs.Common.{◌≡◌, ◌++◌, length, map}
use Rattle.std.specs.Vec.Iter.{into_iter_items, into_iter_len}
use Rattle.run_turns.specs.Singly.Opening.{MayOpen, deck_of, opened}
use Rattle.run_turns.proofs.singly.opening.open_each.Given as goal

abbrev pub invariant-domains : goal.invariant-domains
invariant-domains l = record {
  runs : l.runs.items ++ map opened (into_iter_items l.domain-iterator) ≡ map opened (into_iter_items l.initial.domain-iterator);
  decks : l.decks.items ≡ map deck_of (into_iter_items l.domain-iterator);
  left : MayOpen (into_iter_items l.domain-iterator);
  len : into_iter_len l.domain-iterator ≡ length (into_iter_items l.domain-iterator);
}
