use Rattle.std.proofs.Common.{◌≡◌, ◌++◌, length, map}
use Rattle.std.specs.Vec.Iter.{into_iter_items, into_iter_len}
use Rattle.camlheap_run.specs.Running.{MayBeginSections, deck_of, sectioned_each}
use Rattle.camlheap_run.proofs.run.spawns.sections_of.Given as goal

abbrev pub invariant-domains : goal.invariant-domains
invariant-domains l = record {
  runs : l.runs.items ++ sectioned_each l.spawned (into_iter_items l.domain-iterator) (map (λ v. v.items) l.sections.items) ≡ sectioned_each l.spawned (into_iter_items l.initial.domain-iterator) (map (λ v. v.items) l.initial.sections.items);
  decks : l.decks.items ≡ map deck_of (into_iter_items l.domain-iterator);
  left : MayBeginSections (into_iter_items l.domain-iterator) (map (λ v. v.items) l.sections.items);
  len : into_iter_len l.domain-iterator ≡ length (into_iter_items l.domain-iterator);
}
