use Rattle.std.proofs.Common.{◌≡◌, ◌<◌, ℕ, List, Some, Option, length, reverse, slice_get}
use Rattle.model_core.specs.declared.label.Label as labels
use Rattle.model_laws.specs.declared.reach.seen.Seen.{Seen}
use Rattle.model_laws.specs.Reach.Ways.{Edges, follow}
use Rattle.model_laws.specs.Reach.Exploring.{AllTraced}
use Rattle.model_laws.proofs.reach.seen.way_to.Given as goal

abbrev pub invariant-up : goal.invariant-up
invariant-up l = record {
  inside : l.here < length l.seen;
  leads : (f : Edges) (roots : ℕ → Option labels.Label) (a b : Seen) → AllTraced f roots l.seen → slice_get l.seen l.at ≡ Some a → slice_get l.seen l.here ≡ Some b → follow f (Some b.label) (reverse l.fields.items) ≡ Some a.label;
}

abbrev pub decreases-up : goal.decreases-up
decreases-up l = l.here
