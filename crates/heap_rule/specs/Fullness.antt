-- Why pools are used up only where much is kept: each owned pool holds a block that the last complete collection left or that was made since, or has held one.
use Rattle.std.specs.Prelude.{◌≡◌, Bool, ℕ, ◌*◌, ◌<◌, ◌⊎◌, IsTrue, List, Option, Some, None}
use Rattle.model_core.specs.declared.entry.Entry.{Entry}
use Rattle.model_core.specs.declared.label.Label.{Label}
use Rattle.model_core.specs.declared.graph.Node.{Node}
use Rattle.model_core.specs.Domains.{class_count, opening}
use Rattle.model_core.specs.Graph.{has_label, node_at}
use Rattle.model_core.specs.History.{state_after}
use Rattle.model_cycle.specs.Fullness.{kept_labels, HoldsKept}
use Rattle.heap_rule.specs.declared.config.Config.{Config}
use Rattle.heap_rule.specs.declared.phase.Kind.{Kind}
use Rattle.heap_rule.specs.declared.phase.Kind.TheVariants.{Answer}
use Rattle.heap_rule.specs.Limits.{sizes_in}
use Rattle.heap_rule.specs.Places.{Place, Live}
use Rattle.heap_rule.specs.Pools.{Holder, drawn, owned, blocks_of, place_in}

-- the pool in which a block lies or has lain
abbrev pub Homes : Type 0
Homes = Label → Option ℕ

-- Fullness: all that lives is kept. A block of a pool has that pool as its home, and a young one that doesn't forward has none yet. A domain's
-- pool has been the home of a kept block, or is the one that the domain drew last for its class; but where a complete collection is answered
-- the pools in which nothing is left are still to be given back. A pool in which garbage is left has been the home of a kept block
pub record Fullness (k : Config) (log : List Entry) (live : Live) (holder : ℕ → Holder) (fresh : ℕ → ℕ → Option ℕ) (garbage : ℕ → Bool) (homes : Homes) (kind : Kind) : Type 0 where
  pub kept : (a : ℕ) (p : Place) → live a ≡ Some p → IsTrue (has_label (kept_labels (sizes_in k) log) p.label)
  pub low : (q d c slot : ℕ) (p : Place) → holder q ≡ owned d c → slot < blocks_of c → live (place_in q c slot) ≡ Some p → homes p.label ≡ Some q
  pub young : (a : ℕ) (p : Place) → live a ≡ Some p → k.pools * 4096 < a → p.forward ≡ None → homes p.label ≡ None
  pub made : (l : Label) (q : ℕ) → homes l ≡ Some q → (n : Node) × (node_at (state_after (opening (sizes_in k)) log).graph l ≡ Some n)
  pub left : (q d c slot : ℕ) → holder q ≡ owned d c → slot < blocks_of c → IsTrue (garbage (place_in q c slot)) → HoldsKept (kept_labels (sizes_in k) log) homes q
  pub owned : (kind ≡ Answer → ⊥) → (q d c : ℕ) → holder q ≡ owned d c → (fresh d c ≡ Some q) ⊎ HoldsKept (kept_labels (sizes_in k) log) homes q
  pub drawn : (q d : ℕ) → holder q ≡ drawn d → (c : ℕ) × (c < class_count) × (fresh d c ≡ Some q)
