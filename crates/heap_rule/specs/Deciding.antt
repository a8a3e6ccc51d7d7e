-- How far a domain is with its finalisers in a collection.
use Rattle.std.specs.Prelude.{◌≡◌, ℕ, ◌+◌, Bool, false, IsTrue, List, length, Some}
use Rattle.model_core.specs.declared.label.Label.{Label}
use Rattle.heap_rule.specs.declared.phase.Kind.{Kind}
use Rattle.heap_rule.specs.declared.phase.Kind.TheVariants.{Roots, Queued, Decide, Lasts}
use Rattle.heap_rule.specs.declared.view.Finalisers.{Finalisers}
use Rattle.heap_rule.specs.declared.view.Held.TheVariants.{Queue}
use Rattle.heap_rule.specs.Cycles.{seen_by}
use Rattle.heap_rule.specs.Finalisers.{held_at}
use Rattle.heap_rule.specs.Places.{Place, Live}

-- roots are marked in a phase of this kind
abbrev pub IsRooting : Kind → Type 0
IsRooting Roots = Unit {0}
IsRooting Queued = Unit {0}
IsRooting _ = ⊥

-- how far a domain that hasn't arrived is with its lists: so many of its registrations it has looked at, from the last on, and the rest is left; and the blocks at these places of its queue are marked
pub record Deciding (live : Live) (kind : Kind) (left : ℕ → ℕ) (arrived : ℕ → Bool) (marked : Label → Bool) (d : ℕ) (fs : Finalisers) (kept : ℕ) (waiting : List ℕ) : Type 0 where
  pub finals : kind ≡ Decide → arrived d ≡ false → left d + kept ≡ length fs.finals.items
  pub lasts : kind ≡ Lasts → arrived d ≡ false → left d + kept ≡ length fs.lasts.items
  pub rooted : IsRooting kind → arrived d ≡ false → (i a : ℕ) (p : Place) → IsTrue (seen_by waiting i) → held_at fs (Queue i) ≡ Some a → live a ≡ Some p → IsTrue (marked p.label)
