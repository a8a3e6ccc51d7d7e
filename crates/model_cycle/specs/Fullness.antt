-- Fullness: the labels that the last complete collection left and those made since; and why the pools run out only when these are many.
use Rattle.std.specs.Prelude.{◌≡◌, Bool, true, false, ℕ, ◌+◌, ◌*◌, ◌≤◌, IsTrue, List, [], ◌∷◌, ◌++◌, length, drop, Option, Some}
use Rattle.model_core.specs.declared.label.Label.{Label}
use Rattle.model_core.specs.declared.entry.Entry.{Entry}
use Rattle.model_core.specs.declared.entry.Entry.TheVariants.{Command as CommandOf, Collected}
use Rattle.model_core.specs.declared.command.Command.{Command}
use Rattle.model_core.specs.Commands.{is_allocation}
use Rattle.model_core.specs.declared.state.Sizes.{Sizes}
use Rattle.model_core.specs.declared.state.State.{State}
use Rattle.model_core.specs.Graph.{labels, has_label, has_no_repeats}
use Rattle.model_core.specs.Reach.{HoldsRoots}
use Rattle.model_core.specs.Domains.{domain_at, queues, roots, reach, reserve, shared_label, opening}
use Rattle.model_core.specs.Entries.{next}
use Rattle.model_core.specs.History.{state_after, Legal}
use Rattle.model_cycle.specs.Marks.{IsWhole}

-- the labels that an entry makes
abbrev pub made : State → Entry → List Label
made s e = drop (length s.graph) (labels (next s e).graph)

-- the kept labels after an entry: after a Collected those that are reachable, and else those that were kept with the ones made
abbrev pub kept_next : State → Entry → List Label → List Label
kept_next s Collected kept = reach s
kept_next s e kept = kept ++ made s e

-- the kept labels after these entries, from a state and its kept labels on
abbrev pub kept_from : State → List Label → List Entry → List Label
kept_from s kept [] = kept
kept_from s kept (e ∷ h) = kept_from (next s e) (kept_next s e kept) h

-- the kept labels after a history: those that the last complete collection found reachable, and those made since
abbrev pub kept_labels : Sizes → List Entry → List Label
kept_labels z h = kept_from (opening z) (shared_label ∷ []) h

-- a state's `kept` counts these labels, each once
pub record IsKept (s : State) (kept : List Label) : Type 0 where
  pub once : IsTrue (has_no_repeats kept)
  pub known : HoldsRoots kept (has_label (labels s.graph))
  pub count : length kept ≡ s.kept

-- the blocks in pools have kept labels
abbrev pub AllKept : (Label → Bool) → List Label → Type 0
AllKept held kept = (l : Label) → IsTrue (held l) → IsTrue (has_label kept l)

-- whether an entry is Collected
abbrev pub is_collected : Entry → Bool
is_collected Collected = true
is_collected _ = false

-- the label that a domain gives out next
abbrev pub new_label : State → ℕ → Label
new_label s d = record { domain = d; serial = (domain_at s d).serial + 1 }

-- a pool holds a block whose label is kept, or has held one
abbrev pub HoldsKept : List Label → (Label → Option ℕ) → ℕ → Type 0
HoldsKept kept pool_of p = (l : Label) × IsTrue (has_label kept l) × (pool_of l ≡ Some p)

-- each of these pools does
abbrev pub AllHoldKept : List Label → (Label → Option ℕ) → List ℕ → Type 0
AllHoldKept kept pool_of [] = Unit {0}
AllHoldKept kept pool_of (p ∷ ps) = HoldsKept kept pool_of p × AllHoldKept kept pool_of ps

-- a pool is none of these
abbrev pub IsNone : ℕ → List ℕ → Type 0
IsNone p [] = Unit {0}
IsNone p (q ∷ ps) = (p ≡ q → ⊥) × IsNone p ps

-- no pool stands in the list twice
abbrev pub Differ : List ℕ → Type 0
Differ [] = Unit {0}
Differ (p ∷ ps) = IsNone p ps × Differ ps

-- what `kept` counts, and why an allocation finds no pool only where it is large
pub record FullnessLaw : Type 0 where
  -- after each legal history `kept` counts the kept labels
  pub counts : (z : Sizes) (h : List Entry) → Legal z h → IsKept (state_after (opening z) h) (kept_labels z h)
  -- the kept labels of a history with one entry more
  pub push : (z : Sizes) (h : List Entry) (e : Entry) → kept_labels z (h ++ e ∷ []) ≡ kept_next (state_after (opening z) h) e (kept_labels z h)
  -- the blocks in pools keep having kept labels: as an entry comes, as a block is made, and as a whole cycle has freed all that is unmarked
  pub stays : (s : State) (e : Entry) (held : Label → Bool) (kept : List Label) → is_collected e ≡ false → AllKept held kept → AllKept held (kept_next s e kept)
  pub makes : (s : State) (d : ℕ) (c : Command) (kept : List Label) → is_allocation c ≡ true
      → kept_next s (CommandOf d c false) kept ≡ kept ++ new_label s d ∷ []
  pub collected : (s : State) (held marked : Label → Bool) (kept : List Label) → ((l : Label) → IsTrue (held l) → IsTrue (marked l))
      → IsWhole s.graph (roots s (queues s)) marked → AllKept held (kept_next s Collected kept)
  -- pools that hold kept blocks are no more than these
  pub few : (kept : List Label) (pool_of : Label → Option ℕ) (pools : List ℕ) → Differ pools → AllHoldKept kept pool_of pools → length pools ≤ length kept
  -- so where no more pools are free than the reserve, `kept` is so large that `full` may be answered
  pub enough : (s : State) (kept : List Label) → IsKept s kept → (pool_of : Label → Option ℕ) (holding : List ℕ) → Differ holding → AllHoldKept kept pool_of holding
      → (owned free : ℕ) → owned ≤ length holding + s.sizes.classes * s.sizes.domains → free + owned ≡ s.sizes.pools → free ≤ reserve s.sizes
      → s.sizes.pools ≤ s.kept + reserve s.sizes + s.sizes.classes * s.sizes.domains
