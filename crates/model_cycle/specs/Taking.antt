-- Clean and Lasts: which keys and which registrations of `finalise_last` are taken; and what a collection leaves.
use Rattle.std.specs.Prelude.{◌≡◌, false, ℕ, ◌≤◌, Bool, not, IsTrue, List, map, filter_map, flat_map, length, slice_get, Some}
use Rattle.model_core.specs.declared.label.Label.{Label}
use Rattle.model_core.specs.declared.state.LastFinaliser.{LastFinaliser}
use Rattle.model_core.specs.declared.state.Mode.TheVariants.{Sealed}
use Rattle.model_core.specs.declared.state.State.{State}
use Rattle.model_core.specs.Graph.{has_label, label_of}
use Rattle.model_core.specs.Reach.{HoldsRoots, is_reachable}
use Rattle.model_core.specs.Domains.{domain_at, pending_label, queues, roots, reach}
use Rattle.model_core.specs.Marked.{IsMarked}
use Rattle.model_core.specs.declared.entry.Entry.TheVariants.{Command, Collected, Done}
use Rattle.model_core.specs.declared.command.Command.TheVariants.{FullMajor}
use Rattle.model_core.specs.Entries.{Allowed, next, is_sealed}
use Rattle.model_cycle.specs.Marks.{FieldsMarked, KeysMarked, DataMarked, IsWhole}
use Rattle.model_cycle.specs.Shares.{Layout, Shares, AreShares, AllOwned}
use Rattle.model_cycle.specs.Queueing.{WaitingReached}

-- the labels that were taken since the Seal are unmarked
abbrev pub TakenUnmarked : State → (Label → Bool) → Type 0
TakenUnmarked s marked = (l : Label) → IsTrue (has_label s.taken l) → IsTrue (not (marked l))

-- the labels of the registrations of `finalise_last`
abbrev pub last_labels : State → List Label
last_labels s = flat_map (λ x. map (λ f. f.label) x.lasts) s.domains

-- in Clean: what the domains have marked is closed and holds the roots, and a marked ephemeron that its domain has seen has no unmarked key; no registration of `finalise_last` was looked at yet
pub record InClean (n : ℕ) (y : Layout) (s : State) (marked : Label → Bool) (w : Shares) : Type 0 where
  pub mode : s.mode ≡ Sealed
  pub shares : AreShares y w
  pub owned : AllOwned n y marked
  pub marks : IsMarked s (queues s) marked
  pub taken : TakenUnmarked s marked
  pub clean : (d a : ℕ) (l : Label) → IsTrue (w.seen d a) → y.live a ≡ Some l → IsTrue (marked l) → KeysMarked s.graph marked l
  pub low : (d : ℕ) → (domain_at s d).low ≡ length (domain_at s d).lasts

-- in Lasts: no marked ephemeron has an unmarked key; each domain looks at its registrations of `finalise_last` from the last to the first, and of those behind it the ones that stay have marked values
pub record InLasts (s : State) (marked : Label → Bool) (left : ℕ → ℕ) : Type 0 where
  pub mode : s.mode ≡ Sealed
  pub marks : IsMarked s (queues s) marked
  pub taken : TakenUnmarked s marked
  pub keys : (l : Label) → IsTrue (marked l) → KeysMarked s.graph marked l
  pub below : (d : ℕ) → left d ≤ (domain_at s d).low
  pub kept : (d p : ℕ) (f : LastFinaliser) → left d ≤ p → slice_get (domain_at s d).lasts p ≡ Some f → IsTrue (marked f.label)

-- after Lasts: what a collection leaves is marked, and what it took is not
pub record IsLeft (s : State) (marked : Label → Bool) : Type 0 where
  pub marks : IsMarked s (queues s) marked
  pub taken : TakenUnmarked s marked
  pub keys : (l : Label) → IsTrue (marked l) → KeysMarked s.graph marked l
  pub lasts : HoldsRoots (last_labels s) marked

-- each reference of a domain and each in a marked block leads to a marked block, so the unmarked blocks may be freed
pub record LeadsToMarked (s : State) (marked : Label → Bool) : Type 0 where
  pub registers : (d : ℕ) → HoldsRoots (filter_map label_of (domain_at s d).registers) marked
  pub queue : (d : ℕ) → HoldsRoots (filter_map pending_label (domain_at s d).queue) marked
  pub finals : (d : ℕ) → HoldsRoots (map (λ f. f.label) (domain_at s d).finals) marked
  pub lasts : (d : ℕ) → HoldsRoots (map (λ f. f.label) (domain_at s d).lasts) marked
  pub fields : (l : Label) → IsTrue (marked l) → FieldsMarked s.graph marked l
  pub keys : (l : Label) → IsTrue (marked l) → KeysMarked s.graph marked l
  pub datum : (l : Label) → IsTrue (marked l) → DataMarked s.graph marked l

-- what follows from what a collection leaves
pub record LeftLaw : Type 0 where
  -- after a whole cycle a block is marked exactly where it is reachable
  pub marked_reach : (s : State) (marked : Label → Bool) → IsLeft s marked → IsWhole s.graph (roots s (queues s)) marked
      → (l : Label) → marked l ≡ is_reachable s.graph (roots s (queues s)) l
  -- each reference leads to a marked block
  pub leads : (s : State) (marked : Label → Bool) → IsLeft s marked → LeadsToMarked s marked
  -- the entries that end a collection are allowed
  pub done : (s : State) (marked : Label → Bool) → IsTrue (is_sealed s.mode) → IsLeft s marked → Allowed s Done
  pub collected : (s : State) (marked : Label → Bool) → s.mode ≡ Sealed → IsLeft s marked → IsWhole s.graph (roots s (queues s)) marked → WaitingReached s
      → Allowed s Collected
  -- they, and a `full_major`, change neither what is left nor what is reachable
  pub after_collected : (s : State) (marked : Label → Bool) → IsLeft s marked → IsLeft (next s Collected) marked
  pub after_full_major : (s : State) (marked : Label → Bool) (d : ℕ) → IsLeft s marked → IsLeft (next s (Command d FullMajor false)) marked
  pub collected_reach : (s : State) → reach (next s Collected) ≡ reach s
  pub full_major_reach : (s : State) (d : ℕ) → reach (next s (Command d FullMajor false)) ≡ reach s
