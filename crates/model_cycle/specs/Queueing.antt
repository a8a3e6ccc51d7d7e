-- Roots and Decide: whose registers and queues are marked, and which registrations of `finalise` are queued.
use Rattle.std.specs.Prelude.{◌≡◌, ℕ, ◌≤◌, Bool, false, not, IsTrue, filter_map, slice_get, Some}
use Rattle.model_core.specs.declared.label.Label.{Label}
use Rattle.model_core.specs.declared.state.Finaliser.{Finaliser}
use Rattle.model_core.specs.declared.state.Mode.TheVariants.{Cut as CutMode}
use Rattle.model_core.specs.declared.state.State.{State}
use Rattle.model_core.specs.Graph.{has_label, label_of}
use Rattle.model_core.specs.Reach.{HoldsRoots, IsClosedUnder}
use Rattle.model_core.specs.Domains.{domain_at, pending_label, queues, roots, waiting, is_reachable_with}
use Rattle.model_core.specs.Entries.{queued_beyond, SealAllowed}
use Rattle.model_cycle.specs.Shares.{IsQuiet, Shares}

-- a domain's roots are marked: what its registers and its queue hold
pub record RootsMarked (s : State) (marked : Label → Bool) (d : ℕ) : Type 0 where
  pub registers : HoldsRoots (filter_map label_of (domain_at s d).registers) marked
  pub queue : HoldsRoots (filter_map pending_label (domain_at s d).queue) marked

-- in Roots: the roots of each domain that has arrived are marked
abbrev pub InRoots : State → (Label → Bool) → Shares → Type 0
InRoots s marked w = (d : ℕ) → IsTrue (w.arrived d) → RootsMarked s marked d

-- in the second Roots: a domain that has arrived owes nothing, and while nothing was changed and nobody owes, the marked blocks are closed, as they were in Decide
pub record InQueued (n : ℕ) (s : State) (marked : Label → Bool) (w : Shares) : Type 0 where
  pub paid : (d : ℕ) → IsTrue (w.arrived d) → w.owes d ≡ false
  pub closed : IsQuiet n w → IsClosedUnder s.graph marked

-- in Decide: the marked blocks are closed and hold the roots of the cut; each domain looks at its registrations from the last to the first, of those behind it the ones that stay have marked values, and the queued ones unmarked values
pub record InDecide (s : State) (marked : Label → Bool) (left : ℕ → ℕ) : Type 0 where
  pub mode : s.mode ≡ CutMode
  pub roots : HoldsRoots (roots s s.cut) marked
  pub closed : IsClosedUnder s.graph marked
  pub below : (d : ℕ) → left d ≤ (domain_at s d).low
  pub kept : (d p : ℕ) (f : Finaliser) → left d ≤ p → slice_get (domain_at s d).finals p ≡ Some f → IsTrue (marked f.label)
  pub queued : (l : Label) → IsTrue (has_label (queued_beyond (queues s) s.cut) l) → IsTrue (not (marked l))

-- after Decide: a Seal is allowed, and the values of the registrations that stay are marked
pub record IsDecided (s : State) (marked : Label → Bool) : Type 0 where
  pub seal : SealAllowed s
  pub waiting : HoldsRoots (waiting s) marked

-- the values of the registrations that stay were reachable at the cut: so it is in a whole cycle, and a Collected asks it
abbrev pub WaitingReached : State → Type 0
WaitingReached s = HoldsRoots (waiting s) (is_reachable_with s s.cut)

-- the roots of the cut are roots still: queues have only grown
abbrev pub CutStays : State → Type 0
CutStays s = HoldsRoots (roots s s.cut) (has_label (roots s (queues s)))
