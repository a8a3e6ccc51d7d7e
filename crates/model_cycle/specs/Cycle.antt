-- A cycle that ends in this pause, phase by phase. It began in this pause, or was under way when the domains stopped.
use Rattle.std.specs.Prelude.{◌≡◌, ◌⊎◌, ℕ, Bool, IsTrue, List, Some}
use Rattle.model_core.specs.declared.label.Label.{Label}
use Rattle.model_core.specs.declared.state.Mode.TheVariants.{Open}
use Rattle.model_core.specs.declared.state.State.{State}
use Rattle.model_core.specs.Graph.{node_at}
use Rattle.model_core.specs.Reach.{HoldsRoots}
use Rattle.model_core.specs.WellFormed.{names_of}
use Rattle.model_core.specs.declared.graph.Node.{Node}
use Rattle.model_core.specs.Domains.{queues, roots}
use Rattle.model_core.specs.Entries.{is_sealed}
use Rattle.model_cycle.specs.Marks.{Marks, IsTraced, IsWhole}
use Rattle.model_cycle.specs.Shares.{Layout, Shares, AllOwned, InMark, InRounds}
use Rattle.model_cycle.specs.Queueing.{InRoots, InQueued, InDecide, IsDecided, WaitingReached, CutStays}
use Rattle.model_cycle.specs.Cover.{Covering, IsCovered}
use Rattle.model_cycle.specs.Taking.{InClean, InLasts, IsLeft}

-- a cycle: its marks, where the blocks lie, and how far the domains are
pub record Cycle : Type 0 where
  -- whether it began in this pause: then it marks nothing but what is reachable
  pub whole : Bool
  -- which blocks are marked and scanned
  pub marks : Marks
  -- where the blocks lie
  pub layout : Layout
  -- how far the domains are in the present phase
  pub shares : Shares
  -- what was marked when the present Rounds began
  pub before : Label → Bool
  -- how many registrations a domain has left to look at, in Decide and in Lasts
  pub left : ℕ → ℕ

-- marking is done twice: up to the Cut, and, since values that were queued are roots too, from there to the Seal
pub data Pass : Type 0 where
  First : Pass
  Second : Pass

-- in a whole cycle all that is marked is reachable from these roots
abbrev pub WholeFrom : List Label → State → Bool → (Label → Bool) → Type 0
WholeFrom roots s whole marked = IsTrue whole → IsWhole s.graph roots marked

-- in a whole cycle the values of the registrations that stay were reachable at the cut
abbrev pub WholeWaiting : State → Bool → Type 0
WholeWaiting s whole = IsTrue whole → WaitingReached s

-- after Decide: what it decided, and that the roots of the cut are roots still and marked
pub record IsPastDecide (s : State) (whole : Bool) (marked : Label → Bool) : Type 0 where
  pub decided : IsDecided s marked
  pub waiting : WholeWaiting s whole
  pub stays : CutStays s
  pub rooted : HoldsRoots (roots s s.cut) marked

-- what was done before: in the first pass no entry was made, and in the second Decide has ended
abbrev pub Passed : Pass → State → Bool → (Label → Bool) → Type 0
Passed First s whole marked = s.mode ≡ Open
Passed Second s whole marked = IsPastDecide s whole marked

-- the roots are marked, and what was scanned refers to nothing unmarked
pub record IsRooted (s : State) (m : Marks) : Type 0 where
  pub traced : IsTraced s.graph m
  pub rooted : HoldsRoots (roots s (queues s)) m.marked

-- what running domains have kept of a cycle that was under way: its marks cover the present graph, and all that is held lies in pools
pub record IsUnderWay (s : State) (y : Layout) (m : Marks) : Type 0 where
  pub cover : Covering
  pub covered : IsCovered cover
  pub now : cover.now ≡ s.graph
  pub marks : cover.marks ≡ m
  pub held : HoldsRoots (roots s (queues s)) cover.held
  pub live : HoldsRoots (roots s (queues s)) cover.places
  pub leads : (l : Label) (n : Node) → IsTrue (cover.places l) → node_at s.graph l ≡ Some n → HoldsRoots (names_of n) cover.places
  pub placed : (a : ℕ) (l : Label) → y.live a ≡ Some l → IsTrue (cover.places l)

-- what is known of the marks: the one or the other, and from the Cut on the first
abbrev pub Known : Pass → State → Layout → Marks → Type 0
Known First s y m = IsRooted s m ⊎ IsUnderWay s y m
Known Second s y m = IsRooted s m

-- the phases of a cycle: roots are darkened, blocks are scanned, data of ephemerons is darkened, finalisers are queued, keys are emptied, `finalise_last` is queued, and garbage is freed
pub data Phase : Type 0 where
  Roots : Pass → Phase
  Mark : Pass → Phase
  Rounds : Pass → Phase
  Decide : Phase
  Clean : Phase
  Lasts : Phase
  Sweep : Phase

-- what the marked blocks keep of Decide in Roots: in the first pass there was none
abbrev pub StaysClosed : Pass → ℕ → State → (Label → Bool) → Shares → Type 0
StaysClosed First n s marked w = Unit {0}
StaysClosed Second n s marked w = InQueued n s marked w

-- in Roots: the domains that have arrived have darkened their roots
pub record RootsFacts (pass : Pass) (n : ℕ) (s : State) (c : Cycle) : Type 0 where
  pub traced : IsTraced s.graph c.marks
  pub owned : AllOwned n c.layout c.marks.marked
  pub whole : WholeFrom (roots s (queues s)) s c.whole c.marks.marked
  pub passed : Passed pass s c.whole c.marks.marked
  pub marked : InRoots s c.marks.marked c.shares
  pub queued : StaysClosed pass n s c.marks.marked c.shares

-- in Mark: each domain scans the grey blocks in its pools
pub record MarkFacts (pass : Pass) (n : ℕ) (s : State) (c : Cycle) : Type 0 where
  pub known : Known pass s c.layout c.marks
  pub whole : WholeFrom (roots s (queues s)) s c.whole c.marks.marked
  pub passed : Passed pass s c.whole c.marks.marked
  pub mark : InMark n c.layout c.marks c.shares

-- in Rounds: each domain darkens the data of its marked ephemerons whose full keys are marked
pub record RoundsFacts (pass : Pass) (n : ℕ) (s : State) (c : Cycle) : Type 0 where
  pub known : Known pass s c.layout c.marks
  pub whole : WholeFrom (roots s (queues s)) s c.whole c.marks.marked
  pub passed : Passed pass s c.whole c.marks.marked
  pub rounds : InRounds n c.layout s.graph c.before c.marks c.shares

-- in Decide: each domain queues its registrations of `finalise` whose values are unmarked
pub record DecideFacts (n : ℕ) (s : State) (c : Cycle) : Type 0 where
  pub owned : AllOwned n c.layout c.marks.marked
  pub whole : WholeFrom (roots s s.cut) s c.whole c.marks.marked
  pub stays : CutStays s
  pub decide : InDecide s c.marks.marked c.left
  pub through : (d : ℕ) → IsTrue (c.shares.arrived d) → c.left d ≡ 0

-- in Clean: each domain empties the unmarked keys of its marked ephemerons
pub record CleanFacts (n : ℕ) (s : State) (c : Cycle) : Type 0 where
  pub whole : WholeFrom (roots s (queues s)) s c.whole c.marks.marked
  pub waiting : WholeWaiting s c.whole
  pub stays : CutStays s
  pub clean : InClean n c.layout s c.marks.marked c.shares

-- in Lasts: each domain queues its registrations of `finalise_last` whose values are unmarked
pub record LastsFacts (n : ℕ) (s : State) (c : Cycle) : Type 0 where
  pub owned : AllOwned n c.layout c.marks.marked
  pub whole : WholeFrom (roots s (queues s)) s c.whole c.marks.marked
  pub waiting : WholeWaiting s c.whole
  pub lasts : InLasts s c.marks.marked c.left
  pub through : (d : ℕ) → IsTrue (c.shares.arrived d) → c.left d ≡ 0

-- in Sweep: each domain frees the unmarked blocks in its pools, counts the marked ones, and the collection ends
pub record SweepFacts (n : ℕ) (s : State) (c : Cycle) : Type 0 where
  pub sealed : IsTrue (is_sealed s.mode)
  pub owned : AllOwned n c.layout c.marks.marked
  pub whole : WholeFrom (roots s (queues s)) s c.whole c.marks.marked
  pub waiting : WholeWaiting s c.whole
  pub kept : IsLeft s c.marks.marked

-- what holds in each phase
abbrev pub InPhase : Phase → ℕ → State → Cycle → Type 0
InPhase (Roots pass) = RootsFacts pass
InPhase (Mark pass) = MarkFacts pass
InPhase (Rounds pass) = RoundsFacts pass
InPhase Decide = DecideFacts
InPhase Clean = CleanFacts
InPhase Lasts = LastsFacts
InPhase Sweep = SweepFacts

-- the cycle with other shares
abbrev pub with_shares : Cycle → Shares → Cycle
with_shares c w = record c { shares = w }

-- the cycle with other marks
abbrev pub with_marks : Cycle → Marks → Cycle
with_marks c m = record c { marks = m }
