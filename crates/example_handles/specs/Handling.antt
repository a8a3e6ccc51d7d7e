-- Handles as the threads that use them see them.
use Rattle.std.specs.Prelude.{◌≡◌, ◌≢◌, ◌↔◌, ◌⊎◌, ◌&&◌, ℕ, zero, suc, ◌+◌, ◌<◌, ◌≤◌, Bool, true, false, List, [], ◌∷◌, ◌++◌, length, slice_get, Option, Some, None, Result, Err}
use Rattle.std.specs.List.{AllByRecursion}
use Rattle.model_core.specs.declared.command.Command.{Command}
use Rattle.model_core.specs.declared.command.Command.TheVariants.{Alloc, FinaliseLast, FullMajor, Poll}
use Rattle.model_core.specs.declared.entry.Entry.{Entry}
use Rattle.model_core.specs.declared.entry.Entry.TheVariants.{Command as CommandOf}
use Rattle.model_core.specs.declared.label.Label.{Label}
use Rattle.model_core.specs.declared.reply.Reply.{Reply}
use Rattle.model_core.specs.declared.reply.Reply.TheVariants.{Full}
use Rattle.model_core.specs.declared.state.LastFinaliser.{LastFinaliser}
use Rattle.model_core.specs.declared.state.Pending.{Pending}
use Rattle.model_core.specs.declared.state.Pending.TheVariants.{Last as LastPending}
use Rattle.model_core.specs.declared.state.Sizes.{Sizes}
use Rattle.model_core.specs.declared.state.State.{State}
use Rattle.model_core.specs.declared.graph.Value.TheVariants.{Block}
use Rattle.model_core.specs.Domains.{IsWithinLimits, domain_at, opening, queues, register}
use Rattle.model_core.specs.Entries.{is_gone, is_let_go}
use Rattle.model_core.specs.History.{IsPrefix, commands, state_after}
use Rattle.model_core.specs.Registrations.{all_registered}
use Rattle.heap_rule.specs.declared.config.Config.{Config}
use Rattle.heap_rule.specs.declared.config.StartFault.{StartFault}
use Rattle.heap_rule.specs.declared.config.StartFault.TheVariants as fault
use Rattle.heap_rule.specs.Limits.{first_outside, sizes_in}
use Rattle.heap_rule.specs.Rule.{state_of}
use Rattle.model_core.specs.Counts.Counts.{ephemerons_of, labels_given, labels_of}
use Rattle.run_turns.specs.Handed.{Finalised, PerformedOn}
use Rattle.run_turns.specs.Kept.{finalised}
use Rattle.run_turns.specs.Tries.{FitsHeap, registrations_of}
use Rattle.run_seats.specs.Seating.{IsSeatOf, SeatView, SeatsView}
use Rattle.run_seats.specs.Stopping.{Stops}
use Rattle.example_handles.specs.declared.resource.Resource.{Resource}
use Rattle.example_handles.specs.declared.resource.Resource.TheVariants.{Open, ClosedByOwner, ClosedByFinaliser}
use Rattle.example_handles.specs.Resources.{Closes, Settled, names}

-- the numbers of a heap for handles: room for so many finalisers of each domain, and for no ephemeron
abbrev pub config_for : ℕ → ℕ → ℕ → ℕ → Config
config_for domains minor_words pools most = record { domains = domains; minor_words = minor_words; pools = pools; finals = most; ephes = 0 }

-- by what a start answers: which is the first of a heap's numbers that is outside its limit, if any is
abbrev pub TellsOutside : {T : Type 0} → Config → Result T StartFault → Type 0
TellsOutside k result = (n : ℕ) → (result ≡ Err (fault.Config n)) ↔ (first_outside k ≡ Some n)

-- handles of one seat: the seat, the resources by their numbers, and how many there may be
pub record HandlesView : Type 0 where
  pub seat : SeatView
  pub resources : List Resource
  pub most : ℕ

-- the same seat, further on
abbrev pub IsLater : SeatView → SeatView → Type 0
IsLater old new = new ≡ record old { front = new.front; labels = new.labels; room = new.room; finals = new.finals; stats = new.stats; ran = new.ran }

-- all are of seats of this heap
abbrev pub AllHandlesOf : SeatsView → List HandlesView → Type 0
AllHandlesOf s hs = AllByRecursion (λ h. IsSeatOf s h.seat) hs

-- the state that the history leaves as far as the seat's domain has seen it
abbrev pub state_at : HandlesView → State
state_at h = state_of h.seat.heap.config h.seat.front

-- the replies of all finalisers of the seat's domain that have run
abbrev pub ran_by : HandlesView → List Reply
ran_by h = finalised (sizes_in h.seat.heap.config) h.seat.front h.seat.number

-- what the domain has registered
abbrev pub registered_by : HandlesView → List Pending
registered_by h = all_registered h.seat.number (opening (sizes_in h.seat.heap.config)) h.seat.front

-- the finalisers of so many resources, in the order in which they were opened
abbrev pub numbered : ℕ → List Pending
numbered zero = []
numbered (suc n) = numbered n ++ LastPending n ∷ []

-- each resource has one finaliser; one whose finaliser has run is closed; the finaliser has run of one that it closed; and no reply of a finaliser waits to be taken
pub record IsHandles (h : HandlesView) : Type 0 where
  pub limits : IsWithinLimits (sizes_in h.seat.heap.config)
  pub registered : registered_by h ≡ numbered (length h.resources)
  pub few : length h.resources ≤ h.most
  pub room : h.most ≤ h.seat.finals + length h.resources
  pub closed : (k : ℕ) → names (ran_by h) k ≡ true → slice_get h.resources k ≢ Some Open
  pub ran : (k : ℕ) → slice_get h.resources k ≡ Some ClosedByFinaliser → names (ran_by h) k ≡ true
  pub taken : h.seat.ran ≡ []

-- a seat on which no command was made, of a heap within its limits, with room for so many finalisers
pub record IsUnused (most : ℕ) (s : SeatView) : Type 0 where
  pub limits : IsWithinLimits (sizes_in s.heap.config)
  pub front : s.front ≡ []
  pub ran : s.ran ≡ []
  pub room : most ≤ s.finals

-- a seat without a resource
abbrev pub no_handles : ℕ → SeatView → HandlesView
no_handles most s = record { seat = s; resources = []; most = most }

-- a command that makes no block and registers no finaliser
pub record IsSpare (c : Command) : Type 0 where
  pub fits : FitsHeap c
  pub labels : labels_of c ≡ 0
  pub ephemerons : ephemerons_of c ≡ 0
  pub registrations : registrations_of c ≡ 0

-- since then the history has grown by entries of others, by runs of the domain's finalisers with these replies, and by this command of the domain with its reply
abbrev pub PerformedBy : HandlesView → HandlesView → Command → List Reply → Reply → Type 0
PerformedBy old new c ran reply = PerformedOn (sizes_in old.seat.heap.config) old.seat.number old.seat.front new.seat.front c ran reply

-- this command was made, with this reply, behind finalisers that ran
pub record Made (old new : HandlesView) (c : Command) (reply : Reply) : Type 0 where
  pub ran : List Reply
  pub performed : PerformedBy old new c ran reply

-- a seat has made no command since: what the domain has seen has grown by entries of others and by runs of its finalisers, whose replies were taken, so there is room for so many more
pub record GoesBy (old new : SeatView) : Type 0 where
  pub ran : List Reply
  pub taken : new.ran ≡ []
  pub finalised : Finalised (sizes_in old.heap.config) old.number old.front new.front ran
  pub finals : new.finals ≡ old.finals + length ran
  pub commands_are : commands new.front old.number ≡ commands old.front old.number

-- the history has grown, and each open resource whose finaliser has run by now is closed by it; the others are as they were
pub record Settles (old new : HandlesView) : Type 0 where
  pub grows : IsPrefix old.seat.front new.seat.front
  pub count : length new.resources ≡ length old.resources
  pub settled : Settled old.resources (ran_by new) new.resources

-- a resource is closed by its owner, if it is open, and nothing else changes
pub record CloseLeaves (old new : HandlesView) (number : ℕ) : Type 0 where
  pub seat : new.seat ≡ old.seat
  pub most : new.most ≡ old.most
  pub closes : Closes old.resources number ClosedByOwner new.resources

-- the block that the domain made last
abbrev pub latest : HandlesView → Label
latest h = record { domain = h.seat.number; serial = (domain_at (state_at h) h.seat.number).serial }

-- a register holds it
abbrev pub HoldsLatest : HandlesView → ℕ → Type 0
HoldsLatest h r = register (state_at h) h.seat.number r ≡ Block (latest h)

-- these commands were made on the seat, which gave out so many labels, and there is one more resource, which is open, with the block in a register as its handle; others were settled
pub record Opens (made : List Command) (given : ℕ) (old new : HandlesView) (dst : ℕ) : Type 0 where
  pub grows : IsPrefix old.seat.front new.seat.front
  pub made_are : commands new.seat.front old.seat.number ≡ commands old.seat.front old.seat.number ++ made
  pub labels : new.seat.labels ≡ old.seat.labels + given
  pub handle : HoldsLatest new dst
  pub others : List Resource
  pub settled : Settled old.resources (ran_by new) others
  pub resources : new.resources ≡ others ++ Open ∷ []

-- the heap had no room for a handle
pub record NoRoom (old new : HandlesView) (dst : ℕ) : Type 0 where
  pub full : Made old new (Alloc dst 0 1) Full
  pub settles : Settles old new

-- a handle was made
pub record HandleMade (old new : HandlesView) (dst : ℕ) : Type 0 where
  pub made_are : commands new.seat.front old.seat.number ≡ commands old.seat.front old.seat.number ++ Alloc dst 0 1 ∷ []
  pub labels : new.seat.labels ≡ old.seat.labels + 1
  pub handle : HoldsLatest new dst
  pub settles : Settles old new

-- by whether it was
abbrev pub HandleAnswers : HandlesView → HandlesView → ℕ → Bool → Type 0
HandleAnswers old new dst true = HandleMade old new dst
HandleAnswers old new dst false = NoRoom old new dst

-- what an opening answers: the next number; or none where there are as many resources as there may be, no label is left, or the heap had no room for the handle
abbrev pub OpenAnswers : HandlesView → HandlesView → ℕ → Option ℕ → Type 0
OpenAnswers old new dst (Some k) = (k ≡ length old.resources) × (k < old.most) × Opens (Alloc dst 0 1 ∷ FinaliseLast dst k ∷ []) 1 old new dst
OpenAnswers old new dst None = ((old.most ≡ length old.resources) × (new ≡ old)) ⊎ ((old.seat.labels ≡ 4294967295) × (new ≡ old)) ⊎ NoRoom old new dst

-- these commands were made on the seat, and no more, and the resources settled
pub record Makes (made : List Command) (old new : HandlesView) : Type 0 where
  pub made_are : commands new.seat.front old.seat.number ≡ commands old.seat.front old.seat.number ++ made
  pub settles : Settles old new

-- a complete collection was made, and the finalisers ran that waited
abbrev pub Collects : HandlesView → HandlesView → Type 0
Collects old new = Makes (FullMajor ∷ Poll ∷ []) old new

-- the finaliser with this number waits in domain d, and no collection may take it: a register, a finaliser that waits, or an ephemeron leads to its block
pub record IsHeld (s : State) (d k : ℕ) : Type 0 where
  pub finaliser : LastFinaliser
  pub place : ℕ
  pub waits : slice_get (domain_at s d).lasts place ≡ Some finaliser
  pub number : finaliser.number ≡ k
  pub led_to : (is_gone s (queues s) finaliser.label && is_let_go s finaliser.label) ≡ false

-- between two fronts the domain asked for a complete collection, and as that was answered the finaliser with this number was held
pub record WasHeld (z : Sizes) (d : ℕ) (old new : List Entry) (k : ℕ) : Type 0 where
  pub front : List Entry
  pub full : Bool
  pub since : IsPrefix old front
  pub collected : IsPrefix (front ++ CommandOf d FullMajor full ∷ []) new
  pub held : IsHeld (state_after (opening z) front) d k

-- each resource that is open was held then
abbrev pub OpenWereHeld : HandlesView → HandlesView → Type 0
OpenWereHeld old new = (k : ℕ) → slice_get new.resources k ≡ Some Open → WasHeld (sizes_in old.seat.heap.config) old.seat.number old.seat.front new.seat.front k

-- the same handles once a command was made, before which finalisers may have run
pub record Did (c : Command) (old new : HandlesView) : Type 0 where
  pub seat : IsLater old.seat new.seat
  pub most : new.most ≡ old.most
  pub settles : Settles old new
  pub kept : IsHandles new
  pub reply : Reply
  pub made : Made old new c reply

-- each has
abbrev pub EachDid : Command → List HandlesView → List HandlesView → Type 0
EachDid c [] [] = Unit {0}
EachDid c (x ∷ xs) (y ∷ ys) = Did c x y × EachDid c xs ys
EachDid c _ _ = ⊥

-- the resources are those that one more complete collection leaves: each that is open was held then. The history of the ended heap has of the seat's domain what the seat had made by then
pub record StopLeaves (z : Sizes) (history : List Entry) (old : HandlesView) (resources : List Resource) : Type 0 where
  pub new : HandlesView
  pub seat : IsLater old.seat new.seat
  pub collects : Collects old new
  pub kept : IsHandles new
  pub held : OpenWereHeld old new
  pub stops : Stops z history new.seat
  pub resources_are : resources ≡ new.resources

abbrev pub LeavesEach : Sizes → List Entry → List HandlesView → List (List Resource) → Type 0
LeavesEach z history [] [] = Unit {0}
LeavesEach z history (h ∷ hs) (rs ∷ rss) = StopLeaves z history h rs × LeavesEach z history hs rss
LeavesEach z history _ _ = ⊥

-- the handles of these seats and lists, where so many there may be
abbrev pub parted : HandlesView → SeatView → List Resource → HandlesView
parted old s rs = record { seat = s; resources = rs; most = old.most }

-- handles were taken apart into a seat and the resources
pub record Parts (old : HandlesView) (s : SeatView) (rs : List Resource) : Type 0 where
  pub seat : IsLater old.seat s
  pub makes : Makes [] old (parted old s rs)
  pub kept : IsHandles (parted old s rs)

abbrev pub PartsEach : List HandlesView → List SeatView → List (List Resource) → Type 0
PartsEach [] [] [] = Unit {0}
PartsEach (h ∷ hs) (s ∷ ss) (rs ∷ rss) = Parts h s rs × PartsEach hs ss rss
PartsEach _ _ _ = ⊥

-- a seat performed a command, and the resources whose finalisers ran before it were closed
pub record Performs (old new : SeatView) (were are : List Resource) (c : Command) (r : Reply) : Type 0 where
  pub same : IsLater old new
  pub labels : new.labels ≡ old.labels + labels_given c r
  pub ran : List Reply
  pub taken : new.ran ≡ []
  pub finals : old.finals + length ran ≤ new.finals + registrations_of c
  pub performed : PerformedOn (sizes_in old.heap.config) old.number old.front new.front c ran r
  pub settled : Settled were ran are

-- a seat made no command, and the resources whose finalisers ran were closed
pub record Attends (old new : SeatView) (were are : List Resource) : Type 0 where
  pub same : IsLater old new
  pub along : GoesBy old new
  pub settled : Settled were along.ran are
