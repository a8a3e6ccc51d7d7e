-- States that are the same but for garbage, and the two laws of them on which a replay stands: a step answers the same in both, and a complete collection leaves the same in both, however its entries are cut and ordered.
use Rattle.std.specs.Prelude.{◌≡◌, ℕ, Bool, true, false, IsTrue, List, [], ◌∷◌, ◌++◌, Some}
use Rattle.std.specs.List.{list_all}
use Rattle.model_core.specs.declared.label.Label.{Label}
use Rattle.model_core.specs.declared.command.Command.TheVariants.{FullMajor}
use Rattle.model_core.specs.declared.entry.Entry.{Entry}
use Rattle.model_core.specs.declared.entry.Entry.TheVariants.{Command as CommandOf, End, Cut, Queue, Seal, Wipe, Last, Collected, Done, Ran}
use Rattle.model_core.specs.declared.graph.Node.{Node}
use Rattle.model_core.specs.declared.state.DomainState.{DomainState}
use Rattle.model_core.specs.declared.state.Sizes.{Sizes}
use Rattle.model_core.specs.declared.state.State.{State}
use Rattle.model_core.specs.declared.state.Mode.TheVariants.{Open}
use Rattle.model_core.specs.Graph.{labels, node_at}
use Rattle.model_core.specs.Domains.{opening, queues, settled_roots}
use Rattle.model_core.specs.Entries.{Allowed, next, reply}
use Rattle.model_core.specs.History.{state_after, Legal, replies_from}
use Rattle.model_core.specs.WellFormed.{names_of}
use Rattle.model_traces.specs.Schedules.Scheduled.{complete}

-- each of these labels passes a test
abbrev pub AllAlive : (Label → Bool) → List Label → Type 0
AllAlive alive [] = Unit {0}
AllAlive alive (l ∷ ls) = IsTrue (alive l) × AllAlive alive ls

-- all that commands and finalisers may still come to: what registers, queues and waiting registrations refer to, and what that holds
pub record IsHeld (s : State) (alive : Label → Bool) : Type 0 where
  pub roots : AllAlive alive (settled_roots s (queues s))
  pub nodes : (l : Label) (n : Node) → IsTrue (alive l) → node_at s.graph l ≡ Some n → AllAlive alive (names_of n)

-- the parts of a domain that an entry may read before they are set anew: all but `low`
pub record IsSameDomain (x y : DomainState) : Type 0 where
  pub registers : y.registers ≡ x.registers
  pub serial : y.serial ≡ x.serial
  pub ended : y.ended ≡ x.ended
  pub finals : y.finals ≡ x.finals
  pub lasts : y.lasts ≡ x.lasts
  pub queue : y.queue ≡ x.queue
  pub fresh : y.fresh ≡ x.fresh
  pub due : y.due ≡ x.due

abbrev pub AreSameDomains : List DomainState → List DomainState → Type 0
AreSameDomains [] [] = Unit {0}
AreSameDomains (x ∷ xs) (y ∷ ys) = IsSameDomain x y × AreSameDomains xs ys
AreSameDomains _ _ = ⊥

-- the same but for garbage, and for what a collection sets anew
pub record IsSameBut (s t : State) : Type 0 where
  pub alive : Label → Bool
  pub held : IsHeld s alive
  pub nodes : (l : Label) → IsTrue (alive l) → node_at t.graph l ≡ node_at s.graph l
  pub labels_same : labels t.graph ≡ labels s.graph
  pub domains : AreSameDomains s.domains t.domains
  pub sizes : t.sizes ≡ s.sizes
  pub mode : t.mode ≡ s.mode
  pub kept : t.kept ≡ s.kept

-- an entry that a domain makes while it runs: a command but `full_major`, its end, or a finaliser's run
abbrev pub is_step : Entry → Bool
is_step (CommandOf d FullMajor full) = false
is_step (CommandOf d c full) = true
is_step (End d) = true
is_step (Ran d) = true
is_step _ = false

abbrev pub is_queue : Entry → Bool
is_queue (Queue d places) = true
is_queue _ = false

abbrev pub is_taking : Entry → Bool
is_taking (Wipe l keys) = true
is_taking (Last d place) = true
is_taking _ = false

abbrev pub is_answer : Entry → Bool
is_answer (CommandOf d FullMajor false) = true
is_answer _ = false

-- a complete collection, in which these entries stand where it is answered
pub record IsCollection (h answered : List Entry) : Type 0 where
  pub queued : List Entry
  pub taken : List Entry
  pub are_queues : list_all is_queue queued ≡ true
  pub are_taking : list_all is_taking taken ≡ true
  pub are_answers : list_all is_answer answered ≡ true
  pub is : h ≡ Cut ∷ queued ++ Seal ∷ taken ++ Collected ∷ answered ++ Done ∷ []

-- a step answers the same in both, and leaves both the same but for garbage
abbrev pub StepLaw : Type 0
StepLaw = (z : Sizes) (h : List Entry) (t : State) (e : Entry) → Legal z h → IsSameBut (state_after (opening z) h) t → is_step e ≡ true → Allowed (state_after (opening z) h) e
    → (reply t e ≡ reply (state_after (opening z) h) e) × IsSameBut (next (state_after (opening z) h) e) (next t e)

-- a complete collection leaves what the one of the schedule leaves, but for garbage, and answers the same
abbrev pub CollectionLaw : Type 0
CollectionLaw = (z : Sizes) (h : List Entry) (t : State) (c answered : List Entry) → Legal z (h ++ c) → (state_after (opening z) h).mode ≡ Open → IsSameBut (state_after (opening z) h) t → IsCollection c answered
    → IsSameBut (state_after (opening z) (h ++ c)) (state_after t (complete t answered))
    × ((d : ℕ) → replies_from t (complete t answered) d ≡ replies_from (state_after (opening z) h) c d)
