-- The runs of a heap before they are gathered, and once they are taken apart.
use Rattle.std.specs.Prelude.{◌≡◌, ◌<◌, ℕ, false, List, length, slice_get, Option, Some, None}
use Rattle.model_core.specs.declared.entry.Entry.{Entry}
use Rattle.model_core.specs.History.{Legal, replies}
use Rattle.heap_rule.specs.Ending.{Begins}
use Rattle.heap_rule.specs.Limits.{sizes_in}
use Rattle.heap_rule.specs.Meeting.{Trails}
use Rattle.heap_rule.specs.Token.{SharedHeap, IsIn}
use Rattle.run_turns.specs.declared.supply.Supply.TheVariants.{Listed}
use Rattle.run_turns.specs.Runs.{RunView, run_seeing}
use Rattle.run_replay.specs.Asking.{HasAmple, commands_of}
use Rattle.run_replay.specs.Gathered.{GatheredView, HasRun, MayShare}

-- a run stands at a place
abbrev pub IsThere : Option RunView → Type 0
IsThere None = ⊥
IsThere (Some r) = Unit {0}

-- the run of domain d may be gathered: it is of the heap, its commands were all listed, the domain runs, it has asked for no pause, no command may be answered `full`, and domain 0 knows of no collection that goes on or has left garbage
pub record MayBeHeld (h : SharedHeap) (d : ℕ) (r : RunView) : Type 0 where
  pub here : IsIn r.token h
  pub number : r.token.view.own.number ≡ d
  pub listed : r.supply ≡ Listed
  pub collected : r.collected ≡ false
  pub left : r.left ≡ None
  pub asked : r.asked ≡ None
  pub armed : d ≡ 0 → r.progress.armed ≡ false
  pub unswept : d ≡ 0 → r.progress.unswept ≡ false

-- and so may these of all domains, where there are more pools than their commands use
pub record MayGather (h : SharedHeap) (runs : List RunView) : Type 0 where
  pub count : length runs ≡ h.config.domains
  pub each : (d : ℕ) (r : RunView) → slice_get runs d ≡ Some r → MayBeHeld h d r
  pub enough : HasAmple h.config (commands_of runs)

-- each history with which the heap may end has the replies of one that the runs may have shared
abbrev pub EndsAs : GatheredView → List RunView → Type 0
EndsAs g runs = (h : List Entry) → Legal (sizes_in g.heap.config) h → ((d : ℕ) (r : RunView) → slice_get runs d ≡ Some r → Begins h r.token.view)
    → (shared : List Entry) × MayShare g shared × ((d : ℕ) → d < length runs → replies (sizes_in g.heap.config) h d ≡ replies (sizes_in g.heap.config) shared d)

-- a run is as it was, but its domain has seen this history
pub record HasSeen (history : List Entry) (old new : RunView) : Type 0 where
  pub trails : Trails history old.token.view
  pub is : new ≡ run_seeing old history

-- the runs, in order: each is as it was, but all have seen one history
pub record TakenApart (g : GatheredView) (runs : List RunView) : Type 0 where
  pub count : length runs ≡ length g.runs
  pub history : List Entry
  pub each : (d : ℕ) (r : RunView) → slice_get runs d ≡ Some r → (q : RunView) × HasRun g.runs d q × HasSeen history q r
  pub here : (d : ℕ) (r : RunView) → slice_get runs d ≡ Some r → IsIn r.token g.heap
  pub ends : EndsAs g runs
