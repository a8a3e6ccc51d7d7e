-- The runs of a heap that a schedule drives from their start to their end.
use Rattle.std.specs.Prelude.{◌≡◌, ◌<◌, ℕ, true, List, [], length, slice_get, slice_index_or, None, Some}
use Rattle.model_core.specs.declared.command.Command.{Command}
use Rattle.model_core.specs.declared.entry.Entry.{Entry}
use Rattle.model_core.specs.History.{Legal, replies}
use Rattle.heap_rule.specs.declared.config.Config.{Config}
use Rattle.heap_rule.specs.Ending.{Begins}
use Rattle.heap_rule.specs.Limits.{sizes_in}
use Rattle.heap_rule.specs.Token.{SharedHeap, IsIn}
use Rattle.run_turns.specs.declared.supply.Supply.TheVariants.{Listed}
use Rattle.run_turns.specs.Runs.{RunView}
use Rattle.model_traces.specs.declared.schedules.items.Item.{Item}
use Rattle.model_traces.specs.Schedules.Scheduled.{scheduled}
pub use Rattle.run_replay.specs.Asking.{commands_of}
use Rattle.run_replay.specs.Ends.{MayGather}

-- a run that has done nothing yet: its domain has seen no entry and hasn't arrived, it has asked for no pause, and all its commands are left
pub record IsUntouched (r : RunView) : Type 0 where
  pub front : r.token.view.seen.front ≡ []
  pub arrivals : r.token.view.own.arrivals ≡ 0
  pub asked : r.asked ≡ None
  pub next : r.next ≡ 0

-- the runs of all domains of a heap, which have done nothing yet
pub record MayReplay (h : SharedHeap) (runs : List RunView) : Type 0 where
  pub some : 0 < h.config.domains
  pub gathers : MayGather h runs
  pub each : (d : ℕ) (r : RunView) → slice_get runs d ≡ Some r → IsUntouched r

-- the run of domain d has made these commands, and its end
pub record HasPlayed (h : SharedHeap) (d : ℕ) (commands : List Command) (r : RunView) : Type 0 where
  pub here : IsIn r.token h
  pub number : r.token.view.own.number ≡ d
  pub listed : r.supply ≡ Listed
  pub made : r.commands ≡ commands
  pub over : r.ended ≡ true

-- The runs have ended under a schedule: in each history with which the heap may end each domain has the replies that it has in the scheduled history
pub record Replayed (k : Config) (old : List RunView) (items : List Item) (h : SharedHeap) (new : List RunView) : Type 0 where
  pub sizes : sizes_in h.config ≡ sizes_in k
  pub count : length new ≡ length old
  pub each : (d : ℕ) (r : RunView) → slice_get new d ≡ Some r → HasPlayed h d (slice_index_or (commands_of old) d []) r
  pub replies : (log : List Entry) → Legal (sizes_in k) log → ((d : ℕ) (r : RunView) → slice_get new d ≡ Some r → Begins log r.token.view)
      → (d : ℕ) → d < length new → replies (sizes_in k) log d ≡ replies (sizes_in k) (scheduled (sizes_in k) (commands_of old) items) d
