-- What the runs of a replay have so that none of their commands asks twice for a pause, and no allocation is refused.
use Rattle.std.specs.Prelude.{◌≡◌, ◌≢◌, ◌<◌, ◌≤◌, ◌+◌, ◌*◌, ℕ, true, List, [], length, map, slice_get, Option, None, Some}
use Rattle.model_core.specs.declared.command.Command.{Command}
use Rattle.model_core.specs.Domains.{reserve}
use Rattle.heap_rule.specs.declared.config.Config.{Config}
use Rattle.heap_rule.specs.Limits.{sizes_in}
use Rattle.heap_rule.specs.Token.{SharedHeap}
use Rattle.run_turns.specs.declared.supply.Supply.TheVariants.{Listed}
use Rattle.run_turns.specs.Runs.{RunView, served_since}
use Rattle.model_traces.specs.Schedules.Pools.{pools_of}

-- the commands of each run
abbrev pub commands_of : List RunView → List (List Command)
commands_of runs = map (λ r. r.commands) runs

-- and of each that stands at its place
abbrev pub commands_at : Option RunView → List Command
commands_at None = []
commands_at (Some r) = r.commands

-- there are more pools than the domains may own that make these commands, and than promotion may need
pub record HasAmple (k : Config) (script : List (List Command)) : Type 0 where
  pub few : 2 * pools_of k.domains script ≤ k.pools
  pub reserved : 2 * reserve (sizes_in k) + 2 ≤ k.pools

-- a domain had arrived no more often when it asked for a pause than it has, and less often where it has arrived. Where it runs again since then it remembers no field
pub record AsksOnce (r : RunView) : Type 0 where
  pub before : (n : ℕ) → r.asked ≡ Some n → n ≤ r.token.view.own.arrivals
  pub arrived : r.left ≢ None → (n : ℕ) → r.asked ≡ Some n → n < r.token.view.own.arrivals
  pub forgotten : r.left ≡ None → served_since r.asked r.token.view.own.arrivals ≡ true → r.token.view.own.remembered.items ≡ []

-- the runs of all domains of a heap, each at the place of its domain and with all its commands listed. None asks twice, and there are more pools than their commands use
pub record AskFew (h : SharedHeap) (runs : List (Option RunView)) : Type 0 where
  pub count : length runs ≡ h.config.domains
  pub numbers : (d : ℕ) (r : RunView) → slice_get runs d ≡ Some (Some r) → r.token.view.own.number ≡ d
  pub listed : (d : ℕ) (r : RunView) → slice_get runs d ≡ Some (Some r) → r.supply ≡ Listed
  pub asks : (d : ℕ) (r : RunView) → slice_get runs d ≡ Some (Some r) → AsksOnce r
  pub enough : HasAmple h.config (map commands_at runs)
