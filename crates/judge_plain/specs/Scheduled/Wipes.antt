-- What is emptied of some of the blocks.
use Rattle.std.specs.Prelude.{ℕ, List, filter, flat_map}
use Rattle.model_core.specs.declared.label.Label.{Label}
use Rattle.model_core.specs.declared.entry.Entry.{Entry}
use Rattle.model_core.specs.declared.state.State.{State}
use Rattle.model_core.specs.Domains.{reach}
use Rattle.model_core.specs.Graph.{has_label, node_at}
use Rattle.model_traces.specs.Schedules.Scheduled.{gone_keys, wiping}

-- of each of these that is a reachable ephemeron, all keys that are gone
abbrev pub wipes_of : State → List Label → List Entry
wipes_of s ls = flat_map (λ l. wiping l (gone_keys s (node_at s.graph l))) (filter (has_label (reach s)) ls)

-- the label with these numbers
abbrev pub label_at : ℕ → ℕ → Label
label_at d n = record { domain = d; serial = n }
