-- A replay doesn't depend on the sizes of the heap but for the number of domains.
use Rattle.std.specs.Prelude.{◌≡◌, List}
use Rattle.model_core.specs.declared.command.Command.{Command}
use Rattle.model_core.specs.declared.state.Sizes.{Sizes}
use Rattle.model_core.specs.Output.{output}
use Rattle.model_traces.specs.declared.schedules.items.Item.{Item}
use Rattle.model_traces.specs.Schedules.Scheduled.{scheduled}

-- of two heaps with so many domains the scheduled history is one, and prints the same
abbrev pub SizesLaw : Type 0
SizesLaw = (y z : Sizes) (script : List (List Command)) (items : List Item) → y.domains ≡ z.domains
    → (scheduled y script items ≡ scheduled z script items) × (output y (scheduled y script items) ≡ output z (scheduled z script items))
