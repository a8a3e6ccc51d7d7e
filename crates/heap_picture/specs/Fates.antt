-- What the next complete collection may do with a block.
use Rattle.std.specs.Prelude.{Bool, true, false, cond, List, Option, Some, None}
use Rattle.model_core.specs.declared.label.Label.{Label}
use Rattle.model_core.specs.declared.state.State.{State}
use Rattle.model_core.specs.Graph.{has_label}
use Rattle.model_core.specs.Domains.{queues, reach, settled_reach}
use Rattle.heap_picture.specs.declared.fates.Fate.{Fate}
use Rattle.heap_picture.specs.declared.fates.Fate.TheVariants.{Kept, MayReturn, MayGo}

-- the fate of a label: among those that are reached, among those that a waiting `finalise` may bring back, or in neither
abbrev pub fate_among : List Label → List Label → Label → Fate
fate_among reached settled l = cond (has_label reached l) Kept (cond (has_label settled l) MayReturn MayGo)

-- the labels that are reached, and those that are reached with the waiting registrations of `finalise`
abbrev pub Reached : Type 0
Reached = List Label × List Label

abbrev pub reached_in : State → Reached
reached_in s = (reach s, settled_reach s (queues s))

-- the fate of a label
abbrev pub fate_of : Reached → Label → Fate
fate_of r l = fate_among r.0 r.1 l

-- whether a collection may empty a key that holds a block of this fate, or queue a `finalise_last` of it
abbrev pub may_go : Fate → Bool
may_go Kept = false
may_go MayReturn = false
may_go MayGo = true

-- whether a collection may queue a `finalise` of a block of this fate
abbrev pub may_run : Fate → Bool
may_run Kept = false
may_run MayReturn = true
may_run MayGo = true

-- whether a key is full and may be emptied
abbrev pub may_empty : (Label → Fate) → Option Label → Bool
may_empty fate None = false
may_empty fate (Some k) = may_go (fate k)
