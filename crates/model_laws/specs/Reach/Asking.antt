-- What leads to a block.
use Rattle.std.specs.Prelude.{◌≡◌, ℕ, ◌<◌, List, Option, Some}
use Rattle.model_core.specs.declared.entry.Entry.{Entry}
use Rattle.model_core.specs.declared.label.Label.{Label}
use Rattle.model_core.specs.declared.state.Sizes.{Sizes}
use Rattle.model_core.specs.Graph.{Graph}
use Rattle.model_laws.specs.declared.reach.asking.Reason as answer
use Rattle.model_laws.specs.declared.reach.asking.Reason.TheVariants.{Way, Nothing, NoField}
use Rattle.model_laws.specs.Reach.Exploring.{graph_of, roots_of}
use Rattle.model_laws.specs.Reach.Walks.{Walked}
use Rattle.model_laws.specs.Reach.Ways.{IsLedTo, IsNoEphemeron, leads, refers}

-- no way leads to the block
abbrev pub IsUnled : Graph → (ℕ → Option Label) → Label → Type 0
IsUnled g roots l = IsLedTo (refers g) roots l → ⊥

-- the answer is so: its way leads from a register below 14 to the block, or no way does; and where it says that nothing does, each block to which some way leads is no ephemeron
abbrev pub IsWhy : Graph → (ℕ → Option Label) → Label → answer.Reason → Type 0
IsWhy g roots l (Way way) = (way.register < 14) × (leads (refers g) roots way ≡ Some l)
IsWhy g roots l Nothing = IsUnled g roots l × ((m : Label) → IsLedTo (refers g) roots m → IsNoEphemeron g m)
IsWhy g roots l NoField = IsUnled g roots l

-- the answer is so of what a history left, where nobody else has made an entry since then
abbrev pub IsWhyAlone : Sizes → ℕ → List Entry → List Entry → Label → answer.Reason → Type 0
IsWhyAlone z d old new l reason = Walked d old new → IsWhy (graph_of z old) (roots_of z d old) l reason
