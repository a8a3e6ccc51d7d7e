-- What a collection of the player takes.
use Rattle.std.specs.Prelude.{ℕ, cond, List, [], ◌∷◌, Option, Some, None}
use Rattle.model_core.specs.declared.label.Label.{Label}
use Rattle.model_core.specs.declared.graph.Node.{Node}
use Rattle.model_core.specs.declared.graph.Node.TheVariants.{Plain, Raw, Ephe}
use Rattle.model_core.specs.declared.state.Finaliser.{Finaliser}
use Rattle.heap_picture.specs.declared.fates.Fate.{Fate}
use Rattle.heap_picture.specs.declared.fates.Fate.TheVariants.{Kept, MayReturn, MayGo}
use Rattle.heap_picture.specs.Fates.{Reached, fate_of, may_run, may_empty}
use Rattle.heap_picture.specs.Text.{placed}

-- the places of the registrations of `finalise` that are queued
abbrev pub final_places : Reached → List Finaliser → List ℕ
final_places r finals = placed (λ i f. cond (may_run (fate_of r f.label)) (i ∷ []) []) 0 finals

-- the places of the keys that are emptied
abbrev pub key_places : Reached → List (Option Label) → List ℕ
key_places r keys = placed (λ i key. cond (may_empty (fate_of r) key) (i ∷ []) []) 0 keys

-- an ephemeron that is kept, with the places of its keys that are emptied
abbrev pub kept_keys : Fate → Label → List ℕ → Option (Label × List ℕ)
kept_keys Kept l places = Some (l, places)
kept_keys MayReturn l places = None
kept_keys MayGo l places = None

abbrev pub keys_of : Reached → Option (Label × Node) → Option (Label × List ℕ)
keys_of r None = None
keys_of r (Some (l, Plain tag fields)) = None
keys_of r (Some (l, Raw tag fields)) = None
keys_of r (Some (l, Ephe keys datum)) = kept_keys (fate_of r l) l (key_places r keys)
