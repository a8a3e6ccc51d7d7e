-- The order in which a map lists its bindings: that of their keys' ways.
use Rattle.std.specs.Prelude.{◌≡◌, ◌⊎◌, ◌<◌, ℕ, IsTrue, List, [], ◌∷◌}
use Rattle.model_core.specs.declared.label.Label.{Label}
use Rattle.model_core.specs.Graph.{has_label}
use Rattle.weak_laws.specs.Tables.Structures.{Binding, keys_of}

-- a way comes before another if it takes the lower field at the first step at which they differ
abbrev pub ComesBefore : List ℕ → List ℕ → Type 0
ComesBefore (i ∷ is) (j ∷ js) = (i < j) ⊎ ((i ≡ j) × ComesBefore is js)
ComesBefore is js = ⊥

-- each key's way comes before those of the keys behind it
abbrev pub OrderedBy : (Label → List ℕ) → List Binding → Type 0
OrderedBy way [] = Unit {0}
OrderedBy way (b ∷ bs) = ((l : Label) → IsTrue (has_label (keys_of bs) l) → ComesBefore (way b.0) (way l)) × OrderedBy way bs
