-- What a cycle has marked, what it has scanned, and what must be marked before it may stop.
use Rattle.std.specs.Prelude.{Bool, true, false, not, ◌&&◌, ◌||◌, ◌⊎◌, IsTrue, List, [], filter_map, option_to_list, Option, Some, None}
use Rattle.model_core.specs.declared.label.Label.{Label}
use Rattle.model_core.specs.declared.graph.Node.{Node}
use Rattle.model_core.specs.declared.graph.Node.TheVariants.{Plain, Raw, Ephe}
use Rattle.model_core.specs.Graph.{Graph, same_label, has_label, label_of, node_at}
use Rattle.model_core.specs.Reach.{HoldsRoots, is_reachable}
use Rattle.model_core.specs.Entries.{full_keys}

-- the marks of a cycle, by label: which blocks have the colour of the marked, and which of these have the scanned mark
pub record Marks : Type 0 where
  pub marked : Label → Bool
  pub scanned : Label → Bool

-- the marks after a block was darkened: it is marked, and has yet to be scanned
abbrev pub darkened : Marks → Label → Marks
darkened m l = record { marked = λ x. same_label l x || m.marked x; scanned = λ x. not (same_label l x) && m.scanned x }

-- the marks after a block was scanned: all that it refers to has been darkened
abbrev pub with_scanned : Marks → Label → Marks
with_scanned m l = record m { scanned = λ x. same_label l x || m.scanned x }

-- the marks after a block was darkened, and scanned at once where it needs no scan
abbrev pub scanned_as : Bool → Marks → Label → Label → Bool
scanned_as false m l = m.scanned
scanned_as true m l = (with_scanned m l).scanned

abbrev pub darkened_as : Bool → Marks → Label → Marks
darkened_as done m l = record (darkened m l) { scanned = scanned_as done (darkened m l) l }

-- the labels in the fields that a scan follows: those of a plain block
abbrev pub fields_of : Option Node → List Label
fields_of (Some (Plain tag fields)) = filter_map label_of fields
fields_of (Some (Raw tag fields)) = []
fields_of (Some (Ephe keys datum)) = []
fields_of None = []

-- the label in the data of an ephemeron, which is followed once its keys are marked
abbrev pub data_of : Option Node → List Label
data_of (Some (Ephe keys datum)) = option_to_list (label_of datum)
data_of (Some (Plain tag fields)) = []
data_of (Some (Raw tag fields)) = []
data_of None = []

-- all that a scan of the block follows is marked
abbrev pub FieldsMarked : Graph → (Label → Bool) → Label → Type 0
FieldsMarked g marked l = HoldsRoots (fields_of (node_at g l)) marked

-- each full key of an ephemeron is marked, as its data asks before it is followed
abbrev pub KeysMarked : Graph → (Label → Bool) → Label → Type 0
KeysMarked g marked l = HoldsRoots (full_keys (node_at g l)) marked

-- an ephemeron's data is marked
abbrev pub DataMarked : Graph → (Label → Bool) → Label → Type 0
DataMarked g marked l = HoldsRoots (data_of (node_at g l)) marked

-- what has been scanned refers to nothing unmarked
abbrev pub IsTraced : Graph → Marks → Type 0
IsTraced g m = (l : Label) → IsTrue (m.marked l) → IsTrue (m.scanned l) → FieldsMarked g m.marked l

-- no block is grey: each that is marked has been scanned
abbrev pub NoneGrey : Marks → Type 0
NoneGrey m = (l : Label) → IsTrue (m.marked l) → IsTrue (m.scanned l)

-- each marked ephemeron all of whose full keys are marked has marked data
abbrev pub DataFollows : Graph → (Label → Bool) → Type 0
DataFollows g marked = (l : Label) → IsTrue (marked l) → KeysMarked g marked l → DataMarked g marked l

-- nothing is marked but what is reachable: so it is in a whole cycle, which begins and ends in one pause
abbrev pub IsWhole : Graph → List Label → (Label → Bool) → Type 0
IsWhole g roots marked = (l : Label) → IsTrue (marked l) → IsTrue (is_reachable g roots l)

-- why a block is darkened: it is a root, or in a field of a marked block, or the data of a marked ephemeron all of whose full keys are marked
abbrev pub MayDarken : Graph → List Label → (Label → Bool) → Label → Type 0
MayDarken g roots marked l = IsTrue (has_label roots l)
    ⊎ ((k : Label) × IsTrue (marked k) × IsTrue (has_label (fields_of (node_at g k)) l))
    ⊎ ((k : Label) × IsTrue (marked k) × KeysMarked g marked k × IsTrue (has_label (data_of (node_at g k)) l))
