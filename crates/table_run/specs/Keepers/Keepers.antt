-- What keeps bindings: by the version of a text a table of 64 buckets, whose chains are told besides, or a weak map.
use Rattle.std.specs.Prelude.{◌≡◌, ℕ, List}
use Rattle.model_core.specs.declared.label.Label.{Label}
use Rattle.model_core.specs.declared.entry.Entry.{Entry}
use Rattle.model_core.specs.declared.graph.Value.TheVariants.{Block}
use Rattle.model_core.specs.declared.state.Sizes.{Sizes}
use Rattle.model_core.specs.Graph.{Graph}
use Rattle.weak_laws.specs.Tables.Structures.{Binding, Cell, bindings, table_labels, IsTable}
use Rattle.weak_laws.specs.Tables.Stages.{graph_of, held_in}
use Rattle.weak_tables.specs.Held.{AllHave, IsTidy}
use Rattle.weak_laws.specs.Maps.Tries.{IsMap, IsInPlace}
use Rattle.weak_laws.specs.Lists.Lists.{bindings_of, map_labels}
use Rattle.table_text.specs.declared.version.Version.{Version}
use Rattle.table_text.specs.declared.version.Version.TheVariants.{One, Two}

-- the chains of a table; of a map nothing needs to be told but its root
abbrev pub Shape : Version → Type 0
Shape One = List (List Cell)
Shape Two = Unit {0}

-- a table none of whose ephemerons has a datum without a key
pub record IsTidyTable (g : Graph) (root : Label) (chains : List (List Cell)) : Type 0 where
  pub table : IsTable g root chains
  pub tidy : AllHave IsTidy g (table_labels root chains)

-- a map of a heap of so many domains, each of whose leaves stands on its key's way
pub record IsPlacedMap (domains : ℕ) (g : Graph) (root : Label) : Type 0 where
  pub map : IsMap g root
  pub placed : IsInPlace domains g root

abbrev pub IsKeeper : (v : Version) → Shape v → ℕ → Graph → Label → Type 0
IsKeeper One chains domains g root = IsTidyTable g root chains
IsKeeper Two shape domains g root = IsPlacedMap domains g root

-- its bindings, in the order in which they stand in it
abbrev pub kept_bindings : (v : Version) → Shape v → Graph → Label → List Binding
kept_bindings One chains g root = bindings g chains
kept_bindings Two shape g root = bindings_of g root

-- the labels of its blocks
abbrev pub kept_labels : (v : Version) → Shape v → Graph → Label → List Label
kept_labels One chains g root = table_labels root chains
kept_labels Two shape g root = map_labels g root

-- a register holds such a one
pub record HoldsKeeper (v : Version) (z : Sizes) (h : List Entry) (r : ℕ) : Type 0 where
  pub root : Label
  pub shape : Shape v
  pub held : held_in z h r ≡ Block root
  pub keeper : IsKeeper v shape z.domains (graph_of z h) root
