-- Ways through a heap: from a register through fields of blocks.
use Rattle.std.specs.Prelude.{◌≡◌, ◌≢◌, ℕ, ◌<◌, cond, List, [], ◌∷◌, slice_get, option_and_then, Option, Some, None}
use Rattle.model_core.specs.declared.label.Label.{Label}
use Rattle.model_core.specs.declared.graph.Value.{Value}
use Rattle.model_core.specs.declared.graph.Node.{Node}
use Rattle.model_core.specs.declared.graph.Node.TheVariants.{Plain, Raw, Ephe}
use Rattle.model_core.specs.Graph.{Graph, label_of, node_at, same_label}
use Rattle.model_laws.specs.declared.reach.seen.Way.{Way}

-- the fields of a block; an ephemeron has none
abbrev pub fields_of : Node → List Value
fields_of (Plain tag fields) = fields
fields_of (Raw tag fields) = fields
fields_of (Ephe keys datum) = []

-- what a field of a block holds
abbrev pub field_in : Graph → Label → ℕ → Option Value
field_in g l i = option_and_then (λ n. slice_get (fields_of n) i) (node_at g l)

-- the block to which a field of a block refers
abbrev pub refers : Graph → Label → ℕ → Option Label
refers g l i = option_and_then label_of (field_in g l i)

-- the same as if one block had no fields
abbrev pub refers_but : Graph → Option Label → Label → ℕ → Option Label
refers_but g None l i = refers g l i
refers_but g (Some k) l i = cond (same_label k l) None (refers g l i)

-- to which block each field of a block refers
abbrev pub Edges : Type 0
Edges = Label → ℕ → Option Label

-- the block to which these fields lead, one behind the other
abbrev pub follow : Edges → Option Label → List ℕ → Option Label
follow f l [] = l
follow f l (i ∷ is) = follow f (option_and_then (λ m. f m i) l) is

-- the block to which a way leads, where the registers hold these blocks
abbrev pub leads : Edges → (ℕ → Option Label) → Way → Option Label
leads f roots way = follow f (roots way.register) way.fields.items

-- some way from a register below 14 leads to the block
pub record IsLedTo (f : Edges) (roots : ℕ → Option Label) (l : Label) : Type 0 where
  pub register : ℕ
  pub fields : List ℕ
  pub few : register < 14
  pub leads_there : follow f (roots register) fields ≡ Some l

-- the block with this label is no ephemeron
abbrev pub IsNoEphemeron : Graph → Label → Type 0
IsNoEphemeron g l = (keys : List (Option Label)) (datum : Value) → node_at g l ≢ Some (Ephe keys datum)
