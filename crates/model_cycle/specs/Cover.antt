-- A cycle that was under way while domains ran: what is known of its marks, by the graph that stood when its roots had been darkened.
use Rattle.std.specs.Prelude.{◌≡◌, ℕ, Bool, false, not, IsTrue, slice_get, Option, Some, None}
use Rattle.model_core.specs.declared.label.Label.{Label}
use Rattle.model_core.specs.declared.graph.Value.{Value}
use Rattle.model_core.specs.declared.graph.Value.TheVariants.{Block}
use Rattle.model_core.specs.declared.graph.Node.{Node}
use Rattle.model_core.specs.declared.graph.Node.TheVariants.{Plain, Raw, Ephe}
use Rattle.model_core.specs.Graph.{Graph, labels, has_label, node_at}
use Rattle.model_cycle.specs.Marks.{Marks}

-- the value in a field that a scan follows
abbrev pub field_in : Option Node → ℕ → Option Value
field_in (Some (Plain tag fields)) i = slice_get fields i
field_in (Some (Raw tag fields)) i = None
field_in (Some (Ephe keys datum)) i = None
field_in None i = None

-- the value in a field of the block with a label
abbrev pub field_at : Graph → Label → ℕ → Option Value
field_at g l i = field_in (node_at g l) i

-- whether a block was made since the roots were darkened
abbrev pub is_new : Graph → Label → Bool
is_new old l = not (has_label (labels old) l)

-- a label is in the least set that holds the marked and the new ones and all that the fields of the old graph lead to from there
abbrev pub InCover : Graph → (Label → Bool) → Label → Type 0
InCover old marked l = (set : Label → Bool) → ((x : Label) → IsTrue (marked x) → IsTrue (set x)) → ((x : Label) → IsTrue (is_new old x) → IsTrue (set x))
    → ((x y : Label) (i : ℕ) → IsTrue (set x) → field_at old x i ≡ Some (Block y) → IsTrue (set y)) → IsTrue (set l)

-- what is looked at: two graphs, what the domains hold, and the marks
pub record Covering : Type 0 where
  -- the graph when the roots had been darkened, and the present one
  pub old : Graph
  pub now : Graph
  -- the labels in registers and queues, but for a register whose value a weak read has still to darken
  pub held : Label → Bool
  -- which fields were stored into since then
  pub overwritten : Label → ℕ → Bool
  -- the labels of blocks in pools
  pub places : Label → Bool
  pub marks : Marks

-- what domains hold is covered, what they overwrote was marked first, and what was scanned led to marked blocks in the old graph
pub record IsCovered (v : Covering) : Type 0 where
  pub same : (l : Label) (i : ℕ) → is_new v.old l ≡ false → v.overwritten l i ≡ false → field_at v.now l i ≡ field_at v.old l i
  pub scanned : (l : Label) (i : ℕ) (x : Label) → IsTrue (v.marks.marked l) → IsTrue (v.marks.scanned l) → field_at v.old l i ≡ Some (Block x) → IsTrue (v.marks.marked x)
  pub lost : (l : Label) (i : ℕ) (x : Label) → IsTrue (v.overwritten l i) → field_at v.old l i ≡ Some (Block x) → IsTrue (v.marks.marked x)
  pub held : (l : Label) → IsTrue (v.held l) → InCover v.old v.marks.marked l
  pub new_fields : (l : Label) (i : ℕ) (x : Label) → IsTrue (is_new v.old l) → field_at v.now l i ≡ Some (Block x) → InCover v.old v.marks.marked x
  pub stored : (l : Label) (i : ℕ) (x : Label) → IsTrue (v.overwritten l i) → field_at v.now l i ≡ Some (Block x) → InCover v.old v.marks.marked x
  pub new_marked : (l : Label) → IsTrue (v.places l) → IsTrue (is_new v.old l) → IsTrue (v.marks.marked l)
  pub placed : (l : Label) → IsTrue (v.marks.marked l) → IsTrue (v.places l)
