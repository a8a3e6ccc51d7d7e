-- How far a search has come.
use Rattle.std.specs.Prelude.{◌≡◌, ◌≢◌, ℕ, ◌+◌, ◌<◌, ◌⊎◌, ◌||◌, Bool, false, IsTrue, List, [], ◌∷◌, ◌++◌, length, slice_get, Option, Some}
use Rattle.std.specs.List.{list_any}
use Rattle.model_core.specs.declared.label.Label.{Label}
use Rattle.model_core.specs.declared.entry.Entry.{Entry}
use Rattle.model_core.specs.declared.graph.Value.TheVariants.{Block as BlockValue}
use Rattle.model_core.specs.declared.reply.Reply.{Reply}
use Rattle.model_core.specs.declared.reply.Reply.TheVariants.{Block as BlockReply}
use Rattle.model_core.specs.declared.state.Sizes.{Sizes}
use Rattle.model_core.specs.Domains.{label_in, register}
use Rattle.model_core.specs.Graph.{Graph, same_label}
use Rattle.model_laws.specs.declared.reach.exploring.Blocks.{Blocks}
use Rattle.model_laws.specs.declared.reach.seen.Seen.{Seen}
use Rattle.model_laws.specs.declared.reach.seen.Way.{Way}
use Rattle.model_laws.specs.declared.reach.seen.Origin.{Origin}
use Rattle.model_laws.specs.declared.reach.seen.Origin.TheVariants.{Register, Field}
use Rattle.model_laws.specs.Reach.Ways.{Edges, IsNoEphemeron, leads, refers, refers_but}
use Rattle.model_laws.specs.Reach.Walks.{Still, Walked, state_of}

-- whether a search has come to a block
abbrev pub has_seen : List Seen → Label → Bool
has_seen seen l = list_any (λ (b : Seen). same_label b.label l) seen

abbrev pub Has : List Seen → Label → Type 0
Has seen l = IsTrue (has_seen seen l)

-- the block was noted before, or is noted now
abbrev pub Adds : List Seen → List Seen → Label → Origin → Type 0
Adds old new label origin = ((new ≡ old) × Has old label) ⊎ ((new ≡ old ++ record { label = label; origin = origin } ∷ []) × (has_seen old label ≡ false))

-- the block that a reply names is noted, if it names one
abbrev pub Notes : List Seen → List Seen → Reply → Origin → Type 0
Notes old new (BlockReply l) origin = Adds old new l origin
Notes old new _ origin = new ≡ old

-- the list goes on
pub record Extends (old new : List Seen) : Type 0 where
  pub rest : List Seen
  pub appends : new ≡ old ++ rest

-- what led to the block at a place stands before it, or is a register
abbrev pub IsBefore : ℕ → Origin → Type 0
IsBefore j (Register r) = r < 14
IsBefore j (Field block index) = block < j

abbrev pub IsOrdered : List Seen → Type 0
IsOrdered seen = (j : ℕ) (b : Seen) → slice_get seen j ≡ Some b → IsBefore j b.origin

-- no block stands there twice
abbrev pub IsOnce : List Seen → Type 0
IsOnce seen = (i j : ℕ) (a b : Seen) → slice_get seen i ≡ Some a → slice_get seen j ≡ Some b → a.label ≡ b.label → i ≡ j

-- what is said to have led to the block did
abbrev pub IsTraced : Edges → (ℕ → Option Label) → List Seen → Label → Origin → Type 0
IsTraced f roots seen l (Register r) = roots r ≡ Some l
IsTraced f roots seen l (Field block index) = (b : Seen) × (slice_get seen block ≡ Some b) × (f b.label index ≡ Some l)

abbrev pub AllTraced : Edges → (ℕ → Option Label) → List Seen → Type 0
AllTraced f roots seen = (j : ℕ) (b : Seen) → slice_get seen j ≡ Some b → IsTraced f roots seen b.label b.origin

-- the blocks that the registers of a domain hold
abbrev pub roots_of : Sizes → ℕ → List Entry → ℕ → Option Label
roots_of z d h r = label_in (state_of z h) d r

-- the graph that a history of a heap leaves
abbrev pub graph_of : Sizes → List Entry → Graph
graph_of z h = (state_of z h).graph

-- the search has gone along a way, and register 14 holds the block to which it leads
pub record Went (z : Sizes) (d : ℕ) (old new : List Entry) (way : Way) : Type 0 where
  pub still : Still z d old new
  pub there : (l : Label) → leads (refers (graph_of z old)) (roots_of z d old) way ≡ Some l → register (state_of z new) d 14 ≡ BlockValue l

-- the search has read all fields of the block at a place, which register 14 held, and noted the blocks to which they refer
pub record Visited (g : Graph) (at : ℕ) (l : Label) (old new : List Seen) (weak : Bool) : Type 0 where
  pub traced : (f : Edges) (roots : ℕ → Option Label) → ((i : ℕ) → f l i ≡ refers g l i) → AllTraced f roots old → AllTraced f roots new
  pub closed : (i : ℕ) (m : Label) → refers g l i ≡ Some m → Has new m
  pub plain : weak ≡ false → IsNoEphemeron g l

-- the search has noted the blocks that the registers hold, and has been at each block before a place, but for one into which it doesn't look
pub record Explored (g : Graph) (roots : ℕ → Option Label) (stop : Option Label) (seen : List Seen) (at : ℕ) (weak : Bool) : Type 0 where
  pub traced : AllTraced (refers_but g stop) roots seen
  pub rooted : (r : ℕ) (m : Label) → r < 14 → roots r ≡ Some m → Has seen m
  pub closed : (j : ℕ) (b : Seen) → j < at → slice_get seen j ≡ Some b → (i : ℕ) (m : Label) → refers_but g stop b.label i ≡ Some m → Has seen m
  pub plain : weak ≡ false → (j : ℕ) (b : Seen) → j < at → slice_get seen j ≡ Some b → stop ≢ Some b.label → IsNoEphemeron g b.label

-- where nobody else has made an entry the search has changed nothing but its two registers, and has been at each block that it found
abbrev pub FindsAlone : Sizes → ℕ → List Entry → List Entry → Option Label → Blocks → Type 0
FindsAlone z d old new stop x = Walked d old new → Still z d old new × Explored (graph_of z old) (roots_of z d old) stop x.seen.items (length x.seen.items) x.weak

-- the search has been at the block at a place
pub record Looked (z : Sizes) (d : ℕ) (old new : List Entry) (stop : Option Label) (at : ℕ) (seen more : List Seen) (weak : Bool) : Type 0 where
  pub still : Still z d old new
  pub explored : (w : Bool) → Explored (graph_of z old) (roots_of z d old) stop seen at w → Explored (graph_of z old) (roots_of z d old) stop more (at + 1) (w || weak)
