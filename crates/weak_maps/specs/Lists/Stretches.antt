-- A stretch of the history of a heap of one domain, and what it leaves of a map and of the list of its bindings.
use Rattle.std.specs.Prelude.{◌≡◌, ◌⊎◌, ◌<◌, ◌≤◌, ℕ, IsTrue, List, [], None}
use Rattle.model_core.specs.declared.label.Label.{Label}
use Rattle.model_core.specs.declared.entry.Entry.{Entry}
use Rattle.model_core.specs.declared.graph.Value.TheVariants.{Block, Nothing}
use Rattle.model_core.specs.declared.command.Command.TheVariants.{Forget}
use Rattle.model_core.specs.declared.reply.Reply.{Reply}
use Rattle.model_core.specs.declared.state.Mode.TheVariants.{Open}
use Rattle.model_core.specs.declared.state.Sizes.{Sizes}
use Rattle.model_core.specs.Graph.{has_label, node_at}
use Rattle.weak_laws.specs.Tables.Structures.{Binding}
use Rattle.weak_laws.specs.Tables.Thinning.{ThinnedBy, WasOutside, state_of}
use Rattle.weak_laws.specs.Tables.Stages.{Goes, graph_of, held_in}
use Rattle.weak_laws.specs.Maps.Tries.{IsMap, IsInPlace}
use Rattle.weak_laws.specs.Maps.Calls.{PerformedBy}
use Rattle.weak_laws.specs.Lists.Lists.{bindings_of, map_labels}

-- what the map at a root binds after a history
abbrev pub bound_in : Sizes → List Entry → Label → List Binding
bound_in z h root = bindings_of (graph_of z h) root

-- the labels of its blocks then
abbrev pub labels_in : Sizes → List Entry → Label → List Label
labels_in z h root = map_labels (graph_of z h) root

-- at a root stands a map each of whose leaves stands on its key's way
pub record IsListed (z : Sizes) (h : List Entry) (root : Label) : Type 0 where
  pub map : IsMap (graph_of z h) root
  pub placed : IsInPlace z.domains (graph_of z h) root

-- registers from 8 on hold nothing if they held nothing, and no collection is under way
pub record IsSettled (z : Sizes) (old new : List Entry) : Type 0 where
  pub high : (r : ℕ) → 8 ≤ r → held_in z old r ≡ Nothing → held_in z new r ≡ Nothing
  pub calm : (state_of z new).mode ≡ Open

-- and those below 8 hold what they held
abbrev pub KeepsLow : Sizes → List Entry → List Entry → Type 0
KeepsLow z old new = (r : ℕ) → r < 8 → held_in z new r ≡ held_in z old r

-- no block was written: the list has lost only pairs of keys that were outside reach
pub record ReadsList (z : Sizes) (old new : List Entry) (root : Label) : Type 0 where
  pub goes : Goes z old new []
  pub listed : IsListed z new root
  pub thinned : ThinnedBy (WasOutside z old new) (bound_in z old root) (bound_in z new root)

-- no block was written but of the map, and what came into it is new
pub record WritesMap (z : Sizes) (old new : List Entry) (root : Label) : Type 0 where
  pub goes : Goes z old new (labels_in z old root)
  pub listed : IsListed z new root
  pub labels : (l : Label) → IsTrue (has_label (labels_in z new root) l) → IsTrue (has_label (labels_in z old root) l) ⊎ (node_at (graph_of z old) l ≡ None)

-- a register holds such a map
pub record HoldsList (z : Sizes) (h : List Entry) (r : ℕ) : Type 0 where
  pub root : Label
  pub held : held_in z h r ≡ Block root
  pub listed : IsListed z h root

-- a register from 8 on was emptied by the last command, which no collection follows
pub record Forgets (z : Sizes) (d : ℕ) (old new : List Entry) : Type 0 where
  pub reply : Reply
  pub performed : PerformedBy z d old new (Forget 8) reply
