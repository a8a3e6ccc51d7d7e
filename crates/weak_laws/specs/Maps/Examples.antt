-- Small histories of one domain with a map, for laws that hold of them by computing.
use Rattle.std.specs.Prelude.{◌≡◌, ℕ, false, List, [], ◌∷◌, ◌++◌, map, replicate, slice_set, pos, Some, None}
use Rattle.model_core.specs.declared.label.Label.{Label}
use Rattle.model_core.specs.declared.command.Command as declared_command
use Rattle.model_core.specs.declared.command.Command.TheVariants.{PutInt, Forget, Alloc, Store, Cas, Ephe, SetKey, SetData}
use Rattle.model_core.specs.declared.entry.Entry.{Entry}
use Rattle.model_core.specs.declared.entry.Entry.TheVariants.{Command, Cut, Seal, Wipe, Collected, Done}
use Rattle.model_core.specs.declared.graph.Value.{Value}
use Rattle.model_core.specs.declared.graph.Value.TheVariants.{Int, Block}
use Rattle.model_core.specs.declared.graph.Node.TheVariants.{Plain, Ephe as EpheNode}
use Rattle.model_core.specs.declared.state.Sizes.{Sizes}
use Rattle.model_core.specs.Graph.{Graph, with_node}
use Rattle.model_core.specs.History.{Legal}
use Rattle.weak_laws.specs.Tables.Stages.{graph_of}
use Rattle.weak_laws.specs.Maps.Tries.{inside, root_width, node_width, IsMap}
use Rattle.weak_laws.specs.Maps.Steps.{Deepens}
use Rattle.weak_laws.specs.Maps.Calls.{bound_after}
use Rattle.weak_laws.specs.Maps.MapLaws.{SetsAt}

abbrev pub small_sizes : Sizes
small_sizes = record { domains = 1; pools = 512; minor_words = 32768; classes = 6 }

abbrev pub run : declared_command.Command → Entry
run c = Command 0 c false

abbrev pub block : ℕ → Label
block n = record { domain = 0; serial = n }

-- a map is made in register 1, a key in register 2, a datum in register 3 that holds the key, and a leaf in register 4
abbrev pub leaf_made : List Entry
leaf_made = map run (Alloc 1 0 512 ∷ Alloc 2 0 1 ∷ Alloc 3 0 1 ∷ Store 3 0 2 ∷ Ephe 4 1 ∷ SetData 4 3 ∷ SetKey 4 0 2 ∷ PutInt 5 (pos 0) ∷ [])

-- the leaf comes into the map
abbrev pub put_with_own_key : List Entry
put_with_own_key = leaf_made ++ run (Cas 1 2 5 4) ∷ []

-- a block in register 6 takes the leaf, and comes in its place: the leaf stands one step deeper then
abbrev pub room_made : List Entry
room_made = put_with_own_key ++ map run (Alloc 6 0 32 ∷ Store 6 0 4 ∷ [])

abbrev pub gone_deeper : List Entry
gone_deeper = room_made ++ run (Cas 1 2 4 6) ∷ []

-- no register holds the key, the datum or the leaf
abbrev pub forgotten : List Entry
forgotten = map run (Forget 2 ∷ Forget 3 ∷ Forget 4 ∷ [])

-- a complete collection, which takes the key of the leaf
abbrev pub collection : List Entry
collection = Cut ∷ Seal ∷ Wipe (block 4) (0 ∷ []) ∷ Collected ∷ Done ∷ []

-- and one that leaves it
abbrev pub idle_collection : List Entry
idle_collection = Cut ∷ Seal ∷ Collected ∷ Done ∷ []

-- the leaf has lost its key: it is emptied out of its block, and the block, which is spent then, out of the map, as a clean does
abbrev pub cleaned : List Entry
cleaned = gone_deeper ++ forgotten ++ collection ++ map run (Store 6 0 5 ∷ Store 1 2 5 ∷ [])

-- a number is stored into a map by a command that is no map call's
abbrev pub stored_number : List Entry
stored_number = map run (Alloc 1 0 512 ∷ PutInt 2 (pos 7) ∷ Store 1 0 2 ∷ [])

-- the leaf comes into the map by a step that sets the key
abbrev pub PutIsAStep : Type 0
PutIsAStep = SetsAt small_sizes (block 1) leaf_made (run (Cas 1 2 5 4)) (block 2) (Block (block 4))

-- the key is bound to its datum, as long as it is held
abbrev pub IsBoundWhileHeld : Type 0
IsBoundWhileHeld = bound_after small_sizes (block 1) put_with_own_key (block 2) ≡ Some (Block (block 3))

-- such a graph, of the root, the leaf and the block that takes it, and the root's fields before and after
abbrev pub root_fields : List Value
root_fields = slice_set (replicate root_width (Int (pos 0))) 2 (Block (block 4))

abbrev pub room_graph : Graph
room_graph = (block 1, Plain 0 root_fields) ∷ (block 4, EpheNode (Some (block 2) ∷ []) (Block (block 3))) ∷ (block 5, Plain 0 (slice_set (replicate node_width (Int (pos 0))) 0 (Block (block 4)))) ∷ []

-- it goes deeper by a step that makes room, and the key is bound as before
abbrev pub DeepenIsAStep : Type 0
DeepenIsAStep = Deepens 1 room_graph (with_node room_graph (block 1) (Plain 0 (slice_set root_fields 2 (Block (block 5))))) (block 1)

abbrev pub IsBoundDeeper : Type 0
IsBoundDeeper = Legal small_sizes gone_deeper × (bound_after small_sizes (block 1) gone_deeper (block 2) ≡ Some (Block (block 3)))

-- no field of the map holds anything then
abbrev pub IsEmptyOnceCleaned : Type 0
IsEmptyOnceCleaned = Legal small_sizes cleaned × (inside (graph_of small_sizes cleaned) (Block (block 1)) ≡ Some (replicate root_width (Int (pos 0))))

-- and after a complete collection to nothing, though its datum holds it
abbrev pub IsUnboundAfterwards : Type 0
IsUnboundAfterwards = bound_after small_sizes (block 1) (put_with_own_key ++ forgotten ++ collection) (block 2) ≡ None

abbrev pub IsLegalExample : Type 0
IsLegalExample = Legal small_sizes (put_with_own_key ++ forgotten ++ collection)

-- no complete collection leaves it
abbrev pub NoneLeavesIt : Type 0
NoneLeavesIt = Legal small_sizes (put_with_own_key ++ forgotten ++ idle_collection) → ⊥

-- a number in a field makes a block no map
abbrev pub StoredNumberBreaksMap : Type 0
StoredNumberBreaksMap = Legal small_sizes stored_number × (IsMap (graph_of small_sizes stored_number) (block 1) → ⊥)
