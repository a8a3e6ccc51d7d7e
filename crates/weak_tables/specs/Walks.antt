-- Where the walk of a call stands, and what it leaves.
use Rattle.std.specs.Prelude.{◌≡◌, ◌≢◌, ◌⊎◌, ℕ, ◌%◌, ◌≤◌, take, Bool, true, false, IsTrue, List, [], ◌∷◌, ◌++◌, length, slice_index_or, Option, Some, None}
use Rattle.std.specs.List.{list_all}
use Rattle.model_core.specs.declared.label.Label.{Label}
use Rattle.model_core.specs.declared.command.Command.TheVariants.{Alloc, Load, Store, Ephe as NewEphe}
use Rattle.model_core.specs.declared.entry.Entry.{Entry}
use Rattle.model_core.specs.declared.graph.Value.{Value}
use Rattle.model_core.specs.declared.graph.Value.TheVariants.{Block}
use Rattle.model_core.specs.declared.graph.Node.TheVariants.{Ephe}
use Rattle.model_core.specs.declared.reply.Reply.{Reply}
use Rattle.model_core.specs.declared.state.Sizes.{Sizes}
use Rattle.model_core.specs.Graph.{Graph, has_label, node_at}
use Rattle.model_core.specs.Commands.{shown}
use Rattle.weak_laws.specs.Tables.Structures.{Cell, bucket_count, chain_bindings, bindings, datum_at, without, head_of, table_labels, has_key, is_bucket_full, HasOneMore}
use Rattle.weak_laws.specs.Tables.Thinning.{ThinnedBy, WasOutside}
use Rattle.weak_laws.specs.Tables.Performing.{Performed}
use Rattle.weak_laws.specs.Tables.Stages.{Goes, Searching, Walking, Holding, Declines, Filling, graph_of, held_in}
use Rattle.weak_tables.specs.declared.find.Find.{Find}
use Rattle.weak_tables.specs.declared.find.Find.TheVariants.{Key, Spare, Nowhere}
use Rattle.model_core.specs.declared.reply.Reply.TheVariants as reply
use Rattle.weak_tables.specs.Held.{AllHave, IsTidy, KeepsOthers, OfTable, Reads}

-- register 8 holds the ephemeron of one of these cells, and it has no key
pub record HoldsSpare (z : Sizes) (h : List Entry) (cells : List Cell) : Type 0 where
  pub before : List Cell
  pub cell : Cell
  pub behind : List Cell
  pub split : cells ≡ before ++ cell ∷ behind
  pub datum : Value
  pub empty : node_at (graph_of z h) cell.ephe ≡ Some (Ephe (None ∷ []) datum)
  pub held : held_in z h 8 ≡ Block cell.ephe

-- of the cells that were passed one is spare, or each had a key at the start
abbrev pub SpareOf : Sizes → List Entry → List Entry → List Cell → Bool → Type 0
SpareOf z first now cells true = HoldsSpare z now cells
SpareOf z first now cells false = IsTrue (list_all (has_key (graph_of z first)) cells)

-- a walk notes the ephemeron of the cell that register 9 holds, where its key was found empty and none was noted before
abbrev pub KeepsSpare : Sizes → List Entry → List Entry → Reply → Bool → Bool → Type 0
KeepsSpare z old new found spare result =
    ((new ≡ old) × (result ≡ spare) × ((spare ≡ true) ⊎ (found ≢ reply.Empty)))
    ⊎ ((spare ≡ false) × (found ≡ reply.Empty) × (result ≡ true) × ((r : Reply) × Performed z old new (Load 8 9 0) r))

-- in the midst of a search, which has passed so many cells: the last reply shows what leads to those that are left
pub record Midst (z : Sizes) (first now : List Entry) (root : Label) (chains : List (List Cell)) (k : Label) (at : Reply) (spare : Bool) (passed : ℕ) : Type 0 where
  pub reads : Reads z first now root chains
  pub keeps : KeepsOthers z first now
  pub done : List Cell
  pub rest : List Cell
  pub searching : Searching z now root chains k (k.serial % bucket_count) done rest
  pub shows : at ≡ shown (head_of rest)
  pub spare_is : SpareOf z first now done spare
  pub passed_is : length done ≡ passed

-- a search has found an ephemeron of the key's bucket, with the key or without one: register 8 holds it
pub record Found (z : Sizes) (first now : List Entry) (root : Label) (chains : List (List Cell)) (k : Label) (key : Option Label) : Type 0 where
  pub reads : Reads z first now root chains
  pub keeps : KeepsOthers z first now
  pub done : List Cell
  pub cell : Cell
  pub rest : List Cell
  pub datum : Value
  pub holding : Holding z now root chains k (k.serial % bucket_count) done cell rest key datum
  pub ephe : held_in z now 8 ≡ Block cell.ephe

-- the key isn't bound
pub record Missed (z : Sizes) (first now : List Entry) (root : Label) (chains : List (List Cell)) (k : Label) : Type 0 where
  pub reads : Reads z first now root chains
  pub keeps : KeepsOthers z first now
  pub none : datum_at (bindings (graph_of z now) chains) k ≡ None

-- what a search leaves, by what it has met
abbrev pub Met : Sizes → List Entry → List Entry → Label → List (List Cell) → Label → Find → Type 0
Met z old new root chains k Key = Found z old new root chains k (Some k)
Met z old new root chains k Spare = Found z old new root chains k None
Met z old new root chains k Nowhere = Missed z old new root chains k × IsTrue (is_bucket_full (graph_of z old) k chains)

-- whatever table the register holds
abbrev pub Searched : Sizes → List Entry → List Entry → ℕ → Label → Find → Type 0
Searched z old new table k find = OfTable z old table (λ root chains. Met z old new root chains k find)

-- what a search has met that has passed all cells
abbrev pub passed_all : Bool → Find
passed_all true = Spare
passed_all false = Nowhere

-- whether the key was found
abbrev pub Bound : Sizes → List Entry → List Entry → Label → List (List Cell) → Label → Bool → Type 0
Bound z old new root chains k true = Found z old new root chains k (Some k)
Bound z old new root chains k false = Missed z old new root chains k

abbrev pub LooksUp : Sizes → List Entry → List Entry → ℕ → Label → Bool → Type 0
LooksUp z old new table k found = OfTable z old table (λ root chains. Bound z old new root chains k found)

-- a table's chains are as they were, or have one cell more
abbrev pub Grows : Graph → Label → List (List Cell) → List (List Cell) → Type 0
Grows g k chains grown = (grown ≡ chains) ⊎ HasOneMore g k chains grown

-- an ephemeron of one key was made, in register 8, and then a block of two fields was asked for, for register 9
pub record MakesCell (z : Sizes) (old new : List Entry) (node : Reply) : Type 0 where
  pub ephe : Reply
  pub between : List Entry
  pub first : Performed z old between (NewEphe 8 1) ephe
  pub room : ephe ≢ reply.Full
  pub second : Performed z between new (Alloc 9 0 2) node

-- both were made, or one of them was refused
abbrev pub CellAnswers : Sizes → List Entry → List Entry → Bool → Type 0
CellAnswers z old new true = (node : Reply) × (node ≢ reply.Full) × MakesCell z old new node
CellAnswers z old new false = Performed z old new (NewEphe 8 1) reply.Full ⊎ MakesCell z old new reply.Full

-- the block in register 9 got the ephemeron in register 8 and what led to the first cell of a bucket, and the bucket got that block
pub record LinksCell (z : Sizes) (old new : List Entry) (table index : ℕ) : Type 0 where
  pub named : List Entry
  pub read : List Entry
  pub followed : List Entry
  pub ephe_reply : Reply
  pub head_reply : Reply
  pub next_reply : Reply
  pub linked_reply : Reply
  pub ephe : Performed z old named (Store 9 0 8) ephe_reply
  pub head : Performed z named read (Load 10 table index) head_reply
  pub next : Performed z read followed (Store 9 1 10) next_reply
  pub linked : Performed z followed new (Store table index 9) linked_reply

-- an ephemeron is at hand that alone may bind the key, in the table as it is now
pub record Ready (z : Sizes) (first now : List Entry) (root : Label) (chains : List (List Cell)) (k : Label) (full : Bool) : Type 0 where
  pub goes : Goes z first now (table_labels root chains)
  pub keeps : KeepsOthers z first now
  pub grown : List (List Cell)
  pub cells : Grows (graph_of z first) k chains grown
  pub spare : (grown ≡ chains) ⊎ IsTrue full
  pub labels : (l : Label) → IsTrue (has_label (table_labels root grown) l) → IsTrue (has_label (table_labels root chains) l) ⊎ (node_at (graph_of z first) l ≡ None)
  pub done : List Cell
  pub cell : Cell
  pub rest : List Cell
  pub key : Option Label
  pub datum : Value
  pub holding : Holding z now root grown k (k.serial % bucket_count) done cell rest key datum
  pub ephe : held_in z now 8 ≡ Block cell.ephe
  pub left : ThinnedBy (WasOutside z first now) (without k (bindings (graph_of z first) chains)) (without k (bindings (graph_of z now) grown))
  pub tidy : AllHave IsTidy (graph_of z first) (table_labels root chains) → AllHave IsTidy (graph_of z now) (table_labels root grown)

-- or no room was found for one, and no binding was put or taken
pub record Refused (z : Sizes) (first now : List Entry) (root : Label) (chains : List (List Cell)) : Type 0 where
  pub reads : Reads z first now root chains
  pub keeps : KeepsOthers z first now

abbrev pub Placed : Sizes → List Entry → List Entry → Label → List (List Cell) → Label → Bool → Bool → Type 0
Placed z old new root chains k full true = Ready z old new root chains k full
Placed z old new root chains k full false = Refused z old new root chains

-- whatever table the register holds
abbrev pub PlacedAt : Sizes → List Entry → List Entry → ℕ → Label → Bool → Type 0
PlacedAt z old new table k placed = OfTable z old table (λ root chains. Placed z old new root chains k (is_bucket_full (graph_of z old) k chains) placed)

-- and that doesn't bind the key: a cell is made whatever the others have
abbrev pub GrownAt : Sizes → List Entry → List Entry → ℕ → Label → Bool → Type 0
GrownAt z old new table k placed = OfTable z old table (λ root chains. datum_at (bindings (graph_of z old) chains) k ≡ None → (full : Bool) → IsTrue full → Placed z old new root chains k full placed)

-- in the midst of a bucket's count, which has passed so many cells: so many of them had a key when they were looked at
pub record Counting (z : Sizes) (first now : List Entry) (root : Label) (chains : List (List Cell)) (i : ℕ) (at : Reply) (count passed : ℕ) : Type 0 where
  pub reads : Reads z first now root chains
  pub keeps : KeepsOthers z first now
  pub declines : Declines z first now chains
  pub done : List Cell
  pub rest : List Cell
  pub walking : Walking z now root chains i done rest
  pub shows : at ≡ shown (head_of rest)
  pub low : length (chain_bindings (graph_of z now) done) ≤ count
  pub high : count ≤ length (chain_bindings (graph_of z first) done)
  pub passed_is : length done ≡ passed

-- a bucket was counted
pub record Counted (z : Sizes) (old new : List Entry) (root : Label) (chains : List (List Cell)) (i count : ℕ) : Type 0 where
  pub reads : Reads z old new root chains
  pub keeps : KeepsOthers z old new
  pub declines : Declines z old new chains
  pub low : length (chain_bindings (graph_of z new) (slice_index_or chains i [])) ≤ count
  pub high : count ≤ length (chain_bindings (graph_of z old) (slice_index_or chains i []))

-- whatever table the register holds
abbrev pub CountedAt : Sizes → List Entry → List Entry → ℕ → ℕ → ℕ → Type 0
CountedAt z old new table i count = OfTable z old table (λ root chains. Counted z old new root chains i count)

-- these buckets were counted
pub record CountedTo (z : Sizes) (old new : List Entry) (root : Label) (chains : List (List Cell)) (i count : ℕ) : Type 0 where
  pub reads : Reads z old new root chains
  pub keeps : KeepsOthers z old new
  pub declines : Declines z old new chains
  pub low : length (bindings (graph_of z new) (take i chains)) ≤ count
  pub high : count ≤ length (bindings (graph_of z old) (take i chains))

-- the fields of the block in register 8 hold new ephemerons, so many of them, and the others 0
pub record Filled (z : Sizes) (first now : List Entry) (root : Label) (count left : ℕ) : Type 0 where
  pub goes : Goes z first now []
  pub keeps : KeepsOthers z first now
  pub made : List Label
  pub count_is : length made ≡ count
  pub filling : Filling z first now root made left
  pub held : held_in z now 8 ≡ Block root

-- all fields were filled, or an allocation was refused
abbrev pub Fills : Sizes → List Entry → List Entry → Label → ℕ → Bool → Type 0
Fills z first now root count true = Filled z first now root count 0
Fills z first now root count false = Goes z first now [] × KeepsOthers z first now
