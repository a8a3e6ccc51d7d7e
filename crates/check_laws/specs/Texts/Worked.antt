-- A worked history of one domain with a table, and a worked text of one.
use Rattle.std.specs.Prelude.{ℕ, false, List, [], ◌∷◌, ◌++◌, map, pos, replicate}
use Rattle.model_core.specs.declared.label.Label.{Label}
use Rattle.model_core.specs.declared.command.Command as declared_command
use Rattle.model_core.specs.declared.command.Command.TheVariants.{PutInt, Forget, Alloc, Load, Store, Ephe, SetKey, UnsetKey, GetKey, SetData, UnsetData, GetData}
use Rattle.model_core.specs.declared.entry.Entry.{Entry}
use Rattle.model_core.specs.declared.entry.Entry.TheVariants.{Command, Cut, Seal, Wipe, Collected, Done}
use Rattle.model_core.specs.declared.graph.Value.{Value}
use Rattle.model_core.specs.declared.graph.Value.TheVariants.{Int, Block}
use Rattle.model_core.specs.declared.state.Sizes.{Sizes}
use Rattle.weak_laws.specs.Tables.Structures.{Cell}
use Rattle.table_text.specs.declared.line.TableLine.{TableLine}
use Rattle.table_text.specs.declared.line.TableLine.TheVariants.{Count, Forget as Clear, Get, Key, Put}
use Rattle.table_text.specs.declared.machine.reply.LineReply.{LineReply}
use Rattle.table_text.specs.declared.machine.reply.LineReply.TheVariants as reply

-- a heap of one domain
abbrev pub sizes : Sizes
sizes = record { domains = 1; pools = 512; minor_words = 32768; classes = 6 }

-- the label with a serial number
abbrev pub block : ℕ → Label
block n = record { domain = 0; serial = n }

-- a command that isn't refused
abbrev pub run : declared_command.Command → Entry
run c = Command 0 c false

-- a table in register 1, keys in registers 2 and 3, and a datum in register 4
abbrev pub begun : List Entry
begun = map run (Alloc 1 0 64 ∷ Alloc 2 0 1 ∷ Alloc 3 0 1 ∷ PutInt 4 (pos 7) ∷ [])

-- registers 8, 9 and 10 hold nothing again
abbrev pub cleared : List declared_command.Command
cleared = Forget 8 ∷ Forget 9 ∷ Forget 10 ∷ []

-- `table_put` of the key in a register, into a bucket that has no cell
abbrev pub putting : (bucket key : ℕ) → List Entry
putting bucket key = map run (Load 9 1 bucket ∷ Ephe 8 1 ∷ Alloc 9 0 2 ∷ Store 9 0 8 ∷ Load 10 1 bucket ∷ Store 9 1 10 ∷ Store 1 bucket 9 ∷ SetData 8 4 ∷ SetKey 8 0 key ∷ cleared)

-- `table_get` of a key whose bucket has one cell
abbrev pub getting : (bucket : ℕ) → List Entry
getting bucket = map run (Load 9 1 bucket ∷ Load 10 9 0 ∷ GetKey 10 10 0 ∷ Load 8 9 0 ∷ GetData 5 8 ∷ cleared)

-- `table_take` of such a key
abbrev pub taking : (bucket : ℕ) → List Entry
taking bucket = map run (Load 9 1 bucket ∷ Load 10 9 0 ∷ GetKey 10 10 0 ∷ Load 8 9 0 ∷ UnsetKey 8 0 ∷ UnsetData 8 ∷ cleared)

-- a complete collection that takes nothing, since registers hold the keys
abbrev pub idle_collection : List Entry
idle_collection = Cut ∷ Seal ∷ Collected ∷ Done ∷ []

-- and one that takes the first key
abbrev pub collection : List Entry
collection = Cut ∷ Seal ∷ Wipe (block 4) (0 ∷ []) ∷ Collected ∷ Done ∷ []

-- Two keys are bound and the second is taken out. The first is looked up beside a collection, and then forgotten and collected.
abbrev pub worked : List Entry
worked = begun ++ putting 2 2 ++ putting 3 3 ++ taking 3 ++ idle_collection ++ getting 2 ++ run (Forget 2) ∷ collection

-- the chains of the table from the second put on: a cell each in two buckets
abbrev pub chains : List (List Cell)
chains = [] ∷ [] ∷ (record { node = block 5; ephe = block 4 } ∷ []) ∷ (record { node = block 7; ephe = block 6 } ∷ []) ∷ replicate 60 []

-- the fields that lead to them
abbrev pub fields : List Value
fields = Int (pos 0) ∷ Int (pos 0) ∷ Block (block 5) ∷ Block (block 7) ∷ replicate 60 (Int (pos 0))

-- a text: two keys are bound, the second is forgotten, the bindings are counted, and the first is looked up
abbrev pub counting_lines : List TableLine
counting_lines = Key 1 ∷ Key 2 ∷ Put 1 (pos 7) ∷ Put 2 (pos 8) ∷ Clear 2 ∷ Count ∷ Get 1 ∷ []

-- its replies with a count
abbrev pub counting_replies : ℕ → List LineReply
counting_replies n = reply.Done ∷ reply.Done ∷ reply.Done ∷ reply.Done ∷ reply.Done ∷ reply.Counted n ∷ reply.Number (pos 7) ∷ []
