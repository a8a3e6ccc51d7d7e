-- The commands of which the calls are made, and what their replies show.
use Rattle.std.specs.Prelude.{ℕ, ◌<◌, ◌≤◌, pos, neg_ℤ, ◌≤ℤ◌, Option, Some, None}
use Rattle.model_core.specs.declared.command.Command.{Command}
use Rattle.model_core.specs.declared.command.Command.TheVariants.{PutInt, Copy, Forget, Alloc, Load, Store, Cas, Ephe, SetKey, UnsetKey, GetKey, CheckKey, SetData, UnsetData, GetData, FullMajor}
use Rattle.model_core.specs.declared.graph.Value.{Value}
use Rattle.model_core.specs.declared.graph.Value.TheVariants.{Nothing}
use Rattle.model_core.specs.declared.reply.Reply.{Reply}
use Rattle.model_core.specs.declared.reply.Reply.TheVariants as reply

-- the commands of which the calls on tables, arrays and maps are made, an integer and a complete collection, with their numbers in their ranges
abbrev pub IsCallCommand : Command → Type 0
IsCallCommand (PutInt dst value) = (dst < 16) × (neg_ℤ (pos 4611686018427387904) ≤ℤ value) × (value ≤ℤ pos 4611686018427387903)
IsCallCommand (Copy dst src) = (dst < 16) × (src < 16)
IsCallCommand (Forget dst) = dst < 16
IsCallCommand (Alloc dst tag fields) = (dst < 16) × (tag ≤ 245) × (1 ≤ fields) × (fields ≤ 1022)
IsCallCommand (Load dst src index) = (dst < 16) × (src < 16)
IsCallCommand (Store block index item) = (block < 16) × (item < 16)
IsCallCommand (Cas block index expected item) = (block < 16) × (expected < 16) × (item < 16)
IsCallCommand (Ephe dst keys) = (dst < 16) × (1 ≤ keys) × (keys ≤ 8)
IsCallCommand (SetKey ephe index item) = (ephe < 16) × (item < 16)
IsCallCommand (UnsetKey ephe index) = ephe < 16
IsCallCommand (GetKey dst ephe index) = (dst < 16) × (ephe < 16)
IsCallCommand (CheckKey ephe index) = ephe < 16
IsCallCommand (SetData ephe item) = (ephe < 16) × (item < 16)
IsCallCommand (UnsetData ephe) = ephe < 16
IsCallCommand (GetData dst ephe) = (dst < 16) × (ephe < 16)
IsCallCommand FullMajor = Unit {0}
IsCallCommand _ = ⊥

-- a reply that shows a block
abbrev pub IsBlock : Reply → Type 0
IsBlock (reply.Block l) = Unit {0}
IsBlock _ = ⊥

-- the value that a key is bound to, or nothing
abbrev pub value_of : Option Value → Value
value_of None = Nothing
value_of (Some v) = v

-- a full key counts
abbrev pub one_of : Reply → ℕ
one_of reply.Yes = 1
one_of _ = 0
