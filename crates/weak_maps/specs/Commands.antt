-- The commands of which the calls are made.
use Rattle.std.specs.Prelude.{◌<◌, ◌≤◌, pos, neg_ℤ, ◌≤ℤ◌}
use Rattle.model_core.specs.declared.command.Command.{Command}
use Rattle.model_core.specs.declared.command.Command.TheVariants.{PutInt, Copy, Forget, Alloc, Load, Store, Cas, Ephe, SetKey, GetKey, SetData, GetData, FullMajor}
use Rattle.model_core.specs.declared.reply.Reply.{Reply}
use Rattle.model_core.specs.declared.reply.Reply.TheVariants as reply

-- the commands of which the calls are made, and a complete collection, with their numbers in their ranges
abbrev pub IsMapCommand : Command → Type 0
IsMapCommand (PutInt dst value) = (dst < 16) × (neg_ℤ (pos 4611686018427387904) ≤ℤ value) × (value ≤ℤ pos 4611686018427387903)
IsMapCommand (Copy dst src) = (dst < 16) × (src < 16)
IsMapCommand (Forget dst) = dst < 16
IsMapCommand (Alloc dst tag fields) = (dst < 16) × (tag ≤ 245) × (1 ≤ fields) × (fields ≤ 1022)
IsMapCommand (Load dst src index) = (dst < 16) × (src < 16)
IsMapCommand (Store block index item) = (block < 16) × (item < 16)
IsMapCommand (Cas block index expected item) = (block < 16) × (expected < 16) × (item < 16)
IsMapCommand (Ephe dst keys) = (dst < 16) × (1 ≤ keys) × (keys ≤ 8)
IsMapCommand (SetKey ephe index item) = (ephe < 16) × (item < 16)
IsMapCommand (GetKey dst ephe index) = (dst < 16) × (ephe < 16)
IsMapCommand (SetData ephe item) = (ephe < 16) × (item < 16)
IsMapCommand (GetData dst ephe) = (dst < 16) × (ephe < 16)
IsMapCommand FullMajor = Unit {0}
IsMapCommand _ = ⊥

-- a reply that shows a block
abbrev pub IsBlock : Reply → Type 0
IsBlock (reply.Block l) = Unit {0}
IsBlock _ = ⊥
