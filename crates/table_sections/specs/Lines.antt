-- The lines that a section may have, and what they take.
use Rattle.std.specs.Prelude.{◌≡◌, ℕ, ◌+◌, ◌*◌, ◌≤◌, true}
use Rattle.model_core.specs.declared.reply.Reply.{Reply}
use Rattle.model_core.specs.declared.reply.Reply.TheVariants as given
use Rattle.table_text.specs.declared.line.TableLine.{TableLine}
use Rattle.table_text.specs.declared.line.TableLine.TheVariants.{Key, Forget, GetWeak, Count}
use Rattle.table_text.specs.declared.machine.reply.LineReply.{LineReply}
use Rattle.table_text.specs.declared.machine.reply.LineReply.TheVariants as reply
use Rattle.table_text.specs.Forms.{is_writable}

-- the registers of keys
abbrev pub IsKeyRegister : ℕ → Type 0
IsKeyRegister r = (1 ≤ r) × (r ≤ 5)

-- a line with its numbers in their ranges, but for the count: what all domains bind isn't counted beside them
abbrev pub IsSharedLine : TableLine → Type 0
IsSharedLine Count = ⊥
IsSharedLine l = is_writable l ≡ true

-- the register into which a line writes; 0 is used between
abbrev pub written_in : TableLine → ℕ
written_in (Key r) = r
written_in (Forget r) = r
written_in (GetWeak r s) = r
written_in _ = 0

-- what is written where a block is made: it is there, or the command was refused
abbrev pub made_said : Reply → LineReply
made_said given.Full = reply.Full
made_said _ = reply.Done

-- so many labels and so much room for ephemerons are enough for so many lines: seven and one a line
abbrev pub HasRoomFor : ℕ → ℕ → ℕ → Type 0
HasRoomFor lines labels room = (7 * lines ≤ labels) × (lines ≤ room)

-- so many lines took no more: this was left, and this is
abbrev pub TakesAtMost : ℕ → ℕ → ℕ → ℕ → ℕ → Type 0
TakesAtMost lines labels left room spare = (labels ≤ left + 7 * lines) × (room ≤ spare + lines)
