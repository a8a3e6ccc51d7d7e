-- What a call's reply is as a line's.
use Rattle.std.specs.Prelude.{ℕ}
use Rattle.model_core.specs.declared.reply.Reply.{Reply}
use Rattle.model_core.specs.declared.reply.Reply.TheVariants as given
use Rattle.table_text.specs.declared.machine.reply.LineReply.{LineReply}
use Rattle.table_text.specs.declared.machine.reply.LineReply.TheVariants as reply

-- 1 for the reply `full`
abbrev pub full_in : LineReply → ℕ
full_in reply.Full = 1
full_in _ = 0

-- what a call's reply is as a line's
abbrev pub said : Reply → LineReply
said (given.Int v) = reply.Number v
said (given.Block l) = reply.Yes
said given.BadType = reply.BadType
said given.Empty = reply.Empty
said given.Full = reply.Full
said _ = reply.Done
