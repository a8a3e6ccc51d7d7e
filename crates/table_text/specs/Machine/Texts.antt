-- What is written for lines.
use Rattle.std.specs.Prelude.{ℕ, List, ◌++◌, codes, decimal, flat_map}
use Rattle.std.specs.Fmt.{signed_decimal}
use Rattle.model_core.specs.Output.{line}
use Rattle.table_text.specs.declared.machine.reply.LineReply.{LineReply}
use Rattle.table_text.specs.declared.machine.reply.LineReply.TheVariants.{Done, Full, BadType, Empty, Yes, Number, Counted}

-- what is written for a line, without its line feed
abbrev pub line_reply_text : LineReply → List ℕ
line_reply_text Done = codes "ok"
line_reply_text Full = codes "full"
line_reply_text BadType = codes "type"
line_reply_text Empty = codes "none"
line_reply_text Yes = codes "yes"
line_reply_text (Number v) = codes "int " ++ signed_decimal v
line_reply_text (Counted n) = codes "count " ++ decimal n

-- and for lines, one after the other
abbrev pub replies_text : List LineReply → List ℕ
replies_text rs = flat_map (λ r. line (line_reply_text r)) rs
