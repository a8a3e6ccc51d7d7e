-- Two texts, and what is written for them where no allocation is refused.
use Rattle.std.specs.Prelude.{List, [], ◌∷◌, pos}
use Rattle.table_text.specs.declared.line.TableLine.{TableLine}
use Rattle.table_text.specs.declared.line.TableLine.TheVariants.{Key, Forget, Put, Get, Del, SetWeak, GetWeak, Count, FullMajor}
use Rattle.table_text.specs.declared.machine.reply.LineReply.{LineReply}
use Rattle.table_text.specs.declared.machine.reply.LineReply.TheVariants as reply

-- bindings are put, put again, counted and taken, and one goes with its key
abbrev pub binding_lines : List TableLine
binding_lines = Key 1 ∷ Key 2 ∷ Put 1 (pos 10) ∷ Put 2 (pos 20) ∷ Put 1 (pos 11) ∷ Get 1 ∷ Count ∷ Forget 2 ∷ FullMajor ∷ Count ∷ Get 1 ∷ Del 1 ∷ Get 1 ∷ Get 2 ∷ []

abbrev pub binding_replies : List LineReply
binding_replies = reply.Done ∷ reply.Done ∷ reply.Done ∷ reply.Done ∷ reply.Done ∷ reply.Number (pos 11) ∷ reply.Counted 2 ∷ reply.Done ∷ reply.Done ∷ reply.Counted 1 ∷ reply.Number (pos 11) ∷ reply.Done ∷ reply.Empty ∷ reply.BadType ∷ []

-- a slot keeps no key, but a register does
abbrev pub slot_lines : List TableLine
slot_lines = Key 1 ∷ SetWeak 3 1 ∷ GetWeak 2 3 ∷ Forget 1 ∷ FullMajor ∷ GetWeak 4 3 ∷ Forget 2 ∷ Forget 4 ∷ FullMajor ∷ GetWeak 5 3 ∷ []

abbrev pub slot_replies : List LineReply
slot_replies = reply.Done ∷ reply.Done ∷ reply.Yes ∷ reply.Done ∷ reply.Done ∷ reply.Yes ∷ reply.Done ∷ reply.Done ∷ reply.Done ∷ reply.Empty ∷ []
