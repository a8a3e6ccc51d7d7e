-- Two domains, and what is written for them where no allocation is refused.
use Rattle.std.specs.Prelude.{ℕ, List, [], ◌∷◌, pos}
use Rattle.table_text.specs.declared.line.TableLine.{TableLine}
use Rattle.table_text.specs.declared.line.TableLine.TheVariants.{Key, Forget, Put, Get, SetWeak, GetWeak, FullMajor}
use Rattle.table_text.specs.declared.machine.reply.LineReply.{LineReply}
use Rattle.table_text.specs.declared.machine.reply.LineReply.TheVariants as reply
use Rattle.judge_outputs.specs.declared.sections.turn.Turn.{Turn}

abbrev pub turn : ℕ → TableLine → LineReply → Turn
turn d l a = record { domain = d; line = l; reply = a }

-- domain 1 finds the key of domain 0 in a slot, and keeps it and its binding; once it has let it go nothing is left
abbrev pub shared_turns : List Turn
shared_turns = turn 0 (Key 1) reply.Done ∷ turn 0 (Put 1 (pos 10)) reply.Done ∷ turn 0 (SetWeak 3 1) reply.Done ∷ turn 1 (GetWeak 2 3) reply.Yes ∷ turn 0 (Forget 1) reply.Done ∷ turn 0 FullMajor reply.Done ∷ turn 1 (Get 2) (reply.Number (pos 10)) ∷ turn 1 (Forget 2) reply.Done ∷ turn 1 FullMajor reply.Done ∷ turn 0 (GetWeak 1 3) reply.Empty ∷ []
