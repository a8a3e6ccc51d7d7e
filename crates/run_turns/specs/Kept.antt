-- The replies in a history, apart by what they answer: commands, or finalisers that ran.
use Rattle.std.specs.Prelude.{ℕ, Bool, false, cond, ◌==◌, List, [], ◌∷◌, ◌++◌}
use Rattle.model_core.specs.declared.entry.Entry.{Entry}
use Rattle.model_core.specs.declared.entry.Entry.TheVariants.{Command, Ran}
use Rattle.model_core.specs.declared.reply.Reply.{Reply}
use Rattle.model_core.specs.declared.state.Sizes.{Sizes}
use Rattle.model_core.specs.declared.state.State.{State}
use Rattle.model_core.specs.Domains.{opening}
use Rattle.model_core.specs.Entries.{next, reply}
use Rattle.model_core.specs.History.{reply_list}

-- whether an entry is a command of domain d
abbrev pub is_command_of : ℕ → Entry → Bool
is_command_of d (Command k c full) = k == d
is_command_of d _ = false

-- whether it is the run of one of its finalisers
abbrev pub is_run_of : ℕ → Entry → Bool
is_run_of d (Ran k) = k == d
is_run_of d _ = false

-- the replies to those entries that p picks, in order
abbrev pub replies_to : (Entry → Bool) → State → List Entry → List Reply
replies_to p s [] = []
replies_to p s (e ∷ h) = cond (p e) (reply_list (reply s e)) [] ++ replies_to p (next s e) h

-- the replies to the commands of domain d in a history
abbrev pub answers : Sizes → List Entry → ℕ → List Reply
answers z h d = replies_to (is_command_of d) (opening z) h

-- and those of its finalisers that ran
abbrev pub finalised : Sizes → List Entry → ℕ → List Reply
finalised z h d = replies_to (is_run_of d) (opening z) h
