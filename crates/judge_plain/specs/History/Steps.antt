-- What the entries of a history answer, and what a domain has done in it.
use Rattle.std.specs.Prelude.{◌≡◌, ℕ, ◌≤◌, Bool, false, ◌==◌, List, [], ◌∷◌, cond, take, length, IsTrue}
use Rattle.std.specs.List.{list_any}
use Rattle.model_core.specs.declared.command.Command.{Command}
use Rattle.model_core.specs.declared.entry.Entry.{Entry}
use Rattle.model_core.specs.declared.entry.Entry.TheVariants.{End}
use Rattle.model_core.specs.declared.reply.Applied.{Applied}
use Rattle.model_core.specs.declared.reply.Reply.{Reply}
use Rattle.model_core.specs.declared.state.Sizes.{Sizes}
use Rattle.model_core.specs.declared.state.State.{State}
use Rattle.model_core.specs.Domains.{opening}
use Rattle.model_core.specs.Entries.{Allowed, next, reply}
use Rattle.model_core.specs.History.{Legal, commands, is_entry_of, replies, reply_list, state_after}

-- the entry is allowed, and leads from one state to the other with this answer
pub record Leads (old new : State) (e : Entry) (answer : Applied) : Type 0 where
  pub allowed : Allowed old e
  pub answers : answer ≡ reply old e
  pub state : new ≡ next old e

-- what each entry answers, in order
abbrev pub answers_from : State → List Entry → List Applied
answers_from s [] = []
answers_from s (e ∷ h) = reply s e ∷ answers_from (next s e) h

abbrev pub answers : Sizes → List Entry → List Applied
answers z h = answers_from (opening z) h

-- the end of domain d
abbrev pub is_end_of : ℕ → Entry → Bool
is_end_of d (End k) = k == d
is_end_of d _ = false

-- the replies that an entry adds for domain d
abbrev pub own_replies : ℕ → Entry → Applied → List Reply
own_replies d e a = cond (is_entry_of d e) (reply_list a) []

-- what a legal history has led to: the state, and the answers of its entries
pub record HasPlayed (z : Sizes) (h : List Entry) (s : State) (told : List Applied) : Type 0 where
  pub legal : Legal z h
  pub state : s ≡ state_after (opening z) h
  pub answers_are : told ≡ answers z h

-- what domain d has done in a history: its replies, how many commands of its section it has made, and whether it has ended
pub record HasDone (z : Sizes) (d : ℕ) (section : List Command) (h : List Entry) (own : List Reply) (made : ℕ) (ended : Bool) : Type 0 where
  pub replies_are : own ≡ replies z h d
  pub within : made ≤ length section
  pub commands_are : take made section ≡ commands h d
  pub ended_is : ended ≡ list_any (is_end_of d) h

-- domain d makes these commands in a history, in order, and ends
pub record MakesAndEnds (d : ℕ) (section : List Command) (h : List Entry) : Type 0 where
  pub commands_are : commands h d ≡ section
  pub ends : IsTrue (list_any (is_end_of d) h)

-- and answers these replies
pub record Does (z : Sizes) (d : ℕ) (section : List Command) (h : List Entry) (own : List Reply) : Type 0 where
  pub commands_are : commands h d ≡ section
  pub replies_are : replies z h d ≡ own
  pub ends : IsTrue (list_any (is_end_of d) h)
