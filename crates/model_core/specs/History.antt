-- Histories: legal lists of entries, what each domain reads of them, and when one list is the front part of another.
use Rattle.std.specs.Prelude.{◌≡◌, ℕ, Bool, false, cond, ◌==◌, List, [], ◌∷◌, ◌++◌, fold, flat_map}
use Rattle.model_core.specs.declared.command.Command.{Command}
use Rattle.model_core.specs.declared.entry.Entry.{Entry}
use Rattle.model_core.specs.declared.entry.Entry.TheVariants.{Command as CommandOf, End, Ran}
use Rattle.model_core.specs.declared.reply.Reply.{Reply}
use Rattle.model_core.specs.declared.reply.Applied.{Applied}
use Rattle.model_core.specs.declared.reply.Applied.TheVariants.{Replied, Silent}
use Rattle.model_core.specs.declared.state.Sizes.{Sizes}
use Rattle.model_core.specs.declared.state.State.{State}
use Rattle.model_core.specs.Domains.{opening}
use Rattle.model_core.specs.Entries.{Allowed, next, reply}

-- the state after these entries
abbrev pub state_after : State → List Entry → State
state_after s h = fold next s h

-- each entry is allowed in the state that those before it leave
abbrev pub LegalFrom : State → List Entry → Type 0
LegalFrom s [] = Unit {0}
LegalFrom s (e ∷ h) = Allowed s e × LegalFrom (next s e) h

-- a legal history of a heap of these sizes
abbrev pub Legal : Sizes → List Entry → Type 0
Legal z h = LegalFrom (opening z) h

-- whether an entry is a command, the end or a run finaliser of domain d
abbrev pub is_entry_of : ℕ → Entry → Bool
is_entry_of d (CommandOf k c full) = k == d
is_entry_of d (End k) = k == d
is_entry_of d (Ran k) = k == d
is_entry_of d _ = false

-- the command of domain d in an entry, if it is one
abbrev pub command_of : ℕ → Entry → List Command
command_of d (CommandOf k c full) = cond (k == d) (c ∷ []) []
command_of d _ = []

-- the commands of domain d, in order
abbrev pub commands : List Entry → ℕ → List Command
commands h d = flat_map (command_of d) h

-- the reply as a list
abbrev pub reply_list : Applied → List Reply
reply_list (Replied r) = r ∷ []
reply_list Silent = []

-- the replies of domain d's entries, in order
abbrev pub replies_from : State → List Entry → ℕ → List Reply
replies_from s [] d = []
replies_from s (e ∷ h) d = cond (is_entry_of d e) (reply_list (reply s e)) [] ++ replies_from (next s e) h d

-- the replies of domain d in a history
abbrev pub replies : Sizes → List Entry → ℕ → List Reply
replies z h d = replies_from (opening z) h d

-- one list is the front part of another
pub record IsPrefix (old new : List Entry) : Type 0 where
  pub rest : List Entry
  pub appends : new ≡ old ++ rest
