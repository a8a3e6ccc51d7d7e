-- What a domain's part of the history has of a command that was handed in, and of the finalisers that ran before it.
use Rattle.std.specs.Prelude.{◌≡◌, ℕ, Bool, ◌||◌, not, List, [], ◌∷◌, ◌++◌, IsTrue}
use Rattle.std.specs.List.{list_all}
use Rattle.model_core.specs.declared.command.Command as model
use Rattle.model_core.specs.declared.entry.Entry.{Entry}
use Rattle.model_core.specs.declared.entry.Entry.TheVariants.{Command}
use Rattle.model_core.specs.declared.reply.Reply.{Reply}
use Rattle.model_core.specs.declared.reply.Applied.TheVariants.{Replied}
use Rattle.model_core.specs.declared.state.Sizes.{Sizes}
use Rattle.model_core.specs.Domains.{opening}
use Rattle.model_core.specs.Entries.{reply as reply_to}
use Rattle.model_core.specs.History.{Legal, is_entry_of, replies_from, state_after}
use Rattle.run_turns.specs.Kept.{is_run_of}

-- these entries are others', or runs of finalisers of domain d
abbrev pub OnlyRuns : ℕ → List Entry → Type 0
OnlyRuns d h = IsTrue (list_all (λ e. not (is_entry_of d e) || is_run_of d e) h)

-- the front has grown by entries of others and by runs of the domain's finalisers, to which these are the replies, in order
pub record Finalised (z : Sizes) (d : ℕ) (old new : List Entry) (ran : List Reply) : Type 0 where
  pub rest : List Entry
  pub appends : new ≡ old ++ rest
  pub runs : OnlyRuns d rest
  pub ran_are : replies_from (state_after (opening z) old) rest d ≡ ran

-- and then by this command, to which the reply is that of the state before it
pub record PerformedOn (z : Sizes) (d : ℕ) (old new : List Entry) (c : model.Command) (ran : List Reply) (r : Reply) : Type 0 where
  pub before : List Entry
  pub finalised : Finalised z d old before ran
  pub full : Bool
  pub appends : new ≡ before ++ Command d c full ∷ []
  pub legal : Legal z new
  pub replies : reply_to (state_after (opening z) before) (Command d c full) ≡ Replied r
