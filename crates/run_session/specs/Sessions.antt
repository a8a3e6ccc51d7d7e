-- A session as its callers see it.
use Rattle.std.specs.Prelude.{◌≡◌, ℕ, ◌+◌, ◌-◌, ◌≤◌, ◌<◌, List, [], ◌++◌, drop, length, Option, Some, None}
use Rattle.model_core.specs.declared.command.Command.{Command}
use Rattle.model_core.specs.declared.entry.Entry.{Entry}
use Rattle.model_core.specs.declared.reply.Reply.{Reply}
use Rattle.model_core.specs.History.{replies}
use Rattle.heap_rule.specs.declared.config.Config.{Config}
use Rattle.heap_rule.specs.Limits.{first_outside, sizes_in}
use Rattle.run_turns.specs.Handed.{PerformedOn}
use Rattle.run_turns.specs.Singly.Counting.{no_stats}
use Rattle.run_turns.specs.Singly.Refusing.{IsRefused, Takes}
use Rattle.run_turns.specs.declared.singly.counting.Stats.{Stats}
use Rattle.run_session.specs.declared.refusing.Refusal.{Refusal}
use Rattle.run_session.specs.declared.refusing.Refusal.TheVariants.{Unfit, Arrivals}

-- a session: the numbers of its heap, the history so far, how many labels were given out, how many more ephemerons and how many more finalisers fit, what the domain counts, and the replies of the finalisers that ran and weren't taken so far
pub record SessionView : Type 0 where
  pub config : Config
  pub front : List Entry
  pub labels : ℕ
  pub room : ℕ
  pub finals : ℕ
  pub stats : Stats
  pub ran : List Reply

-- the numbers of a heap of one domain
abbrev pub alone : ℕ → ℕ → ℕ → ℕ → Config
alone minor_words pools finals ephes = record { domains = 1; minor_words = minor_words; pools = pools; finals = finals; ephes = ephes }

-- a session before its first command
abbrev pub fresh : Config → SessionView
fresh c = record { config = c; front = []; labels = 0; room = c.ephes; finals = c.finals; stats = no_stats; ran = [] }

-- the k-th of these numbers of a heap of one domain is the first that is outside its limit
abbrev pub IsFirstOutside : ℕ → ℕ → ℕ → ℕ → ℕ → Type 0
IsFirstOutside minor_words pools finals ephes k = first_outside (alone minor_words pools finals ephes) ≡ Some k

-- the replies of the finalisers that ran between two
abbrev pub ran_since : SessionView → SessionView → List Reply
ran_since old new = drop (length old.ran) new.ran

-- a command was made in a session, once, behind finalisers, and this is its reply. Theirs wait to be taken, behind those that waited
pub record PerformsIn (old new : SessionView) (c : Command) (r : Reply) : Type 0 where
  pub performed : PerformedOn (sizes_in old.config) 0 old.front new.front c (ran_since old new) r
  pub waits : new.ran ≡ old.ran ++ ran_since old new

-- a session of which the oldest reply was taken that waited, if one did: a finaliser more may be registered then
abbrev pub taken : SessionView → SessionView
taken s = record s { ran = drop 1 s.ran; finals = s.finals + (length s.ran - length (drop 1 s.ran)) }

-- the replies of the domain after a history of the session's heap
abbrev pub replies_of : SessionView → List Entry → List Reply
replies_of s h = replies (sizes_in s.config) h 0

-- how often the domain may arrive in all, and how often it does at most for one command
abbrev pub most_arrivals : ℕ
most_arrivals = 1152921504606846976

abbrev pub most_spent : ℕ
most_spent = 268435456

-- a session may make this command: it fits the shared heap, there are room for the ephemeron that it makes and the finaliser that it registers, and a label for a block, and the domain may arrive as often as its pauses take
pub record MayPerform (s : SessionView) (c : Command) : Type 0 where
  pub takes : Takes s.room s.finals (4294967295 - s.labels) c
  pub arrivals : s.stats.arrivals + most_spent ≤ most_arrivals

-- the first of these that is missing
abbrev pub IsRefusedIn : SessionView → Command → Option Refusal → Type 0
IsRefusedIn s c None = MayPerform s c
IsRefusedIn s c (Some (Unfit why)) = IsRefused s.room s.finals (4294967295 - s.labels) c (Some why)
IsRefusedIn s c (Some Arrivals) = Takes s.room s.finals (4294967295 - s.labels) c × (most_arrivals < s.stats.arrivals + most_spent)
