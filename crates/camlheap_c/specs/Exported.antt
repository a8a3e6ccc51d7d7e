-- What the exports leave in a handle that holds a domain.
use Rattle.std.specs.Prelude.{slice_get, ◌≡◌, ◌≢◌, ◌↔◌, ◌⊎◌, ℕ, ◌+◌, ◌<◌, ◌≤◌, List, true, false, Option, Some, None, [], ◌∷◌}
use Rattle.model_core.specs.declared.command.Command as model
use Rattle.model_core.specs.declared.reply.Reply.{Reply}
use Rattle.heap_rule.specs.declared.config.Config.{Config}
use Rattle.heap_rule.specs.declared.view.DomainView.{DomainView}
use Rattle.heap_rule.specs.Limits.{first_outside, sizes_in}
use Rattle.heap_rule.specs.Token.{SharedHeap}
use Rattle.run_turns.specs.declared.supply.Supply.TheVariants.{Open}
use Rattle.run_turns.specs.declared.singly.turning.Came.{Came}
use Rattle.run_turns.specs.Runs as runs
use Rattle.run_turns.specs.Runs.{AddsRan, HasLooked, IsHandedIn, IsLastReply, IsUnanswered, MaySubmit, RunView, Stretches, answer_of}
use Rattle.run_turns.specs.Singly.Turning.{CameTo}
use Rattle.run_turns.specs.Singly.Driving.{Answered, Awaits}
use Rattle.run_turns.specs.Singly.Opening.{opened_runs}
use Rattle.run_seats.specs.declared.shared.shared.Refused.{Refused}
use Rattle.run_seats.specs.Shared.Idling.{StaysAlong}
use Rattle.run_seats.specs.Shared.Sharing.{MayClose, SharedView, IsRefusedBy, IsUnclosedBy, shared_by, shown_by, with_command}
use Rattle.camlheap_c.specs.declared.crossing.CamlheapCommand.{CamlheapCommand}
use Rattle.camlheap_c.specs.declared.crossing.CamlheapConfig.{CamlheapConfig}
use Rattle.camlheap_c.specs.declared.crossing.CamlheapReply.{CamlheapReply}
use Rattle.camlheap_c.specs.declared.handle.CamlheapDomain.{CamlheapDomain}
use Rattle.camlheap_c.specs.Forms.{came_form, command_as, refused_form, reply_form}

-- the command that C's stands for was handed in: the domain might take it, and has it to make
pub record Submits (old new : SharedView) (c : CamlheapCommand) : Type 0 where
  pub command : model.Command
  pub stands_for : command_as c ≡ Some command
  pub may : MaySubmit old.run command
  pub leaves : new ≡ with_command old command

-- the command that was handed in last is made, and C reads its reply: since then the history has grown by entries of others and by runs of finalisers, and then by this command, once, with the reply of the state before it
pub record Makes (start : DomainView) (c : model.Command) (new : SharedView) (read : CamlheapReply) : Type 0 where
  pub reply : Reply
  pub is_read : read ≡ reply_form reply
  pub answered : Answered new.heap start c reply new.run

-- by what a call answers: 0 where the command is made, and else it waits still, 2 only where others are missing, and what C reads is as it was
pub record GoesOn (start : DomainView) (c : model.Command) (old new : SharedView) (before read : CamlheapReply) (told : ℕ) : Type 0 where
  pub heap : new.heap ≡ old.heap
  pub made : told ≡ 0 → Makes start c new read
  pub waits : told ≢ 0 → Awaits new.heap start c new.run
  pub waits_for : told ≢ 0 → (told ≡ 1) ⊎ (told ≡ 2)
  pub unread : told ≢ 0 → read ≡ before

-- turns were taken: whichever command the domain had to make, by what the call answers it is made or waits still
abbrev pub TakesTurns : SharedView → SharedView → CamlheapReply → CamlheapReply → ℕ → Type 0
TakesTurns old new before read told = (start : DomainView) (c : model.Command) → Awaits old.heap start c old.run → GoesOn start c old new before read told

-- the domain's trace has ended, and it was closed before
abbrev pub HasEnded : RunView → Type 0
HasEnded r = (r.ended ≡ true) × (r.supply ≢ Open)

-- what finalisers of the domain reply stands behind what waited before, and nothing else is added or taken
abbrev pub Adds : SharedView → SharedView → Type 0
Adds old new = AddsRan (sizes_in old.heap.config) old.run new.run

-- one turn was taken: the run went on by a stretch of its own steps, with the same commands, as open as it was
pub record TakesTurn (old new : SharedView) : Type 0 where
  pub heap : new.heap ≡ old.heap
  pub stretch : Stretches (sizes_in old.heap.config) old.run new.run
  pub goes_on : runs.GoesOn old.run new.run
  pub ran : IsHandedIn old.run.supply → Adds old new

-- a turn came so far, as a number
pub record TellsCame (h : SharedHeap) (old new : RunView) (told : ℕ) : Type 0 where
  pub came : Came
  pub told_is : told ≡ came_form came
  pub comes : CameTo h old new came

-- and so did the last of several, from where those before it had come
pub record TellsLast (old new : SharedView) (told : ℕ) : Type 0 where
  pub last : RunView
  pub before : runs.GoesOn old.run last
  pub came : TellsCame old.heap last new.run told

-- so many turns at most were taken: by what the call answers the command is made or waits still, or all were taken, or the last turn came so far. A domain that has no command to make makes none
pub record TakesSome (old new : SharedView) (before read : CamlheapReply) (told : ℕ) : Type 0 where
  pub heap : new.heap ≡ old.heap
  pub further : runs.GoesOn old.run new.run
  pub answers : TakesTurns old new before read told
  pub idle : MayClose old → StaysAlong old new
  pub few : told < 5
  pub last : told ≢ 0 → told ≢ 1 → TellsLast old new told
  pub ended : told ≡ 4 → HasEnded new.run
  pub ran : IsHandedIn old.run.supply → Adds old new

-- the command that C's stands for was taken, and by what the call answers it is made or waits still
pub record Calls (old new : SharedView) (c : CamlheapCommand) (before read : CamlheapReply) (told : ℕ) : Type 0 where
  pub command : model.Command
  pub stands_for : command_as c ≡ Some command
  pub may : MaySubmit old.run command
  pub goes_on : GoesOn old.run.token.view command old new before read told
  pub ran : Adds old new

-- this command was taken, and by what the call answers it is made or waits still
pub record Begins (old new : SharedView) (c : model.Command) (before read : CamlheapReply) (told : ℕ) : Type 0 where
  pub may : MaySubmit old.run c
  pub goes_on : GoesOn old.run.token.view c old new before read told
  pub ran : Adds old new

-- the answer of the command that was handed in last, which is the last reply to a command of the domain in its front, or none yet
pub record Tells (s : SharedView) (before read : CamlheapReply) (told : ℕ) : Type 0 where
  pub answer : told ≡ 0 → (r : Reply) × ((answer_of s.run ≡ Some r) × (read ≡ reply_form r) × IsLastReply s.run r)
  pub none : told ≢ 0 → (told ≡ 1) × IsUnanswered s.run × (read ≡ before)

-- the reply of the finaliser at this place among those that ran and weren't taken yet, the oldest first, or that there are no more
pub record TellsRan (s : SharedView) (place : ℕ) (before read : CamlheapReply) (told : ℕ) : Type 0 where
  pub reply : told ≡ 0 → (r : Reply) × ((slice_get s.run.ran place ≡ Some r) × (read ≡ reply_form r))
  pub none : told ≢ 0 → (told ≡ 26) × (slice_get s.run.ran place ≡ None) × (read ≡ before)

-- the numbers of a heap, as C has them
abbrev pub config_of : CamlheapConfig → Config
config_of c = record { domains = c.domains; minor_words = c.minor_words; pools = c.pools; finals = c.finals; ephes = c.ephes }

-- by what a call answers: which is the first of a heap's numbers that is outside its limit, if any is
abbrev pub TellsOutside : CamlheapConfig → ℕ → Type 0
TellsOutside c told = (k : ℕ) → (told ≡ 32 + k) ↔ (first_outside (config_of c) ≡ Some k)

-- one of the first so many handles holds a domain
abbrev pub HoldsAny : ℕ → List CamlheapDomain → Type 0
HoldsAny count handles = (i : ℕ) × (d : CamlheapDomain) × (i < count) × (slice_get handles i ≡ Some d) × (d.full ≡ true)

-- the handle holds this domain
abbrev pub IsHandleOf : SharedView → CamlheapDomain → Type 0
IsHandleOf s d = (d.full ≡ true) × (d.value ≡ s)

-- the first handles hold these domains, in order, and the others are as they were
abbrev pub Fills : List SharedView → List CamlheapDomain → List CamlheapDomain → Type 0
Fills [] old new = new ≡ old
Fills (s ∷ views) (d ∷ old) (e ∷ new) = IsHandleOf s e × Fills views old new
Fills (s ∷ views) _ _ = ⊥

-- a heap of this size was started, and the first handles hold its domains, in order, before the first command of each
pub record Starts (c : CamlheapConfig) (old new : List CamlheapDomain) : Type 0 where
  pub heap : SharedHeap
  pub size : heap.config ≡ config_of c
  pub fills : Fills (shared_by heap (opened_runs heap)) old new

-- why a command of C's isn't taken, as a number: it stands for none, or this is why the domain doesn't take the one that it stands for
abbrev pub RefusesAs : SharedView → Option model.Command → ℕ → Type 0
RefusesAs s None told = told ≡ 19
RefusesAs s (Some command) told = (why : Refused) × ((told ≡ refused_form why) × IsRefusedBy s command why)

-- why a domain can't be closed, as a number
pub record RefusesClose (s : SharedView) (told : ℕ) : Type 0 where
  pub why : Refused
  pub told_is : told ≡ refused_form why
  pub unclosed : IsUnclosedBy s why

-- what a call of its own for a command leaves: a handle that holds none is told as such, and nothing else is; the command was begun, or it isn't taken, and then nothing has changed
pub record CallsDirectly (old new : CamlheapDomain) (c : model.Command) (before read : CamlheapReply) (told : ℕ) : Type 0 where
  pub kept : new.full ≡ old.full
  pub none : (old.full ≡ false) ↔ (told ≡ 16)
  pub begun : old.full ≡ true → told < 17 → Begins old.value new.value c before read told
  pub few : old.full ≡ true → told < 17 → told < 2
  pub why : old.full ≡ true → 17 ≤ told → RefusesAs old.value (Some c) told
  pub same : old.full ≡ true → 17 ≤ told → (new.value ≡ old.value) × (read ≡ before)
  pub unread : old.full ≡ false → read ≡ before

-- what a call for a command of C's leaves: a handle that holds none is told as such, and nothing else is; the command was taken, or it isn't, and then nothing has changed
pub record CallsAsked (old new : CamlheapDomain) (c : CamlheapCommand) (before read : CamlheapReply) (told : ℕ) : Type 0 where
  pub kept : new.full ≡ old.full
  pub none : (old.full ≡ false) ↔ (told ≡ 16)
  pub called : old.full ≡ true → told < 17 → Calls old.value new.value c before read told
  pub why : old.full ≡ true → 17 ≤ told → RefusesAs old.value (command_as c) told
  pub refused : old.full ≡ true → 17 ≤ told → (new.value ≡ old.value) × (read ≡ before)
  pub few : old.full ≡ true → told < 17 → told < 5
  pub lasts : old.full ≡ true → told ≢ 4
  pub unread : old.full ≡ false → read ≡ before

-- what a look at a register leaves: where there is such a register C reads what it holds, and the domain has looked; else nothing has changed
pub record ShowsRegister (old new : CamlheapDomain) (register : ℕ) (before read : CamlheapReply) (told : ℕ) : Type 0 where
  pub kept : new.full ≡ old.full
  pub none : (old.full ≡ false) ↔ (told ≡ 16)
  pub shown : old.full ≡ true → told ≡ 0 → read ≡ reply_form (shown_by old.value register)
  pub missing : old.full ≡ true → (told ≡ 23) ↔ (16 ≤ register)
  pub there : old.full ≡ true → (told ≡ 0) ↔ (register < 16)
  pub heap : old.full ≡ true → new.value.heap ≡ old.value.heap
  pub looked : old.full ≡ true → told ≡ 0 → HasLooked old.value.run new.value.run
  pub same : old.full ≡ true → told ≢ 0 → (new.value ≡ old.value) × (read ≡ before)
  pub unread : old.full ≡ false → read ≡ before
