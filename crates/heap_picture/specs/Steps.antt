-- The states through which a script is played, one function for each step.
use Rattle.std.specs.Prelude.{ℕ, zero, suc, cond, ◌==◌, false, List, length, min, slice_get, fold, Option, Some, None}
use Rattle.model_core.specs.declared.label.Label.{Label}
use Rattle.model_core.specs.declared.command.Command as declared_command
use Rattle.model_core.specs.declared.command.Command.TheVariants.{Major, FullMajor}
use Rattle.model_core.specs.declared.entry.Entry.TheVariants.{Command, Cut, Queue, Seal, Wipe, Last, Collected, Done, Ran}
use Rattle.model_core.specs.declared.state.State.{State}
use Rattle.model_core.specs.Domains.{domain_at}
use Rattle.model_core.specs.Entries.{next, is_some_and}
use Rattle.heap_picture.specs.Fates.{Reached, reached_in, fate_of, may_go}
use Rattle.heap_picture.specs.Takes.{final_places, keys_of}

-- the dead `finalise` of domain 0 are queued
abbrev pub queued_at : List ℕ → State → State
queued_at places s = cond (length places == 0) s (next s (Queue 0 places))

abbrev pub with_finals_queued : State → State
with_finals_queued s = queued_at (final_places (reached_in s) (domain_at s 0).finals) s

-- the keys of an ephemeron are emptied, and those of the first n blocks of the graph
abbrev pub wiped_where : Option (Label × List ℕ) → State → State
wiped_where None s = s
wiped_where (Some (l, places)) s = cond (length places == 0) s (next s (Wipe l places))

abbrev pub wiped_at : Reached → State → ℕ → State
wiped_at r s place = wiped_where (keys_of r (slice_get s.graph place)) s

abbrev pub wiped_upto : Reached → State → ℕ → State
wiped_upto r s zero = s
wiped_upto r s (suc n) = wiped_at r (wiped_upto r s n) n

-- a `finalise_last` of a block that is gone is queued, and the first n of them, the newest first
abbrev pub last_queued_at : Reached → State → ℕ → State
last_queued_at r s place = cond (is_some_and (λ f. may_go (fate_of r f.label)) (slice_get (domain_at s 0).lasts place)) (next s (Last 0 place)) s

abbrev pub lasts_queued_from : Reached → State → ℕ → State
lasts_queued_from r s zero = s
lasts_queued_from r s (suc n) = lasts_queued_from r (last_queued_at r s n) n

abbrev pub with_lasts_queued : Reached → State → State
with_lasts_queued r s = lasts_queued_from r s (min (length (domain_at s 0).lasts) 4294967295)

-- a complete collection
abbrev pub sealed : State → State
sealed s = next (with_finals_queued (next s Cut)) Seal

abbrev pub taken : State → State
taken s = with_lasts_queued (reached_in s) (wiped_upto (reached_in s) s (length s.graph))

unfoldable pub collected : State → State
collected s = next (taken (sealed s)) Collected

-- the queued finalisers run
abbrev pub ran_times : State → ℕ → State
ran_times s zero = s
ran_times s (suc n) = next (ran_times s n) (Ran 0)

abbrev pub with_queue_run : State → State
with_queue_run s = ran_times s (length (domain_at s 0).queue)

-- a command with the collection that it asks for
abbrev pub asked : State → declared_command.Command → State
asked s FullMajor = next (next (collected s) (Command 0 FullMajor false)) Done
asked s Major = next (with_queue_run (next (collected s) Done)) (Command 0 Major false)
asked s c = next s (Command 0 c false)

-- a command after all queued finalisers
abbrev pub played_one : State → declared_command.Command → State
played_one s c = asked (with_queue_run s) c

-- the state that commands leave
abbrev pub played : State → List declared_command.Command → State
played s cs = fold played_one s cs
