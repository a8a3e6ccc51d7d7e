-- Registrations of finalisers over a history: what each entry registers, and what it runs.
use Rattle.std.specs.Prelude.{ℕ, ◌+◌, ◌≤◌, Bool, false, cond, ◌==◌, List, [], ◌∷◌, ◌++◌, map, take, count_by, option_map, option_to_list}
use Rattle.model_core.specs.declared.command.Command as declared_command
use Rattle.model_core.specs.declared.command.Command.TheVariants.{Finalise, FinaliseLast}
use Rattle.model_core.specs.declared.entry.Entry.{Entry}
use Rattle.model_core.specs.declared.entry.Entry.TheVariants.{Command, Ran}
use Rattle.model_core.specs.declared.state.Pending.{Pending}
use Rattle.model_core.specs.declared.state.Pending.TheVariants.{Fin, Last}
use Rattle.model_core.specs.declared.state.DomainState.{DomainState}
use Rattle.model_core.specs.declared.state.Sizes.{Sizes}
use Rattle.model_core.specs.declared.state.State.{State}
use Rattle.model_core.specs.Domains.{domain_at, label_in, opening}
use Rattle.model_core.specs.Entries.{queued_final, queued_last, next}
use Rattle.model_core.specs.History.{state_after, Legal}

-- what a command registers, as it would stand in a queue
abbrev pub registered_by : State → ℕ → declared_command.Command → List Pending
registered_by s d (Finalise item number dst) = option_to_list (option_map (λ l. Fin number l dst) (label_in s d item))
registered_by s d (FinaliseLast item number) = option_to_list (option_map (λ l. Last number) (label_in s d item))
registered_by s d _ = []

-- what an entry registers in domain k
abbrev pub registered : ℕ → State → Entry → List Pending
registered k s (Command d c false) = cond (d == k) (registered_by s d c) []
registered k s _ = []

-- what an entry runs in domain k
abbrev pub ran : ℕ → State → Entry → List Pending
ran k s (Ran d) = cond (d == k) (take 1 (domain_at s d).queue) []
ran k s _ = []

-- all that a history registers in domain k, and all that it runs there
abbrev pub all_registered : ℕ → State → List Entry → List Pending
all_registered k s [] = []
all_registered k s (e ∷ h) = registered k s e ++ all_registered k (next s e) h

abbrev pub all_ran : ℕ → State → List Entry → List Pending
all_ran k s [] = []
all_ran k s (e ∷ h) = ran k s e ++ all_ran k (next s e) h

-- the registrations of a domain that have not left their list, and those that wait in its queue
abbrev pub left_over : DomainState → List Pending
left_over x = map queued_final x.finals ++ map queued_last x.lasts ++ x.queue

-- of the registrations that pass any test there are never more in the lists, in the queue and among those that have run
-- than were made: so each leaves its list at most once, and runs at most once
abbrev pub RegistrationsRunOnce : Type 0
RegistrationsRunOnce = (z : Sizes) (h : List Entry) (k : ℕ) (test : Pending → Bool) → Legal z h
    → count_by test (left_over (domain_at (state_after (opening z) h) k)) + count_by test (all_ran k (opening z) h)
    ≤ count_by test (all_registered k (opening z) h)
