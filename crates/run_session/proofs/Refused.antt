-- What the clauses of a session refuse.
use Rattle.std.proofs.Common.{◌≡◌, ◌∙◌, ◌++◌, ◌∷◌, [], List, ap, drop, slice_get, sym, append_assoc, Some, None, false}
use Rattle.model_core.specs.declared.command.Command as model
use Rattle.model_core.specs.declared.reply.Reply.{Reply}
use Rattle.heap_rule.specs.Limits.{sizes_in}
use Rattle.run_turns.specs.Kept.{finalised}
use Rattle.run_turns.specs.Runs.{RunView, submitted}
use Rattle.run_turns.proofs.Adding.{performed_tells, taken_first}
use Rattle.run_session.specs.Sessions.{PerformsIn, SessionView, ran_since, taken}

-- a command that was handed in is the next: a body of `submit` that drops it is refused
pub a_submitted_command_is_next : (old new : RunView) (c : model.Command) → new ≡ submitted old c → slice_get new.commands new.next ≡ Some c
a_submitted_command_is_next old new c is = ap (λ (r : RunView). slice_get r.commands r.next) is

-- what was taken and what waits is all that the history tells of finalisers, in order: a body of `perform` that drops a reply, tells it twice, or moves it is refused
pub no_reply_is_lost : (old new : SessionView) (c : model.Command) (r : Reply) (took : List Reply) → PerformsIn old new c r → finalised (sizes_in old.config) old.front 0 ≡ took ++ old.ran → finalised (sizes_in old.config) new.front 0 ≡ took ++ new.ran
no_reply_is_lost old new c r took p told =
    performed_tells (sizes_in old.config) 0 old.front new.front c (ran_since old new) r p.performed
    ∙ (ap (λ (rs : List Reply). rs ++ ran_since old new) told
    ∙ (append_assoc took old.ran (ran_since old new) ∙ ap (λ (rs : List Reply). took ++ rs) (sym p.waits)))

-- and where the oldest is taken: a body of `take_ran` that takes another, or two, is refused
pub the_oldest_is_taken : (s : SessionView) (took : List Reply) (r : Reply) → finalised (sizes_in s.config) s.front 0 ≡ took ++ s.ran → Some r ≡ slice_get s.ran 0 → finalised (sizes_in s.config) (taken s).front 0 ≡ (took ++ r ∷ []) ++ (taken s).ran
the_oldest_is_taken s took r told first = taken_first (finalised (sizes_in s.config) s.front 0) took s.ran r told first
