-- Plays that follow each other.
use Rattle.std.proofs.Common.{◌≡◌, ℕ, List, [], ◌∷◌, ◌++◌, refl, ap, subst, sym, ◌∙◌, append-nil, suc, ◌+◌, add-one, ◌<◌, length, take, drop, drop-cons, get_or, Result, Ok, Err, OnOk}
use Rattle.std.proofs.lemmas.List.{take_more}
use Rattle.model_core.specs.declared.command.Command.{Command}
use Rattle.model_core.specs.declared.entry.Entry.{Entry}
use Rattle.model_core.specs.declared.state.State.{State}
use Rattle.model_core.specs.Entries.{Allowed, next}
use Rattle.model_core.specs.History.{command_of, commands, state_after, LegalFrom}
use Rattle.model_core.proofs.Histories.HistoryLemmas.{state_after-append, legal_append, commands-append}
use Rattle.heap_picture.specs.Fates.{Reached}
use Rattle.heap_picture.specs.Steps.{last_queued_at, lasts_queued_from, played_one, played}
use Rattle.heap_picture.specs.Plays.{Plays}

-- nothing is played
pub plays_nothing : (s : State) → Plays s s []
plays_nothing s = record { entries = []; legal = tt; leads = refl; commands_are = refl }

-- one entry
pub plays_entry : (s t : State) (e : Entry) → Allowed s e → t ≡ next s e → Plays s t (command_of 0 e)
plays_entry s t e allowed leads = record {
  entries = e ∷ [];
  legal = (allowed, tt);
  leads = leads;
  commands_are = append-nil (command_of 0 e);
}

-- one play after another
pub plays_both : (s t u : State) (cs ds : List Command) → Plays s t cs → Plays t u ds → Plays s u (cs ++ ds)
plays_both s t u cs ds first second = record {
  entries = first.entries ++ second.entries;
  legal = legal_append s first.entries second.entries first.legal (subst (λ x. LegalFrom x second.entries) first.leads second.legal);
  leads = second.leads ∙ ap (λ x. state_after x second.entries) first.leads ∙ sym (state_after-append s first.entries second.entries);
  commands_are = commands-append first.entries second.entries 0 ∙ ap (λ x. x ++ commands second.entries 0) first.commands_are ∙ ap (λ x. cs ++ x) second.commands_are;
}

-- a play after another, which may fail
pub plays_then : {T E : Type 0} (r : Result T E) (s t u : State) (cs ds : List Command) → Plays s t cs → OnOk r (Plays t u ds) → OnOk r (Plays s u (cs ++ ds))
plays_then (Ok x) s t u cs ds first second = plays_both s t u cs ds first second
plays_then (Err e) s t u cs ds first second = tt

-- one more command of a list
pub plays_more : (s t u : State) (cs : List Command) (i : ℕ) (d : Command) → i < length cs → Plays s t (take i cs) → Plays t u (get_or cs i d ∷ []) → Plays s u (take (i + 1) cs)
plays_more s t u cs i d within first second = rw (take_more cs i d within) (plays_both s t u (take i cs) (get_or cs i d ∷ []) first second)

-- the newest of the first registrations is looked at
pub lasts_step : (r : Reached) (s t : State) (n k : ℕ) → n ≡ suc k → t ≡ last_queued_at r s k → lasts_queued_from r t k ≡ lasts_queued_from r s n
lasts_step r s t n k is step = rw is (ap (λ x. lasts_queued_from r x k) step)

-- the first of the commands is played
pub played_step : (s t : State) (cs : List Command) (i : ℕ) (d : Command) → i < length cs → t ≡ played_one s (get_or cs i d) → played t (drop (i + 1) cs) ≡ played s (drop i cs)
played_step s t cs i d within step = rw (add-one i, drop-cons cs i d within) (ap (λ x. played x (drop (suc i) cs)) step)
