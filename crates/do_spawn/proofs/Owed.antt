-- What a domain owes once it has made the entry of a command.
use Rattle.std.proofs.Common.{◌≡◌, ◌≢◌, ◌∙◌, ℕ, zero, suc, Bool, false, List, [], ◌∷◌, ◌++◌, length, get_or, set, refl, sym, ap, subst}
use Rattle.model_core.specs.declared.command.Command as model
use Rattle.model_core.specs.declared.command.Command.TheVariants.{Spawn, Argument, PutResult, Join, FullMajor}
use Rattle.model_core.specs.declared.entry.Entry.{Entry}
use Rattle.model_core.specs.declared.entry.Entry.TheVariants.{Command as CommandOf}
use Rattle.model_core.specs.declared.reply.Applied.{Applied}
use Rattle.model_core.specs.declared.state.DomainState.{DomainState}
use Rattle.model_core.specs.declared.state.Pending.{Pending}
use Rattle.model_core.specs.declared.state.Sizes.{Sizes}
use Rattle.model_core.specs.declared.state.State.{State}
use Rattle.model_core.specs.Commands.{FitsMode, command_outcome}
use Rattle.model_core.specs.Domains.{domain_at, no_domain, opening, with_domain}
use Rattle.model_core.specs.Entries.{Allowed, next}
use Rattle.model_core.specs.Fronts.{Answers}
use Rattle.model_core.specs.History.{LegalFrom, state_after}
use Rattle.model_core.proofs.Commands.FrameLemmas.{frame_command, part_set}
use Rattle.model_core.proofs.Histories.HistoryLemmas.{state_after-push}

-- the last entry of a legal history was allowed
last_allowed : (s : State) (h : List Entry) (e : Entry) → LegalFrom s (h ++ e ∷ []) → Allowed (state_after s h) e
last_allowed s [] e legal = legal.0
last_allowed s (x ∷ h) e legal = last_allowed (next s x) h e legal.1

-- each command but `full_major` stands where no finaliser waits
unqueued_at : (s : State) (d : ℕ) (c : model.Command) → c ≢ FullMajor → FitsMode s d c → (domain_at s d).queue ≡ []
unqueued_at s d FullMajor other fits = absurd (other refl)
unqueued_at s d (Spawn section item) other fits = absurd fits
unqueued_at s d (Argument dst) other fits = absurd fits
unqueued_at s d (PutResult item) other fits = absurd fits
unqueued_at s d (Join dst section) other fits = absurd fits
unqueued_at s d c other fits = fits.1

-- after its own entry of a command a domain owes what its queue holds
due_set : (xs : List DomainState) (d : ℕ) → (get_or (set xs d (record (get_or xs d no_domain) { fresh = false; due = length (get_or xs d no_domain).queue })) d no_domain).due ≡ length (get_or xs d no_domain).queue
due_set [] d = refl
due_set (x ∷ xs) zero = refl
due_set (x ∷ xs) (suc d) = due_set xs d

-- so it owes none after another command than `full_major`
pub command_due : (z : Sizes) (d : ℕ) (old new : List Entry) (c : model.Command) (full : Bool) (a : Applied) → Answers z d old new (CommandOf d c full) a → c ≢ FullMajor → (domain_at (state_after (opening z) new) d).due ≡ 0
command_due z d old new c full a x other =
    let before : List Entry = old ++ x.between in
    let s : State = state_after (opening z) before in
    let e : Entry = CommandOf d c full in
    let t : State = (command_outcome s d c full).state in
    let owed : DomainState = record (domain_at t d) { fresh = false; due = length (domain_at t d).queue } in
    let here : state_after (opening z) new ≡ next s e = ap (state_after (opening z)) x.appends ∙ state_after-push (opening z) before e in
    let allowed : Allowed s e = last_allowed (opening z) before e (subst (LegalFrom (opening z)) x.appends x.legal) in
    let none : (domain_at s d).queue ≡ [] = unqueued_at s d c other allowed.fits in
    let same : (domain_at (with_domain t d owed) d).queue ≡ (domain_at t d).queue = part_set (λ y. y.queue) t.domains d owed refl d in
    ap (λ (u : State). (domain_at u d).due) here ∙ (due_set t.domains d ∙ ap (λ (q : List Pending). length q) (sym same ∙ ((frame_command s d c full).queue ∙ none)))
