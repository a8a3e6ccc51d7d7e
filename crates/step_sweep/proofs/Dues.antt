-- How many finalisers a domain owes before its next `full_major`, which only its own entries change.
use Rattle.std.proofs.Common.{◌≡◌, ◌≢◌, ℕ, false, List, [], ◌∷◌, Option, Some, None, length, true, refl, ap, ◌∙◌, get_or-set_other}
use Rattle.model_core.specs.declared.entry.Entry.{Entry}
use Rattle.model_core.specs.declared.entry.Entry.TheVariants.{Command, End, Cut, Queue, Seal, Wipe, Last, Collected, Done, Ran}
use Rattle.model_core.specs.declared.graph.Node.{Node}
use Rattle.model_core.specs.declared.label.Label.{Label}
use Rattle.model_core.specs.declared.state.DomainState.{DomainState}
use Rattle.model_core.specs.declared.state.Pending.{Pending}
use Rattle.model_core.specs.declared.state.Pending.TheVariants.{Fin as FinPending, Last as LastPending}
use Rattle.model_core.specs.declared.state.State.{State}
use Rattle.model_core.specs.Domains.{domain_at, no_domain, with_domain}
use Rattle.model_core.specs.Entries.{next, wiped, with_wiped, without_first, after_run}
use Rattle.model_core.specs.Fronts.{IsFrontOf, NoneOf}
use Rattle.model_core.specs.Graph.{node_at}
use Rattle.model_core.specs.History.{is_entry_of, state_after}
use Rattle.model_core.proofs.Commands.FrameLemmas.{frame_command, not_same, part_map, part_set}
use Rattle.model_core.proofs.Histories.FrontLemmas.{none_cons}
use Rattle.model_core.proofs.Histories.HistoryLemmas.{state_after-append}

-- how many finalisers a domain owes
abbrev pub due_at : State → ℕ → ℕ
due_at s d = (domain_at s d).due

due_wiped : (s : State) (l : Label) (o : Option Node) (d : ℕ) → due_at (with_wiped s l o) d ≡ due_at s d
due_wiped s l None d = refl
due_wiped s l (Some n) d = refl

due_run : (s : State) (j : ℕ) (queue : List Pending) (d : ℕ) → d ≢ j → due_at (after_run s j queue) d ≡ due_at s d
due_run s j [] d away = refl
due_run s j (FinPending number l r ∷ rest) d away =
    let ran : State = with_domain s j (without_first (domain_at s j) rest) in
    ap (λ (x : DomainState). x.due) (get_or-set_other ran.domains j d _ no_domain away ∙ get_or-set_other s.domains j d _ no_domain away)
due_run s j (LastPending number ∷ rest) d away = ap (λ (x : DomainState). x.due) (get_or-set_other s.domains j d _ no_domain away)

due_next : (s : State) (e : Entry) (d : ℕ) → is_entry_of d e ≡ false → due_at (next s e) d ≡ due_at s d
due_next s (Command j c full) d other = ap (λ (x : DomainState). x.due) ((frame_command s j c full).elsewhere d (not_same j d other))
due_next s (End j) d other = part_set (λ x. x.due) s.domains j _ refl d
due_next s Cut d other = part_map (λ x. x.due) (λ x. record x { low = length x.finals }) (λ x. refl) s.domains d
due_next s (Queue j places) d other = part_set (λ x. x.due) s.domains j _ refl d
due_next s Seal d other = part_map (λ x. x.due) (λ x. record x { low = length x.lasts }) (λ x. refl) s.domains d
due_next s (Wipe l keys) d other = due_wiped s l (wiped keys (node_at s.graph l)) d
due_next s (Last j place) d other = part_set (λ x. x.due) s.domains j _ refl d
due_next s Collected d other = part_map (λ x. x.due) (λ x. record x { fresh = true }) (λ x. refl) s.domains d
due_next s Done d other = refl
due_next s (Ran j) d other = due_run s j (domain_at s j).queue d (not_same j d other)

due_after : (s : State) (h : List Entry) (d : ℕ) → NoneOf d h → due_at (state_after s h) d ≡ due_at s d
due_after s [] d none = refl
due_after s (e ∷ h) d none = let parts = none_cons d e h none in due_after (next s e) h d parts.1 ∙ due_next s e d parts.0

-- what a front of domain d tells of it the history does too
pub due_front : (s : State) (d : ℕ) (h front : List Entry) → IsFrontOf d h front → due_at (state_after s h) d ≡ due_at (state_after s front) d
due_front s d h front f =
    let same : state_after s h ≡ state_after (state_after s front) f.rest = ap (state_after s) f.appends ∙ state_after-append s front f.rest in
    ap (λ (t : State). due_at t d) same ∙ due_after (state_after s front) f.rest d f.others
