-- A trace that has ended makes no entry any more.
use Rattle.std.proofs.Common.{◌≡◌, ℕ, Bool, true, false, cond, List, [], ◌∷◌, ◌++◌, refl, ap, ◌∙◌}
use Rattle.model_core.specs.declared.entry.Entry.{Entry}
use Rattle.model_core.specs.declared.entry.Entry.TheVariants.{Command as CommandOf, End, Cut, Queue, Seal, Wipe, Last as LastOf, Collected, Done, Ran}
use Rattle.model_core.specs.declared.state.State.{State}
use Rattle.model_core.specs.Domains.{domain_at}
use Rattle.model_core.specs.Entries.{next}
use Rattle.model_core.specs.History.{LegalFrom, commands, command_of, is_entry_of, state_after}
use Rattle.model_core.proofs.Commands.FrameLemmas.{keeps_next}
use Rattle.model_core.proofs.Histories.EndedLemmas.{other_then}
use Rattle.model_traces.proofs.OfScheduled.Sections.{end_ends as set_ends}

no_command : (e : Entry) (d : ℕ) → is_entry_of d e ≡ false → command_of d e ≡ []
no_command (CommandOf k c full) d other = ap (λ (b : Bool). cond b (c ∷ []) []) other
no_command (End k) d other = refl
no_command (Ran k) d other = refl
no_command Cut d other = refl
no_command (Queue k places) d other = refl
no_command Seal d other = refl
no_command (Wipe l keys) d other = refl
no_command (LastOf k place) d other = refl
no_command Collected d other = refl
no_command Done d other = refl

pub none_behind : (s : State) (h : List Entry) (d : ℕ) → LegalFrom s h → (domain_at s d).ended ≡ true → commands h d ≡ []
none_behind s [] d legal over = refl
none_behind s (e ∷ h) d legal over =
    let other = other_then s e d legal.0 over in
    (λ i. no_command e d other i ++ none_behind (next s e) h d legal.1 ((keeps_next s e d other).ended ∙ over) i)

pub end_ends : (s : State) (d : ℕ) → (domain_at (next s (End d)) d).ended ≡ true
end_ends s d = set_ends s.domains d
