-- A domain that has ended makes no entry, and stays so.
use Rattle.std.proofs.Common.{◌≡◌, ℕ, Bool, true, false, List, [], ◌∷◌, refl, sym, ◌∙◌, subst, eqb-true}
use Rattle.model_core.specs.declared.entry.Entry.{Entry}
use Rattle.model_core.specs.declared.entry.Entry.TheVariants.{Command as CommandOf, End, Cut, Queue, Seal, Wipe, Last as LastOf, Collected, Done, Ran}
use Rattle.model_core.specs.declared.state.State.{State}
use Rattle.model_core.specs.Domains.{domain_at}
use Rattle.model_core.specs.Entries.{Allowed, next}
use Rattle.model_core.specs.History.{LegalFrom, is_entry_of, state_after}
use Rattle.model_core.proofs.Commands.FrameLemmas.{keeps_next}

-- a domain that makes an entry runs
pub own_runs : (s : State) (e : Entry) (d : ℕ) → Allowed s e → is_entry_of d e ≡ true → (domain_at s d).ended ≡ false
own_runs s (CommandOf k c full) d allowed own = subst (λ (n : ℕ). (domain_at s n).ended ≡ false) (eqb-true k d own) allowed.running
own_runs s (End k) d allowed own = subst (λ (n : ℕ). (domain_at s n).ended ≡ false) (eqb-true k d own) allowed.running
own_runs s (Ran k) d allowed own = subst (λ (n : ℕ). (domain_at s n).ended ≡ false) (eqb-true k d own) allowed.running
own_runs s Cut d allowed own = cc
own_runs s (Queue k places) d allowed own = cc
own_runs s Seal d allowed own = cc
own_runs s (Wipe l keys) d allowed own = cc
own_runs s (LastOf k place) d allowed own = cc
own_runs s Collected d allowed own = cc
own_runs s Done d allowed own = cc

pub other_then : (s : State) (e : Entry) (d : ℕ) → Allowed s e → (domain_at s d).ended ≡ true → is_entry_of d e ≡ false
other_then s e d allowed over = go (is_entry_of d e) refl
  where
    go : (b : Bool) → is_entry_of d e ≡ b → b ≡ false
    go true own = let clash : true ≡ false = sym over ∙ own_runs s e d allowed own in cc
    go false other = refl

pub ended_stays : (s : State) (h : List Entry) (d : ℕ) → LegalFrom s h → (domain_at s d).ended ≡ true → (domain_at (state_after s h) d).ended ≡ true
ended_stays s [] d legal over = over
ended_stays s (e ∷ h) d legal over = ended_stays (next s e) h d legal.1 ((keeps_next s e d (other_then s e d legal.0 over)).ended ∙ over)

-- who runs later runs now
pub running_before : (s : State) (h : List Entry) (d : ℕ) → LegalFrom s h → (domain_at (state_after s h) d).ended ≡ false → (domain_at s d).ended ≡ false
running_before s h d legal later = go (domain_at s d).ended refl
  where
    go : (b : Bool) → (domain_at s d).ended ≡ b → b ≡ false
    go true over = let clash : true ≡ false = sym (ended_stays s h d legal over) ∙ later in cc
    go false runs = refl
