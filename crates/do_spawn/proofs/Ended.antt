-- A domain whose trace has ended makes no entry.
use Rattle.std.proofs.Common.{◌≡◌, ◌∙◌, ◌∷◌, ◌≤◌, ℕ, zero, suc, Bool, true, false, true≢false, List, [], arith, eqb-true, get_or, refl, replicate, sym, subst}
use Rattle.model_core.specs.declared.entry.Entry.{Entry}
use Rattle.model_core.specs.declared.entry.Entry.TheVariants.{Command as CommandOf, End, Ran, Cut, Queue, Seal, Wipe, Last, Collected, Done}
use Rattle.model_core.specs.declared.state.State.{State}
use Rattle.model_core.specs.Domains.{domain_at, no_domain, opening_domain}
use Rattle.model_core.specs.Entries.{Allowed, next}
use Rattle.model_core.specs.Fronts.{NoneOf}
use Rattle.model_core.specs.History.{LegalFrom, is_entry_of}
use Rattle.model_core.proofs.Commands.FrameLemmas.{keeps_next}

-- a domain makes an entry only while its trace hasn't ended
maker_runs : (s : State) (e : Entry) (d : ℕ) → Allowed s e → is_entry_of d e ≡ true → (domain_at s d).ended ≡ false
maker_runs s (CommandOf k c full) d allowed own = subst (λ j. (domain_at s j).ended ≡ false) (eqb-true k d own) allowed.running
maker_runs s (End k) d allowed own = subst (λ j. (domain_at s j).ended ≡ false) (eqb-true k d own) allowed.running
maker_runs s (Ran k) d allowed own = subst (λ j. (domain_at s j).ended ≡ false) (eqb-true k d own) allowed.running
maker_runs s Cut d allowed own = cc
maker_runs s (Queue k places) d allowed own = cc
maker_runs s Seal d allowed own = cc
maker_runs s (Wipe l keys) d allowed own = cc
maker_runs s (Last k place) d allowed own = cc
maker_runs s Collected d allowed own = cc
maker_runs s Done d allowed own = cc

-- so once its trace has ended it makes none
not_own : (s : State) (e : Entry) (d : ℕ) → Allowed s e → (domain_at s d).ended ≡ true → is_entry_of d e ≡ false
not_own s e d allowed over = go (is_entry_of d e) refl where
  go : (b : Bool) → is_entry_of d e ≡ b → b ≡ false
  go true own = absurd (true≢false (sym over ∙ maker_runs s e d allowed own))
  go false own = refl

pub none_of_ended : (s : State) (h : List Entry) (d : ℕ) → (domain_at s d).ended ≡ true → LegalFrom s h → NoneOf d h
none_of_ended s [] d over legal = refl
none_of_ended s (e ∷ h) d over legal =
    let other : is_entry_of d e ≡ false = not_own s e d legal.0 over in
    rw other (none_of_ended (next s e) h d ((keeps_next s e d other).ended ∙ over) legal.1)

-- and a number that is no domain's has
pub none_there : (n d : ℕ) → n ≤ d → (get_or (replicate n opening_domain) d no_domain).ended ≡ true
none_there zero zero above = refl
none_there zero (suc d) above = refl
none_there (suc n) zero above = absurd (omega (arith, above))
none_there (suc n) (suc d) above = none_there n d (omega (arith, above))
