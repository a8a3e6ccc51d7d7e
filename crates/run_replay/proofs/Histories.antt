-- Histories: domains that have ended, entries that are quiet, and what entries of others leave.
use Rattle.std.proofs.Common.{◌≡◌, ◌∙◌, ◌++◌, ◌∷◌, ◌||◌, ◌≤◌, ℕ, Bool, true, false, true≢false, IsTrue, List, [], not, ap, append-nil, eqb-true, eq-eqb, get_or-set_same, refl, sym, subst}
use Rattle.std.specs.List.{list_all, list_any}
use Rattle.model_core.specs.declared.entry.Entry.{Entry}
use Rattle.model_core.specs.declared.entry.Entry.TheVariants.{Command as CommandOf, End, Cut, Queue, Seal, Wipe, Last as LastOf, Collected, Done, Ran}
use Rattle.model_core.specs.declared.reply.Reply.{Reply}
use Rattle.model_core.specs.declared.state.DomainState.{DomainState}
use Rattle.model_core.specs.declared.state.Sizes.{Sizes}
use Rattle.model_core.specs.declared.state.State.{State}
use Rattle.model_core.specs.Domains.{domain_at, no_domain, opening}
use Rattle.model_core.specs.Entries.{Allowed, ended, next}
use Rattle.model_core.specs.Fronts.{AreNotControls, IsFrontOf, NoneOf, is_control}
use Rattle.model_core.specs.History.{Legal, LegalFrom, is_entry_of, replies, state_after}
use Rattle.model_core.proofs.Commands.FrameLemmas.{inside_running, keeps_next}
use Rattle.model_core.proofs.Graphs.GraphLemmas.{and_parts}
use Rattle.model_core.proofs.Histories.FrontLemmas.{none_cons}
use Rattle.model_core.proofs.Histories.HistoryLemmas.{replies_from-append, replies_from-others, state_after-append}
use Rattle.do_spawn.proofs.Ended.{none_of_ended, none_there}
use Rattle.run_turns.specs.Runs.{is_end_of}
use Rattle.text_script.specs.Schedule.Drive.Together.{is_quiet}

-- entries of others leave it as it is whether a trace has ended
pub ended_others : (s : State) (h : List Entry) (d : ℕ) → NoneOf d h → (domain_at (state_after s h) d).ended ≡ (domain_at s d).ended
ended_others s [] d none = refl
ended_others s (e ∷ h) d none = let parts = none_cons d e h none in ended_others (next s e) h d parts.1 ∙ (keeps_next s e d parts.0).ended

-- the entry that ends it
over_next : (s : State) (e : Entry) (d : ℕ) → Allowed s e → is_end_of d e ≡ true → (domain_at (next s e) d).ended ≡ true
over_next s (End k) d allowed own = subst (λ j. (domain_at (next s (End k)) j).ended ≡ true) (eqb-true k d own)
    (ap (λ (x : DomainState). x.ended) (get_or-set_same s.domains k (ended (domain_at s k)) no_domain (inside_running s.domains k allowed.running)))
over_next s (CommandOf k c full) d allowed own = absurd (true≢false (sym own))
over_next s (Ran k) d allowed own = absurd (true≢false (sym own))
over_next s Cut d allowed own = absurd (true≢false (sym own))
over_next s (Queue k places) d allowed own = absurd (true≢false (sym own))
over_next s Seal d allowed own = absurd (true≢false (sym own))
over_next s (Wipe l keys) d allowed own = absurd (true≢false (sym own))
over_next s (LastOf k place) d allowed own = absurd (true≢false (sym own))
over_next s Collected d allowed own = absurd (true≢false (sym own))
over_next s Done d allowed own = absurd (true≢false (sym own))

ended_from : (s : State) (h : List Entry) (d : ℕ) → LegalFrom s h → IsTrue (list_any (is_end_of d) h) → (domain_at (state_after s h) d).ended ≡ true
ended_from s [] d legal some = cc
ended_from s (e ∷ h) d legal some = go (is_end_of d e) refl some (ended_from (next s e) h d legal.1) where
  go : (b : Bool) → is_end_of d e ≡ b → IsTrue (b || list_any (is_end_of d) h) → (IsTrue (list_any (is_end_of d) h) → (domain_at (state_after (next s e) h) d).ended ≡ true) → (domain_at (state_after (next s e) h) d).ended ≡ true
  go true own any later =
      let over : (domain_at (next s e) d).ended ≡ true = over_next s e d legal.0 own in
      ended_others (next s e) h d (none_of_ended (next s e) h d over legal.1) ∙ over
  go false own any later = later any

pub ended_in : (z : Sizes) (h : List Entry) (d : ℕ) → Legal z h → IsTrue (list_any (is_end_of d) h) → (domain_at (state_after (opening z) h) d).ended ≡ true
ended_in z h d legal some = ended_from (opening z) h d legal some

-- a number that is no domain's makes no entry
pub none_beyond : (z : Sizes) (h : List Entry) (d : ℕ) → z.domains ≤ d → Legal z h → NoneOf d h
none_beyond z h d above legal = none_of_ended (opening z) h d (none_there z.domains d above) legal

-- an entry that no domain makes, and by which no collection goes on
quiet_one : (e : Entry) → ((d : ℕ) → is_entry_of d e ≡ false) → is_control e ≡ false → is_quiet e ≡ true
quiet_one (CommandOf k c full) none control = absurd (true≢false (sym (eq-eqb k k refl) ∙ none k))
quiet_one (End k) none control = absurd (true≢false (sym (eq-eqb k k refl) ∙ none k))
quiet_one (Ran k) none control = absurd (true≢false (sym (eq-eqb k k refl) ∙ none k))
quiet_one Cut none control = absurd (true≢false control)
quiet_one Seal none control = absurd (true≢false control)
quiet_one Collected none control = absurd (true≢false control)
quiet_one Done none control = absurd (true≢false control)
quiet_one (Queue k places) none control = refl
quiet_one (Wipe l keys) none control = refl
quiet_one (LastOf k place) none control = refl

no_control : (b : Bool) → IsTrue (not b) → b ≡ false
no_control true is = cc
no_control false is = refl

pub quiet : (xs : List Entry) → ((d : ℕ) → NoneOf d xs) → AreNotControls xs → list_all is_quiet xs ≡ true
quiet [] none control = refl
quiet (e ∷ xs) none control =
    let parts = and_parts (not (is_control e)) (list_all (λ c. not (is_control c)) xs) control in
    let one : is_quiet e ≡ true = quiet_one e (λ d. (none_cons d e xs (none d)).0) (no_control (is_control e) parts.0) in
    rw one (quiet xs (λ d. (none_cons d e xs (none d)).1) parts.1)

-- a domain's replies stay where others' entries stand behind
pub replies_front : (z : Sizes) (d : ℕ) (h front : List Entry) → IsFrontOf d h front → replies z h d ≡ replies z front d
replies_front z d h front f = ap (λ (l : List Entry). replies z l d) f.appends ∙ (replies_from-append (opening z) front f.rest d
    ∙ (ap (λ (l : List Reply). replies z front d ++ l) (replies_from-others (state_after (opening z) front) f.rest d f.others) ∙ append-nil (replies z front d)))

pub ended_front : (z : Sizes) (d : ℕ) (h front : List Entry) → IsFrontOf d h front → (domain_at (state_after (opening z) h) d).ended ≡ (domain_at (state_after (opening z) front) d).ended
ended_front z d h front f =
    let same : state_after (opening z) h ≡ state_after (state_after (opening z) front) f.rest = ap (state_after (opening z)) f.appends ∙ state_after-append (opening z) front f.rest in
    ap (λ (t : State). (domain_at t d).ended) same ∙ ended_others (state_after (opening z) front) f.rest d f.others
