-- A collection that takes nothing leaves a twin, and twins answer the same.
use Rattle.std.proofs.Common.{◌≡◌, ℕ, cond, List, [], ◌∷◌, ◌++◌, map, refl}
use Rattle.model_core.specs.declared.entry.Entry.{Entry}
use Rattle.model_core.specs.declared.state.DomainState.{DomainState}
use Rattle.model_core.specs.declared.state.State.{State}
use Rattle.model_core.specs.Entries.{freshened, next, with_finals_open, with_lasts_open}
use Rattle.model_core.specs.History.{is_entry_of, replies_from, reply_list, state_after}
use Rattle.model_laws.specs.Collector.Idle.{IdleCollectionsAreUnseen, idle, idle_complete}
use Rattle.model_laws.proofs.OfCollector.Twins.{AreTwinDomains, AreTwins, next_twins, reply_twins}

twins_answer : (s t : State) → AreTwins s t → (h : List Entry) (d : ℕ) → replies_from t h d ≡ replies_from s h d
twins_answer s t r [] d = refl
twins_answer s t r (e ∷ h) d = (λ i. cond (is_entry_of d e) (reply_list (reply_twins s t r e i)) [] ++ twins_answer (next s e) (next t e) (next_twins s t r e) h d i)

cut_and_sealed : (xs : List DomainState) → AreTwinDomains xs (map with_lasts_open (map with_finals_open xs))
cut_and_sealed [] = refl
cut_and_sealed (x ∷ xs) = (_, _, refl, record { registers = refl; serial = refl; finals = refl; lasts = refl; queue = refl }, cut_and_sealed xs)

and_collected : (xs : List DomainState) → AreTwinDomains xs (map freshened (map with_lasts_open (map with_finals_open xs)))
and_collected [] = refl
and_collected (x ∷ xs) = (_, _, refl, record { registers = refl; serial = refl; finals = refl; lasts = refl; queue = refl }, and_collected xs)

pub idle_unseen : IdleCollectionsAreUnseen
idle_unseen s h d = (
  twins_answer s (state_after s idle) (record { graph = refl; domains = cut_and_sealed s.domains }) h d,
  twins_answer s (state_after s idle_complete) (record { graph = refl; domains = and_collected s.domains }) h d,
)
