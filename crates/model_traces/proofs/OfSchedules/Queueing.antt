-- What the queue entries of a schedule's collection make of each domain: all that is dead is queued, the newest first.
use Rattle.std.proofs.Common.{◌≡◌, ◌≢◌, ℕ, zero, suc, ◌+◌, ◌<◌, ◌≤◌, Bool, true, ◌&&◌, List, [], ◌∷◌, ◌++◌, map, length, get_or-set_same, refl, sym, ap, ◌∙◌, subst, ⊎_elim, arith, append-nil}
use Rattle.std.specs.Prelude.{flat_map, reverse, slice_index_or}
use Rattle.std.specs.List.{list_all, range_with_len}
use Rattle.std.proofs.Math.ListN.{get_or-eq_default}
use Rattle.std.proofs.lemmas.Bool.{cases_eq}
use Rattle.std.proofs.lemmas.List.Folds.{list_all-append}
use Rattle.model_core.specs.declared.entry.Entry.{Entry}
use Rattle.model_core.specs.declared.entry.Entry.TheVariants.{Queue}
use Rattle.model_core.specs.declared.state.DomainState.{DomainState}
use Rattle.model_core.specs.declared.state.Finaliser.{Finaliser}
use Rattle.model_core.specs.declared.state.State.{State}
use Rattle.model_core.specs.Domains.{domain_at, no_domain}
use Rattle.model_core.specs.Entries.{at_places, next, queued_final, with_queued, without_places}
use Rattle.model_core.specs.History.{state_after}
use Rattle.model_core.proofs.Graphs.ListLemmas.{set_cases_inside}
use Rattle.model_core.proofs.Histories.HistoryLemmas.{state_after-append}
use Rattle.model_traces.specs.Schedules.Sameness.{is_queue}
use Rattle.model_traces.specs.Schedules.Scheduled.{all_queued, dead_finals, places_where, queuing}
use Rattle.model_traces.proofs.OfSchedules.Queued.{dead_of, others_of}
use Rattle.model_traces.proofs.OfSchedules.Queues.{dead_in}
use Rattle.model_traces.proofs.OfSchedules.Placing.{next_place, all_reversed, all_without, none_dead}
use Rattle.model_traces.proofs.OfSchedules.Keeping.{queued_leaves, domains_stay}

-- all that is dead of a domain was queued
pub record IsQueuedFrom (dead : Finaliser → Bool) (x y : DomainState) : Type 0 where
  pub finals : y.finals ≡ others_of queued_final dead x.finals
  pub queue : y.queue ≡ x.queue ++ map queued_final (reverse (dead_of queued_final dead x.finals))

queued_all : (dead : Finaliser → Bool) (x : DomainState) (p : ℕ) (ps : List ℕ) → places_where dead x.finals ≡ p ∷ ps → IsQueuedFrom dead x (with_queued x (p ∷ ps))
queued_all dead x p ps is = record {
  finals = ap (λ ns. without_places ns x.finals) (sym is) ∙ all_without queued_final dead x.finals;
  queue = ap (λ ns. x.queue ++ map queued_final (at_places (reverse ns) x.finals)) (sym is) ∙ ap (λ fs. x.queue ++ map queued_final fs) (all_reversed queued_final dead x.finals);
}

queued_none : (dead : Finaliser → Bool) (x : DomainState) → places_where dead x.finals ≡ [] → IsQueuedFrom dead x x
queued_none dead x is =
    let none = none_dead queued_final dead x.finals is in
    record {
      finals = sym none.0;
      queue = sym (ap (λ fs. x.queue ++ map queued_final (reverse fs)) none.1 ∙ append-nil x.queue);
    }

-- a place beyond the domains
beyond : (dead : Finaliser → Bool) (xs : List DomainState) (k : ℕ) → length xs ≤ k → IsQueuedFrom dead (slice_index_or xs k no_domain) (slice_index_or xs k no_domain)
beyond dead xs k past = queued_none dead (slice_index_or xs k no_domain) (ap (λ (x : DomainState). places_where dead x.finals) (get_or-eq_default xs no_domain past))

module _ (s : State) where
  -- one domain's entry
  record IsQueuedAt (t u : State) (a : ℕ) : Type 0 where
    own : IsQueuedFrom (dead_in s) (domain_at t a) (domain_at u a)
    others : (k : ℕ) → k ≢ a → domain_at u k ≡ domain_at t k

  queued_at : (t : State) (a : ℕ) (ps : List ℕ) → a < length t.domains → places_where (dead_in s) (domain_at t a).finals ≡ ps → IsQueuedAt t (state_after t (queuing a ps)) a
  queued_at t a [] inside is = record { own = queued_none (dead_in s) (domain_at t a) is; others = λ k other. refl }
  queued_at t a (p ∷ ps) inside is =
      let y : DomainState = with_queued (domain_at t a) (p ∷ ps) in
      let here : domain_at (next t (Queue a (p ∷ ps))) a ≡ y = get_or-set_same t.domains a y no_domain inside in
      record {
        own = subst (λ (x : DomainState). IsQueuedFrom (dead_in s) (domain_at t a) x) (sym here) (queued_all (dead_in s) (domain_at t a) p ps is);
        others = λ k other. ⊎_elim (λ same. absurd (other same.0)) (λ stays. stays.1) (set_cases_inside t.domains a y no_domain k inside);
      }

  -- the entries of the domains from a on
  abbrev from_on : ℕ → ℕ → List Entry
  from_on a n = flat_map (λ d. queuing d (dead_finals s d)) (range_with_len a n)

  one_is_queue : (a : ℕ) (ps : List ℕ) → list_all is_queue (queuing a ps) ≡ true
  one_is_queue a [] = refl
  one_is_queue a (p ∷ ps) = refl

  are_queues : (a n : ℕ) → list_all is_queue (from_on a n) ≡ true
  are_queues a zero = refl
  are_queues a (suc n) =
      list_all-append is_queue (queuing a (dead_finals s a)) (from_on (a + 1) n) ∙ ap (λ b. b && list_all is_queue (from_on (a + 1) n)) (one_is_queue a (dead_finals s a)) ∙ are_queues (a + 1) n

  record AreQueuedFrom (t u : State) (a : ℕ) : Type 0 where
    before : (k : ℕ) → k < a → domain_at u k ≡ domain_at t k
    since : (k : ℕ) → a ≤ k → IsQueuedFrom (dead_in s) (domain_at t k) (domain_at u k)

  queued_from : (n a : ℕ) (t : State) → a + n ≡ length t.domains → ((k : ℕ) → a ≤ k → (domain_at t k).finals ≡ (domain_at s k).finals) → AreQueuedFrom t (state_after t (from_on a n)) a
  queued_from zero a t room same = record { before = λ k less. refl; since = λ k more. beyond (dead_in s) t.domains k (omega (arith, room, more)) }
  queued_from (suc n) a t room same =
      let first : List Entry = queuing a (dead_finals s a) in
      let u : State = state_after t first in
      let inside : a < length t.domains = omega (arith, room) in
      let one = queued_at t a (dead_finals s a) inside (ap (places_where (dead_in s)) (same a (omega arith))) in
      let long : length u.domains ≡ length t.domains = queued_leaves (λ (v : State). length v.domains) domains_stay t first (one_is_queue a (dead_finals s a)) in
      let later : AreQueuedFrom u (state_after u (from_on (a + 1) n)) (a + 1) =
      queued_from n (a + 1) u (omega (arith, room, long)) (λ k more. let apart : k ≢ a = λ is. absurd (omega (arith, is, more)) in ap (λ (x : DomainState). x.finals) (one.others k apart) ∙ same k (omega (arith, more))) in
      let whole : state_after t (first ++ from_on (a + 1) n) ≡ state_after u (from_on (a + 1) n) = state_after-append t first (from_on (a + 1) n) in
      subst (λ (v : State). AreQueuedFrom t v a) (sym whole) (record {
        before = λ k less. let apart : k ≢ a = λ is. absurd (omega (arith, is, less)) in later.before k (omega (arith, less)) ∙ one.others k apart;
        since = λ k more. ⊎_elim
            (λ (is : k ≡ a). subst (λ m. IsQueuedFrom (dead_in s) (domain_at t m) (domain_at (state_after u (from_on (a + 1) n)) m)) (sym is)
            (subst (λ (x : DomainState). IsQueuedFrom (dead_in s) (domain_at t a) x) (sym (later.before a (omega arith))) one.own))
            (λ (apart : k ≢ a). subst (λ (x : DomainState). IsQueuedFrom (dead_in s) x (domain_at (state_after u (from_on (a + 1) n)) k)) (one.others k apart)
            (later.since k (next_place a k more apart)))
            (cases_eq k a);
      })

  -- all of them
  pub all_is_queue : list_all is_queue (all_queued s) ≡ true
  all_is_queue = are_queues 0 (length s.domains)

  pub all_queued_from : (d : ℕ) → IsQueuedFrom (dead_in s) (domain_at s d) (domain_at (state_after s (all_queued s)) d)
  all_queued_from d = (queued_from (length s.domains) 0 s (omega arith) (λ k more. refl)).since d (omega arith)
