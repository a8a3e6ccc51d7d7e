-- What the entries `Last` of a schedule's collection make of each domain: all that is gone is queued, the newest first.
use Rattle.std.proofs.Common.{◌≡◌, ◌≢◌, ℕ, zero, suc, ◌+◌, ◌<◌, ◌≤◌, Bool, true, false, cond, ◌&&◌, List, [], ◌∷◌, ◌++◌, map, fold, length, get_or-set_same, refl, sym, ap, ◌∙◌, subst, ⊎_elim, arith, append_assoc, append-nil}
use Rattle.std.specs.Prelude.{flat_map, remove, reverse, slice_index_or}
use Rattle.std.specs.List.{list_all, range_with_len}
use Rattle.std.proofs.Math.ListN.{get_or-eq_default}
use Rattle.std.proofs.lemmas.Bool.{cases_eq}
use Rattle.std.proofs.lemmas.List.{map-append, reverse-append}
use Rattle.std.proofs.lemmas.List.Folds.{list_all-append}
use Rattle.std.proofs.lemmas.List.Sums.{fold-append}
use Rattle.model_core.specs.declared.entry.Entry.{Entry}
use Rattle.model_core.specs.declared.entry.Entry.TheVariants.{Last}
use Rattle.model_core.specs.declared.state.DomainState.{DomainState}
use Rattle.model_core.specs.declared.state.LastFinaliser.{LastFinaliser}
use Rattle.model_core.specs.declared.state.Pending.{Pending}
use Rattle.model_core.specs.declared.state.State.{State}
use Rattle.model_core.specs.Domains.{domain_at, no_domain}
use Rattle.model_core.specs.Entries.{at_places, next, queued_last, with_last_queued}
use Rattle.model_core.specs.History.{state_after}
use Rattle.model_core.proofs.Graphs.ListLemmas.{set_cases_inside}
use Rattle.model_core.proofs.Histories.HistoryLemmas.{state_after-append}
use Rattle.model_traces.specs.Schedules.Sameness.{is_taking}
use Rattle.model_traces.specs.Schedules.Scheduled.{places_where}
use Rattle.model_traces.proofs.OfSchedules.Queued.{dead_of, others_of}
use Rattle.model_traces.proofs.OfSchedules.Placing.{next_place, places_are, places_of}
use Rattle.model_traces.proofs.OfSchedules.Keeping.{domains_stay, taken_leaves}

-- a queue, and the registrations that wait
record Waiting : Type 0 where
  queue : List Pending
  left : List LastFinaliser

-- one is queued
abbrev one_queued : Waiting → ℕ → Waiting
one_queued w p = record { queue = w.queue ++ map queued_last (at_places (p ∷ []) w.left); left = remove w.left p }

-- before another that waits
abbrev behind : LastFinaliser → Waiting → Waiting
behind f w = record { queue = w.queue; left = f ∷ w.left }

shifted : (f : LastFinaliser) (ps : List ℕ) (w : Waiting) → fold one_queued (behind f w) (map suc ps) ≡ behind f (fold one_queued w ps)
shifted f [] w = refl
shifted f (p ∷ ps) w = shifted f ps (one_queued w p)

reverse-map : (f : ℕ → ℕ) (ps : List ℕ) → reverse (map f ps) ≡ map f (reverse ps)
reverse-map f [] = refl
reverse-map f (p ∷ ps) = reverse-append (f p ∷ []) (map f ps) ∙ ap (λ ns. ns ++ f p ∷ []) (reverse-map f ps) ∙ sym (map-append f (reverse ps) (p ∷ [])) ∙ ap (map f) (sym (reverse-append (p ∷ []) ps))

module _ (gone : LastFinaliser → Bool) where
  abbrev all_gone : List Pending → List LastFinaliser → Waiting
  all_gone q xs = record { queue = q ++ map queued_last (reverse (dead_of queued_last gone xs)); left = others_of queued_last gone xs }

  all_runs : (q : List Pending) (xs : List LastFinaliser) → fold one_queued (record { queue = q; left = xs }) (reverse (places_of gone xs)) ≡ all_gone q xs
  all_runs q [] = ap (λ l. record { queue = l; left = [] }) (sym (append-nil q))
  all_runs q (x ∷ xs) =
      let ps : List ℕ = places_of gone xs in
      let later : fold one_queued (record { queue = q; left = x ∷ xs }) (reverse (map suc ps)) ≡ behind x (all_gone q xs) =
      ap (fold one_queued (behind x (record { queue = q; left = xs }))) (reverse-map suc ps) ∙ shifted x (reverse ps) (record { queue = q; left = xs }) ∙ ap (behind x) (all_runs q xs) in
      go (gone x) later
    where
      go : (b : Bool) → fold one_queued (record { queue = q; left = x ∷ xs }) (reverse (map suc (places_of gone xs))) ≡ behind x (all_gone q xs)
          → fold one_queued (record { queue = q; left = x ∷ xs }) (reverse (cond b (zero ∷ map suc (places_of gone xs)) (map suc (places_of gone xs))))
          ≡ record { queue = q ++ map queued_last (reverse (cond b (x ∷ dead_of queued_last gone xs) (dead_of queued_last gone xs))); left = cond b (others_of queued_last gone xs) (x ∷ others_of queued_last gone xs) }
      go false later = later
      go true later =
          let ns : List ℕ = map suc (places_of gone xs) in
          let ds : List LastFinaliser = dead_of queued_last gone xs in
          ap (fold one_queued (record { queue = q; left = x ∷ xs })) (reverse-append (zero ∷ []) ns) ∙ fold-append one_queued (record { queue = q; left = x ∷ xs }) (reverse ns) (zero ∷ []) ∙ ap (λ w. one_queued w zero) later
          ∙ ap (λ l. record { queue = l; left = others_of queued_last gone xs })
          (append_assoc q (map queued_last (reverse ds)) (queued_last x ∷ []) ∙ ap (λ l. q ++ l) (sym (map-append queued_last (reverse ds) (x ∷ [])) ∙ ap (map queued_last) (sym (reverse-append (x ∷ []) ds))))

  -- all that is gone of a domain was queued
  pub record IsLastsFrom (x y : DomainState) : Type 0 where
    pub lasts : y.lasts ≡ others_of queued_last gone x.lasts
    pub queue : y.queue ≡ x.queue ++ map queued_last (reverse (dead_of queued_last gone x.lasts))

  waits : DomainState → Waiting
  waits x = record { queue = x.queue; left = x.lasts }

  folded : (ps : List ℕ) (x : DomainState) → waits (fold with_last_queued x ps) ≡ fold one_queued (waits x) ps
  unfolding waits
  folded [] x = refl
  folded (p ∷ ps) x = folded ps (with_last_queued x p)

  pub lasts_from : (x : DomainState) → IsLastsFrom x (fold with_last_queued x (reverse (places_where gone x.lasts)))
  unfolding waits folded
  lasts_from x =
      let y : DomainState = fold with_last_queued x (reverse (places_where gone x.lasts)) in
      let is : waits y ≡ all_gone x.queue x.lasts = ap (λ ps. waits (fold with_last_queued x (reverse ps))) (places_are gone x.lasts) ∙ folded (reverse (places_of gone x.lasts)) x ∙ all_runs x.queue x.lasts in
      record { lasts = ap (λ w. w.left) is; queue = ap (λ w. w.queue) is }

  module _ (s : State) where
    abbrev lasts_of : ℕ → List Entry
    lasts_of d = map (λ p. Last d p) (reverse (places_where gone (domain_at s d).lasts))

    one_is_taking : (a : ℕ) (ps : List ℕ) → list_all is_taking (map (λ p. Last a p) ps) ≡ true
    one_is_taking a [] = refl
    one_is_taking a (p ∷ ps) = one_is_taking a ps

    long_after : (t : State) (h : List Entry) → list_all is_taking h ≡ true → length (state_after t h).domains ≡ length t.domains
    long_after t h all = taken_leaves (λ (v : State). length v.domains) domains_stay (λ v l n. refl) (λ v ls. refl) t h all

    -- one domain's entries
    record IsLastsAt (t u : State) (a : ℕ) (ps : List ℕ) : Type 0 where
      own : domain_at u a ≡ fold with_last_queued (domain_at t a) ps
      others : (k : ℕ) → k ≢ a → domain_at u k ≡ domain_at t k

    lasts_at : (ps : List ℕ) (t : State) (a : ℕ) → a < length t.domains → IsLastsAt t (state_after t (map (λ p. Last a p) ps)) a ps
    lasts_at [] t a inside = record { own = refl; others = λ k other. refl }
    lasts_at (p ∷ ps) t a inside =
        let y : DomainState = with_last_queued (domain_at t a) p in
        let u : State = next t (Last a p) in
        let here : domain_at u a ≡ y = get_or-set_same t.domains a y no_domain inside in
        let long : length u.domains ≡ length t.domains = domains_stay t a y in
        let later = lasts_at ps u a (omega (arith, inside, long)) in
        record {
          own = later.own ∙ ap (λ x. fold with_last_queued x ps) here;
          others = λ k other. later.others k other ∙ ⊎_elim (λ same. absurd (other same.0)) (λ stays. stays.1) (set_cases_inside t.domains a y no_domain k inside);
        }

    abbrev from_on : ℕ → ℕ → List Entry
    from_on a n = flat_map lasts_of (range_with_len a n)

    are_taking : (a n : ℕ) → list_all is_taking (from_on a n) ≡ true
    are_taking a zero = refl
    are_taking a (suc n) =
        list_all-append is_taking (lasts_of a) (from_on (a + 1) n) ∙ ap (λ b. b && list_all is_taking (from_on (a + 1) n)) (one_is_taking a (reverse (places_where gone (domain_at s a).lasts))) ∙ are_taking (a + 1) n

    beyond : (xs : List DomainState) (k : ℕ) → length xs ≤ k → IsLastsFrom (slice_index_or xs k no_domain) (slice_index_or xs k no_domain)
    beyond xs k past = subst (λ (x : DomainState). IsLastsFrom x x) (sym (get_or-eq_default xs no_domain past)) (record { lasts = refl; queue = refl })

    record AreLastsFrom (t u : State) (a : ℕ) : Type 0 where
      before : (k : ℕ) → k < a → domain_at u k ≡ domain_at t k
      since : (k : ℕ) → a ≤ k → IsLastsFrom (domain_at t k) (domain_at u k)

    lasts_since : (n a : ℕ) (t : State) → a + n ≡ length t.domains → ((k : ℕ) → a ≤ k → (domain_at t k).lasts ≡ (domain_at s k).lasts) → AreLastsFrom t (state_after t (from_on a n)) a
    lasts_since zero a t room same = record { before = λ k less. refl; since = λ k more. beyond t.domains k (omega (arith, room, more)) }
    lasts_since (suc n) a t room same =
        let first : List Entry = lasts_of a in
        let u : State = state_after t first in
        let inside : a < length t.domains = omega (arith, room) in
        let one = lasts_at (reverse (places_where gone (domain_at s a).lasts)) t a inside in
        let own : IsLastsFrom (domain_at t a) (domain_at u a) =
        subst (λ (y : DomainState). IsLastsFrom (domain_at t a) y) (sym (one.own ∙ ap (λ fs. fold with_last_queued (domain_at t a) (reverse (places_where gone fs))) (sym (same a (omega arith))))) (lasts_from (domain_at t a)) in
        let long : length u.domains ≡ length t.domains = long_after t first (one_is_taking a (reverse (places_where gone (domain_at s a).lasts))) in
        let later : AreLastsFrom u (state_after u (from_on (a + 1) n)) (a + 1) =
        lasts_since n (a + 1) u (omega (arith, room, long)) (λ k more. let apart : k ≢ a = λ is. absurd (omega (arith, is, more)) in ap (λ (x : DomainState). x.lasts) (one.others k apart) ∙ same k (omega (arith, more))) in
        let whole : state_after t (first ++ from_on (a + 1) n) ≡ state_after u (from_on (a + 1) n) = state_after-append t first (from_on (a + 1) n) in
        subst (λ (v : State). AreLastsFrom t v a) (sym whole) (record {
          before = λ k less. let apart : k ≢ a = λ is. absurd (omega (arith, is, less)) in later.before k (omega (arith, less)) ∙ one.others k apart;
          since = λ k more. ⊎_elim
              (λ (is : k ≡ a). subst (λ m. IsLastsFrom (domain_at t m) (domain_at (state_after u (from_on (a + 1) n)) m)) (sym is)
              (subst (λ (x : DomainState). IsLastsFrom (domain_at t a) x) (sym (later.before a (omega arith))) own))
              (λ (apart : k ≢ a). subst (λ (x : DomainState). IsLastsFrom x (domain_at (state_after u (from_on (a + 1) n)) k)) (one.others k apart) (later.since k (next_place a k more apart)))
              (cases_eq k a);
        })

    -- all of them
    pub all_is_taking : list_all is_taking (from_on 0 (length s.domains)) ≡ true
    all_is_taking = are_taking 0 (length s.domains)

    pub all_lasts_from : (d : ℕ) → IsLastsFrom (domain_at s d) (domain_at (state_after s (from_on 0 (length s.domains))) d)
    all_lasts_from d = (lasts_since (length s.domains) 0 s (omega arith) (λ k more. refl)).since d (omega arith)

    graph_of : (ps : List ℕ) (t : State) (a : ℕ) → (state_after t (map (λ p. Last a p) ps)).graph ≡ t.graph
    graph_of [] t a = refl
    graph_of (p ∷ ps) t a = graph_of ps (next t (Last a p)) a

    graph_from : (n a : ℕ) (t : State) → (state_after t (from_on a n)).graph ≡ t.graph
    graph_from zero a t = refl
    graph_from (suc n) a t =
        ap (λ (v : State). v.graph) (state_after-append t (lasts_of a) (from_on (a + 1) n)) ∙ graph_from n (a + 1) (state_after t (lasts_of a)) ∙ graph_of (reverse (places_where gone (domain_at s a).lasts)) t a

    -- no block changes
    pub all_lasts_graph : (state_after s (from_on 0 (length s.domains))).graph ≡ s.graph
    all_lasts_graph = graph_from (length s.domains) 0 s
