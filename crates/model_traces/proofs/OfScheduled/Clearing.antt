-- Behind the seal a schedule's collection takes only what it may: each label stands once among those in order, so no key is wiped twice, and what was registered last goes first.
use Rattle.std.proofs.Common.{◌≡◌, ◌≢◌, ℕ, zero, suc, ◌+◌, ◌≤◌, ◌<◌, Bool, true, false, cond, not, ◌&&◌, IsTrue, List, [], ◌∷◌, map, length, get_or-set_same, refl, sym, ap, ◌∙◌, subst, ⊎_elim, arith, Some, None}
use Rattle.std.specs.Prelude.{Option, filter, flat_map, remove, reverse, slice_get}
use Rattle.std.specs.List.{list_all, range_with_len}
use Rattle.model_core.specs.declared.label.Label.{Label}
use Rattle.model_core.specs.declared.entry.Entry.{Entry}
use Rattle.model_core.specs.declared.entry.Entry.TheVariants.{Wipe, Last}
use Rattle.model_core.specs.declared.graph.Node.{Node}
use Rattle.model_core.specs.declared.graph.Node.TheVariants.{Plain, Raw, Ephe}
use Rattle.model_core.specs.declared.graph.Value.{Value}
use Rattle.model_core.specs.declared.state.DomainState.{DomainState}
use Rattle.model_core.specs.declared.state.LastFinaliser.{LastFinaliser}
use Rattle.model_core.specs.declared.state.Mode.TheVariants.{Sealed}
use Rattle.model_core.specs.declared.state.State.{State}
use Rattle.model_core.specs.Graph.{Graph, has_label, has_no_repeats, node_at, same_label}
use Rattle.model_core.specs.Domains.{domain_at, no_domain, queues, reach, settled_reach, shared_label}
use Rattle.model_core.specs.Entries.{LastAllowed, WipeAllowed, ephe_holds, has_gone_keys, is_gone, is_let_go, is_some_and, next, with_last_queued}
use Rattle.model_core.specs.History.{LegalFrom, state_after}
use Rattle.model_core.proofs.Collections.CutLemmas.{last_keeps_settled_reach}
use Rattle.model_core.proofs.Graphs.GraphLemmas.{same_label-true, same_label_refl}
use Rattle.model_core.proofs.Graphs.GraphStepLemmas.{nodes_stay_law}
use Rattle.model_core.proofs.Graphs.ListLemmas.{set_cases}
use Rattle.model_core.proofs.Histories.HistoryLemmas.{legal_append}
use Rattle.model_core.proofs.Reach.LabelListLemmas.{no_repeats_append}
use Rattle.model_core.proofs.Reach.ReachLemmas.{and_both, and_left, and_right, has-append_cases, never_not, not_true, or_cases, or_left, or_right}
use Rattle.model_traces.specs.Schedules.Scheduled.{all_lasts, all_wiped, gone_keys, gone_lasts, labels_in_order, places_where, wiping}
use Rattle.model_traces.proofs.OfSchedules.Keeping.{domains_stay, taken_leaves}
use Rattle.model_traces.proofs.OfSchedules.Taken.{Taking, at_seal, gone_in, takings}
use Rattle.model_traces.proofs.OfSchedules.Wiped.{is_gone_key}
use Rattle.model_traces.proofs.OfScheduled.Places.{Falls, Rises, all_pass, are_rising, falls_by, get_before, places_rise, reverse_falls}

-- the label that a domain gave out with this serial
abbrev given : ℕ → ℕ → Label
given d n = record { domain = d; serial = n }

-- those that a domain gave out
own_least : (d n a : ℕ) (l : Label) → IsTrue (has_label (map (given d) (range_with_len a n)) l) → (l.domain ≡ d) × (a ≤ l.serial)
own_least d zero a l h = cc
own_least d (suc n) a l h = ⊎_elim
    (λ (here : IsTrue (same_label (given d a) l)). let is : given d a ≡ l = same_label-true (given d a) l here in subst (λ (k : Label). (k.domain ≡ d) × (a ≤ k.serial)) is (let own : a ≤ a = omega arith in (refl, own)))
    (λ later. let rest = own_least d n (a + 1) l later in let more : a ≤ l.serial = omega (arith, rest.1) in (rest.0, more))
    (or_cases (same_label (given d a) l) (has_label (map (given d) (range_with_len (a + 1) n)) l) h)

own_once : (d n a : ℕ) → IsTrue (has_no_repeats (map (given d) (range_with_len a n)))
own_once d zero a = refl
own_once d (suc n) a =
    let rest : List Label = map (given d) (range_with_len (a + 1) n) in
    and_both (not (has_label rest (given d a))) (has_no_repeats rest)
    (never_not (has_label rest (given d a)) (λ h. let least = (own_least d n (a + 1) (given d a) h).1 in absurd (omega (arith, least)))) (own_once d n (a + 1))

module _ (serials : ℕ → ℕ) where
  abbrev all_given : ℕ → ℕ → List Label
  all_given a n = flat_map (λ d. map (given d) (range_with_len 1 (serials d))) (range_with_len a n)

  all_least : (n a : ℕ) (l : Label) → IsTrue (has_label (all_given a n) l) → (a ≤ l.domain) × (1 ≤ l.serial)
  all_least zero a l h = cc
  all_least (suc n) a l h = ⊎_elim
      (λ here. let own = own_least a (serials a) 1 l here in let more : a ≤ l.domain = omega (arith, own.0) in (more, own.1))
      (λ later. let rest = all_least n (a + 1) l later in let more : a ≤ l.domain = omega (arith, rest.0) in (more, rest.1))
      (has-append_cases (map (given a) (range_with_len 1 (serials a))) (all_given (a + 1) n) l h)

  all_once : (n a : ℕ) → IsTrue (has_no_repeats (all_given a n))
  all_once zero a = refl
  all_once (suc n) a = no_repeats_append (map (given a) (range_with_len 1 (serials a))) (all_given (a + 1) n) (own_once a (serials a) 1) (all_once n (a + 1))
      (λ l own later. let is = (own_least a (serials a) 1 l own).0 in let more = (all_least n (a + 1) l later).0 in absurd (omega (arith, is, more)))

ordered_once : (s : State) → IsTrue (has_no_repeats (labels_in_order s))
ordered_once s =
    let serials : ℕ → ℕ = λ d. (domain_at s d).serial in
    let rest : List Label = all_given serials 0 (length s.domains) in
    and_both (not (has_label rest shared_label)) (has_no_repeats rest)
    (never_not (has_label rest shared_label) (λ h. let least = (all_least serials (length s.domains) 0 shared_label h).1 in absurd (omega (arith, least)))) (all_once serials (length s.domains) 0)

module _ (test : Label → Bool) where
  filtered_was : (ls : List Label) (l : Label) → IsTrue (has_label (filter test ls) l) → IsTrue (has_label ls l)
  filtered_was [] l h = h
  filtered_was (k ∷ ls) l h = go (test k) h (filtered_was ls l)
    where
      go : (b : Bool) → IsTrue (has_label (cond b (k ∷ filter test ls) (filter test ls)) l) → (IsTrue (has_label (filter test ls) l) → IsTrue (has_label ls l)) → IsTrue (has_label (k ∷ ls) l)
      go true h was = ⊎_elim (λ here. or_left (same_label k l) (has_label ls l) here) (λ later. or_right (same_label k l) (has_label ls l) (was later)) (or_cases (same_label k l) (has_label (filter test ls) l) h)
      go false h was = or_right (same_label k l) (has_label ls l) (was h)

  filtered_once : (ls : List Label) → IsTrue (has_no_repeats ls) → IsTrue (has_no_repeats (filter test ls))
  filtered_once [] once = refl
  filtered_once (k ∷ ls) once = go (test k) (filtered_once ls (and_right (not (has_label ls k)) (has_no_repeats ls) once))
    where
      go : (b : Bool) → IsTrue (has_no_repeats (filter test ls)) → IsTrue (has_no_repeats (cond b (k ∷ filter test ls) (filter test ls)))
      go true rest = and_both (not (has_label (filter test ls) k)) (has_no_repeats (filter test ls))
          (never_not (has_label (filter test ls) k) (λ h. not_true (has_label ls k) (and_left (not (has_label ls k)) (has_no_repeats ls) once) (filtered_was ls k h))) rest
      go false rest = rest

-- whether a registration may be queued
abbrev pub may_go : State → LastFinaliser → Bool
may_go s f = is_gone s (queues s) f.label && is_let_go s f.label

-- from the seal on
module _ (s : State) (sealing : s.mode ≡ Sealed) (lows : (d : ℕ) → (domain_at s d).low ≡ length (domain_at s d).lasts) where
  -- a state in which the ephemerons with these labels weren't wiped yet
  record Unwiped (t : State) (ls : List Label) : Type 0 where
    mode : t.mode ≡ Sealed
    since : Taking s t
    still : (m : Label) (n : Node) → IsTrue (has_label ls m) → node_at s.graph m ≡ Some n → node_at t.graph m ≡ Some n

  may_wipe : (t : State) (l : Label) (ls : List Label) (keys : List (Option Label)) (datum : Value) (p : ℕ) (ps : List ℕ) → Unwiped t (l ∷ ls) → IsTrue (has_label (l ∷ ls) l) → node_at s.graph l ≡ Some (Ephe keys datum)
      → places_where (is_gone_key (gone_in s)) keys ≡ p ∷ ps → WipeAllowed t l (p ∷ ps)
  may_wipe t l ls keys datum p ps un own at is =
      let passes : ℕ → Bool = λ q. is_some_and (is_gone_key (gone_in s)) (slice_get keys q) in
      let rises : Rises passes 0 (length keys) (p ∷ ps) = subst (Rises passes 0 (length keys)) is (places_rise (is_gone_key (gone_in s)) keys) in
      let alike : has_gone_keys t (p ∷ ps) (Some (Ephe keys datum)) ≡ list_all passes (p ∷ ps) =
      ap (λ (live : List Label). list_all (λ q. is_some_and (is_some_and (λ k. not (has_label live k))) (slice_get keys q)) (p ∷ ps)) un.since.settled in
      record {
        mode = un.mode;
        rising = are_rising passes 0 (length keys) p ps rises;
        gone = ap (has_gone_keys t (p ∷ ps)) (un.still l (Ephe keys datum) own at) ∙ alike ∙ all_pass passes 0 (length keys) (p ∷ ps) rises;
      }

  unwiped_rest : (t : State) (l : Label) (ls : List Label) → Unwiped t (l ∷ ls) → Unwiped t ls
  unwiped_rest t l ls un = record { mode = un.mode; since = un.since; still = λ m n h at. un.still m n (or_right (same_label l m) (has_label ls m) h) at }

  abbrev Wiped : State → Label → List Label → List ℕ → Type 0
  Wiped t l ls ps = LegalFrom t (wiping l ps) × Unwiped (state_after t (wiping l ps)) ls

  wiped_one : (t : State) (l : Label) (ls : List Label) (p : ℕ) (ps : List ℕ) → Unwiped t (l ∷ ls) → IsTrue (has_no_repeats (l ∷ ls)) → WipeAllowed t l (p ∷ ps) → Wiped t l ls (p ∷ ps)
  wiped_one t l ls p ps un once allowed = (
    (allowed, tt),
    record {
      mode = taken_leaves (λ (v : State). v.mode) (λ v d x. refl) (λ v k n. refl) (λ v ks. refl) t (Wipe l (p ∷ ps) ∷ []) refl ∙ un.mode;
      since = takings s t (Wipe l (p ∷ ps) ∷ []) un.since refl (allowed, tt);
      still = λ m n h at. nodes_stay_law t (Wipe l (p ∷ ps)) m n
          (λ (e : Some l ≡ Some m). let same : m ≡ l = cc in not_true (has_label ls l) (and_left (not (has_label ls l)) (has_no_repeats ls) once) (subst (λ k. IsTrue (has_label ls k)) same h))
          (un.still m n (or_right (same_label l m) (has_label ls m) h) at);
    },
  )

  wipe_one : (t : State) (l : Label) (ls : List Label) (o : Option Node) → node_at s.graph l ≡ o → Unwiped t (l ∷ ls) → IsTrue (has_no_repeats (l ∷ ls)) → IsTrue (has_label (l ∷ ls) l) → Wiped t l ls (gone_keys s o)
  wipe_one t l ls None at un once own = (tt, unwiped_rest t l ls un)
  wipe_one t l ls (Some (Plain tag fields)) at un once own = (tt, unwiped_rest t l ls un)
  wipe_one t l ls (Some (Raw tag fields)) at un once own = (tt, unwiped_rest t l ls un)
  wipe_one t l ls (Some (Ephe keys datum)) at un once own = go (places_where (is_gone_key (gone_in s)) keys) refl
    where
      go : (ps : List ℕ) → places_where (is_gone_key (gone_in s)) keys ≡ ps → Wiped t l ls ps
      go [] is = (tt, unwiped_rest t l ls un)
      go (p ∷ ps) is = wiped_one t l ls p ps un once (may_wipe t l ls keys datum p ps un own at is)

  wipe_all : (ls : List Label) (t : State) → Unwiped t ls → IsTrue (has_no_repeats ls) → LegalFrom t (flat_map (λ l. wiping l (gone_keys s (node_at s.graph l))) ls)
  wipe_all [] t un once = tt
  wipe_all (l ∷ ls) t un once =
      let first : List Entry = wiping l (gone_keys s (node_at s.graph l)) in
      let one = wipe_one t l ls (node_at s.graph l) refl un once (or_left (same_label l l) (has_label ls l) (same_label_refl l)) in
      legal_append t first (flat_map (λ k. wiping k (gone_keys s (node_at s.graph k))) ls) one.0 (wipe_all ls (state_after t first) one.1 (and_right (not (has_label ls l)) (has_no_repeats ls) once))

  pub wipes_legal : LegalFrom s (all_wiped s)
  wipes_legal = wipe_all (filter (has_label (reach s)) (labels_in_order s)) s (record { mode = sealing; since = at_seal s lows; still = λ m n h at. at }) (filtered_once (has_label (reach s)) (labels_in_order s) (ordered_once s))

  -- nothing has changed by which a registration is judged
  pub record Alike (t : State) : Type 0 where
    pub mode : t.mode ≡ Sealed
    pub settled : settled_reach t (queues t) ≡ settled_reach s (queues s)
    pub graph : t.graph ≡ s.graph
    pub many : length t.domains ≡ length s.domains

  same_may_go : (t : State) → Alike t → (o : Option LastFinaliser) → is_some_and (λ f. is_gone t (queues t) f.label && is_let_go t f.label) o ≡ is_some_and (may_go s) o
  same_may_go t alike o =
      ap (λ (ls : List Label). is_some_and (λ f. not (has_label ls f.label) && list_all (λ x. not (ephe_holds f.label (node_at t.graph x))) ls) o) alike.settled
      ∙ ap (λ (g : Graph). is_some_and (λ f. is_gone s (queues s) f.label && list_all (λ x. not (ephe_holds f.label (node_at g x))) (settled_reach s (queues s))) o) alike.graph

  abbrev FallsIn : DomainState → List ℕ → Type 0
  FallsIn x ps = Falls (λ p. is_some_and (may_go s) (slice_get x.lasts p)) 0 x.low ps

  falls_on : (x : DomainState) (p : ℕ) (ps : List ℕ) → FallsIn x (p ∷ ps) → FallsIn (with_last_queued x p) ps
  falls_on x p ps f = falls_by (λ q. is_some_and (may_go s) (slice_get x.lasts q)) (λ q. is_some_and (may_go s) (slice_get (remove x.lasts p) q)) 0 p p ps (omega arith) (λ q less e. ap (is_some_and (may_go s)) (get_before x.lasts p q less) ∙ e) f.2

  one_domain : (ps : List ℕ) (t : State) (a : ℕ) → a < length s.domains → Alike t → FallsIn (domain_at t a) ps → LegalFrom t (map (λ p. Last a p) ps) × Alike (state_after t (map (λ p. Last a p) ps))
  one_domain [] t a inside alike f = (tt, alike)
  one_domain (p ∷ ps) t a inside alike f =
      let y : DomainState = with_last_queued (domain_at t a) p in
      let within : a < length t.domains = let many = alike.many in omega (arith, inside, many) in
      let here : domain_at (next t (Last a p)) a ≡ y = get_or-set_same t.domains a y no_domain within in
      let allowed : LastAllowed t a p = record { mode = alike.mode; below = f.0; gone = same_may_go t alike (slice_get (domain_at t a).lasts p) ∙ f.1 } in
      let rest = one_domain ps (next t (Last a p)) a inside (record {
        mode = alike.mode;
        settled = last_keeps_settled_reach t a p ∙ alike.settled;
        graph = alike.graph;
        many = domains_stay t a y ∙ alike.many;
      }) (subst (λ x. FallsIn x ps) (sym here) (falls_on (domain_at t a) p ps f)) in
      ((allowed, rest.0), rest.1)

  elsewhere : (ps : List ℕ) (t : State) (a k : ℕ) → k ≢ a → domain_at (state_after t (map (λ p. Last a p) ps)) k ≡ domain_at t k
  elsewhere [] t a k apart = refl
  elsewhere (p ∷ ps) t a k apart = elsewhere ps (next t (Last a p)) a k apart ∙ ⊎_elim (λ here. absurd (apart here.0)) (λ there. there) (set_cases t.domains a (with_last_queued (domain_at t a) p) no_domain k)

  each_domain_on : (n a : ℕ) (t : State) → a + n ≡ length s.domains → Alike t → ((k : ℕ) → a ≤ k → domain_at t k ≡ domain_at s k)
      → LegalFrom t (flat_map (λ d. map (λ p. Last d p) (reverse (gone_lasts s d))) (range_with_len a n))
  each_domain_on zero a t room alike still = tt
  each_domain_on (suc n) a t room alike still =
      let x : DomainState = domain_at s a in
      let ps : List ℕ = reverse (gone_lasts s a) in
      let passes : ℕ → Bool = λ p. is_some_and (may_go s) (slice_get x.lasts p) in
      let falls : FallsIn x ps = subst (λ b. Falls passes 0 b ps) (sym (lows a)) (reverse_falls passes 0 (length x.lasts) (gone_lasts s a) (places_rise (may_go s) x.lasts)) in
      let one = one_domain ps t a (omega (arith, room)) alike (subst (λ y. FallsIn y ps) (sym (still a (omega arith))) falls) in
      let first : List Entry = map (λ p. Last a p) ps in
      legal_append t first (flat_map (λ d. map (λ p. Last d p) (reverse (gone_lasts s d))) (range_with_len (a + 1) n)) one.0
      (each_domain_on n (a + 1) (state_after t first) (omega (arith, room)) one.1
      (λ k more. let apart : k ≢ a = λ is. absurd (omega (arith, is, more)) in elsewhere ps t a k apart ∙ still k (omega (arith, more))))

  pub lasts_legal : LegalFrom s (all_lasts s)
  lasts_legal = each_domain_on (length s.domains) 0 s (omega arith) (record { mode = sealing; settled = refl; graph = refl; many = refl }) (λ k more. refl)
