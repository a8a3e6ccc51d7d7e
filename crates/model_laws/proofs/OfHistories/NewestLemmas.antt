-- What one collection queues of a domain's registrations of `finalise` runs newest first.
use Rattle.std.proofs.Common.{◌≡◌, ℕ, zero, suc, ◌+◌, ◌<◌, ◌≤◌, arith, Bool, true, false, nat_lt, IsTrue, List, [], ◌∷◌, ◌++◌, map, reverse, slice_get, slice_index, remove, Option, refl, ap, ap₂, sym, ◌∙◌, subst, eqb, eqb-true, get_or-set_same, get_or-set_other, append_assoc, append-nil}
use Rattle.std.specs.List.{list_all, cons_option}
use Rattle.std.proofs.lemmas.Bool.{ltb-true}
use Rattle.std.proofs.lemmas.List.{reverse-append, map-append}
use Rattle.std.proofs.lemmas.List.Elements.{filter_map-append}
use Rattle.model_core.specs.declared.entry.Entry.{Entry}
use Rattle.model_core.specs.declared.entry.Entry.TheVariants.{Command as CommandOf, End, Cut, Queue, Seal, Wipe, Last as LastOf, Collected, Done, Ran}
use Rattle.model_core.specs.declared.state.Finaliser.{Finaliser}
use Rattle.model_core.specs.declared.state.DomainState.{DomainState}
use Rattle.model_core.specs.declared.state.State.{State}
use Rattle.model_core.specs.Domains.{domain_at, no_domain, opening}
use Rattle.model_core.specs.Entries.{is_rising, Allowed, queued_final, at_places, without_places, with_queued, with_finals_open, next}
use Rattle.model_core.specs.History.{state_after, LegalFrom}
use Rattle.model_core.proofs.Reach.ReachLemmas.{and_left, and_right}
use Rattle.model_core.proofs.Commands.FrameLemmas.{part_map, not_same}
use Rattle.model_core.proofs.Histories.TallyLemmas.{Above, Increasing, increasing}
use Rattle.model_laws.specs.Histories.Finalisers.{is_queue, AllBelow, Falls, CollectionsQueueNewestFirst}
use Rattle.model_laws.proofs.OfHistories.SplitLemmas.{legal_rest}
use Rattle.model_laws.proofs.OfHistories.OrderLemmas.{inside_places}

-- places that are all at least a number
abbrev AtLeast : ℕ → List ℕ → Type 0
AtLeast n [] = Unit {0}
AtLeast n (p ∷ ps) = (n ≤ p) × AtLeast n ps

at_least_less : (m n : ℕ) (ps : List ℕ) → m ≤ n → AtLeast n ps → AtLeast m ps
at_least_less m n [] le all = tt
at_least_less m n (p ∷ ps) le all = (let h : n ≤ p = all.0 in omega arith, at_least_less m n ps le all.1)

at_least_append : (n : ℕ) (a b : List ℕ) → AtLeast n a → AtLeast n b → AtLeast n (a ++ b)
at_least_append n [] b x y = y
at_least_append n (p ∷ a) b x y = (x.0, at_least_append n a b x.1 y)

below_more : (p n : ℕ) (ps : List ℕ) → n ≤ p → AllBelow n ps → AllBelow p ps
below_more p n [] le all = tt
below_more p n (q ∷ ps) le all = (let h : q < n = all.0 in omega arith, below_more p n ps le all.1)

below_append : (p : ℕ) (a b : List ℕ) → AllBelow p a → AllBelow p b → AllBelow p (a ++ b)
below_append p [] b x y = y
below_append p (q ∷ a) b x y = (x.0, below_append p a b x.1 y)

falls_append : (n : ℕ) (a b : List ℕ) → Falls a → Falls b → AtLeast n a → AllBelow n b → Falls (a ++ b)
falls_append n [] b x y above below = y
falls_append n (p ∷ a) b x y above below = (below_append p a b x.0 (below_more p n b above.0 below), falls_append n a b x.1 y above.1 below)

-- rising places from the last to the first
turned : (p : ℕ) (ps : List ℕ) → reverse (p ∷ ps) ≡ reverse ps ++ p ∷ []
turned p ps = reverse-append (p ∷ []) ps

above_least : (p : ℕ) (ps : List ℕ) → Above p ps → AtLeast (p + 1) ps
above_least p [] above = tt
above_least p (q ∷ ps) above = (let h : p < q = above.0 in omega arith, above_least p ps above.1)

least_turned : (n : ℕ) (ps : List ℕ) → AtLeast n ps → AtLeast n (reverse ps)
least_turned n [] all = tt
least_turned n (p ∷ ps) all = subst (AtLeast n) (sym (turned p ps)) (at_least_append n (reverse ps) (p ∷ []) (least_turned n ps all.1) (all.0, tt))

below_turned : (n : ℕ) (ps : List ℕ) → AllBelow n ps → AllBelow n (reverse ps)
below_turned n [] all = tt
below_turned n (p ∷ ps) all = subst (AllBelow n) (sym (turned p ps)) (below_append n (reverse ps) (p ∷ []) (below_turned n ps all.1) (all.0, tt))

falls_turned : (ps : List ℕ) → Increasing ps → Falls (reverse ps)
falls_turned [] rising = tt
falls_turned (p ∷ ps) rising = subst Falls (sym (turned p ps))
    (falls_append (p + 1) (reverse ps) (p ∷ []) (falls_turned ps rising.1) (tt, tt) (least_turned (p + 1) ps (above_least p ps rising.0)) (omega arith, tt))

tested_below : (n : ℕ) (ps : List ℕ) → IsTrue (list_all (λ p. nat_lt p n) ps) → AllBelow n ps
tested_below n [] all = tt
tested_below n (p ∷ ps) all = (ltb-true p n (and_left (nat_lt p n) (list_all (λ q. nat_lt q n) ps) all), tested_below n ps (and_right (nat_lt p n) (list_all (λ q. nat_lt q n) ps) all))

-- what stands below all places that leave a list stays where it is
get-remove_below : {A : Type 0} (xs : List A) (i p : ℕ) → p < i → slice_get (remove xs i) p ≡ slice_get xs p
get-remove_below xs zero p lt = absurd (omega arith)
get-remove_below [] (suc i) p lt = refl
get-remove_below (x ∷ xs) (suc i) zero lt = refl
get-remove_below (x ∷ xs) (suc i) (suc p) lt = get-remove_below xs i p (omega arith)

get-without_above : {A : Type 0} (xs : List A) (p : ℕ) (ps : List ℕ) → Above p ps → slice_get (without_places ps xs) p ≡ slice_get xs p
get-without_above xs p [] above = refl
get-without_above xs p (q ∷ ps) above = get-remove_below (without_places ps xs) q p above.0 ∙ get-without_above xs p ps above.1

-- lists that agree below a place agree at places below it
places_agree : (xs ys : List Finaliser) (n : ℕ) (ps : List ℕ) → ((p : ℕ) → p < n → slice_get xs p ≡ slice_get ys p) → AllBelow n ps → at_places ps xs ≡ at_places ps ys
places_agree xs ys n [] agree below = refl
places_agree xs ys n (p ∷ ps) agree below = ap₂ (λ (o : Option Finaliser) t. cons_option o t) (agree p below.0) (places_agree xs ys n ps agree below.1)

first_least : (ps : List ℕ) → Increasing ps → AtLeast (slice_index ps 0) ps
first_least [] rising = tt
first_least (p ∷ ps) rising = (omega arith, at_least_less p (p + 1) ps (omega arith) (above_least p ps rising.0))

below_all : (p : ℕ) (ps : List ℕ) → Increasing ps → p < slice_index ps 0 → Above p ps
below_all p [] rising lt = tt
below_all p (q ∷ ps) rising lt = (lt, above_rest q ps lt rising.0)
  where
    above_rest : (r : ℕ) (rs : List ℕ) → p < r → Above r rs → Above p rs
    above_rest r [] less above = tt
    above_rest r (t ∷ rs) less above = (let h : r < t = above.0 in omega arith, above_rest r rs less above.1)

first_below : (n : ℕ) (ps : List ℕ) → IsTrue (is_rising ps) → AllBelow n ps → slice_index ps 0 < n
first_below n [] rising below = cc
first_below n (p ∷ ps) rising below = below.0

module _ (d : ℕ) (old : DomainState) where
  -- what a collection has queued of a domain that was as it was at the cut
  record Queued (x : DomainState) : Type 0 where
    places : List ℕ
    falls : Falls places
    least : AtLeast x.low places
    agree : (p : ℕ) → p < x.low → slice_get x.finals p ≡ slice_get old.finals p
    queue : x.queue ≡ old.queue ++ map queued_final (at_places places old.finals)

  queue_more : (x : DomainState) (ps : List ℕ) → IsTrue (is_rising ps) → AllBelow x.low ps → Queued x → Queued (with_queued x ps)
  queue_more x ps rising below q =
      let up : Increasing ps = increasing ps rising in
      let first : slice_index ps 0 < x.low = first_below x.low ps rising below in
      let same : at_places (reverse ps) x.finals ≡ at_places (reverse ps) old.finals = places_agree x.finals old.finals x.low (reverse ps) q.agree (below_turned x.low ps below) in
      let both : at_places (q.places ++ reverse ps) old.finals ≡ at_places q.places old.finals ++ at_places (reverse ps) old.finals = filter_map-append (slice_get old.finals) q.places (reverse ps) in
      record {
        places = q.places ++ reverse ps;
        falls = falls_append x.low q.places (reverse ps) q.falls (falls_turned ps up) q.least (below_turned x.low ps below);
        least = at_least_append (slice_index ps 0) q.places (reverse ps) (at_least_less (slice_index ps 0) x.low q.places (omega arith) q.least) (least_turned (slice_index ps 0) ps (first_least ps up));
        agree = λ p lt. get-without_above x.finals p ps (below_all p ps up lt) ∙ q.agree p (omega arith);
        queue = ap₂ (λ a b. a ++ map queued_final b) q.queue same
            ∙ (append_assoc old.queue (map queued_final (at_places q.places old.finals)) (map queued_final (at_places (reverse ps) old.finals))
            ∙ ap (λ t. old.queue ++ t) (sym (ap (map queued_final) both ∙ map-append queued_final (at_places q.places old.finals) (at_places (reverse ps) old.finals))));
      }

  queue_next : (s : State) (e : Entry) → Allowed s e → IsTrue (is_queue e) → Queued (domain_at s d) → Queued (domain_at (next s e) d)
  queue_next s (Queue k ps) allowed is q = go (eqb k d) refl
    where
      own : Queued (domain_at s k) → Queued (domain_at (next s (Queue k ps)) k)
      own mine = subst Queued (sym (get_or-set_same s.domains k (with_queued (domain_at s k) ps) no_domain (inside_places s.domains k ps allowed.rising allowed.below)))
          (queue_more (domain_at s k) ps allowed.rising (tested_below (domain_at s k).low ps allowed.below) mine)

      go : (b : Bool) → eqb k d ≡ b → Queued (domain_at (next s (Queue k ps)) d)
      go true e = subst (λ j. Queued (domain_at (next s (Queue k ps)) j)) (eqb-true k d e) (own (subst (λ j. Queued (domain_at s j)) (sym (eqb-true k d e)) q))
      go false e = subst Queued (sym (get_or-set_other s.domains k d (with_queued (domain_at s k) ps) no_domain (not_same k d e))) q
  queue_next s (CommandOf k c full) allowed is q = cc
  queue_next s (End k) allowed is q = cc
  queue_next s Cut allowed is q = cc
  queue_next s Seal allowed is q = cc
  queue_next s (Wipe l places) allowed is q = cc
  queue_next s (LastOf k place) allowed is q = cc
  queue_next s Collected allowed is q = cc
  queue_next s Done allowed is q = cc
  queue_next s (Ran k) allowed is q = cc

  queue_after : (s : State) (h : List Entry) → LegalFrom s h → IsTrue (list_all is_queue h) → Queued (domain_at s d) → Queued (domain_at (state_after s h) d)
  queue_after s [] legal all q = q
  queue_after s (e ∷ h) legal all q =
      queue_after (next s e) h legal.1 (and_right (is_queue e) (list_all is_queue h) all) (queue_next s e legal.0 (and_left (is_queue e) (list_all is_queue h) all) q)

pub newest_law : CollectionsQueueNewestFirst
newest_law z h k d legal all =
    let s : State = state_after (opening z) h in
    let old : DomainState = domain_at s d in
    let rest = legal_rest (opening z) h (Cut ∷ k) legal in
    let finals : (domain_at (next s Cut) d).finals ≡ old.finals = part_map (λ x. x.finals) with_finals_open (λ x. refl) s.domains d in
    let queue : (domain_at (next s Cut) d).queue ≡ old.queue = part_map (λ x. x.queue) with_finals_open (λ x. refl) s.domains d in
    let q = queue_after d old (next s Cut) k rest.1 all (record {
      places = [];
      falls = tt;
      least = tt;
      agree = λ p lt. ap (λ xs. slice_get xs p) finals;
      queue = queue ∙ sym (append-nil old.queue);
    }) in
    record { places = q.places; falls = q.falls; queue = q.queue }
