-- What any entries behind the seal of a collection leave of keys, data and registrations of `finalise_last`: no word of it depends on how they were cut or ordered.
use Rattle.std.proofs.Common.{◌≡◌, ℕ, Bool, true, false, not, ◌&&◌, List, [], ◌∷◌, ◌++◌, map, length, refl, sym, ap, ◌∙◌, subst, ⊎_elim, None, Some}
use Rattle.std.specs.Prelude.{Option, filter_map, reverse, remove, slice_get}
use Rattle.std.specs.List.{list_all}
use Rattle.std.proofs.lemmas.Bool.{and_parts}
use Rattle.model_core.specs.declared.label.Label.{Label}
use Rattle.model_core.specs.declared.entry.Entry.{Entry}
use Rattle.model_core.specs.declared.entry.Entry.TheVariants.{Wipe, Last}
use Rattle.model_core.specs.declared.graph.Node.{Node}
use Rattle.model_core.specs.declared.graph.Node.TheVariants.{Plain, Raw, Ephe}
use Rattle.model_core.specs.declared.graph.Value.{Value}
use Rattle.model_core.specs.declared.graph.Value.TheVariants.{Nothing}
use Rattle.model_core.specs.declared.state.DomainState.{DomainState}
use Rattle.model_core.specs.declared.state.LastFinaliser.{LastFinaliser}
use Rattle.model_core.specs.declared.state.State.{State}
use Rattle.model_core.specs.Graph.{same_label, has_label, node_at, with_node}
use Rattle.model_core.specs.Domains.{no_domain, domain_at, queues, settled_roots, settled_reach}
use Rattle.model_core.specs.Reach.{reachable}
use Rattle.model_core.specs.Entries.{is_rising, is_some_and, is_gone, is_let_go, has_keys, has_gone_keys, at_places, queued_last, with_last_queued, wiped, wiped_keys, with_wiped, with_taken, LastAllowed, next}
use Rattle.model_core.specs.History.{state_after, LegalFrom}
use Rattle.model_core.proofs.Collections.CutLemmas.{last_keeps_settled_reach}
use Rattle.model_core.proofs.Collections.WipeLemmas.{wipe_keeps_reachable}
use Rattle.model_core.proofs.Graphs.GraphLemmas.{same_label-true, same_label_refl, node_at-with_node_same, node_at-with_node_other}
use Rattle.model_core.proofs.Graphs.ListLemmas.{set_cases}
use Rattle.model_traces.specs.Schedules.Sameness.{is_taking}
use Rattle.model_traces.proofs.OfSchedules.Queued.{Part, dead_of, others_of, one_gone, all_queued_is, none_gone}
use Rattle.model_traces.proofs.OfSchedules.Wiped.{IsWiped, is_gone_key, emptied_node, unwiped, wiped_once, node_known}

-- whether a label is gone
abbrev pub gone_in : State → Label → Bool
gone_in s l = is_gone s (queues s) l

abbrev pub gone_last : State → LastFinaliser → Bool
gone_last s f = gone_in s f.label

-- how far domain d has been queued since s
abbrev pub LastsOf : State → ℕ → DomainState → Type 0
LastsOf s d x = Part queued_last (gone_last s) (domain_at s d).lasts (domain_at s d).queue x.lasts x.queue x.low

-- how far a node has been wiped
abbrev pub NodeOf : State → Option Node → Option Node → Type 0
NodeOf s (Some (Ephe keys datum)) (Some (Ephe now left)) = IsWiped (gone_in s) keys datum now left
NodeOf s old new = new ≡ old

-- since s nothing but such entries were made
pub record Taking (s t : State) : Type 0 where
  pub settled : settled_reach t (queues t) ≡ settled_reach s (queues s)
  pub lasts : (d : ℕ) → LastsOf s d (domain_at t d)
  pub finals : (d : ℕ) → (domain_at t d).finals ≡ (domain_at s d).finals
  pub nodes : (l : Label) → NodeOf s (node_at s.graph l) (node_at t.graph l)

same_gone : (s t : State) → Taking s t → (l : Label) → gone_in t l ≡ gone_in s l
same_gone s t r l = ap (λ (ls : List Label). not (has_label ls l)) r.settled

-- the registration at a place that may be queued
taken_last : (gone apart : LastFinaliser → Bool) (o : Option LastFinaliser) → is_some_and (λ f. gone f && apart f) o ≡ true → (f : LastFinaliser) × (o ≡ Some f) × (gone f ≡ true)
taken_last gone apart None e = cc
taken_last gone apart (Some f) e = (f, refl, (and_parts (gone f) (apart f) e).0)

one_at : (xs : List LastFinaliser) (p : ℕ) (f : LastFinaliser) → slice_get xs p ≡ Some f → at_places (p ∷ []) xs ≡ f ∷ []
one_at xs p f at = ap (λ (o : Option LastFinaliser). filter_map (λ z. z) (o ∷ [])) at

own_last : (s t : State) (e place : ℕ) → Taking s t → LastAllowed t e place → LastsOf s e (with_last_queued (domain_at t e) place)
own_last s t e place r a =
    let x : DomainState = domain_at t e in
    let f = taken_last (gone_last t) (λ f. is_let_go t f.label) (slice_get x.lasts place) a.gone in
    let dead : gone_last s f.0 ≡ true = sym (same_gone s t r f.0.label) ∙ f.2 in
    let step = one_gone queued_last (gone_last s) (domain_at s e).lasts (domain_at s e).queue x.lasts x.queue x.low place f.0 (r.lasts e) a.below f.1 dead in
    subst (λ (l : List LastFinaliser). Part queued_last (gone_last s) (domain_at s e).lasts (domain_at s e).queue (remove x.lasts place) (x.queue ++ map queued_last l) place) (sym (one_at x.lasts place f.0 f.1)) step

last_step : (s t : State) (e place : ℕ) → Taking s t → LastAllowed t e place → Taking s (next t (Last e place))
last_step s t e place r a =
    let y : DomainState = with_last_queued (domain_at t e) place in
    let parts : (d : ℕ) → LastsOf s d (domain_at (next t (Last e place)) d) × ((domain_at (next t (Last e place)) d).finals ≡ (domain_at s d).finals) =
    λ d. ⊎_elim
    (λ (here : (d ≡ e) × (domain_at (next t (Last e place)) d ≡ y)). subst (λ (x : DomainState). LastsOf s d x × (x.finals ≡ (domain_at s d).finals)) (sym here.1) (subst (λ (n : ℕ). LastsOf s n y × (y.finals ≡ (domain_at s n).finals)) (sym here.0) (own_last s t e place r a, r.finals e)))
    (λ (there : domain_at (next t (Last e place)) d ≡ domain_at t d). subst (λ (x : DomainState). LastsOf s d x × (x.finals ≡ (domain_at s d).finals)) (sym there) (r.lasts d, r.finals d))
    (set_cases t.domains e y no_domain d) in
    record {
      settled = last_keeps_settled_reach t e place ∙ r.settled;
      lasts = λ d. (parts d).0;
      finals = λ d. (parts d).1;
      nodes = r.nodes;
    }

-- a node that is wiped once more
node_next : (s : State) (old : Option Node) (keys : List (Option Label)) (datum : Value) (places : List ℕ) → NodeOf s old (Some (Ephe keys datum)) → is_rising places ≡ true → has_keys (gone_in s) places (Some (Ephe keys datum)) ≡ true → NodeOf s old (Some (Ephe (wiped_keys places keys) Nothing))
node_next s None keys datum places n rises has = cc
node_next s (Some (Plain tag fields)) keys datum places n rises has = cc
node_next s (Some (Raw tag fields)) keys datum places n rises has = cc
node_next s (Some (Ephe ks d)) keys datum places n rises has = wiped_once (gone_in s) ks d keys datum places n rises has

wiped_by : (s t : State) (l : Label) (places : List ℕ) (o : Option Node) (labels : List Label) → Taking s t → node_at t.graph l ≡ o → is_rising places ≡ true → has_gone_keys t places o ≡ true
    → reachable (with_wiped t l (wiped places o)).graph (settled_roots t (queues t)) ≡ reachable t.graph (settled_roots t (queues t)) → Taking s (with_taken (with_wiped t l (wiped places o)) labels)
wiped_by s t l places None labels r at rises has keeps = cc
wiped_by s t l places (Some (Plain tag fields)) labels r at rises has keeps = cc
wiped_by s t l places (Some (Raw tag fields)) labels r at rises has keeps = cc
wiped_by s t l places (Some (Ephe keys datum)) labels r at rises has keeps =
    let new : Node = Ephe (wiped_keys places keys) Nothing in
    let gone : has_keys (gone_in s) places (Some (Ephe keys datum)) ≡ true =
    sym (ap (λ (ls : List Label). has_keys (λ x. not (has_label ls x)) places (Some (Ephe keys datum))) r.settled) ∙ has in
    let own : NodeOf s (node_at s.graph l) (node_at (with_node t.graph l new) l) =
    subst (λ (o : Option Node). NodeOf s (node_at s.graph l) o) (sym (node_at-with_node_same t.graph l new (Ephe keys datum) at))
    (node_next s (node_at s.graph l) keys datum places (subst (λ (o : Option Node). NodeOf s (node_at s.graph l) o) at (r.nodes l)) rises gone) in
    record {
      settled = keeps ∙ r.settled;
      lasts = r.lasts;
      finals = r.finals;
      nodes = λ m. go m (same_label m l) refl own;
    }
  where
    go : (m : Label) (b : Bool) → same_label m l ≡ b → NodeOf s (node_at s.graph l) (node_at (with_node t.graph l (Ephe (wiped_keys places keys) Nothing)) l)
        → NodeOf s (node_at s.graph m) (node_at (with_node t.graph l (Ephe (wiped_keys places keys) Nothing)) m)
    go m true e own = subst (λ (x : Label). NodeOf s (node_at s.graph x) (node_at (with_node t.graph l (Ephe (wiped_keys places keys) Nothing)) x)) (sym (same_label-true m l e)) own
    go m false e own =
        let other : m ≡ l → ⊥ = λ same. let clash : true ≡ false = sym (same_label_refl l) ∙ subst (λ z. same_label z l ≡ false) same e in cc in
        subst (λ (o : Option Node). NodeOf s (node_at s.graph m) o) (sym (node_at-with_node_other t.graph l m (Ephe (wiped_keys places keys) Nothing) other)) (r.nodes m)

-- any such entries
pub takings : (s t : State) (h : List Entry) → Taking s t → list_all is_taking h ≡ true → LegalFrom t h → Taking s (state_after t h)
takings s t [] r all legal = r
takings s t (Wipe l places ∷ h) r all legal =
    takings s (next t (Wipe l places)) h
    (wiped_by s t l places (node_at t.graph l) _ r refl legal.0.rising legal.0.gone (wipe_keeps_reachable t l places legal.0 (settled_roots t (queues t)) (λ x h. h))) all legal.1
takings s t (Last e place ∷ h) r all legal = takings s (next t (Last e place)) h (last_step s t e place r legal.0) all legal.1
takings s t (e ∷ h) r all legal = cc

node_start : (s : State) (o : Option Node) → NodeOf s o o
node_start s None = refl
node_start s (Some (Plain tag fields)) = refl
node_start s (Some (Raw tag fields)) = refl
node_start s (Some (Ephe keys datum)) = unwiped (gone_in s) keys datum

-- at the seal
pub at_seal : (s : State) → ((d : ℕ) → (domain_at s d).low ≡ length (domain_at s d).lasts) → Taking s s
at_seal s lows = record {
  settled = refl;
  lasts = λ d. subst (λ (n : ℕ). Part queued_last (gone_last s) (domain_at s d).lasts (domain_at s d).queue (domain_at s d).lasts (domain_at s d).queue n) (sym (lows d)) (none_gone queued_last (gone_last s) (domain_at s d).lasts (domain_at s d).queue);
  finals = λ d. refl;
  nodes = λ l. node_start s (node_at s.graph l);
}

-- once none that is gone waits, what waits and what is queued are known
pub lasts_known : (s t : State) (d : ℕ) → Taking s t → list_all (λ f. not (gone_last s f)) (domain_at t d).lasts ≡ true
    → ((domain_at t d).lasts ≡ others_of queued_last (gone_last s) (domain_at s d).lasts)
    × ((domain_at t d).queue ≡ (domain_at s d).queue ++ map queued_last (reverse (dead_of queued_last (gone_last s) (domain_at s d).lasts)))
lasts_known s t d r none =
    let x : DomainState = domain_at t d in
    all_queued_is queued_last (gone_last s) (domain_at s d).lasts (domain_at s d).queue x.lasts x.queue x.low (r.lasts d) none

-- and once no key of an ephemeron is left that is gone, the ephemeron is known
pub ephemeron_known : (s : State) (old new : Option Node) (keys : List (Option Label)) (datum : Value) (now : List (Option Label)) (left : Value) → NodeOf s old new → old ≡ Some (Ephe keys datum) → new ≡ Some (Ephe now left)
    → list_all (λ k. not (is_gone_key (gone_in s) k)) now ≡ true → Ephe now left ≡ emptied_node (gone_in s) (Ephe keys datum)
ephemeron_known s old new keys datum now left n was is none =
    let w : NodeOf s (Some (Ephe keys datum)) (Some (Ephe now left)) = subst (λ (o : Option Node). NodeOf s (Some (Ephe keys datum)) o) is (subst (λ (o : Option Node). NodeOf s o new) was n) in
    node_known (gone_in s) keys datum now left w none
