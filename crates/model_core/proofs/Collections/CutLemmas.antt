-- While a collection goes on, the queues hold what they held at its cut. So what is collected completely reaches all that waits.
use Rattle.std.proofs.Common.{append-nil, ap₂, ◌≡◌, ℕ, zero, suc, Bool, true, false, IsTrue, List, [], ◌∷◌, ◌++◌, map, length, flat_map, filter_map, get_or, set, Option, Some, None, refl, ap, sym, ◌∙◌, subst, ⊎_elim}
use Rattle.std.proofs.lemmas.List.Elements.{filter_map-append}
use Rattle.model_core.specs.declared.label.Label.{Label}
use Rattle.model_core.specs.declared.command.Command.{Command}
use Rattle.model_core.specs.declared.command.Command.TheVariants.{FullMajor, Spawn, Argument, PutResult, Join}
use Rattle.model_core.specs.declared.entry.Entry.{Entry}
use Rattle.model_core.specs.declared.entry.Entry.TheVariants.{Command as CommandOf, End, Cut, Queue, Seal, Wipe, Last as LastOf, Collected, Done, Ran}
use Rattle.model_core.specs.declared.graph.Node.{Node}
use Rattle.model_core.specs.declared.graph.Node.TheVariants.{Plain, Raw, Ephe}
use Rattle.model_core.specs.declared.state.Mode.{Mode}
use Rattle.model_core.specs.declared.state.Mode.TheVariants.{Open, Cut as CutMode, Sealed, Answer}
use Rattle.model_core.specs.declared.state.Pending.{Pending}
use Rattle.model_core.specs.declared.state.Pending.TheVariants.{Fin, Last}
use Rattle.model_core.specs.declared.state.DomainState.{DomainState}
use Rattle.model_core.specs.declared.state.LastFinaliser.{LastFinaliser}
use Rattle.model_core.specs.Reach.{reachable}
use Rattle.model_core.specs.declared.state.Sizes.{Sizes}
use Rattle.model_core.specs.declared.state.State.{State}
use Rattle.model_core.specs.Graph.{has_label, label_of, node_at}
use Rattle.model_core.specs.Domains.{domain_at, with_domain, no_domain, pending_label, queues, roots, reach, waiting, settled_roots, settled_reach, opening}
use Rattle.model_core.specs.Commands.{FitsMode}
use Rattle.model_core.specs.Entries.{Allowed, wiped, with_wiped, after_run, at_places, queued_last, with_queued, with_last_queued, CollectedAllowed, next}
use Rattle.model_core.specs.History.{state_after, LegalFrom, Legal}
use Rattle.model_core.specs.WellFormed.{IsWellFormed}
use Rattle.model_core.proofs.Graphs.ListLemmas.{flat_map-map}
use Rattle.model_core.proofs.Commands.MoveLemmas.{outcome-mode}
use Rattle.model_core.proofs.Reach.ReachLemmas.{Within, has-append_cases, has-append_left, has-append_right, reachable_more, reachable_least, reach_law}
use Rattle.model_core.proofs.Histories.WellFormedLemmas.{closed_graph, queues_named, wf_after, wf_opening}
use Rattle.model_core.proofs.Collections.CollectionLemmas.{collected_waiting}

-- whether a collection is between its Cut and its Collected or Done
abbrev pub is_collecting : Mode → Bool
is_collecting Open = false
is_collecting CutMode = true
is_collecting Sealed = true
is_collecting Answer = false

abbrev pub pending_labels : List (List Pending) → List Label
pending_labels qs = flat_map (filter_map pending_label) qs

-- what the queues held at the cut they still hold
abbrev pub HoldsCut : State → Type 0
HoldsCut s = IsTrue (is_collecting s.mode) → Within (pending_labels s.cut) (pending_labels (queues s))

not_collecting : (s : State) (m : Mode) → is_collecting m ≡ false → s.mode ≡ m → HoldsCut s
not_collecting s m quiet at h = absurd (let clash : false ≡ true = sym quiet ∙ ap is_collecting (sym at) ∙ h in cc)

fits_quiet : (s : State) (d : ℕ) (c : Command) → FitsMode s d c → is_collecting s.mode ≡ false
fits_quiet s d FullMajor fits = ap is_collecting fits.0
fits_quiet s d (Spawn section item) fits = absurd fits
fits_quiet s d (Argument dst) fits = absurd fits
fits_quiet s d (PutResult item) fits = absurd fits
fits_quiet s d (Join dst section) fits = absurd fits
fits_quiet s d c fits = ap is_collecting fits.0

-- one queue that grows
pub queue_grows : (xs : List DomainState) (d : ℕ) (y : DomainState) (more : List Pending) → y.queue ≡ (get_or xs d no_domain).queue ++ more
    → Within (pending_labels (map (λ x. x.queue) xs)) (pending_labels (map (λ x. x.queue) (set xs d y)))
queue_grows [] d y more grown l h = h
queue_grows (x ∷ xs) zero y more grown l h = ⊎_elim
    (λ here. has-append_left (filter_map pending_label y.queue) (pending_labels (map (λ x. x.queue) xs)) l
    (let split : filter_map pending_label y.queue ≡ filter_map pending_label x.queue ++ filter_map pending_label more =
    ap (filter_map pending_label) grown ∙ filter_map-append pending_label x.queue more in
    subst (λ z. IsTrue (has_label z l)) (sym split) (has-append_left (filter_map pending_label x.queue) (filter_map pending_label more) l here)))
    (λ later. has-append_right (filter_map pending_label y.queue) (pending_labels (map (λ x. x.queue) xs)) l later)
    (has-append_cases (filter_map pending_label x.queue) (pending_labels (map (λ x. x.queue) xs)) l h)
queue_grows (x ∷ xs) (suc d) y more grown l h = ⊎_elim
    (λ here. has-append_left (filter_map pending_label x.queue) (pending_labels (map (λ x. x.queue) (set xs d y))) l here)
    (λ later. has-append_right (filter_map pending_label x.queue) (pending_labels (map (λ x. x.queue) (set xs d y))) l (queue_grows xs d y more grown l later))
    (has-append_cases (filter_map pending_label x.queue) (pending_labels (map (λ x. x.queue) xs)) l h)

pub queues_mapped : (f : DomainState → DomainState) → ((x : DomainState) → (f x).queue ≡ x.queue) → (xs : List DomainState)
    → map (λ (x : DomainState). x.queue) (map f xs) ≡ map (λ (x : DomainState). x.queue) xs
queues_mapped f same [] = refl
queues_mapped f same (x ∷ xs) = (λ i. same x i ∷ map (λ (x : DomainState). x.queue) (map f xs)) ∙ ap (λ t. x.queue ∷ t) (queues_mapped f same xs)

module _ (s : State) (holds : HoldsCut s) where
  holds_wiped : (l : Label) (places : List ℕ) (o : Option Node) → HoldsCut (with_wiped s l (wiped places o))
  holds_wiped l places None = holds
  holds_wiped l places (Some (Plain tag fields)) = holds
  holds_wiped l places (Some (Raw tag fields)) = holds
  holds_wiped l places (Some (Ephe keys datum)) = holds

run_mode : (s : State) (d : ℕ) (queue : List Pending) → (after_run s d queue).mode ≡ s.mode
run_mode s d [] = refl
run_mode s d (Fin number l r ∷ rest) = refl
run_mode s d (Last number ∷ rest) = refl

pub holds_next : (s : State) (e : Entry) → Allowed s e → HoldsCut s → HoldsCut (next s e)
holds_next s (CommandOf d c true) allowed holds = not_collecting (next s (CommandOf d c true)) s.mode (fits_quiet s d c allowed.fits) refl
holds_next s (CommandOf d c false) allowed holds = not_collecting (next s (CommandOf d c false)) s.mode (fits_quiet s d c allowed.fits) (outcome-mode s d c)
holds_next s (End d) allowed holds = not_collecting (next s (End d)) Open refl allowed.mode
holds_next s Cut allowed holds =
    let same = queues_mapped (λ x. record x { low = length x.finals }) (λ x. refl) s.domains in
    λ on l h. subst (λ z. IsTrue (has_label (pending_labels z) l)) (sym same) h
holds_next s (Queue d places) allowed holds =
    λ on l h. queue_grows s.domains d (with_queued (domain_at s d) places) _ refl l (holds on l h)
holds_next s Seal allowed holds =
    let same = queues_mapped (λ x. record x { low = length x.lasts }) (λ x. refl) s.domains in
    λ on l h. subst (λ z. IsTrue (has_label (pending_labels z) l)) (sym same) (holds (ap is_collecting allowed.mode) l h)
holds_next s (Wipe l keys) allowed holds = holds_wiped s holds l keys (node_at s.graph l)
holds_next s (LastOf d place) allowed holds =
    λ on l h. queue_grows s.domains d (with_last_queued (domain_at s d) place) _ refl l (holds on l h)
holds_next s Collected allowed holds = not_collecting (next s Collected) Answer refl refl
holds_next s Done allowed holds = not_collecting (next s Done) Open refl refl
holds_next s (Ran d) allowed holds = not_collecting (next s (Ran d)) Open refl (run_mode s d (domain_at s d).queue ∙ allowed.mode)

pub holds_after : (s : State) (h : List Entry) → LegalFrom s h → HoldsCut s → HoldsCut (state_after s h)
holds_after s [] legal holds = holds
holds_after s (e ∷ h) legal holds = holds_after (next s e) h legal.1 (holds_next s e legal.0 holds)

-- where a collection is complete, what waits is reachable already, and the waiting registrations reach nothing more
pub collected_settled : (z : Sizes) (h : List Entry) → Legal z h → let s = state_after (opening z) h in CollectedAllowed s
    → Within (settled_reach s (queues s)) (reach s) × Within (reach s) (settled_reach s (queues s))
collected_settled z h legal allowed =
    let s : State = state_after (opening z) h in
    let wf : IsWellFormed s = wf_after (opening z) h (wf_opening z) in
    let law = reach_law s.graph (roots s (queues s)) (closed_graph s wf (queues s) (queues_named s.graph s.domains (λ k. (wf.domains k).queue))) in
    let grown : Within (pending_labels s.cut) (pending_labels (queues s)) =
    holds_after (opening z) h legal (not_collecting (opening z) Open refl refl) (ap is_collecting allowed.mode) in
    let registers : List Label = flat_map (λ x. filter_map label_of x.registers) s.domains in
    let more : Within (roots s s.cut) (roots s (queues s)) = λ l at. ⊎_elim
    (λ a. has-append_left registers (pending_labels (queues s)) l a)
    (λ b. has-append_right registers (pending_labels (queues s)) l (grown l b))
    (has-append_cases registers (pending_labels s.cut) l at) in (
      reachable_least s.graph (has_label (reach s)) law.closed (settled_roots s (queues s)) (λ l at. ⊎_elim
          (λ a. law.holds_roots l a)
          (λ b. reachable_more s.graph (roots s s.cut) (roots s (queues s)) more l (collected_waiting s allowed l b))
          (has-append_cases (roots s (queues s)) (waiting s) l at)),
      reachable_more s.graph (roots s (queues s)) (settled_roots s (queues s)) (has-append_left (roots s (queues s)) (waiting s)),
    )

-- a `finalise_last` that is queued changes neither the reach nor the settled reach
pub part_same : {B : Type 0} (f : DomainState → List B) (xs : List DomainState) (d : ℕ) (y : DomainState) → f y ≡ f (get_or xs d no_domain) → flat_map f (set xs d y) ≡ flat_map f xs
part_same f [] d y same = refl
part_same f (x ∷ xs) zero y same = ap (λ t. t ++ flat_map f xs) same
part_same f (x ∷ xs) (suc d) y same = ap (λ t. f x ++ t) (part_same f xs d y same)

pub no_last_labels : (xs : List LastFinaliser) → filter_map pending_label (map queued_last xs) ≡ []
no_last_labels [] = refl
no_last_labels (x ∷ xs) = no_last_labels xs

module _ (s : State) (d place : ℕ) where
  abbrev queued : DomainState
  queued = with_last_queued (domain_at s d) place

  queued_labels_same : pending_labels (queues (with_domain s d queued)) ≡ pending_labels (queues s)
  queued_labels_same =
      let same : filter_map pending_label queued.queue ≡ filter_map pending_label (domain_at s d).queue =
      filter_map-append pending_label (domain_at s d).queue _
      ∙ ap (λ t. filter_map pending_label (domain_at s d).queue ++ t) (no_last_labels (at_places (place ∷ []) (domain_at s d).lasts)) ∙ append-nil (filter_map pending_label (domain_at s d).queue) in
      flat_map-map (filter_map pending_label) (λ (x : DomainState). x.queue) (set s.domains d queued) ∙ part_same (λ x. filter_map pending_label x.queue) s.domains d queued same ∙ sym (flat_map-map (filter_map pending_label) (λ (x : DomainState). x.queue) s.domains)

  pub roots_same : roots (next s (LastOf d place)) (queues (next s (LastOf d place))) ≡ roots s (queues s)
  roots_same = ap₂ (λ a b. a ++ b) (part_same (λ x. filter_map label_of x.registers) s.domains d queued refl) queued_labels_same

  pub last_keeps_reach : reach (next s (LastOf d place)) ≡ reach s
  last_keeps_reach = ap (reachable s.graph) roots_same

  pub last_keeps_settled_reach : settled_reach (next s (LastOf d place)) (queues (next s (LastOf d place))) ≡ settled_reach s (queues s)
  last_keeps_settled_reach = ap (reachable s.graph) (ap₂ (λ a b. a ++ b) roots_same (part_same (λ x. map (λ f. f.label) x.finals) s.domains d queued refl))
