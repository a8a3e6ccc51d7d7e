-- Two states that are the same but for garbage are so at the seals of their collections, however the first is cut into entries.
use Rattle.std.proofs.Common.{◌≡◌, ℕ, suc, Bool, true, false, cond, not, List, [], ◌∷◌, ◌++◌, map, length, filter_map, refl, sym, ap, ◌∙◌, subst}
use Rattle.std.specs.Prelude.{reverse}
use Rattle.std.specs.List.{list_all}
use Rattle.std.proofs.lemmas.List.{map-append, reverse-append}
use Rattle.std.proofs.lemmas.List.Elements.{filter_map-append}
use Rattle.model_core.specs.declared.label.Label.{Label}
use Rattle.model_core.specs.declared.entry.Entry.{Entry}
use Rattle.model_core.specs.declared.entry.Entry.TheVariants.{Cut, Seal}
use Rattle.model_core.specs.declared.state.DomainState.{DomainState}
use Rattle.model_core.specs.declared.state.Finaliser.{Finaliser}
use Rattle.model_core.specs.declared.state.Pending.{Pending}
use Rattle.model_core.specs.declared.state.State.{State}
use Rattle.model_core.specs.Graph.{Graph, has_label, label_of, labels, node_at}
use Rattle.model_core.specs.Domains.{domain_at, is_reachable_with, pending_label, queues, reach}
use Rattle.model_core.specs.Entries.{next, queued_final, with_finals_open, with_lasts_open}
use Rattle.model_core.specs.History.{state_after}
use Rattle.model_core.proofs.Collections.CutLemmas.{queues_mapped}
use Rattle.model_traces.specs.Schedules.Sameness.{AllAlive, AreSameDomains, IsSameBut, IsSameDomain, is_queue}
use Rattle.model_traces.specs.Schedules.Scheduled.{all_queued}
use Rattle.model_traces.proofs.OfSchedules.Alive.{all_both}
use Rattle.model_traces.proofs.OfSchedules.Holding.{AreDomainsHeld, IsDomainHeld, domains_held, roots_held}
use Rattle.model_traces.proofs.OfSchedules.Keeping.{domains_stay, held_points, queued_keeps, queued_leaves, same_points}
use Rattle.model_traces.proofs.OfSchedules.Moving.{held_domain, same_domain}
use Rattle.model_traces.proofs.OfSchedules.Queued.{dead_of, others_of}
use Rattle.model_traces.proofs.OfSchedules.Queueing.{IsQueuedFrom, all_is_queue, all_queued_from}
use Rattle.model_traces.proofs.OfSchedules.Queues.{dead_in}
use Rattle.model_traces.proofs.OfSchedules.Sameness.{same_reach}

-- states with the same blocks and other domains, in another mode
pub remade : (s t : State) (same : IsSameBut s t) (x y : State) → x.graph ≡ s.graph → y.graph ≡ t.graph → AreDomainsHeld same.alive x.domains → AreSameDomains x.domains y.domains → y.sizes ≡ x.sizes → y.mode ≡ x.mode → y.kept ≡ x.kept → IsSameBut x y
remade s t same x y left right held domains sizes mode kept = record {
  alive = same.alive;
  held = record { roots = roots_held same.alive x held; nodes = λ l n a at. same.held.nodes l n a (ap (λ (g : Graph). node_at g l) (sym left) ∙ at) };
  nodes = λ l a. ap (λ (g : Graph). node_at g l) right ∙ same.nodes l a ∙ ap (λ (g : Graph). node_at g l) (sym left);
  labels_same = ap labels right ∙ same.labels_same ∙ ap labels (sym left);
  domains = domains;
  sizes = sizes;
  mode = mode;
  kept = kept;
}

-- domains changed alike, in nothing that is held
module _ (f : DomainState → DomainState) (alike : (x y : DomainState) → IsSameDomain x y → IsSameDomain (f x) (f y)) where
  pub same_mapped : (xs ys : List DomainState) → AreSameDomains xs ys → AreSameDomains (map f xs) (map f ys)
  same_mapped [] [] a = tt
  same_mapped [] (y ∷ ys) a = absurd a
  same_mapped (x ∷ xs) [] a = absurd a
  same_mapped (x ∷ xs) (y ∷ ys) a = (alike x y a.0, same_mapped xs ys a.1)

module _ (f : DomainState → DomainState) (alive : Label → Bool) (holds : (x : DomainState) → IsDomainHeld alive x → IsDomainHeld alive (f x)) where
  pub held_mapped : (xs : List DomainState) → AreDomainsHeld alive xs → AreDomainsHeld alive (map f xs)
  held_mapped [] h = tt
  held_mapped (x ∷ xs) h = (holds x h.0, held_mapped xs h.1)

-- at the cut
pub cut_same : (s t : State) (same : IsSameBut s t) → IsSameBut (next s Cut) (next t Cut)
cut_same s t same =
    remade s t same (next s Cut) (next t Cut) refl refl
    (held_mapped with_finals_open same.alive (λ x h. record { registers = h.registers; queue = h.queue; finals = h.finals }) s.domains (domains_held same.alive s same.held))
    (same_mapped with_finals_open (λ x y is. record { registers = is.registers; serial = is.serial; ended = is.ended; finals = is.finals; lasts = is.lasts; queue = is.queue; fresh = is.fresh; due = is.due }) s.domains t.domains same.domains)
    same.sizes refl same.kept

-- what is dead at the cut is what isn't reached
dead_then : (s : State) (f : Finaliser) → dead_in (next s Cut) f ≡ not (has_label (reach (next s Cut)) f.label)
dead_then s f =
    let queues_are : queues s ≡ queues (next s Cut) = sym (queues_mapped with_finals_open (λ x. refl) s.domains) in
    ap (λ (qs : List (List Pending)). not (is_reachable_with (next s Cut) qs f.label)) queues_are

pub dead_same : (s t : State) → IsSameBut s t → (f : Finaliser) → dead_in (next t Cut) f ≡ dead_in (next s Cut) f
dead_same s t same f =
    dead_then t f ∙ ap (λ (ls : List Label). not (has_label ls f.label)) (same_reach (next s Cut) (next t Cut) (cut_same s t same)) ∙ sym (dead_then s f)

module _ (alive : Label → Bool) where
  -- what is queued, and what still waits, are of those that waited
  all_others : (dead : Finaliser → Bool) (fs : List Finaliser) → AllAlive alive (map (λ f. f.label) fs) → AllAlive alive (map (λ f. f.label) (others_of queued_final dead fs))
  all_others dead [] a = tt
  all_others dead (f ∷ fs) a = go (dead f) (all_others dead fs a.1)
    where
      go : (b : Bool) → AllAlive alive (map (λ f. f.label) (others_of queued_final dead fs)) → AllAlive alive (map (λ f. f.label) (cond b (others_of queued_final dead fs) (f ∷ others_of queued_final dead fs)))
      go true rest = rest
      go false rest = (a.0, rest)

  all_dead : (dead : Finaliser → Bool) (fs : List Finaliser) → AllAlive alive (map (λ f. f.label) fs) → AllAlive alive (filter_map pending_label (map queued_final (reverse (dead_of queued_final dead fs))))
  all_dead dead [] a = tt
  all_dead dead (f ∷ fs) a = go (dead f) (all_dead dead fs a.1)
    where
      go : (b : Bool) → AllAlive alive (filter_map pending_label (map queued_final (reverse (dead_of queued_final dead fs))))
          → AllAlive alive (filter_map pending_label (map queued_final (reverse (cond b (f ∷ dead_of queued_final dead fs) (dead_of queued_final dead fs)))))
      go false rest = rest
      go true rest =
          let ds : List Finaliser = dead_of queued_final dead fs in
          let is : filter_map pending_label (map queued_final (reverse (f ∷ ds))) ≡ filter_map pending_label (map queued_final (reverse ds)) ++ f.label ∷ [] =
          ap (λ l. filter_map pending_label (map queued_final l)) (reverse-append (f ∷ []) ds) ∙ ap (filter_map pending_label) (map-append queued_final (reverse ds) (f ∷ [])) ∙ filter_map-append pending_label (map queued_final (reverse ds)) (queued_final f ∷ []) in
          subst (AllAlive alive) (sym is) (all_both alive (filter_map pending_label (map queued_final (reverse ds))) (f.label ∷ []) rest (a.0, tt))

  queued_held : (dead : Finaliser → Bool) (x y : DomainState) → IsDomainHeld alive x → y.registers ≡ x.registers → IsQueuedFrom dead x y → IsDomainHeld alive y
  queued_held dead x y h registers q = record {
    registers = subst (λ vs. AllAlive alive (filter_map label_of vs)) (sym registers) h.registers;
    queue = subst (λ l. AllAlive alive (filter_map pending_label l)) (sym q.queue)
        (subst (AllAlive alive) (sym (filter_map-append pending_label x.queue (map queued_final (reverse (dead_of queued_final dead x.finals)))))
        (all_both alive (filter_map pending_label x.queue) (filter_map pending_label (map queued_final (reverse (dead_of queued_final dead x.finals)))) h.queue (all_dead dead x.finals h.finals)));
    finals = subst (λ fs. AllAlive alive (map (λ f. f.label) fs)) (sym q.finals) (all_others dead x.finals h.finals);
  }

-- queued alike
queued_alike : (dead also : Finaliser → Bool) → also ≡ dead → (x y u v : DomainState) → IsSameDomain x y → IsQueuedFrom dead x u → IsQueuedFrom also y v → (v.finals ≡ u.finals) × (v.queue ≡ u.queue)
queued_alike dead also is x y u v same q r = (
  r.finals ∙ ap (λ p. others_of queued_final p y.finals) is ∙ ap (others_of queued_final dead) same.finals ∙ sym q.finals,
  r.queue ∙ ap (λ p. y.queue ++ map queued_final (reverse (dead_of queued_final p y.finals))) is ∙ ap (λ fs. y.queue ++ map queued_final (reverse (dead_of queued_final dead fs))) same.finals
      ∙ ap (λ l. l ++ map queued_final (reverse (dead_of queued_final dead x.finals))) same.queue ∙ sym q.queue,
)

pub many_same : (s t : State) → IsSameBut s t → length t.domains ≡ length s.domains
many_same s t same = many s.domains t.domains same.domains
  where
    many : (xs ys : List DomainState) → AreSameDomains xs ys → length ys ≡ length xs
    many [] [] a = refl
    many [] (y ∷ ys) a = absurd a
    many (x ∷ xs) [] a = absurd a
    many (x ∷ xs) (y ∷ ys) a = ap suc (many xs ys a.1)

-- behind the queue entries, where all that is dead was queued
pub queued_same : (s t : State) (same : IsSameBut s t) (queued : List Entry) → list_all is_queue queued ≡ true
    → ((d : ℕ) → IsQueuedFrom (dead_in (next s Cut)) (domain_at (next s Cut) d) (domain_at (state_after (next s Cut) queued) d))
    → IsSameBut (state_after (next s Cut) queued) (state_after (next t Cut) (all_queued (next t Cut)))
queued_same s t same queued all each =
    let s1 : State = next s Cut in
    let t1 : State = next t Cut in
    let s2 : State = state_after s1 queued in
    let t2 : State = state_after t1 (all_queued t1) in
    let other : list_all is_queue (all_queued t1) ≡ true = all_is_queue t1 in
    let one : IsSameBut s1 t1 = cut_same s t same in
    let deads : dead_in t1 ≡ dead_in s1 = λ i f. dead_same s t same f i in
    let graphs : s2.graph ≡ s1.graph = queued_leaves (λ (v : State). v.graph) (λ v d x. refl) s1 queued all in
    let graphs_too : t2.graph ≡ t1.graph = queued_leaves (λ (v : State). v.graph) (λ v d x. refl) t1 (all_queued t1) other in
    let many : length t2.domains ≡ length s2.domains =
    queued_leaves (λ (v : State). length v.domains) domains_stay t1 (all_queued t1) other ∙ many_same s1 t1 one ∙ sym (queued_leaves (λ (v : State). length v.domains) domains_stay s1 queued all) in
    remade s1 t1 one s2 t2 graphs graphs_too
    (held_points one.alive s2.domains (λ d. queued_held one.alive (dead_in s1) (domain_at s1 d) (domain_at s2 d) (held_domain s1 t1 one d) (queued_keeps (λ x. x.registers) (λ x ps. refl) s1 queued all d) (each d)))
    (same_points s2.domains t2.domains many (λ d.
    let is : IsSameDomain (domain_at s1 d) (domain_at t1 d) = same_domain s1 t1 one d in
    let both = queued_alike (dead_in s1) (dead_in t1) deads (domain_at s1 d) (domain_at t1 d) (domain_at s2 d) (domain_at t2 d) is (each d) (all_queued_from t1 d) in
    record {
      registers = queued_keeps (λ x. x.registers) (λ x ps. refl) t1 (all_queued t1) other d ∙ is.registers ∙ sym (queued_keeps (λ x. x.registers) (λ x ps. refl) s1 queued all d);
      serial = queued_keeps (λ x. x.serial) (λ x ps. refl) t1 (all_queued t1) other d ∙ is.serial ∙ sym (queued_keeps (λ x. x.serial) (λ x ps. refl) s1 queued all d);
      ended = queued_keeps (λ x. x.ended) (λ x ps. refl) t1 (all_queued t1) other d ∙ is.ended ∙ sym (queued_keeps (λ x. x.ended) (λ x ps. refl) s1 queued all d);
      finals = both.0;
      lasts = queued_keeps (λ x. x.lasts) (λ x ps. refl) t1 (all_queued t1) other d ∙ is.lasts ∙ sym (queued_keeps (λ x. x.lasts) (λ x ps. refl) s1 queued all d);
      queue = both.1;
      fresh = queued_keeps (λ x. x.fresh) (λ x ps. refl) t1 (all_queued t1) other d ∙ is.fresh ∙ sym (queued_keeps (λ x. x.fresh) (λ x ps. refl) s1 queued all d);
      due = queued_keeps (λ x. x.due) (λ x ps. refl) t1 (all_queued t1) other d ∙ is.due ∙ sym (queued_keeps (λ x. x.due) (λ x ps. refl) s1 queued all d);
    }))
    (queued_leaves (λ (v : State). v.sizes) (λ v d x. refl) t1 (all_queued t1) other ∙ one.sizes ∙ sym (queued_leaves (λ (v : State). v.sizes) (λ v d x. refl) s1 queued all))
    (queued_leaves (λ (v : State). v.mode) (λ v d x. refl) t1 (all_queued t1) other ∙ one.mode ∙ sym (queued_leaves (λ (v : State). v.mode) (λ v d x. refl) s1 queued all))
    (queued_leaves (λ (v : State). v.kept) (λ v d x. refl) t1 (all_queued t1) other ∙ one.kept ∙ sym (queued_leaves (λ (v : State). v.kept) (λ v d x. refl) s1 queued all))

-- at the seal
pub seal_same : (s t : State) (same : IsSameBut s t) → IsSameBut (next s Seal) (next t Seal)
seal_same s t same =
    remade s t same (next s Seal) (next t Seal) refl refl
    (held_mapped with_lasts_open same.alive (λ x h. record { registers = h.registers; queue = h.queue; finals = h.finals }) s.domains (domains_held same.alive s same.held))
    (same_mapped with_lasts_open (λ x y is. record { registers = is.registers; serial = is.serial; ended = is.ended; finals = is.finals; lasts = is.lasts; queue = is.queue; fresh = is.fresh; due = is.due }) s.domains t.domains same.domains)
    same.sizes refl same.kept
