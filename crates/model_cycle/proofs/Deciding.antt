-- From the Cut to the end of Decide: each Queue that is made is allowed, and at the end the Seal is allowed and what waits is marked.
use Rattle.std.proofs.Math.ListN.{get_or-map}
use Rattle.std.proofs.Common.{inr, inl, set, ◌≡◌, ⊎_elim, ℕ, suc, ◌<◌, arith, Bool, true, false, not, nat_lt, IsTrue, List, [], ◌∷◌, ◌++◌, map, flat_map, filter_map, length, get_or, slice_get, Option, Some, None, refl, ap, sym, ◌∙◌, subst}
use Rattle.std.specs.List.{cons_option}
use Rattle.std.proofs.lemmas.Bool.{lt-ltb}
use Rattle.model_core.specs.declared.label.Label.{Label}
use Rattle.model_core.specs.declared.entry.Entry.TheVariants.{Cut, Queue}
use Rattle.model_core.specs.declared.state.DomainState.{DomainState}
use Rattle.model_core.specs.declared.state.Finaliser.{Finaliser}
use Rattle.model_core.specs.declared.state.Pending.{Pending}
use Rattle.model_core.specs.declared.state.State.{State}
use Rattle.model_core.specs.Graph.{same_label, has_label, label_of}
use Rattle.model_core.specs.Reach.{HoldsRoots, IsClosedUnder}
use Rattle.model_core.specs.Domains.{domain_at, with_domain, no_domain, pending_label, queues, roots, waiting}
use Rattle.model_core.specs.Entries.{is_some_and, with_finals_open, with_queued, queued_final, queued_beyond, QueueAllowed, next}
use Rattle.model_core.proofs.Collections.CutLemmas.{pending_labels, part_same, queues_mapped, queue_grows}
use Rattle.model_core.proofs.Graphs.ListLemmas.{set_cases_inside, flat_map-map}
use Rattle.model_core.proofs.Graphs.GraphLemmas.{same_label-true}
use Rattle.model_core.proofs.Collections.MarkLemmas.{queue_unmarked, seal_marked}
use Rattle.model_core.proofs.Reach.ReachLemmas.{or_cases, and_both, has-append_cases, has-append_left, has-append_right, reachable_more}
use Rattle.model_cycle.specs.Marks.{IsWhole}
use Rattle.model_cycle.specs.Shares.{at_domain}
use Rattle.model_cycle.specs.Queueing.{InDecide, IsDecided, WaitingReached, CutStays}
use Rattle.model_cycle.proofs.DomainParts.{registers_of, part_all, beyond_grown, beyond_none}
use Rattle.model_cycle.proofs.LookingBack.{LooksBack, looks_start, looks_end, place_below, looks_keeps, looks_takes}
use Rattle.model_cycle.proofs.Tracing.{More, holds_more}

-- the one label that a Queue of one place adds to a queue
one_label : (o : Option Finaliser) (f : Finaliser) → o ≡ Some f → (l : Label)
    → IsTrue (has_label (filter_map pending_label (map queued_final (cons_option o []))) l) → f.label ≡ l
one_label None f e l h = cc
one_label (Some g) f e l h = ⊎_elim
    (λ here. let same : g ≡ f = cc (e) in ap (λ (z : Finaliser). z.label) (sym same) ∙ same_label-true g.label l here)
    (λ no. cc)
    (or_cases (same_label g.label l) false h)

-- the entry Cut, where the marked blocks are closed and hold the roots
pub decide_start : (s : State) (marked : Label → Bool) → IsClosedUnder s.graph marked → HoldsRoots (roots s (queues s)) marked
    → InDecide (next s Cut) marked (λ d. length (domain_at s d).finals)
decide_start s marked closed holds = record {
  mode = refl;
  roots = subst (λ z. HoldsRoots (z ++ flat_map (filter_map pending_label) (queues s)) marked)
      (sym (flat_map-map (λ (x : DomainState). filter_map label_of x.registers) with_finals_open s.domains)) holds;
  closed = closed;
  below = start.below;
  kept = start.kept;
  queued = λ l h.
      let none : queued_beyond (queues (next s Cut)) (queues s) ≡ [] =
      ap (λ z. queued_beyond z (queues s)) (queues_mapped with_finals_open (λ x. refl) s.domains) ∙ beyond_none (queues s) in
      let clash : IsTrue (has_label [] l) = subst (λ z. IsTrue (has_label z l)) none h in cc;
}
  where
    same : (d : ℕ) → domain_at (next s Cut) d ≡ with_finals_open (domain_at s d)
    same d = get_or-map with_finals_open s.domains d no_domain

    start : LooksBack (λ (f : Finaliser). f.label) marked (λ d. (domain_at (next s Cut) d).finals) (λ d. (domain_at (next s Cut) d).low) (λ d. length (domain_at s d).finals)
    start = looks_start (λ (f : Finaliser). f.label) marked _ _ _
        (λ d. let low = ap (λ (x : DomainState). x.low) (same d) in omega (arith, low))
        (λ d. let long = ap (λ (x : DomainState). length x.finals) (same d) in omega (arith, long))

module _ (s : State) (marked : Label → Bool) (left : ℕ → ℕ) (i : InDecide s marked left) where
  abbrev looks : LooksBack (λ (f : Finaliser). f.label) marked (λ d. (domain_at s d).finals) (λ d. (domain_at s d).low) left
  looks = record { below = i.below; kept = i.kept }

  module _ (d p : ℕ) (f : Finaliser) (next_place : left d ≡ suc p) (at : slice_get (domain_at s d).finals p ≡ Some f) where
    -- the domain looks at its next registration: its value is marked
    pub decide_keeps : IsTrue (marked f.label) → InDecide s marked (at_domain left d p)
    decide_keeps is =
        let on = looks_keeps (λ (g : Finaliser). g.label) marked _ _ left looks d p next_place f at is in
        record { mode = i.mode; roots = i.roots; closed = i.closed; below = on.below; kept = on.kept; queued = i.queued }

    -- or it is unmarked: the entry Queue is allowed
    module _ (un : IsTrue (not (marked f.label))) where
      pub queue_allowed : QueueAllowed s d (p ∷ [])
      queue_allowed =
          let lt : p < (domain_at s d).low = place_below (λ (g : Finaliser). g.label) marked _ _ left looks d p next_place in
          queue_unmarked s marked d (p ∷ []) i.mode refl (and_both (nat_lt p (domain_at s d).low) true (lt-ltb p (domain_at s d).low lt) refl) i.roots i.closed
          (and_both (is_some_and (λ (g : Finaliser). not (marked g.label)) (slice_get (domain_at s d).finals p)) true
          (subst (λ o. IsTrue (is_some_and (λ (g : Finaliser). not (marked g.label)) o)) (sym at) un) refl)

      module _ (inside : d < length s.domains) where
        abbrev queued_domain : DomainState
        queued_domain = with_queued (domain_at s d) (p ∷ [])

        pub decide_queues : InDecide (next s (Queue d (p ∷ []))) marked (at_domain left d p)
        decide_queues = record {
          mode = i.mode;
          roots = subst (λ z. HoldsRoots (z ++ flat_map (filter_map pending_label) s.cut) marked)
              (sym (part_same (λ x. filter_map label_of x.registers) s.domains d queued_domain refl)) i.roots;
          closed = i.closed;
          below = on.below;
          kept = on.kept;
          queued = λ l h. ⊎_elim
              (λ old. i.queued l old)
              (λ new. subst (λ z. IsTrue (not (marked z))) (one_label (slice_get (domain_at s d).finals p) f at l new) un)
              (beyond_grown s.domains d queued_domain (map queued_final (cons_option (slice_get (domain_at s d).finals p) [])) s.cut refl l h);
        }
          where
            on : LooksBack (λ (g : Finaliser). g.label) marked (λ k. (get_or (set s.domains d queued_domain) k no_domain).finals) (λ k. (get_or (set s.domains d queued_domain) k no_domain).low) (at_domain left d p)
            on = looks_takes (λ (g : Finaliser). g.label) marked _ _ left looks d p next_place _ _ (λ k. ⊎_elim
                (λ t. inl (t.0, ap (λ (x : DomainState). x.finals) t.1, ap (λ (x : DomainState). x.low) t.1))
                (λ t. inr (t.0, ap (λ (x : DomainState). x.finals) t.1, ap (λ (x : DomainState). x.low) t.1))
                (set_cases_inside s.domains d queued_domain no_domain k inside))

  -- where each domain has looked at all its registrations
  pub decide_end : ((d : ℕ) → d < length s.domains → left d ≡ 0) → IsDecided s marked
  decide_end all =
      let waits : HoldsRoots (waiting s) marked = part_all (λ x. map (λ f. f.label) x.finals) s.domains marked
      (λ d lt. looks_end (λ (f : Finaliser). f.label) marked _ _ left looks d (all d lt)) in
      record {
        seal = seal_marked s marked i.mode (record { roots = i.roots; waiting = waits; closed = i.closed }) i.queued;
        waiting = waits;
      }

-- more darkenings keep what was decided
pub decided_more : (s : State) (marked other : Label → Bool) → More marked other → IsDecided s marked → IsDecided s other
decided_more s marked other more i = record { seal = i.seal; waiting = holds_more marked other more (waiting s) i.waiting }

-- the roots of the cut are roots still, and what is reachable from them is reachable
pub cut_stays_start : (s : State) → CutStays (next s Cut)
cut_stays_start s l h = subst (λ z. IsTrue (has_label (roots (next s Cut) z) l)) (sym (queues_mapped with_finals_open (λ x. refl) s.domains)) h

module _ (s : State) (d : ℕ) (y : DomainState) (more : List Pending) (registers : y.registers ≡ (domain_at s d).registers) (queue : y.queue ≡ (domain_at s d).queue ++ more) where
  registers_same : registers_of (with_domain s d y) ≡ registers_of s
  registers_same = part_same (λ x. filter_map label_of x.registers) s.domains d y (ap (filter_map label_of) registers)

  -- so it is as a queue grows
  pub roots_grow : HoldsRoots (roots s (queues s)) (has_label (roots (with_domain s d y) (queues (with_domain s d y))))
  roots_grow l h = ⊎_elim
      (λ a. has-append_left (registers_of (with_domain s d y)) (pending_labels (queues (with_domain s d y))) l (subst (λ z. IsTrue (has_label z l)) (sym registers_same) a))
      (λ b. has-append_right (registers_of (with_domain s d y)) (pending_labels (queues (with_domain s d y))) l (queue_grows s.domains d y more queue l b))
      (has-append_cases (registers_of s) (pending_labels (queues s)) l h)

  pub cut_roots_same : (qs : List (List Pending)) → roots (with_domain s d y) qs ≡ roots s qs
  cut_roots_same qs = ap (λ z. z ++ pending_labels qs) registers_same

  pub cut_stays_grow : CutStays s → CutStays (with_domain s d y)
  cut_stays_grow stays l h = roots_grow l (stays l (subst (λ z. IsTrue (has_label z l)) (cut_roots_same s.cut) h))

-- a whole cycle: at the cut what is marked is reachable from its roots, and so it is at the end of Decide
pub whole_start : (s : State) (marked : Label → Bool) → IsWhole s.graph (roots s (queues s)) marked → IsWhole s.graph (roots (next s Cut) (queues s)) marked
whole_start s marked whole = subst (λ z. IsWhole s.graph (z ++ flat_map (filter_map pending_label) (queues s)) marked)
    (sym (flat_map-map (λ (x : DomainState). filter_map label_of x.registers) with_finals_open s.domains)) whole

pub whole_queues : (s : State) (marked : Label → Bool) (d : ℕ) (places : List ℕ) → IsWhole s.graph (roots s s.cut) marked
    → IsWhole s.graph (roots (next s (Queue d places)) s.cut) marked
whole_queues s marked d places whole =
    subst (λ z. IsWhole s.graph z marked) (sym (cut_roots_same s d (with_queued (domain_at s d) places) _ refl refl s.cut)) whole

pub whole_end : (s : State) (marked : Label → Bool) → IsDecided s marked → CutStays s → IsWhole s.graph (roots s s.cut) marked
    → WaitingReached s × IsWhole s.graph (roots s (queues s)) marked
whole_end s marked i stays whole = (
  (λ l h. whole l (i.waiting l h)),
  (λ l h. reachable_more s.graph (roots s s.cut) (roots s (queues s)) stays l (whole l h)),
)
