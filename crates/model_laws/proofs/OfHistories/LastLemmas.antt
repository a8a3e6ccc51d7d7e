-- Where a `finalise_last` is queued, no domain holds its block, and each `finalise` of it has run.
use Rattle.std.proofs.Common.{◌≡◌, ◌≢◌, ℕ, zero, suc, cond, ◌&&◌, IsTrue, List, [], ◌∷◌, ◌++◌, map, flat_map, filter_map, slice_get, Some, refl, ap, sym, ◌∙◌, subst, arith}
use Rattle.model_core.specs.declared.label.Label.{Label}
use Rattle.model_core.specs.declared.entry.Entry.TheVariants.{Last as LastOf}
use Rattle.model_core.specs.declared.state.Finaliser.{Finaliser}
use Rattle.model_core.specs.declared.state.LastFinaliser.{LastFinaliser}
use Rattle.model_core.specs.declared.state.Pending.{Pending}
use Rattle.model_core.specs.declared.state.Pending.TheVariants.{Fin, Last}
use Rattle.model_core.specs.declared.state.DomainState.{DomainState}
use Rattle.model_core.specs.declared.state.State.{State}
use Rattle.model_core.specs.Graph.{same_label, has_label, label_of}
use Rattle.model_core.specs.Domains.{domain_at, pending_label, queues, roots, waiting, settled_roots, settled_reach, opening}
use Rattle.model_core.specs.Entries.{queued_final, queued_last, is_some_and, is_gone, is_let_go, LastAllowed}
use Rattle.model_core.specs.History.{state_after}
use Rattle.model_core.specs.Registrations.{left_over}
use Rattle.model_core.proofs.Graphs.GraphLemmas.{same_label-false}
use Rattle.model_core.proofs.Graphs.ListLemmas.{flat_map-map}
use Rattle.model_core.proofs.Reach.ReachLemmas.{and_left, not_true, has-append_left, has-append_right, reachable_roots}
use Rattle.model_core.proofs.Histories.TallyLemmas.{tally, tally-append, tally-map, tally_count, counted}
use Rattle.model_laws.specs.Histories.Finalisers.{IsLetGoByAll, is_final_of, LastsWaitForAll, FinalsRunBeforeLasts}
use Rattle.model_laws.proofs.OfHistories.SplitLemmas.{legal_first, legal_rest, get_has, mapped_has, register_has, domain_has}
use Rattle.model_laws.proofs.OfHistories.RegistrationLemmas.{not_lost_law}

-- what is gone is no settled root
gone_root : (s : State) (l : Label) → IsTrue (is_gone s (queues s) l) → IsTrue (has_label (settled_roots s (queues s)) l) → ⊥
gone_root s l gone h = not_true (has_label (settled_reach s (queues s)) l) gone (reachable_roots s.graph (settled_roots s (queues s)) l h)

-- so no domain holds it, and no finaliser of `finalise` waits for it
module _ (s : State) (l : Label) (gone : IsTrue (is_gone s (queues s) l)) where
  in_roots : IsTrue (has_label (roots s (queues s)) l) → ⊥
  in_roots h = gone_root s l gone (has-append_left (roots s (queues s)) (waiting s) l h)

  pub gone_let_go : IsLetGoByAll s l
  gone_let_go =
      let registers : List Label = flat_map (λ (x : DomainState). filter_map label_of x.registers) s.domains in
      let pending : List Label = flat_map (filter_map pending_label) (queues s) in
      record {
        registers = λ d r held. in_roots (has-append_left registers pending l (domain_has (λ (x : DomainState). filter_map label_of x.registers) refl s.domains d l (register_has (domain_at s d).registers r l held)));
        waiting = λ d p f at same. gone_root s l gone (has-append_right (roots s (queues s)) (waiting s) l
            (domain_has (λ (x : DomainState). map (λ (g : Finaliser). g.label) x.finals) refl s.domains d l
            (subst (λ z. IsTrue (has_label (map (λ (g : Finaliser). g.label) (domain_at s d).finals) z)) same (mapped_has (λ (g : Finaliser). g.label) (domain_at s d).finals p f at))));
        queued = λ d p number r at. in_roots (has-append_right registers pending l
            (subst (λ z. IsTrue (has_label z l)) (sym (flat_map-map (filter_map pending_label) (λ (x : DomainState). x.queue) s.domains))
            (domain_has (λ (x : DomainState). filter_map pending_label x.queue) refl s.domains d l (get_has pending_label (domain_at s d).queue p (Fin number l r) l at refl))));
      }

last_gone : (s : State) (d place : ℕ) (f : LastFinaliser) → LastAllowed s d place → slice_get (domain_at s d).lasts place ≡ Some f → IsTrue (is_gone s (queues s) f.label)
last_gone s d place f allowed at =
    let here : IsTrue (is_some_and (λ f. is_gone s (queues s) f.label && is_let_go s f.label) (Some f)) =
    subst (λ o. IsTrue (is_some_and (λ f. is_gone s (queues s) f.label && is_let_go s f.label) o)) at allowed.gone in
    and_left (is_gone s (queues s) f.label) (is_let_go s f.label) here

pub lasts_wait_law : LastsWaitForAll
lasts_wait_law z h d place f legal at =
    let s : State = state_after (opening z) h in
    gone_let_go s f.label (last_gone s d place f (legal_rest (opening z) h (LastOf d place ∷ []) legal).0 at)

-- a sum of nothing
none_counted : {A : Type 0} (f : A → ℕ) (xs : List A) → ((p : ℕ) (x : A) → slice_get xs p ≡ Some x → f x ≡ 0) → tally f xs ≡ 0
none_counted f [] each = refl
none_counted f (x ∷ xs) each =
    let first = each zero x refl in
    let rest = none_counted f xs (λ p y at. each (suc p) y at) in
    omega (arith, first, rest)

module _ (s : State) (l : Label) (go : IsLetGoByAll s l) (k : ℕ) where
  abbrev f : Pending → ℕ
  f = counted (is_final_of l)

  not_this : (m : Label) → m ≢ l → ◌≡◌ {A = ℕ} (cond (same_label m l) 1 0) 0
  not_this m other = rw (same_label-false m l other) refl

  in_queue : (p : ℕ) (x : Pending) → slice_get (domain_at s k).queue p ≡ Some x → f x ≡ 0
  in_queue p (Fin number m r) at = not_this m (λ same. go.queued k p number r (at ∙ ap (λ z. Some (Fin number z r)) same))
  in_queue p (Last number) at = refl

  none_left : tally f (left_over (domain_at s k)) ≡ 0
  none_left =
      let outer = tally-append f (map queued_final (domain_at s k).finals ++ map queued_last (domain_at s k).lasts) (domain_at s k).queue in
      let inner = tally-append f (map queued_final (domain_at s k).finals) (map queued_last (domain_at s k).lasts) in
      let a = tally-map f queued_final (domain_at s k).finals in
      let b = tally-map f queued_last (domain_at s k).lasts in
      let finals = none_counted (λ x. f (queued_final x)) (domain_at s k).finals (λ p x at. not_this x.label (go.waiting k p x at)) in
      let lasts = none_counted (λ x. f (queued_last x)) (domain_at s k).lasts (λ p x at. refl) in
      let queue = none_counted f (domain_at s k).queue in_queue in
      omega (arith, outer, inner, a, b, finals, lasts, queue)

pub finals_first_law : FinalsRunBeforeLasts
finals_first_law z h d place f k legal at runs =
    let s : State = state_after (opening z) h in
    let none = none_left s f.label (lasts_wait_law z h d place f legal at) k in
    let over = tally_count (is_final_of f.label) (left_over (domain_at s k)) in
    let all = not_lost_law z h k (is_final_of f.label) (legal_first (opening z) h (LastOf d place ∷ []) legal) runs in
    omega (arith, none, over, all)
