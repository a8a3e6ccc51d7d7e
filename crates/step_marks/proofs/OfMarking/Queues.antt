-- The block that a place of a domain's queue keeps alive: it lives, and its label is a root.
use Rattle.std.proofs.Common.{◌≡◌, ℕ, IsTrue, filter_map, flat_map, Option, Some, None, option_and_then, slice_get, refl, subst, sym}
use Rattle.std.proofs.lemmas.Option.{none-some, same_Some}
use Rattle.model_core.specs.declared.label.Label.{Label}
use Rattle.model_core.specs.declared.state.DomainState.{DomainState}
use Rattle.model_core.specs.declared.state.Pending.{Pending}
use Rattle.model_core.specs.declared.state.Pending.TheVariants.{Fin as FinPending, Last as LastPending}
use Rattle.model_core.specs.declared.state.State as model
use Rattle.model_core.specs.Graph.{has_label}
use Rattle.model_core.specs.Domains.{domain_at, pending_label, queues, roots}
use Rattle.model_core.proofs.Graphs.ListLemmas.{flat_map-map}
use Rattle.model_core.proofs.Reach.ReachLemmas.{has-append_right}
use Rattle.model_cycle.proofs.DomainParts.{listed_at, part_has, registers_of}
use Rattle.heap_rule.specs.declared.view.Finalisers.{Finalisers}
use Rattle.heap_rule.specs.declared.view.Held.TheVariants.{Queue}
use Rattle.heap_rule.specs.declared.view.Waiting.{Waiting}
use Rattle.heap_rule.specs.declared.view.Waiting.TheVariants.{Fin as FinWaiting, Last as LastWaiting}
use Rattle.heap_rule.specs.Finalisers.{Enrolled, LivesAt, StandsWaiting, address_in, held_at}
use Rattle.heap_rule.specs.Places.{Live}
use Rattle.heap_rule.proofs.FinaliserLemmas.{paired_get}

found_in : (o : Option Waiting) (a : ℕ) → option_and_then address_in o ≡ Some a → (w : Waiting) × (o ≡ Some w) × (address_in w ≡ Some a)
found_in None a e = absurd (none-some a e)
found_in (Some w) a e = (w, refl, e)

kept_alive : (live : Live) (w : Waiting) (y : Pending) (a : ℕ) → address_in w ≡ Some a → StandsWaiting live w y → (l : Label) × LivesAt live a l × (pending_label y ≡ Some l)
kept_alive live (FinWaiting b n r) (FinPending m l q) a e st = (l, subst (λ (z : ℕ). LivesAt live z l) (same_Some b a e) st.0, refl)
kept_alive live (FinWaiting b n r) (LastPending m) a e st = absurd st
kept_alive live (LastWaiting n) y a e st = absurd (none-some a e)

pub queue_root : (live : Live) (s : model.State) (d : ℕ) (fs : Finalisers) (i a : ℕ) → Enrolled live s d fs → held_at fs (Queue i) ≡ Some a → (l : Label) × LivesAt live a l × IsTrue (has_label (roots s (queues s)) l)
queue_root live s d fs i a e held =
    let w = found_in (slice_get fs.queue.items i) a held in
    let y = paired_get (StandsWaiting live) fs.queue.items (domain_at s d).queue i w.0 e.queue w.1 in
    let l = kept_alive live w.0 y.0 a w.2 y.2 in (
      l.0,
      l.1,
      has-append_right (registers_of s) (flat_map (filter_map pending_label) (queues s)) l.0
          (subst (λ (z : _). IsTrue (has_label z l.0)) (sym (flat_map-map (filter_map pending_label) (λ (x : DomainState). x.queue) s.domains))
          (part_has (λ (x : DomainState). filter_map pending_label x.queue) s.domains d refl l.0 (listed_at pending_label (domain_at s d).queue i y.0 l.0 y.1 l.2))),
    )
