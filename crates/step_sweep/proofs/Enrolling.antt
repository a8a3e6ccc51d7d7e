-- The colours rotate: the registrations and the queue of each domain refer to blocks that live on.
use Rattle.std.proofs.Common.{◌≡◌, ℕ, zero, suc, Bool, IsTrue, List, [], ◌∷◌, map, Option, Some, None, option_and_then, option_map, slice_get, ◌||◌, sym, refl, subst}
use Rattle.std.proofs.lemmas.Option.{none-some, same_Some}
use Rattle.model_core.specs.declared.label.Label.{Label}
use Rattle.model_core.specs.declared.state.Finaliser.{Finaliser}
use Rattle.model_core.specs.declared.state.LastFinaliser.{LastFinaliser}
use Rattle.model_core.specs.declared.state.Pending.{Pending}
use Rattle.model_core.specs.declared.state.State as model
use Rattle.model_core.specs.Domains.{domain_at, pending_label}
use Rattle.model_core.specs.Graph.{has_label, same_label}
use Rattle.model_core.proofs.Graphs.GraphLemmas.{same_label_refl}
use Rattle.model_core.proofs.Reach.ReachLemmas.{or_left, or_right}
use Rattle.model_cycle.specs.Taking.{LeadsToMarked}
use Rattle.model_cycle.proofs.DomainParts.{listed_at}
use Rattle.heap_rule.specs.declared.view.Finalisers.{Finalisers}
use Rattle.heap_rule.specs.declared.view.Held.{Held}
use Rattle.heap_rule.specs.declared.view.Held.TheVariants.{Final, Last, Queue}
use Rattle.heap_rule.specs.Finalisers.{Enrolled, label_held}
use Rattle.heap_rule.specs.Places.{Live}
use Rattle.heap_rule.proofs.FinaliserLemmas.{enrolled_at}
use Rattle.step_sweep.proofs.Rotating.{left_live, was_kept}

-- the label of a registration is one of those of its list
registered_at : {A : Type 0} (f : A → Label) (xs : List A) (i : ℕ) (l : Label) → option_map f (slice_get xs i) ≡ Some l → IsTrue (has_label (map f xs) l)
registered_at f [] i l e = absurd (none-some l e)
registered_at f (x ∷ xs) zero l e = let same : f x ≡ l = same_Some (f x) l e in subst (λ (z : Label). IsTrue (same_label z l || has_label (map f xs) l)) (sym same) (or_left (same_label l l) (has_label (map f xs) l) (same_label_refl l))
registered_at f (x ∷ xs) (suc i) l e = or_right (same_label (f x) l) (has_label (map f xs) l) (registered_at f xs i l e)

queued_in : (o : Option Pending) (l : Label) → option_and_then pending_label o ≡ Some l → (p : Pending) × (o ≡ Some p) × (pending_label p ≡ Some l)
queued_in None l e = absurd (none-some l e)
queued_in (Some p) l e = (p, refl, e)

module _ (s : model.State) (marked : Label → Bool) (leads : LeadsToMarked s marked) (live : Live) where
  held_marked : (d : ℕ) (h : Held) (l : Label) → label_held (domain_at s d) h ≡ Some l → IsTrue (marked l)
  held_marked d (Final i) l e = leads.finals d l (registered_at (λ (f : Finaliser). f.label) (domain_at s d).finals i l e)
  held_marked d (Last i) l e = leads.lasts d l (registered_at (λ (f : LastFinaliser). f.label) (domain_at s d).lasts i l e)
  held_marked d (Queue i) l e = let p = queued_in (slice_get (domain_at s d).queue i) l e in leads.queue d l (listed_at pending_label (domain_at s d).queue i p.0 l p.1 p.2)

  pub enrolled_left : (d : ℕ) (fs : Finalisers) → Enrolled live s d fs → Enrolled (left_live marked live) s d fs
  enrolled_left d fs = enrolled_at live (left_live marked live) s d fs
      (λ h a l _ named at. (at.0, was_kept marked live a at.0 at.1 (subst (λ (z : Label). IsTrue (marked z)) (sym at.2) (held_marked d h l named)), at.2))
