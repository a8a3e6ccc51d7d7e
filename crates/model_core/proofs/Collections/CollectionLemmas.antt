-- What a collection never takes: the values that a waiting registration may bring back.
use Rattle.std.proofs.Common.{◌≡◌, ℕ, Bool, true, false, not, ◌&&◌, IsTrue, List, [], ◌∷◌, slice_get, Option, Some, refl, subst, ⊎_elim}
use Rattle.std.specs.List.{list_all}
use Rattle.model_core.specs.declared.label.Label.{Label}
use Rattle.model_core.specs.declared.graph.Value.{Value}
use Rattle.model_core.specs.declared.graph.Node.TheVariants.{Ephe}
use Rattle.model_core.specs.declared.state.Pending.{Pending}
use Rattle.model_core.specs.declared.state.LastFinaliser.{LastFinaliser}
use Rattle.model_core.specs.declared.state.State.{State}
use Rattle.model_core.specs.Graph.{same_label, has_label, node_at}
use Rattle.model_core.specs.Domains.{domain_at, queues, roots, waiting, settled_roots, settled_reach, is_reachable_with}
use Rattle.model_core.specs.Entries.{is_some_and, is_gone, is_let_go, queued_beyond, has_gone_keys, SealAllowed, WipeAllowed, LastAllowed, CollectedAllowed}
use Rattle.model_core.proofs.Graphs.GraphLemmas.{same_label-true}
use Rattle.model_core.proofs.Graphs.ListLemmas.{all_at}
use Rattle.model_core.proofs.Reach.ReachLemmas.{Within, or_cases, and_left, and_right, has-append_right, reachable_roots}

-- a label of a list whose labels all pass a test
pub all_has : (test : Label → Bool) (ls : List Label) → IsTrue (list_all test ls) → (l : Label) → IsTrue (has_label ls l) → IsTrue (test l)
all_has test [] all l h = cc
all_has test (k ∷ ls) all l h = ⊎_elim
    (λ here. subst (λ z. IsTrue (test z)) (same_label-true k l here) (and_left (test k) (list_all test ls) all))
    (λ later. all_has test ls (and_right (test k) (list_all test ls) all) l later)
    (or_cases (same_label k l) (has_label ls l) h)

module _ (s : State) (qs : List (List Pending)) where
  -- a waiting registration reaches its value
  pub waiting_settled : Within (waiting s) (settled_reach s qs)
  waiting_settled l h = reachable_roots s.graph (settled_roots s qs) l (has-append_right (roots s qs) (waiting s) l h)

  -- so what is gone waits nowhere
  pub gone_waits_nowhere : (l : Label) → IsTrue (is_gone s qs l) → has_label (waiting s) l ≡ false
  gone_waits_nowhere l gone = go (has_label (waiting s) l) refl
    where
      clash : (b : Bool) → IsTrue b → IsTrue (not b) → ⊥
      clash true t n = let e : false ≡ true = n in cc
      clash false t n = let e : false ≡ true = t in cc

      go : (b : Bool) → has_label (waiting s) l ≡ b → b ≡ false
      go true e = absurd (clash (has_label (settled_reach s qs) l) (waiting_settled l e) gone)
      go false e = refl

-- Seal: a value of which a finaliser was queued since the cut waits for no other
pub sealed_together : (s : State) → SealAllowed s → (l : Label) → IsTrue (has_label (queued_beyond (queues s) s.cut) l) → has_label (waiting s) l ≡ false
sealed_together s allowed l h = gone_waits_nowhere s s.cut l (all_has (is_gone s s.cut) (queued_beyond (queues s) s.cut) allowed.apart l h)

-- Wipe: each key that goes waits for no finaliser
pub wiped_waits_nowhere : (s : State) (x : Label) (places : List ℕ) (keys : List (Option Label)) (datum : Value) → WipeAllowed s x places → node_at s.graph x ≡ Some (Ephe keys datum)
    → (i p : ℕ) (k : Label) → slice_get places i ≡ Some p → slice_get keys p ≡ Some (Some k) → has_label (waiting s) k ≡ false
wiped_waits_nowhere s x places keys datum allowed node i p k at full =
    let gone : IsTrue (has_gone_keys s places (Some (Ephe keys datum))) = subst (λ o. IsTrue (has_gone_keys s places o)) node allowed.gone in
    let here : IsTrue (is_some_and (is_some_and (is_gone s (queues s))) (slice_get keys p)) =
    all_at (λ q. is_some_and (is_some_and (is_gone s (queues s))) (slice_get keys q)) places gone i p at in
    gone_waits_nowhere s (queues s) k (subst (λ o. IsTrue (is_some_and (is_some_and (is_gone s (queues s))) o)) full here)

-- Last: a `finalise_last` comes only when its value waits for no finaliser
pub last_waits_nowhere : (s : State) (d place : ℕ) → LastAllowed s d place → (f : LastFinaliser) → slice_get (domain_at s d).lasts place ≡ Some f → has_label (waiting s) f.label ≡ false
last_waits_nowhere s d place allowed f at =
    let here : IsTrue (is_some_and (λ f. is_gone s (queues s) f.label && is_let_go s f.label) (Some f)) =
    subst (λ o. IsTrue (is_some_and (λ f. is_gone s (queues s) f.label && is_let_go s f.label) o)) at allowed.gone in
    gone_waits_nowhere s (queues s) f.label (and_left (is_gone s (queues s) f.label) (is_let_go s f.label) here)

-- Collected: no registration waits that could have been queued
pub collected_waiting : (s : State) → CollectedAllowed s → (l : Label) → IsTrue (has_label (waiting s) l) → IsTrue (is_reachable_with s s.cut l)
collected_waiting s allowed = all_has (is_reachable_with s s.cut) (waiting s) allowed.finals
