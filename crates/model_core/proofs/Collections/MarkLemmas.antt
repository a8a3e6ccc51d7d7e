-- A collector that marks, and then takes what is unmarked, makes only entries that are allowed.
use Rattle.std.proofs.Common.{flat_map, map, ◌++◌, ◌≡◌, ℕ, ◌<◌, Bool, true, false, not, IsTrue, nat_lt, List, [], ◌∷◌, slice_get, Option, Some, None, refl, ⊎_elim}
use Rattle.std.specs.List.{list_all}
use Rattle.model_core.specs.declared.label.Label.{Label}
use Rattle.model_core.specs.declared.graph.Value.{Value}
use Rattle.model_core.specs.declared.graph.Node.TheVariants.{Ephe}
use Rattle.model_core.specs.declared.state.Mode.TheVariants.{Cut as CutMode, Sealed}
use Rattle.model_core.specs.declared.state.Pending.{Pending}
use Rattle.model_core.specs.declared.state.Finaliser.{Finaliser}
use Rattle.model_core.specs.declared.state.LastFinaliser.{LastFinaliser}
use Rattle.model_core.specs.declared.state.State.{State}
use Rattle.model_core.specs.Graph.{same_label, has_label, node_at}
use Rattle.model_core.specs.Reach.{HoldsRoots, IsClosedUnder}
use Rattle.model_core.specs.Domains.{domain_at, queues, roots, waiting, settled_roots, settled_reach, is_reachable_with}
use Rattle.model_core.specs.Entries.{is_some_and, is_dead, is_gone, is_let_go, is_rising, ephe_holds, queued_beyond, QueueAllowed, SealAllowed, WipeAllowed, LastAllowed, is_sealed, full_keys, opened, left_reach, DoneAllowed}
use Rattle.model_core.specs.Marked.{IsMarked}
use Rattle.model_core.proofs.Graphs.GraphLemmas.{same_label_refl}
use Rattle.model_core.proofs.Reach.ReachLemmas.{or_left, or_right, and_left, and_right, and_both, has-append_cases, reachable_least}
use Rattle.model_core.proofs.Reach.OpenedLemmas.{opened_closed}

-- a list whose labels all pass a test
pub all_labels : (test : Label → Bool) (ls : List Label) → ((l : Label) → IsTrue (has_label ls l) → IsTrue (test l)) → IsTrue (list_all test ls)
all_labels test [] each = refl
all_labels test (k ∷ ls) each = and_both (test k) (list_all test ls)
    (each k (or_left (same_label k k) (has_label ls k) (same_label_refl k)))
    (all_labels test ls (λ l h. each l (or_right (same_label k l) (has_label ls l) h)))

-- a list whose elements pass a weaker test
all_weaker : {A : Type 0} (test other : A → Bool) (xs : List A) → ((x : A) → IsTrue (test x) → IsTrue (other x)) → IsTrue (list_all test xs) → IsTrue (list_all other xs)
all_weaker test other [] weaker all = refl
all_weaker test other (x ∷ xs) weaker all = and_both (other x) (list_all other xs)
    (weaker x (and_left (test x) (list_all test xs) all))
    (all_weaker test other xs weaker (and_right (test x) (list_all test xs) all))

some_weaker : {A : Type 0} (test other : A → Bool) (o : Option A) → ((x : A) → IsTrue (test x) → IsTrue (other x)) → IsTrue (is_some_and test o) → IsTrue (is_some_and other o)
some_weaker test other None weaker h = cc
some_weaker test other (Some x) weaker h = weaker x h

not_held : (b c : Bool) → (IsTrue b → IsTrue c) → IsTrue (not c) → IsTrue (not b)
not_held true true f n = n
not_held true false f n = absurd (let e : false ≡ true = f refl in cc)
not_held false c f n = refl

module _ (s : State) (qs : List (List Pending)) (marked : Label → Bool) (marks : IsMarked s qs marked) where
  holds_settled : HoldsRoots (settled_roots s qs) marked
  holds_settled l h = ⊎_elim (λ a. marks.roots l a) (λ b. marks.waiting l b) (has-append_cases (roots s qs) (waiting s) l h)

  -- what the roots and the waiting registrations reach is marked
  pub settled_marked : HoldsRoots (settled_reach s qs) marked
  settled_marked = reachable_least s.graph marked marks.closed (settled_roots s qs) holds_settled

  pub unmarked_gone : (l : Label) → IsTrue (not (marked l)) → IsTrue (is_gone s qs l)
  unmarked_gone l un = not_held (has_label (settled_reach s qs) l) (marked l) (settled_marked l) un

-- an unmarked label is dead, by the roots alone
pub unmarked_dead : (s : State) (qs : List (List Pending)) (marked : Label → Bool) → IsMarked s qs marked → (l : Label) → IsTrue (not (marked l)) → IsTrue (is_dead s qs l)
unmarked_dead s qs marked marks l un =
    not_held (is_reachable_with s qs l) (marked l) (reachable_least s.graph marked marks.closed (roots s qs) marks.roots l) un

-- Queue takes registrations whose labels are unmarked
pub queue_unmarked : (s : State) (marked : Label → Bool) (d : ℕ) (places : List ℕ) → s.mode ≡ CutMode → IsTrue (is_rising places)
    → IsTrue (list_all (λ p. nat_lt p (domain_at s d).low) places) → HoldsRoots (roots s s.cut) marked → IsClosedUnder s.graph marked
    → IsTrue (list_all (λ p. is_some_and (λ (f : Finaliser). not (marked f.label)) (slice_get (domain_at s d).finals p)) places) → QueueAllowed s d places
queue_unmarked s marked d places mode rising below holds closed unmarked = record {
  mode = mode;
  rising = rising;
  below = below;
  dead = all_weaker _ (λ p. is_some_and (λ f. is_dead s s.cut f.label) (slice_get (domain_at s d).finals p)) places
      (λ p. some_weaker _ (λ f. is_dead s s.cut f.label) (slice_get (domain_at s d).finals p) (λ f un.
      not_held (is_reachable_with s s.cut f.label) (marked f.label) (reachable_least s.graph marked closed (roots s s.cut) holds f.label) un))
      unmarked;
}

-- Seal, where all registrations that are left have marked labels, and those that were queued have unmarked ones
pub seal_marked : (s : State) (marked : Label → Bool) → s.mode ≡ CutMode → IsMarked s s.cut marked
    → ((l : Label) → IsTrue (has_label (queued_beyond (queues s) s.cut) l) → IsTrue (not (marked l))) → SealAllowed s
seal_marked s marked mode marks unmarked = record {
  mode = mode;
  apart = all_labels (is_gone s s.cut) (queued_beyond (queues s) s.cut) (λ l h. unmarked_gone s s.cut marked marks l (unmarked l h));
}

-- Wipe takes unmarked keys
pub wipe_unmarked : (s : State) (marked : Label → Bool) (l : Label) (places : List ℕ) (keys : List (Option Label)) (datum : Value) → s.mode ≡ Sealed → IsTrue (is_rising places)
    → node_at s.graph l ≡ Some (Ephe keys datum) → IsMarked s (queues s) marked
    → IsTrue (list_all (λ p. is_some_and (is_some_and (λ k. not (marked k))) (slice_get keys p)) places) → WipeAllowed s l places
wipe_unmarked s marked l places keys datum mode rising node marks unmarked = record {
  mode = mode;
  rising = rising;
  gone = rw node (all_weaker _ (λ p. is_some_and (is_some_and (is_gone s (queues s))) (slice_get keys p)) places
      (λ p. some_weaker _ (is_some_and (is_gone s (queues s))) (slice_get keys p) (λ o.
      some_weaker (λ k. not (marked k)) (is_gone s (queues s)) o (unmarked_gone s (queues s) marked marks)))
      unmarked);
}

-- Last takes a registration whose label is unmarked and which no marked ephemeron holds
pub last_unmarked : (s : State) (marked : Label → Bool) (d place : ℕ) (f : LastFinaliser) → s.mode ≡ Sealed → place < (domain_at s d).low
    → slice_get (domain_at s d).lasts place ≡ Some f → IsMarked s (queues s) marked → IsTrue (not (marked f.label))
    → ((x : Label) → IsTrue (marked x) → IsTrue (not (ephe_holds f.label (node_at s.graph x)))) → LastAllowed s d place
last_unmarked s marked d place f mode below at marks unmarked let_go = record {
  mode = mode;
  below = below;
  gone = rw at (and_both (is_gone s (queues s) f.label) (is_let_go s f.label) (unmarked_gone s (queues s) marked marks f.label unmarked)
      (all_labels (λ x. not (ephe_holds f.label (node_at s.graph x))) (settled_reach s (queues s))
      (λ x h. let_go x (settled_marked s (queues s) marked marks x h))));
}

-- Done, where all that is left is marked: the registrations of `finalise_last`, and the keys of the ephemerons that are marked
pub done_marked : (s : State) (marked : Label → Bool) → IsTrue (is_sealed s.mode) → IsMarked s (queues s) marked
    → HoldsRoots (flat_map (λ x. map (λ f. f.label) x.lasts) s.domains) marked
    → ((x k : Label) → IsTrue (marked x) → IsTrue (has_label (full_keys (node_at s.graph x)) k) → IsTrue (marked k))
    → ((l : Label) → IsTrue (has_label s.taken l) → IsTrue (not (marked l))) → DoneAllowed s
done_marked s marked mode marks lasts keys unmarked =
    let last_labels : List Label = flat_map (λ x. map (λ f. f.label) x.lasts) s.domains in
    let left : HoldsRoots (settled_roots s (queues s) ++ last_labels) marked = λ l h. ⊎_elim
    (λ a. holds_settled s (queues s) marked marks l a)
    (λ b. lasts l b)
    (has-append_cases (settled_roots s (queues s)) last_labels l h) in
    record {
      mode = mode;
      apart = all_labels (λ l. not (has_label (left_reach s) l)) s.taken (λ l h.
          not_held (has_label (left_reach s) l) (marked l) (reachable_least (opened s.graph) marked (opened_closed s.graph marked marks.closed keys) _ left l) (unmarked l h));
    }
