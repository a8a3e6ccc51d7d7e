-- The labels that domains have in their registers, lists and queues, domain by domain.
use Rattle.std.proofs.Common.{ap, ◌∙◌, Option, None, ◌≡◌, ◌⊎◌, inl, inr, ⊎_elim, ℕ, zero, suc, ◌<◌, ◌≤◌, arith, Bool, IsTrue, List, [], ◌∷◌, ◌++◌, map, flat_map, filter_map, length, get_or, set, slice_get, remove, drop, Some, refl, sym, subst}
use Rattle.std.specs.List.{cons_option}
use Rattle.std.proofs.Math.Seq.{drop-length}
use Rattle.std.proofs.lemmas.List.Elements.{filter_map-append}
use Rattle.model_core.specs.declared.graph.Value.{Value}
use Rattle.model_core.specs.declared.graph.Value.TheVariants.{Int, Block, Nothing}
use Rattle.model_core.specs.declared.label.Label.{Label}
use Rattle.model_core.specs.declared.state.DomainState.{DomainState}
use Rattle.model_core.specs.declared.state.Pending.{Pending}
use Rattle.model_core.specs.declared.state.State.{State}
use Rattle.model_core.specs.Graph.{same_label, has_label, label_of}
use Rattle.model_core.specs.Reach.{HoldsRoots}
use Rattle.model_core.specs.Domains.{no_domain, pending_label, queues, roots}
use Rattle.model_core.specs.Entries.{queued_after, queued_beyond}
use Rattle.model_core.proofs.Graphs.GraphLemmas.{same_label-true, same_label_refl}
use Rattle.model_core.proofs.Graphs.ListLemmas.{flat_map-map}
use Rattle.model_core.proofs.Reach.ReachLemmas.{or_cases, or_left, or_right, has-append_cases, has-append_left, has-append_right}
use Rattle.model_cycle.specs.Shares.{Shares, AllArrived}
use Rattle.model_cycle.specs.Queueing.{RootsMarked, InRoots}
use Rattle.model_cycle.proofs.Sharing.{some_same}

-- the labels of one kind that all domains have
module _ (f : DomainState → List Label) where
  pub part_all : (xs : List DomainState) (marked : Label → Bool) → ((d : ℕ) → d < length xs → HoldsRoots (f (get_or xs d no_domain)) marked)
      → HoldsRoots (flat_map f xs) marked
  part_all [] marked each l h = cc
  part_all (x ∷ xs) marked each l h = ⊎_elim
      (λ here. each zero (omega arith) l here)
      (λ later. part_all xs marked (λ d lt. each (suc d) (omega arith)) l later)
      (has-append_cases (f x) (flat_map f xs) l h)

  pub part_has : (xs : List DomainState) (d : ℕ) → f no_domain ≡ [] → (l : Label) → IsTrue (has_label (f (get_or xs d no_domain)) l) → IsTrue (has_label (flat_map f xs) l)
  part_has [] d none l h = let clash : IsTrue (has_label [] l) = subst (λ z. IsTrue (has_label z l)) none h in clash
  part_has (x ∷ xs) zero none l h = has-append_left (f x) (flat_map f xs) l h
  part_has (x ∷ xs) (suc d) none l h = has-append_right (f x) (flat_map f xs) l (part_has xs d none l h)

-- the labels of registrations
module _ {A : Type 0} (f : A → Label) where
  pub registration_cases : (xs : List A) (l : Label) → IsTrue (has_label (map f xs) l) → (p : ℕ) × (x : A) × (slice_get xs p ≡ Some x) × (f x ≡ l)
  registration_cases [] l h = cc
  registration_cases (y ∷ xs) l h = ⊎_elim
      (λ here. (zero, y, refl, same_label-true (f y) l here))
      (λ later. let t = registration_cases xs l later in (suc t.0, t.1, t.2, t.3))
      (or_cases (same_label (f y) l) (has_label (map f xs) l) h)

-- the labels among the items of a list: the fields of a block that are blocks, the keys of an ephemeron that are full
module _ {A : Type 0} (f : A → Option Label) where
  pub listed_at : (xs : List A) (p : ℕ) (x : A) (l : Label) → slice_get xs p ≡ Some x → f x ≡ Some l → IsTrue (has_label (filter_map f xs) l)
  listed_at [] p x l e is = cc
  listed_at (y ∷ xs) zero x l e is = let same : y ≡ x = cc in go (f y) (ap f same ∙ is)
    where
      go : (o : Option Label) → o ≡ Some l → IsTrue (has_label (cons_option o (filter_map f xs)) l)
      go None at = cc
      go (Some k) at = or_left (same_label k l) (has_label (filter_map f xs) l) (subst (λ z. IsTrue (same_label k z)) (some_same k l at) (same_label_refl k))
  listed_at (y ∷ xs) (suc p) x l e is = go (f y) (listed_at xs p x l e is)
    where
      go : (o : Option Label) → IsTrue (has_label (filter_map f xs) l) → IsTrue (has_label (cons_option o (filter_map f xs)) l)
      go None later = later
      go (Some k) later = or_right (same_label k l) (has_label (filter_map f xs) l) later

  pub listed_cases : (xs : List A) (l : Label) → IsTrue (has_label (filter_map f xs) l) → (p : ℕ) × (x : A) × (slice_get xs p ≡ Some x) × (f x ≡ Some l)
  listed_cases [] l h = cc
  listed_cases (y ∷ xs) l h = go (f y) refl (λ later. let t = listed_cases xs l later in (suc t.0, t.1, t.2, t.3)) h
    where
      go : (o : Option Label) → f y ≡ o
          → (IsTrue (has_label (filter_map f xs) l) → (p : ℕ) × (x : A) × (slice_get (y ∷ xs) p ≡ Some x) × (f x ≡ Some l))
          → IsTrue (has_label (cons_option o (filter_map f xs)) l) → (p : ℕ) × (x : A) × (slice_get (y ∷ xs) p ≡ Some x) × (f x ≡ Some l)
      go None e further at = further at
      go (Some k) e further at = ⊎_elim
          (λ here. (zero, y, refl, e ∙ ap Some (same_label-true k l here)))
          further
          (or_cases (same_label k l) (has_label (filter_map f xs) l) at)

pub is_block : (v : Value) (l : Label) → label_of v ≡ Some l → v ≡ Block l
is_block (Int z) l e = cc
is_block (Block k) l e = ap Block (some_same k l e)
is_block Nothing l e = cc

-- what stands above a place that leaves a list
pub get-remove_above : {A : Type 0} (xs : List A) (p j : ℕ) → p ≤ j → slice_get (remove xs p) j ≡ slice_get xs (suc j)
get-remove_above [] zero j le = refl
get-remove_above [] (suc p) j le = refl
get-remove_above (x ∷ xs) zero j le = refl
get-remove_above (x ∷ xs) (suc p) zero le = absurd (omega arith)
get-remove_above (x ∷ xs) (suc p) (suc j) le = get-remove_above xs p j (omega arith)

-- the labels in all registers
abbrev pub registers_of : State → List Label
registers_of s = flat_map (λ x. filter_map label_of x.registers) s.domains

-- the roots, domain by domain
pub roots_all : (s : State) (marked : Label → Bool) → ((d : ℕ) → d < length s.domains → RootsMarked s marked d) → HoldsRoots (roots s (queues s)) marked
roots_all s marked each l h = ⊎_elim
    (λ a. part_all (λ x. filter_map label_of x.registers) s.domains marked (λ d lt. (each d lt).registers) l a)
    (λ b. part_all (λ x. filter_map pending_label x.queue) s.domains marked (λ d lt. (each d lt).queue) l
    (subst (λ z. IsTrue (has_label z l)) (flat_map-map (filter_map pending_label) (λ (x : DomainState). x.queue) s.domains) b))
    (has-append_cases (flat_map (λ x. filter_map label_of x.registers) s.domains) (flat_map (filter_map pending_label) (queues s)) l h)

pub roots_end : (s : State) (marked : Label → Bool) (w : Shares) → InRoots s marked w → AllArrived (length s.domains) w → HoldsRoots (roots s (queues s)) marked
roots_end s marked w i arrived = roots_all s marked (λ d lt. i d (arrived d lt))

-- a queue that grows: what it holds beyond its first part
drop_within : (n : ℕ) (ps : List Pending) (l : Label) → IsTrue (has_label (filter_map pending_label (drop n ps)) l) → IsTrue (has_label (filter_map pending_label ps) l)
drop_within zero ps l h = h
drop_within (suc n) [] l h = h
drop_within (suc n) (p ∷ ps) l h =
    let split = filter_map-append pending_label (p ∷ []) ps in
    subst (λ z. IsTrue (has_label z l)) (sym split) (has-append_right (filter_map pending_label (p ∷ [])) (filter_map pending_label ps) l (drop_within n ps l h))

drop_grown : (n : ℕ) (ps more : List Pending) (l : Label) → IsTrue (has_label (filter_map pending_label (drop n (ps ++ more))) l)
    → IsTrue (has_label (filter_map pending_label (drop n ps)) l) ⊎ IsTrue (has_label (filter_map pending_label more) l)
drop_grown zero ps more l h = has-append_cases (filter_map pending_label ps) (filter_map pending_label more) l
    (subst (λ z. IsTrue (has_label z l)) (filter_map-append pending_label ps more) h)
drop_grown (suc n) [] more l h = inr (drop_within (suc n) more l h)
drop_grown (suc n) (p ∷ ps) more l h = drop_grown n ps more l h

pub beyond_grown : (xs : List DomainState) (d : ℕ) (y : DomainState) (more : List Pending) (olds : List (List Pending)) → y.queue ≡ (get_or xs d no_domain).queue ++ more
    → (l : Label) → IsTrue (has_label (queued_beyond (map (λ x. x.queue) (set xs d y)) olds) l)
    → IsTrue (has_label (queued_beyond (map (λ x. x.queue) xs) olds) l) ⊎ IsTrue (has_label (filter_map pending_label more) l)
beyond_grown [] d y more olds grown l h = inl h
beyond_grown (x ∷ xs) zero y more [] grown l h = inl h
beyond_grown (x ∷ xs) (suc d) y more [] grown l h = inl h
beyond_grown (x ∷ xs) zero y more (old ∷ olds) grown l h =
    let rest : List Label = queued_beyond (map (λ x. x.queue) xs) olds in ⊎_elim
    (λ here. ⊎_elim (λ a. inl (has-append_left (queued_after x.queue (Some old)) rest l a)) (λ b. inr b)
    (drop_grown (length old) x.queue more l (subst (λ z. IsTrue (has_label (queued_after z (Some old)) l)) grown here)))
    (λ later. inl (has-append_right (queued_after x.queue (Some old)) rest l later))
    (has-append_cases (queued_after y.queue (Some old)) rest l h)
beyond_grown (x ∷ xs) (suc d) y more (old ∷ olds) grown l h =
    let rest : List Label = queued_beyond (map (λ x. x.queue) xs) olds in
    let now : List Label = queued_beyond (map (λ x. x.queue) (set xs d y)) olds in ⊎_elim
    (λ here. inl (has-append_left (queued_after x.queue (Some old)) rest l here))
    (λ later. ⊎_elim (λ a. inl (has-append_right (queued_after x.queue (Some old)) rest l a)) (λ b. inr b) (beyond_grown xs d y more olds grown l later))
    (has-append_cases (queued_after x.queue (Some old)) now l h)

-- nothing stands beyond the queues themselves
pub beyond_none : (qs : List (List Pending)) → queued_beyond qs qs ≡ []
beyond_none [] = refl
beyond_none (q ∷ qs) = rw drop-length (beyond_none qs)
