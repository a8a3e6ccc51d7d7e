-- Lists of labels that have nodes.
use Rattle.std.proofs.Common.{◌≡◌, ℕ, zero, suc, ◌<◌, IsTrue, List, [], ◌∷◌, ◌++◌, map, length, flat_map, filter_map, option_to_list, replicate, get_or, set, slice_get, remove, take, drop, Option, Some, None, refl, subst, ⊎_elim, arith}
use Rattle.model_core.specs.declared.label.Label.{Label}
use Rattle.model_core.specs.declared.state.Finaliser.{Finaliser}
use Rattle.model_core.specs.declared.state.LastFinaliser.{LastFinaliser}
use Rattle.model_core.specs.Graph.{Graph, same_label, labels, has_label}
use Rattle.model_core.specs.Domains.{pending_label}
use Rattle.std.specs.List.{cons_option}
use Rattle.model_core.specs.Entries.{without_places, at_places, queued_final, queued_last, wiped_keys}
use Rattle.model_core.specs.WellFormed.{HaveNodes}
use Rattle.model_core.proofs.Graphs.GraphLemmas.{same_label-true, same_label_refl}
use Rattle.model_core.proofs.Reach.ReachLemmas.{or_cases, or_left, or_right, has-append_cases, has-append_left, has-append_right}

-- lists of labels that have nodes
module _ (g : Graph) where
  pub have_none : HaveNodes g []
  have_none l h = cc

  pub have_append : (a b : List Label) → HaveNodes g a → HaveNodes g b → HaveNodes g (a ++ b)
  have_append a b p q l h = ⊎_elim (λ x. p l x) (λ x. q l x) (has-append_cases a b l h)

  pub have_left : (a b : List Label) → HaveNodes g (a ++ b) → HaveNodes g a
  have_left a b p l h = p l (has-append_left a b l h)

  pub have_right : (a b : List Label) → HaveNodes g (a ++ b) → HaveNodes g b
  have_right a b p l h = p l (has-append_right a b l h)

  pub have_cons : (k : Label) (a : List Label) → IsTrue (has_label (labels g) k) → HaveNodes g a → HaveNodes g (k ∷ a)
  have_cons k a p q l h = ⊎_elim (λ x. subst (λ z. IsTrue (has_label (labels g) z)) (same_label-true k l x) p) (λ x. q l x) (or_cases (same_label k l) (has_label a l) h)

  pub have_head : (k : Label) (a : List Label) → HaveNodes g (k ∷ a) → IsTrue (has_label (labels g) k)
  have_head k a p = p k (or_left (same_label k k) (has_label a k) (same_label_refl k))

  pub have_tail : (k : Label) (a : List Label) → HaveNodes g (k ∷ a) → HaveNodes g a
  have_tail k a p l h = p l (or_right (same_label k l) (has_label a l) h)

  pub have_cons_option : (o : Option Label) (a : List Label) → HaveNodes g (option_to_list o) → HaveNodes g a → HaveNodes g (cons_option o a)
  have_cons_option None a p q = q
  have_cons_option (Some k) a p q = have_cons k a (have_head k [] p) q

  pub have_option : (o : Option Label) (a : List Label) → HaveNodes g (cons_option o a) → HaveNodes g (option_to_list o)
  have_option None a p = have_none
  have_option (Some k) a p = have_cons k [] (have_head k a p) have_none

  pub have_rest : (o : Option Label) (a : List Label) → HaveNodes g (cons_option o a) → HaveNodes g a
  have_rest None a p = p
  have_rest (Some k) a p = have_tail k a p

  module _ {A : Type 0} (f : A → Option Label) where
    pub have_set : (xs : List A) (i : ℕ) (v : A) → HaveNodes g (filter_map f xs) → HaveNodes g (option_to_list (f v)) → HaveNodes g (filter_map f (set xs i v))
    have_set [] i v p q = p
    have_set (x ∷ xs) zero v p q = have_cons_option (f v) (filter_map f xs) q (have_rest (f x) (filter_map f xs) p)
    have_set (x ∷ xs) (suc i) v p q =
        have_cons_option (f x) (filter_map f (set xs i v)) (have_option (f x) (filter_map f xs) p) (have_set xs i v (have_rest (f x) (filter_map f xs) p) q)

    pub have_at : (xs : List A) (i : ℕ) (d : A) → HaveNodes g (filter_map f xs) → HaveNodes g (option_to_list (f d)) → HaveNodes g (option_to_list (f (get_or xs i d)))
    have_at [] i d p q = q
    have_at (x ∷ xs) zero d p q = have_option (f x) (filter_map f xs) p
    have_at (x ∷ xs) (suc i) d p q = have_at xs i d (have_rest (f x) (filter_map f xs) p) q

    pub have_get : (xs : List A) (i : ℕ) (v : A) → HaveNodes g (filter_map f xs) → slice_get xs i ≡ Some v → HaveNodes g (option_to_list (f v))
    have_get [] i v p e = cc
    have_get (x ∷ xs) zero v p e = let same : x ≡ v = cc in subst (λ z. HaveNodes g (option_to_list (f z))) same (have_option (f x) (filter_map f xs) p)
    have_get (x ∷ xs) (suc i) v p e = have_get xs i v (have_rest (f x) (filter_map f xs) p) e

    pub have_replicate : (n : ℕ) (v : A) → f v ≡ None → HaveNodes g (filter_map f (replicate n v))
    have_replicate zero v e = have_none
    have_replicate (suc n) v e = rw e (have_replicate n v e)

    pub have_filter_map_append : (xs ys : List A) → HaveNodes g (filter_map f xs) → HaveNodes g (filter_map f ys) → HaveNodes g (filter_map f (xs ++ ys))
    have_filter_map_append [] ys p q = q
    have_filter_map_append (x ∷ xs) ys p q =
        have_cons_option (f x) (filter_map f (xs ++ ys)) (have_option (f x) (filter_map f xs) p) (have_filter_map_append xs ys (have_rest (f x) (filter_map f xs) p) q)

-- the labels of registrations that leave a list, and of those that are left
module _ (g : Graph) {A : Type 0} (f : A → Label) where
  pub take_named : (i : ℕ) (xs : List A) → HaveNodes g (map f xs) → HaveNodes g (map f (take i xs))
  take_named zero xs p = have_none g
  take_named (suc i) [] p = have_none g
  take_named (suc i) (x ∷ xs) p = have_cons g (f x) (map f (take i xs)) (have_head g (f x) (map f xs) p) (take_named i xs (have_tail g (f x) (map f xs) p))

  pub drop_named : (i : ℕ) (xs : List A) → HaveNodes g (map f xs) → HaveNodes g (map f (drop i xs))
  drop_named zero xs p = p
  drop_named (suc i) [] p = p
  drop_named (suc i) (x ∷ xs) p = drop_named i xs (have_tail g (f x) (map f xs) p)

  pub join_named : (xs ys : List A) → HaveNodes g (map f xs) → HaveNodes g (map f ys) → HaveNodes g (map f (xs ++ ys))
  join_named [] ys p q = q
  join_named (x ∷ xs) ys p q = have_cons g (f x) (map f (xs ++ ys)) (have_head g (f x) (map f xs) p) (join_named xs ys (have_tail g (f x) (map f xs) p) q)

  pub remove_named : (xs : List A) (i : ℕ) → HaveNodes g (map f xs) → HaveNodes g (map f (remove xs i))
  remove_named xs i p = join_named (take i xs) (drop (suc i) xs) (take_named i xs p) (drop_named (suc i) xs p)

  pub without_named : (places : List ℕ) (xs : List A) → HaveNodes g (map f xs) → HaveNodes g (map f (without_places places xs))
  without_named [] xs p = p
  without_named (i ∷ places) xs p = remove_named (without_places places xs) i (without_named places xs p)

  pub get_named : (xs : List A) (i : ℕ) (x : A) → HaveNodes g (map f xs) → slice_get xs i ≡ Some x → IsTrue (has_label (labels g) (f x))
  get_named [] i x p e = cc
  get_named (y ∷ xs) zero x p e = let same : y ≡ x = cc in subst (λ z. IsTrue (has_label (labels g) (f z))) same (have_head g (f y) (map f xs) p)
  get_named (y ∷ xs) (suc i) x p e = get_named xs i x (have_tail g (f y) (map f xs) p) e

  pub places_named : (places : List ℕ) (xs : List A) → HaveNodes g (map f xs) → HaveNodes g (map f (at_places places xs))
  places_named [] xs p = have_none g
  places_named (i ∷ places) xs p = go (slice_get xs i) refl (places_named places xs p)
    where
      go : (o : Option A) → slice_get xs i ≡ o → HaveNodes g (map f (at_places places xs)) → HaveNodes g (map f (cons_option o (at_places places xs)))
      go None e rest = rest
      go (Some x) e rest = have_cons g (f x) (map f (at_places places xs)) (get_named xs i x p e) rest

pub queued_finals_named : (g : Graph) (xs : List Finaliser) → HaveNodes g (map (λ f. f.label) xs) → HaveNodes g (filter_map pending_label (map queued_final xs))
queued_finals_named g [] p = have_none g
queued_finals_named g (x ∷ xs) p =
    have_cons g x.label (filter_map pending_label (map queued_final xs)) (have_head g x.label (map (λ f. f.label) xs) p)
    (queued_finals_named g xs (have_tail g x.label (map (λ f. f.label) xs) p))

pub queued_lasts_named : (g : Graph) (xs : List LastFinaliser) → HaveNodes g (filter_map pending_label (map queued_last xs))
queued_lasts_named g [] = have_none g
queued_lasts_named g (x ∷ xs) = queued_lasts_named g xs

pub wiped_keys_named : (g : Graph) (places : List ℕ) (keys : List (Option Label)) → HaveNodes g (filter_map (λ k. k) keys) → HaveNodes g (filter_map (λ k. k) (wiped_keys places keys))
wiped_keys_named g [] keys p = p
wiped_keys_named g (i ∷ places) keys p = have_set g (λ k. k) (wiped_keys places keys) i None (wiped_keys_named g places keys p) (have_none g)

pub flat_named : {A : Type 0} (g : Graph) (f : A → List Label) (none : A) (xs : List A) → ((k : ℕ) → k < length xs → HaveNodes g (f (get_or xs k none))) → HaveNodes g (flat_map f xs)
flat_named g f none [] each = have_none g
flat_named g f none (x ∷ xs) each = have_append g (f x) (flat_map f xs) (each zero (omega arith)) (flat_named g f none xs (λ k h. each (suc k) (omega arith)))
