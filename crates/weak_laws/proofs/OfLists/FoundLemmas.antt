-- The list of a map's bindings binds each key as a lookup does, and no key twice.
use Rattle.std.proofs.Common.{◌≡◌, ◌⊎◌, inl, inr, ℕ, zero, suc, ◌<◌, true, false, IsTrue, List, [], ◌∷◌, ◌++◌, length, get_or, flat_map, Option, Some, None, refl, ap, sym, ◌∙◌, subst, arith}
use Rattle.std.proofs.lemmas.List.{map-append}
use Rattle.model_core.specs.declared.label.Label.{Label}
use Rattle.model_core.specs.declared.graph.Value.{Value}
use Rattle.model_core.specs.declared.graph.Value.TheVariants.{Int, Block, Nothing}
use Rattle.model_core.specs.declared.graph.Node.{Node}
use Rattle.model_core.specs.declared.graph.Node.TheVariants.{Plain, Raw, Ephe}
use Rattle.model_core.specs.Graph.{Graph, has_label, has_no_repeats, node_at}
use Rattle.model_core.proofs.Reach.LabelListLemmas.{no_repeats_append}
use Rattle.model_core.proofs.Reach.ReachLemmas.{has-append_cases}
use Rattle.weak_laws.specs.Tables.Structures.{Binding, binding_of, datum_at, keys_of}
use Rattle.weak_laws.proofs.OfTables.LookupLemmas.{datum_first, datum_second, unbound_key}
use Rattle.weak_laws.specs.Maps.Tries.{inside, at, bound_by, bound_in, ends, way_to, way_length, IsInPlace}
use Rattle.weak_laws.proofs.OfMaps.SetLemmas.{append_one, prefixed, tail_is}
use Rattle.weak_laws.proofs.OfMaps.WalkLemmas.{ends_step, ends_stop}
use Rattle.weak_laws.specs.Lists.Lists.{bindings_below, leaf_bindings}
use Rattle.weak_laws.specs.Lists.ListLaws.{ListedIsFound, ListedOnce}
use Rattle.weak_laws.proofs.OfLists.ListLemmas.{at_more, below_end, below_plain, listed}

-- a leaf's list binds what the leaf does
pub leaf_datum : (g : Graph) (k : Label) (v : Value) → datum_at (leaf_bindings g v) k ≡ bound_by g k v
leaf_datum g k (Int z) = refl
leaf_datum g k Nothing = refl
leaf_datum g k (Block l) = go (node_at g l)
  where
    go : (o : Option Node) → datum_at (binding_of o) k ≡ bound_in k o
    go None = refl
    go (Some (Plain tag fs)) = refl
    go (Some (Raw tag fs)) = refl
    go (Some (Ephe [] datum)) = refl
    go (Some (Ephe (None ∷ []) datum)) = refl
    go (Some (Ephe (Some j ∷ []) datum)) = refl
    go (Some (Ephe (None ∷ key ∷ keys) datum)) = refl
    go (Some (Ephe (Some j ∷ key ∷ keys) datum)) = refl

leaf_once : (g : Graph) (v : Value) → IsTrue (has_no_repeats (keys_of (leaf_bindings g v)))
leaf_once g (Int z) = refl
leaf_once g Nothing = refl
leaf_once g (Block l) = go (node_at g l)
  where
    go : (o : Option Node) → IsTrue (has_no_repeats (keys_of (binding_of o)))
    go None = refl
    go (Some (Plain tag fs)) = refl
    go (Some (Raw tag fs)) = refl
    go (Some (Ephe [] datum)) = refl
    go (Some (Ephe (None ∷ []) datum)) = refl
    go (Some (Ephe (Some j ∷ []) datum)) = refl
    go (Some (Ephe (key ∷ key2 ∷ keys) datum)) = refl

-- a list made of others
module _ (f : Value → List Binding) where
  flat_unbound : (k : Label) (xs : List Value) → ((j : ℕ) → j < length xs → datum_at (f (get_or xs j Nothing)) k ≡ None) → datum_at (flat_map f xs) k ≡ None
  flat_unbound k [] each = refl
  flat_unbound k (x ∷ xs) each = datum_second k (f x) (flat_map f xs) (each zero (omega arith)) ∙ flat_unbound k xs (λ j b. each (suc j) (omega (arith, b)))

  flat_only : (k : Label) (xs : List Value) (i : ℕ) → datum_at (f Nothing) k ≡ None → ((j : ℕ) → j < length xs → (j ≡ i → ⊥) → datum_at (f (get_or xs j Nothing)) k ≡ None) → datum_at (flat_map f xs) k ≡ datum_at (f (get_or xs i Nothing)) k
  flat_only k [] i none each = sym none
  flat_only k (x ∷ xs) zero none each = datum_first k (f x) (flat_map f xs) (flat_unbound k xs (λ j b. each (suc j) (omega (arith, b)) (λ e. omega (arith, e))))
  flat_only k (x ∷ xs) (suc i) none each =
      datum_second k (f x) (flat_map f xs) (each zero (omega arith) (λ e. omega (arith, e)))
      ∙ flat_only k xs i none (λ j b other. each (suc j) (omega (arith, b)) (λ e. other (omega (arith, e))))

  pub flat_owner : (l : Label) (xs : List Value) → IsTrue (has_label (keys_of (flat_map f xs)) l) → (j : ℕ) × (j < length xs) × IsTrue (has_label (keys_of (f (get_or xs j Nothing))) l)
  flat_owner l [] there = cc
  flat_owner l (x ∷ xs) there = go (has-append_cases (keys_of (f x)) (keys_of (flat_map f xs)) l (subst (λ (ls : List Label). IsTrue (has_label ls l)) (map-append (λ (b : Binding). b.0) (f x) (flat_map f xs)) there)) (flat_owner l xs)
    where
      Owner : Type 0
      Owner = (j : ℕ) × (j < length (x ∷ xs)) × IsTrue (has_label (keys_of (f (get_or (x ∷ xs) j Nothing))) l)

      go : IsTrue (has_label (keys_of (f x)) l) ⊎ IsTrue (has_label (keys_of (flat_map f xs)) l) → (IsTrue (has_label (keys_of (flat_map f xs)) l) → (j : ℕ) × (j < length xs) × IsTrue (has_label (keys_of (f (get_or xs j Nothing))) l)) → Owner
      go (inl first) rec = (zero, omega arith, first)
      go (inr later) rec = let r = rec later in let b : r.0 < length xs = r.1 in (suc r.0, omega (arith, b), r.2)

  flat_once : (Own : ℕ → Label → Type 0) → ((i j : ℕ) (l : Label) → Own i l → Own j l → i ≡ j) → (xs : List Value) → ((j : ℕ) → j < length xs → IsTrue (has_no_repeats (keys_of (f (get_or xs j Nothing)))))
      → ((j : ℕ) (l : Label) → j < length xs → IsTrue (has_label (keys_of (f (get_or xs j Nothing))) l) → Own j l) → IsTrue (has_no_repeats (keys_of (flat_map f xs)))
  flat_once Own differ [] each owns = refl
  flat_once Own differ (x ∷ xs) each owns =
      subst (λ (ls : List Label). IsTrue (has_no_repeats ls)) (sym (map-append (λ (b : Binding). b.0) (f x) (flat_map f xs)))
      (no_repeats_append (keys_of (f x)) (keys_of (flat_map f xs)) (each zero (omega arith))
      (flat_once (λ (j : ℕ) (l : Label). Own (suc j) l) (λ i j l a b. let same : suc i ≡ suc j = differ (suc i) (suc j) l a b in omega (arith, same)) xs (λ j b. each (suc j) (omega (arith, b))) (λ j l b there. owns (suc j) l (omega (arith, b)) there))
      (λ l here there.
      let o = flat_owner l xs there in
      let b : o.0 < length xs = o.1 in
      let same : zero ≡ suc o.0 = differ zero (suc o.0) l (owns zero l (omega arith) here) (owns (suc o.0) l (omega (arith, b)) o.2) in
      omega (arith, same)))

module _ (n : ℕ) (g : Graph) (root : Label) (placed : IsInPlace n g root) where
  -- what is no leaf on a key's way doesn't bind it
  leaf_beside : (k : Label) (p : List ℕ) (v : Value) → at (inside g) p (Block root) ≡ Some v → ((q : List ℕ) → way_to n k ≡ p ++ q → ⊥) → bound_by g k v ≡ None
  leaf_beside k p (Int z) there apart = refl
  leaf_beside k p Nothing there apart = refl
  leaf_beside k p (Block l) there apart = go (bound_by g k (Block l)) refl
    where
      go : (o : Option Value) → bound_by g k (Block l) ≡ o → o ≡ None
      go None e = refl
      go (Some v) e = let q = placed p l k there (λ none. let clash : ◌≡◌ {A = Option Value} None (Some v) = sym none ∙ e in cc) in absurd (apart q.0 q.1)

  -- nor is it bound below a place beside its way
  beside : (k : Label) (d : ℕ) (p : List ℕ) (v : Value) → at (inside g) p (Block root) ≡ Some v → ((q : List ℕ) → way_to n k ≡ p ++ q → ⊥) → datum_at (bindings_below g d v) k ≡ None
  beside k zero p v there apart = leaf_datum g k v ∙ leaf_beside k p v there apart
  beside k (suc d) p v there apart = go (inside g v) refl (λ q x here off. beside k d q x here off)
    where
      go : (o : Option (List Value)) → inside g v ≡ o → ((q : List ℕ) (x : Value) → at (inside g) q (Block root) ≡ Some x → ((r : List ℕ) → way_to n k ≡ q ++ r → ⊥) → datum_at (bindings_below g d x) k ≡ None) → datum_at (bindings_below g (suc d) v) k ≡ None
      go None e rec = ap (λ (bs : List Binding). datum_at bs k) (below_end g (suc d) v e) ∙ (leaf_datum g k v ∙ leaf_beside k p v there apart)
      go (Some fields) e rec = ap (λ (bs : List Binding). datum_at bs k) (below_plain g d v fields e)
          ∙ flat_unbound (bindings_below g d) k fields (λ j b. rec (p ++ j ∷ []) (get_or fields j Nothing) (at_more g p v root fields j there e) (λ r way. apart (j ∷ r) (way ∙ sym (append_one p j r))))

  -- on its way it is bound as what the rest of the way leads to binds it
  along : (k : Label) (d : ℕ) (p q : List ℕ) (v : Value) → way_to n k ≡ p ++ q → length q ≡ d → at (inside g) p (Block root) ≡ Some v → datum_at (bindings_below g d v) k ≡ bound_by g k (ends (inside g) q v)
  along k zero p [] v way long there = leaf_datum g k v
  along k zero p (i ∷ q) v way long there = absurd (omega (arith, long))
  along k (suc d) p [] v way long there = absurd (omega (arith, long))
  along k (suc d) p (i ∷ q) v way long there = go (inside g v) refl (λ x here. along k d (p ++ i ∷ []) q x (way ∙ append_one p i q) (omega (arith, long)) here)
    where
      off : (fields : List Value) → inside g v ≡ Some fields → (j : ℕ) → (j ≡ i → ⊥) → datum_at (bindings_below g d (get_or fields j Nothing)) k ≡ None
      off fields e j other = beside k d (p ++ j ∷ []) (get_or fields j Nothing) (at_more g p v root fields j there e) (λ r split. other (tail_is p j i r q (append_one p j r ∙ (sym split ∙ way))))

      go : (o : Option (List Value)) → inside g v ≡ o → ((x : Value) → at (inside g) (p ++ i ∷ []) (Block root) ≡ Some x → datum_at (bindings_below g d x) k ≡ bound_by g k (ends (inside g) q x)) → datum_at (bindings_below g (suc d) v) k ≡ bound_by g k (ends (inside g) (i ∷ q) v)
      go None e rec = ap (λ (bs : List Binding). datum_at bs k) (below_end g (suc d) v e) ∙ (leaf_datum g k v ∙ sym (ap (bound_by g k) (ends_stop (inside g) i q v e)))
      go (Some fields) e rec = ap (λ (bs : List Binding). datum_at bs k) (below_plain g d v fields e)
          ∙ (flat_only (bindings_below g d) k fields i (ap (λ (bs : List Binding). datum_at bs k) (below_end g d Nothing refl)) (λ j b other. off fields e j other)
          ∙ (rec (get_or fields i Nothing) (at_more g p v root fields i there e) ∙ sym (ap (bound_by g k) (ends_step (inside g) i q v fields e))))

  -- a key that is bound below a place has it on its way
  pub key_way : (k : Label) (d : ℕ) (p : List ℕ) (v : Value) → at (inside g) p (Block root) ≡ Some v → IsTrue (has_label (keys_of (bindings_below g d v)) k) → (q : List ℕ) × (way_to n k ≡ p ++ q)
  key_way k d p v there bound = go (prefixed p (way_to n k))
    where
      go : ((q : List ℕ) × (way_to n k ≡ p ++ q)) ⊎ ((q : List ℕ) → way_to n k ≡ p ++ q → ⊥) → (q : List ℕ) × (way_to n k ≡ p ++ q)
      go (inl way) = way
      go (inr apart) = absurd (let none = unbound_key k (bindings_below g d v) (beside k d p v there apart) in let clash : true ≡ false = sym bound ∙ none in cc)

  once : (d : ℕ) (p : List ℕ) (v : Value) → at (inside g) p (Block root) ≡ Some v → IsTrue (has_no_repeats (keys_of (bindings_below g d v)))
  once zero p v there = leaf_once g v
  once (suc d) p v there = go (inside g v) refl (λ q x here. once d q x here)
    where
      Own : ℕ → Label → Type 0
      Own j l = (q : List ℕ) × (way_to n l ≡ p ++ j ∷ q)

      go : (o : Option (List Value)) → inside g v ≡ o → ((q : List ℕ) (x : Value) → at (inside g) q (Block root) ≡ Some x → IsTrue (has_no_repeats (keys_of (bindings_below g d x)))) → IsTrue (has_no_repeats (keys_of (bindings_below g (suc d) v)))
      go None e rec = subst (λ (bs : List Binding). IsTrue (has_no_repeats (keys_of bs))) (sym (below_end g (suc d) v e)) (leaf_once g v)
      go (Some fields) e rec = subst (λ (bs : List Binding). IsTrue (has_no_repeats (keys_of bs))) (sym (below_plain g d v fields e))
          (flat_once (bindings_below g d) Own (λ i j l a b. tail_is p i j a.0 b.0 (sym a.1 ∙ b.1)) fields
          (λ j b. rec (p ++ j ∷ []) (get_or fields j Nothing) (at_more g p v root fields j there e))
          (λ j l b bound. let way = key_way l d (p ++ j ∷ []) (get_or fields j Nothing) (at_more g p v root fields j there e) bound in (way.0, way.1 ∙ sym (append_one p j way.0))))

pub listed_is_found : ListedIsFound
listed_is_found n g root placed k = ap (λ (bs : List Binding). datum_at bs k) (listed g root) ∙ along n g root placed k way_length [] (way_to n k) (Block root) refl refl refl

pub listed_once : ListedOnce
listed_once n g root placed = subst (λ (bs : List Binding). IsTrue (has_no_repeats (keys_of bs))) (sym (listed g root)) (once n g root placed way_length [] (Block root) refl)
