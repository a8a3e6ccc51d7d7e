-- The list of a map's bindings stands in the order of its keys' ways, so it is determined by what the map binds.
use Rattle.std.proofs.Common.{◌≡◌, ◌≢◌, ◌⊎◌, inl, inr, ⊎_elim, ℕ, zero, suc, ◌<◌, Bool, true, false, cond, ◌||◌, IsTrue, List, [], ◌∷◌, ◌++◌, length, get_or, flat_map, Option, Some, None, refl, ap, sym, ◌∙◌, subst, arith}
use Rattle.std.proofs.lemmas.List.{map-append}
use Rattle.model_core.specs.declared.label.Label.{Label}
use Rattle.model_core.specs.declared.graph.Value.{Value}
use Rattle.model_core.specs.declared.graph.Value.TheVariants.{Int, Block, Nothing}
use Rattle.model_core.specs.declared.graph.Node.{Node}
use Rattle.model_core.specs.declared.graph.Node.TheVariants.{Plain, Raw, Ephe}
use Rattle.model_core.specs.Graph.{Graph, same_label, has_label, node_at}
use Rattle.model_core.proofs.Commands.FrameLemmas.{label_cases}
use Rattle.model_core.proofs.Graphs.GraphLemmas.{same_label-true, same_label_refl}
use Rattle.model_core.proofs.Reach.ReachLemmas.{or_cases, or_left, or_right, has-append_cases}
use Rattle.weak_laws.specs.Tables.Structures.{Binding, binding_of, datum_at, keys_of, without}
use Rattle.weak_laws.specs.Tables.Thinning.{ThinnedBy}
use Rattle.weak_laws.proofs.OfTables.LookupLemmas.{key_unbound}
use Rattle.weak_laws.proofs.OfTables.OnceLemmas.{lacks}
use Rattle.weak_laws.specs.Maps.Tries.{inside, at, found, way_to, way_length, IsInPlace}
use Rattle.weak_laws.proofs.OfMaps.SetLemmas.{append_one}
use Rattle.weak_laws.specs.Lists.Lists.{bindings_of, bindings_below, leaf_bindings}
use Rattle.weak_laws.specs.Lists.Orders.{ComesBefore, OrderedBy}
use Rattle.weak_laws.specs.Lists.ListLaws.{ListedInOrder, FoundListed, FoundButListed}
use Rattle.weak_laws.proofs.OfLists.ListLemmas.{at_more, below_end, below_plain, listed}
use Rattle.weak_laws.proofs.OfLists.FoundLemmas.{flat_owner, key_way, listed_is_found}

not_itself : (a : List ℕ) → ComesBefore a a → ⊥
not_itself [] x = x
not_itself (i ∷ a) (inl less) = omega (arith, less)
not_itself (i ∷ a) (inr (same, rest)) = not_itself a rest

not_both_ways : (a b : List ℕ) → ComesBefore a b → ComesBefore b a → ⊥
not_both_ways [] b x y = x
not_both_ways (i ∷ a) [] x y = x
not_both_ways (i ∷ a) (j ∷ b) (inl x) (inl y) = omega (arith, x, y)
not_both_ways (i ∷ a) (j ∷ b) (inl x) (inr (same, y)) = omega (arith, x, same)
not_both_ways (i ∷ a) (j ∷ b) (inr (same, x)) (inl y) = omega (arith, y, same)
not_both_ways (i ∷ a) (j ∷ b) (inr (same, x)) (inr (other, y)) = not_both_ways a b x y

-- ways that part at a place come one before the other
part_before : (p : List ℕ) (i j : ℕ) (a b : List ℕ) → i < j → ComesBefore (p ++ i ∷ a) (p ++ j ∷ b)
part_before [] i j a b less = inl less
part_before (k ∷ p) i j a b less = inr (refl, part_before p i j a b less)

-- what is bound is among the keys
bound_key : (bs : List Binding) (k : Label) (v : Value) → datum_at bs k ≡ Some v → IsTrue (has_label (keys_of bs) k)
bound_key bs k v is = go (has_label (keys_of bs) k) refl
  where
    go : (b : Bool) → has_label (keys_of bs) k ≡ b → b ≡ true
    go true e = refl
    go false e = let clash : ◌≡◌ {A = Option Value} None (Some v) = sym (key_unbound k bs e) ∙ is in cc

pub first_datum : (x : Binding) (a : List Binding) → datum_at (x ∷ a) x.0 ≡ Some x.1
first_datum x a = ap (λ (c : Bool). cond c (Some x.1) (datum_at a x.0)) (same_label_refl x.0)

other_datum : (x : Binding) (a : List Binding) (l : Label) → same_label x.0 l ≡ false → datum_at (x ∷ a) l ≡ datum_at a l
other_datum x a l e = ap (λ (c : Bool). cond c (Some x.1) (datum_at a l)) e

some_is : (v w : Value) → ◌≡◌ {A = Option Value} (Some v) (Some w) → v ≡ w
some_is v w e = cc

-- lists in an order of their keys
module _ (w : Label → List ℕ) where
  first_new : (x : Binding) (a : List Binding) → OrderedBy w (x ∷ a) → has_label (keys_of a) x.0 ≡ false
  first_new x a o = lacks (keys_of a) x.0 (λ there. not_itself (w x.0) (o.0 x.0 there))

  -- a key of the rest comes behind the first
  later_key : (x : Binding) (a : List Binding) (l : Label) (v : Value) → OrderedBy w (x ∷ a) → same_label x.0 l ≡ false → datum_at (x ∷ a) l ≡ Some v → ComesBefore (w x.0) (w l)
  later_key x a l v o other is = o.0 l (bound_key a l v (sym (other_datum x a l other) ∙ is))

  -- behind a first pair that is in both
  rest_same : (x : Binding) (a b : List Binding) (l : Label) → OrderedBy w (x ∷ a) → OrderedBy w (x ∷ b) → datum_at (x ∷ b) l ≡ datum_at (x ∷ a) l → datum_at b l ≡ datum_at a l
  rest_same x a b l o r same = go (same_label x.0 l) refl
    where
      go : (c : Bool) → same_label x.0 l ≡ c → datum_at b l ≡ datum_at a l
      go true e =
          let is : x.0 ≡ l = same_label-true x.0 l e in
          subst (λ (k : Label). datum_at b k ≡ datum_at a k) is (key_unbound x.0 b (first_new x b r) ∙ sym (key_unbound x.0 a (first_new x a o)))
      go false e = sym (other_datum x b l e) ∙ (same ∙ other_datum x a l e)

  module _ (P : Label → Type 0) where
    -- each key is bound as it was, or P holds of it and it isn't bound
    abbrev pub Loses : List Binding → List Binding → Type 0
    Loses a b = (l : Label) → (datum_at b l ≡ datum_at a l) ⊎ (P l × (datum_at b l ≡ None))

    rest_loses : (x : Binding) (a b : List Binding) → OrderedBy w (x ∷ a) → OrderedBy w (x ∷ b) → Loses (x ∷ a) (x ∷ b) → Loses a b
    rest_loses x a b o r each l = ⊎_elim (λ same. inl (rest_same x a b l o r same)) (λ gone. inr (gone.0, none (same_label x.0 l) refl gone.1)) (each l)
      where
        none : (c : Bool) → same_label x.0 l ≡ c → datum_at (x ∷ b) l ≡ None → datum_at b l ≡ None
        none true e is = let key : x.0 ≡ l = same_label-true x.0 l e in subst (λ (k : Label). datum_at b k ≡ None) key (key_unbound x.0 b (first_new x b r))
        none false e is = sym (other_datum x b l e) ∙ is

    gone_loses : (x : Binding) (a b : List Binding) → OrderedBy w (x ∷ a) → datum_at b x.0 ≡ None → Loses (x ∷ a) b → Loses a b
    gone_loses x a b o none each l = go (same_label x.0 l) refl
      where
        go : (c : Bool) → same_label x.0 l ≡ c → (datum_at b l ≡ datum_at a l) ⊎ (P l × (datum_at b l ≡ None))
        go true e = let key : x.0 ≡ l = same_label-true x.0 l e in inl (subst (λ (k : Label). datum_at b k ≡ datum_at a k) key (none ∙ sym (key_unbound x.0 a (first_new x a o))))
        go false e = ⊎_elim (λ same. inl (same ∙ other_datum x a l e)) (λ gone. inr gone) (each l)

    -- what is bound afterwards was bound so before
    was_bound : (a b : List Binding) (l : Label) (v : Value) → Loses a b → datum_at b l ≡ Some v → datum_at a l ≡ Some v
    was_bound a b l v each is = ⊎_elim (λ same. sym same ∙ is) (λ gone. let clash : ◌≡◌ {A = Option Value} None (Some v) = sym gone.1 ∙ is in cc) (each l)

    pub loses_thinned : (a b : List Binding) → OrderedBy w a → OrderedBy w b → Loses a b → ThinnedBy P a b
    loses_thinned [] [] o r each = refl
    loses_thinned [] (y ∷ b) o r each = let clash : ◌≡◌ {A = Option Value} None (Some y.1) = was_bound [] (y ∷ b) y.0 y.1 each (first_datum y b) in cc
    loses_thinned (x ∷ a) [] o r each = inr (gone (each x.0), loses_thinned a [] o.1 r (gone_loses x a [] o refl each))
      where
        gone : (datum_at [] x.0 ≡ datum_at (x ∷ a) x.0) ⊎ (P x.0 × (datum_at [] x.0 ≡ None)) → P x.0
        gone (inl same) = let clash : ◌≡◌ {A = Option Value} None (Some x.1) = same ∙ first_datum x a in cc
        gone (inr lost) = lost.0
    loses_thinned (x ∷ a) (y ∷ b) o r each = go (each x.0) (λ rest m. loses_thinned a rest o.1 m)
      where
        -- the first pairs are the same, or a key would come before another and behind it
        pick : datum_at (y ∷ b) x.0 ≡ Some x.1 → (c : Bool) → same_label y.0 x.0 ≡ c → y ≡ x
        pick is true e =
            let key : y.0 ≡ x.0 = same_label-true y.0 x.0 e in
            let datum : y.1 ≡ x.1 = some_is y.1 x.1 (sym (ap (λ (c : Bool). cond c (Some y.1) (datum_at b x.0)) e) ∙ is) in
            (λ t. (key t, datum t))
        pick is false e = absurd (not_both_ways (w y.0) (w x.0) (later_key y b x.0 x.1 r e is)
            (later_key x a y.0 y.1 o (flip (same_label x.0 y.0) refl) (was_bound (x ∷ a) (y ∷ b) y.0 y.1 each (first_datum y b))))
          where
            flip : (c : Bool) → same_label x.0 y.0 ≡ c → c ≡ false
            flip true same = let clash : true ≡ false = sym (same_label_refl y.0) ∙ (ap (same_label y.0) (sym (same_label-true x.0 y.0 same)) ∙ e) in cc
            flip false same = refl

        go : (datum_at (y ∷ b) x.0 ≡ datum_at (x ∷ a) x.0) ⊎ (P x.0 × (datum_at (y ∷ b) x.0 ≡ None)) → ((rest : List Binding) → OrderedBy w rest → Loses a rest → ThinnedBy P a rest) → ThinnedBy P (x ∷ a) (y ∷ b)
        go (inl same) rec =
            let first : y ≡ x = pick (same ∙ first_datum x a) (same_label y.0 x.0) refl in
            inl (b, ap (λ (z : Binding). z ∷ b) first, rec b r.1 (rest_loses x a b o (subst (λ (z : Binding). OrderedBy w (z ∷ b)) first r) (subst (λ (z : Binding). Loses (x ∷ a) (z ∷ b)) first each)))
        go (inr (lost, none)) rec = inr (lost, rec (y ∷ b) r (gone_loses x a (y ∷ b) o none each))

  -- two such lists that bind the same are one
  pub same_lists : (a b : List Binding) → OrderedBy w a → OrderedBy w b → ((l : Label) → datum_at b l ≡ datum_at a l) → b ≡ a
  same_lists a b o r same = none_taken a b (loses_thinned (λ l. ⊥) a b o r (λ l. inl (same l)))
    where
      none_taken : (a b : List Binding) → ThinnedBy (λ l. ⊥) a b → b ≡ a
      none_taken [] b t = t
      none_taken (x ∷ a) b (inl (rest, is, t)) = is ∙ ap (λ (l : List Binding). x ∷ l) (none_taken a rest t)
      none_taken (x ∷ a) b (inr (none, t)) = absurd none

  -- without a key
  without_key : (k : Label) (a : List Binding) (l : Label) → IsTrue (has_label (keys_of (without k a)) l) → IsTrue (has_label (keys_of a) l)
  without_key k [] l there = there
  without_key k (x ∷ a) l there = go (same_label x.0 k) there (without_key k a l)
    where
      go : (c : Bool) → IsTrue (has_label (keys_of (cond c (without k a) (x ∷ without k a))) l) → (IsTrue (has_label (keys_of (without k a)) l) → IsTrue (has_label (keys_of a) l)) → IsTrue (same_label x.0 l || has_label (keys_of a) l)
      go true h rec = or_right (same_label x.0 l) (has_label (keys_of a) l) (rec h)
      go false h rec = ⊎_elim (λ here. or_left (same_label x.0 l) (has_label (keys_of a) l) here) (λ later. or_right (same_label x.0 l) (has_label (keys_of a) l) (rec later)) (or_cases (same_label x.0 l) (has_label (keys_of (without k a)) l) h)

  pub without_ordered : (k : Label) (a : List Binding) → OrderedBy w a → OrderedBy w (without k a)
  without_ordered k [] o = o
  without_ordered k (x ∷ a) o = go (same_label x.0 k) (without_ordered k a o.1)
    where
      go : (c : Bool) → OrderedBy w (without k a) → OrderedBy w (cond c (without k a) (x ∷ without k a))
      go true r = r
      go false r = ((λ l there. o.0 l (without_key k a l there)), r)

pub without_none : (k : Label) (a : List Binding) → datum_at (without k a) k ≡ None
without_none k [] = refl
without_none k (x ∷ a) = go (same_label x.0 k) refl (without_none k a)
  where
    go : (c : Bool) → same_label x.0 k ≡ c → datum_at (without k a) k ≡ None → datum_at (cond c (without k a) (x ∷ without k a)) k ≡ None
    go true e rest = rest
    go false e rest = other_datum x (without k a) k e ∙ rest

pub without_other : (k l : Label) (a : List Binding) → l ≢ k → datum_at (without k a) l ≡ datum_at a l
without_other k l [] other = refl
without_other k l (x ∷ a) other = go (same_label x.0 k) refl (without_other k l a other)
  where
    go : (c : Bool) → same_label x.0 k ≡ c → datum_at (without k a) l ≡ datum_at a l → datum_at (cond c (without k a) (x ∷ without k a)) l ≡ cond (same_label x.0 l) (Some x.1) (datum_at a l)
    go true e rest = rest ∙ sym (other_datum x a l (differs (same_label x.0 l) refl))
      where
        differs : (c : Bool) → same_label x.0 l ≡ c → c ≡ false
        differs true is = absurd (other (sym (same_label-true x.0 l is) ∙ same_label-true x.0 k e))
        differs false is = refl
    go false e rest = ap (cond (same_label x.0 l) (Some x.1)) rest

-- lists one behind the other
module _ (w : Label → List ℕ) where
  ordered_append : (a b : List Binding) → OrderedBy w a → OrderedBy w b → ((k l : Label) → IsTrue (has_label (keys_of a) k) → IsTrue (has_label (keys_of b) l) → ComesBefore (w k) (w l)) → OrderedBy w (a ++ b)
  ordered_append [] b o r each = r
  ordered_append (x ∷ a) b o r each = (
    (λ l there. ⊎_elim (λ here. o.0 l here) (λ later. each x.0 l (or_left (same_label x.0 x.0) (has_label (keys_of a) x.0) (same_label_refl x.0)) later)
        (has-append_cases (keys_of a) (keys_of b) l (subst (λ (ls : List Label). IsTrue (has_label ls l)) (map-append (λ (b : Binding). b.0) a b) there))),
    ordered_append a b o.1 r (λ k l in_a in_b. each k l (or_right (same_label x.0 k) (has_label (keys_of a) k) in_a) in_b),
  )

  ordered_flat : (f : Value → List Binding) (At : ℕ → Label → Type 0) → ((i j : ℕ) (k l : Label) → i < j → At i k → At j l → ComesBefore (w k) (w l)) → (xs : List Value) → ((j : ℕ) → j < length xs → OrderedBy w (f (get_or xs j Nothing)))
      → ((j : ℕ) (l : Label) → j < length xs → IsTrue (has_label (keys_of (f (get_or xs j Nothing))) l) → At j l) → OrderedBy w (flat_map f xs)
  ordered_flat f At rises [] each places = tt
  ordered_flat f At rises (x ∷ xs) each places = ordered_append (f x) (flat_map f xs) (each zero (omega arith))
      (ordered_flat f (λ j l. At (suc j) l) (λ i j k l less a b. rises (suc i) (suc j) k l (omega (arith, less)) a b) xs (λ j b. each (suc j) (omega (arith, b))) (λ j l b there. places (suc j) l (omega (arith, b)) there))
      (λ k l in_x in_rest.
      let o = flat_owner f l xs in_rest in
      let b : o.0 < length xs = o.1 in
      rises zero (suc o.0) k l (omega arith) (places zero k (omega arith) in_x) (places (suc o.0) l (omega (arith, b)) o.2))

module _ (n : ℕ) (g : Graph) (root : Label) (placed : IsInPlace n g root) where
  leaf_ordered : (v : Value) → OrderedBy (way_to n) (leaf_bindings g v)
  leaf_ordered (Int z) = tt
  leaf_ordered Nothing = tt
  leaf_ordered (Block l) = go (node_at g l)
    where
      go : (o : Option Node) → OrderedBy (way_to n) (binding_of o)
      go None = tt
      go (Some (Plain tag fs)) = tt
      go (Some (Raw tag fs)) = tt
      go (Some (Ephe [] datum)) = tt
      go (Some (Ephe (None ∷ []) datum)) = tt
      go (Some (Ephe (Some j ∷ []) datum)) = ((λ l there. let clash : false ≡ true = there in cc), tt)
      go (Some (Ephe (key ∷ key2 ∷ keys) datum)) = tt

  ordered : (d : ℕ) (p : List ℕ) (v : Value) → at (inside g) p (Block root) ≡ Some v → OrderedBy (way_to n) (bindings_below g d v)
  ordered zero p v there = leaf_ordered v
  ordered (suc d) p v there = go (inside g v) refl (λ q x here. ordered d q x here)
    where
      At : ℕ → Label → Type 0
      At j l = (q : List ℕ) × (way_to n l ≡ p ++ j ∷ q)

      rises : (i j : ℕ) (k l : Label) → i < j → At i k → At j l → ComesBefore (way_to n k) (way_to n l)
      rises i j k l less a b = subst (λ (x : List ℕ). ComesBefore x (way_to n l)) (sym a.1) (subst (ComesBefore (p ++ i ∷ a.0)) (sym b.1) (part_before p i j a.0 b.0 less))

      go : (o : Option (List Value)) → inside g v ≡ o → ((q : List ℕ) (x : Value) → at (inside g) q (Block root) ≡ Some x → OrderedBy (way_to n) (bindings_below g d x)) → OrderedBy (way_to n) (bindings_below g (suc d) v)
      go None e rec = subst (OrderedBy (way_to n)) (sym (below_end g (suc d) v e)) (leaf_ordered v)
      go (Some fields) e rec = subst (OrderedBy (way_to n)) (sym (below_plain g d v fields e))
          (ordered_flat (way_to n) (bindings_below g d) At rises fields (λ j b. rec (p ++ j ∷ []) (get_or fields j Nothing) (at_more g p v root fields j there e))
          (λ j l b bound. let way = key_way n g root placed l d (p ++ j ∷ []) (get_or fields j Nothing) (at_more g p v root fields j there e) bound in (way.0, way.1 ∙ sym (append_one p j way.0))))

pub listed_in_order : ListedInOrder
listed_in_order n g root placed = subst (OrderedBy (way_to n)) (sym (listed g root)) (ordered n g root placed way_length [] (Block root) refl)

-- so what a map binds determines its list, and what keys have lost their binding what is left of it
module _ (n : ℕ) (g h : Graph) (a b : Label) (placed_g : IsInPlace n g a) (placed_h : IsInPlace n h b) where
  datum_of : (l : Label) → datum_at (bindings_of h b) l ≡ found n h b l
  datum_of l = listed_is_found n h b placed_h l

  datum_was : (l : Label) → datum_at (bindings_of g a) l ≡ found n g a l
  datum_was l = listed_is_found n g a placed_g l

  module _ (P : Label → Type 0) where
    abbrev pub LeftBy : Label → Type 0
    LeftBy l = (found n h b l ≡ found n g a l) ⊎ (P l × (found n h b l ≡ None))

    pub lost_listed : ((l : Label) → LeftBy l) → ThinnedBy P (bindings_of g a) (bindings_of h b)
    lost_listed each = loses_thinned (way_to n) P (bindings_of g a) (bindings_of h b) (listed_in_order n g a placed_g) (listed_in_order n h b placed_h)
        (λ l. ⊎_elim (λ same. inl (datum_of l ∙ (same ∙ sym (datum_was l)))) (λ gone. inr (gone.0, datum_of l ∙ gone.1)) (each l))

    pub lost_but_listed : (k : Label) → ((l : Label) → l ≢ k → LeftBy l) → ThinnedBy P (without k (bindings_of g a)) (without k (bindings_of h b))
    lost_but_listed k each = loses_thinned (way_to n) P (without k (bindings_of g a)) (without k (bindings_of h b))
        (without_ordered (way_to n) k (bindings_of g a) (listed_in_order n g a placed_g)) (without_ordered (way_to n) k (bindings_of h b) (listed_in_order n h b placed_h))
        (λ l. label_cases ((datum_at (without k (bindings_of h b)) l ≡ datum_at (without k (bindings_of g a)) l) ⊎ (P l × (datum_at (without k (bindings_of h b)) l ≡ None))) l k
        (λ is. inl (subst (λ (j : Label). datum_at (without k (bindings_of h b)) j ≡ datum_at (without k (bindings_of g a)) j) (sym is) (without_none k (bindings_of h b) ∙ sym (without_none k (bindings_of g a)))))
        (λ other. ⊎_elim (λ same. inl (without_other k l (bindings_of h b) other ∙ (datum_of l ∙ (same ∙ sym (without_other k l (bindings_of g a) other ∙ datum_was l)))))
        (λ gone. inr (gone.0, without_other k l (bindings_of h b) other ∙ (datum_of l ∙ gone.1))) (each l other)))

pub found_listed : FoundListed
found_listed n g h a b placed_g placed_h same = same_lists (way_to n) (bindings_of g a) (bindings_of h b) (listed_in_order n g a placed_g) (listed_in_order n h b placed_h)
    (λ l. listed_is_found n h b placed_h l ∙ (same l ∙ sym (listed_is_found n g a placed_g l)))

pub found_but_listed : FoundButListed
found_but_listed n g h a b k placed_g placed_h same = same_lists (way_to n) (without k (bindings_of g a)) (without k (bindings_of h b))
    (without_ordered (way_to n) k (bindings_of g a) (listed_in_order n g a placed_g)) (without_ordered (way_to n) k (bindings_of h b) (listed_in_order n h b placed_h))
    (λ l. label_cases (datum_at (without k (bindings_of h b)) l ≡ datum_at (without k (bindings_of g a)) l) l k
    (λ is. subst (λ (j : Label). datum_at (without k (bindings_of h b)) j ≡ datum_at (without k (bindings_of g a)) j) (sym is) (without_none k (bindings_of h b) ∙ sym (without_none k (bindings_of g a))))
    (λ other. without_other k l (bindings_of h b) other ∙ (listed_is_found n h b placed_h l ∙ (same l other ∙ sym (without_other k l (bindings_of g a) other ∙ listed_is_found n g a placed_g l)))))
