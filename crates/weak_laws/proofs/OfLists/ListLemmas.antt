-- What is gathered from a map, place by place.
use Rattle.std.proofs.Common.{◌≡◌, ◌⊎◌, inl, inr, ℕ, zero, suc, ◌+◌, ◌<◌, cond, List, [], ◌∷◌, ◌++◌, length, get_or, flat_map, Option, Some, None, refl, ap, sym, ◌∙◌, subst, arith}
use Rattle.std.proofs.lemmas.List.{append-nil, length-append}
use Rattle.std.proofs.lemmas.Grind.{flat_map-append}
use Rattle.model_core.specs.declared.label.Label.{Label}
use Rattle.model_core.specs.declared.graph.Value.{Value}
use Rattle.model_core.specs.declared.graph.Value.TheVariants.{Int, Block, Nothing}
use Rattle.model_core.specs.declared.graph.Node.{Node}
use Rattle.model_core.specs.declared.graph.Node.TheVariants.{Plain, Raw, Ephe}
use Rattle.model_core.specs.Graph.{Graph, node_at}
use Rattle.weak_laws.specs.Tables.Structures.{Binding, binding_of, is_weak}
use Rattle.weak_laws.specs.Maps.Tries.{inside, fields_of, at, way_length}
use Rattle.weak_laws.proofs.OfMaps.FieldLemmas.{at_field}
use Rattle.weak_laws.proofs.OfMaps.WalkLemmas.{Walk}
use Rattle.weak_laws.specs.Lists.Lists.{gathered, leaf_label, map_leaves, bindings_below, bindings_of, leaf_bindings}

-- from a value that is no plain block on, and from a plain block
pub gathered_end : {A : Type 0} (f : Walk) (own : Value → List A) (d : ℕ) (v : Value) → f v ≡ None → gathered f own d v ≡ own v
gathered_end f own zero v e = refl
gathered_end f own (suc d) v e = rw e (append-nil (own v))

pub gathered_plain : {A : Type 0} (f : Walk) (own : Value → List A) (d : ℕ) (v : Value) (fields : List Value) → f v ≡ Some fields → gathered f own (suc d) v ≡ own v ++ flat_map (gathered f own d) fields
gathered_plain f own d v fields e = rw e refl

-- a way with one step more
pub at_more : (g : Graph) (p : List ℕ) (v : Value) (root : Label) (fields : List Value) (j : ℕ) → at (inside g) p (Block root) ≡ Some v → inside g v ≡ Some fields → at (inside g) (p ++ j ∷ []) (Block root) ≡ Some (get_or fields j Nothing)
at_more g p (Int z) root fields j there plain = let clash : ◌≡◌ {A = Option (List Value)} None (Some fields) = plain in cc
at_more g p Nothing root fields j there plain = let clash : ◌≡◌ {A = Option (List Value)} None (Some fields) = plain in cc
at_more g p (Block l) root fields j there plain = at_field g p (Block root) l fields j there plain

-- two lists that are gathered from two graphs are related, where what stands at each place is
module _ (A : Type 0) (R : List A → List A → Type 0) (same : (a : List A) → R a a) (join : (a b c d : List A) → R a b → R c d → R (a ++ c) (b ++ d)) where
  rel_flat : (f g : Value → List A) (xs ys : List Value) → length ys ≡ length xs → ((j : ℕ) → j < length xs → R (f (get_or xs j Nothing)) (g (get_or ys j Nothing))) → R (flat_map f xs) (flat_map g ys)
  rel_flat f g [] [] len each = same []
  rel_flat f g [] (y ∷ ys) len each = absurd (omega (arith, len))
  rel_flat f g (x ∷ xs) [] len each = absurd (omega (arith, len))
  rel_flat f g (x ∷ xs) (y ∷ ys) len each =
      join (f x) (g y) (flat_map f xs) (flat_map g ys) (each zero (omega arith)) (rel_flat f g xs ys (omega (arith, len)) (λ j b. each (suc j) (omega (arith, b))))

  module _ (g h : Graph) (was now : Value → List A) (root : Label) where
    -- a field holds what it held, or what is gathered from it is related
    abbrev pub FieldKept : List ℕ → Value → Value → Type 0
    FieldKept p old new = (new ≡ old) ⊎ ((d : ℕ) → length p + suc d ≡ way_length → R (gathered (inside g) was d old) (gathered (inside h) now d new))

    -- what became of a value at a place: no block is one still, and a block has as many fields
    pub data Kept (p : List ℕ) (v : Value) : Type 0 where
      Ends : inside g v ≡ None → inside h v ≡ None → R (was v) (now v) → Kept p v
      Holds : (fs hs : List Value) → inside g v ≡ Some fs → inside h v ≡ Some hs → R (was v) (now v) → length hs ≡ length fs → ((j : ℕ) → j < length fs → FieldKept p (get_or fs j Nothing) (get_or hs j Nothing)) → Kept p v

    pub walk : ((p : List ℕ) (v : Value) → at (inside g) p (Block root) ≡ Some v → Kept p v) → (d : ℕ) (p : List ℕ) (v : Value) → length p + d ≡ way_length → at (inside g) p (Block root) ≡ Some v
        → R (gathered (inside g) was d v) (gathered (inside h) now d v)
    walk kept zero p v deep there = last (kept p v there)
      where
        last : Kept p v → R (was v) (now v)
        last (Ends e eh r) = r
        last (Holds fs hs e eh r len each) = r
    walk kept (suc d) p v deep there = go (λ q x low here. walk kept d q x low here) (kept p v there)
      where
        Below : List ℕ → Value → Type 0
        Below q x = length q + d ≡ way_length → at (inside g) q (Block root) ≡ Some x → R (gathered (inside g) was d x) (gathered (inside h) now d x)

        field : ((q : List ℕ) (x : Value) → Below q x) → (fs hs : List Value) → inside g v ≡ Some fs → (j : ℕ) → FieldKept p (get_or fs j Nothing) (get_or hs j Nothing) → R (gathered (inside g) was d (get_or fs j Nothing)) (gathered (inside h) now d (get_or hs j Nothing))
        field rec fs hs e j (inr related) = related d deep
        field rec fs hs e j (inl is) =
            let longer = length-append p (j ∷ []) in
            subst (λ (x : Value). R (gathered (inside g) was d (get_or fs j Nothing)) (gathered (inside h) now d x)) (sym is)
            (rec (p ++ j ∷ []) (get_or fs j Nothing) (omega (arith, longer, deep)) (at_more g p v root fs j there e))

        go : ((q : List ℕ) (x : Value) → Below q x) → Kept p v → R (gathered (inside g) was (suc d) v) (gathered (inside h) now (suc d) v)
        go rec (Ends e eh r) = subst (λ (x : List A). R x (gathered (inside h) now (suc d) v)) (sym (gathered_end (inside g) was (suc d) v e)) (subst (R (was v)) (sym (gathered_end (inside h) now (suc d) v eh)) r)
        go rec (Holds fs hs e eh r len each) =
            subst (λ (x : List A). R x (gathered (inside h) now (suc d) v)) (sym (gathered_plain (inside g) was d v fs e))
            (subst (R (was v ++ flat_map (gathered (inside g) was d) fs)) (sym (gathered_plain (inside h) now d v hs eh))
            (join (was v) (now v) (flat_map (gathered (inside g) was d) fs) (flat_map (gathered (inside h) now d) hs) r
            (rel_flat (gathered (inside g) was d) (gathered (inside h) now d) fs hs len (λ j b. field rec fs hs e j (each j b)))))

-- a plain block binds nothing by itself
pub plain_leafless : (g : Graph) (v : Value) (fields : List Value) → inside g v ≡ Some fields → leaf_bindings g v ≡ []
plain_leafless g (Int z) fields e = refl
plain_leafless g Nothing fields e = refl
plain_leafless g (Block l) fields e = go (node_at g l) e
  where
    go : (o : Option Node) → fields_of o ≡ Some fields → binding_of o ≡ []
    go None is = refl
    go (Some (Plain tag fs)) is = refl
    go (Some (Raw tag fs)) is = refl
    go (Some (Ephe keys datum)) is = let clash : ◌≡◌ {A = Option (List Value)} None (Some fields) = is in cc

pub below_end : (g : Graph) (d : ℕ) (v : Value) → inside g v ≡ None → bindings_below g d v ≡ leaf_bindings g v
below_end g d v e = gathered_end (inside g) (leaf_bindings g) d v e

pub below_plain : (g : Graph) (d : ℕ) (v : Value) (fields : List Value) → inside g v ≡ Some fields → bindings_below g (suc d) v ≡ flat_map (bindings_below g d) fields
below_plain g d v fields e = gathered_plain (inside g) (leaf_bindings g) d v fields e ∙ ap (λ (bs : List Binding). bs ++ flat_map (bindings_below g d) fields) (plain_leafless g v fields e)

-- what the leaves bind is what is gathered so
module _ (g : Graph) where
  of_leaf : (v : Value) → flat_map (λ e. binding_of (node_at g e)) (leaf_label g v) ≡ leaf_bindings g v
  of_leaf (Int z) = refl
  of_leaf Nothing = refl
  of_leaf (Block l) = go (node_at g l) refl
    where
      go : (o : Option Node) → node_at g l ≡ o → flat_map (λ e. binding_of (node_at g e)) (cond (is_weak o) (l ∷ []) []) ≡ binding_of o
      go None e = refl
      go (Some (Plain tag fs)) e = refl
      go (Some (Raw tag fs)) e = refl
      go (Some (Ephe [] datum)) e = refl
      go (Some (Ephe (key ∷ []) datum)) e = append-nil (binding_of (node_at g l)) ∙ ap binding_of e
      go (Some (Ephe (key ∷ key2 ∷ keys) datum)) e = refl

  of_fields : (f : Value → List Label) (k : Value → List Binding) → ((v : Value) → flat_map (λ e. binding_of (node_at g e)) (f v) ≡ k v) → (xs : List Value) → flat_map (λ e. binding_of (node_at g e)) (flat_map f xs) ≡ flat_map k xs
  of_fields f k each [] = refl
  of_fields f k each (x ∷ xs) = flat_map-append (λ e. binding_of (node_at g e)) (f x) (flat_map f xs) ∙ (λ t. each x t ++ of_fields f k each xs t)

  of_leaves : (d : ℕ) (v : Value) → flat_map (λ e. binding_of (node_at g e)) (gathered (inside g) (leaf_label g) d v) ≡ bindings_below g d v
  of_leaves zero v = of_leaf v
  of_leaves (suc d) v = go (inside g v) refl (λ x. of_leaves d x)
    where
      go : (o : Option (List Value)) → inside g v ≡ o → ((x : Value) → flat_map (λ e. binding_of (node_at g e)) (gathered (inside g) (leaf_label g) d x) ≡ bindings_below g d x)
          → flat_map (λ e. binding_of (node_at g e)) (gathered (inside g) (leaf_label g) (suc d) v) ≡ bindings_below g (suc d) v
      go None e rec = ap (λ (ls : List Label). flat_map (λ e. binding_of (node_at g e)) ls) (gathered_end (inside g) (leaf_label g) (suc d) v e) ∙ (of_leaf v ∙ sym (below_end g (suc d) v e))
      go (Some fields) e rec = ap (λ (ls : List Label). flat_map (λ e. binding_of (node_at g e)) ls) (gathered_plain (inside g) (leaf_label g) d v fields e)
          ∙ (flat_map-append (λ e. binding_of (node_at g e)) (leaf_label g v) (flat_map (gathered (inside g) (leaf_label g) d) fields)
          ∙ ((λ t. of_leaf v t ++ of_fields (gathered (inside g) (leaf_label g) d) (bindings_below g d) rec fields t) ∙ sym (gathered_plain (inside g) (leaf_bindings g) d v fields e)))

pub listed : (g : Graph) (root : Label) → bindings_of g root ≡ bindings_below g way_length (Block root)
unfolding map_leaves
listed g root = of_leaves g way_length (Block root)
