-- What a step to a map leaves of its list of bindings.
use Rattle.std.proofs.Common.{◌≡◌, ◌≢◌, ◌⊎◌, inl, inr, ℕ, zero, suc, ◌+◌, ◌<◌, Bool, true, false, cond, List, [], ◌∷◌, ◌++◌, length, get_or, set, replicate, flat_map, pos, Option, Some, None, refl, ap, sym, ◌∙◌, subst, arith}
use Rattle.std.proofs.lemmas.List.{append-nil, length-set}
use Rattle.model_core.specs.declared.label.Label.{Label}
use Rattle.model_core.specs.declared.graph.Value.{Value}
use Rattle.model_core.specs.declared.graph.Value.TheVariants.{Int, Block, Nothing}
use Rattle.model_core.specs.declared.graph.Node.{Node}
use Rattle.model_core.specs.declared.graph.Node.TheVariants.{Plain, Raw, Ephe}
use Rattle.model_core.specs.Graph.{Graph, same_label, node_at, with_node}
use Rattle.model_core.proofs.Graphs.GraphLemmas.{same_label_refl, node_at-with_node_same, node_at-with_node_other}
use Rattle.weak_laws.specs.Tables.Structures.{Binding, binding_of, bound, is_weak, without}
use Rattle.weak_laws.specs.Tables.Thinning.{IsOutside, Thin, ThinnedBy, WasOutside}
use Rattle.weak_laws.specs.Tables.Stages.{graph_of}
use Rattle.weak_laws.proofs.OfTables.BindingLemmas.{thinned_append, thinned_same, without_append}
use Rattle.weak_laws.proofs.OfTables.LookupLemmas.{without_unbound}
use Rattle.weak_laws.specs.Maps.Tries.{inside, fields_of, at, bound_by, bound_in, is_leaf, node_width, way_length, IsMap}
use Rattle.weak_laws.specs.Maps.Steps.{WritesField, IsThinned, HoldsNothing}
use Rattle.weak_laws.proofs.OfMaps.MapLemmas.{NoLabel, untouched_thinned}
use Rattle.weak_laws.proofs.OfMaps.SetLemmas.{block_is, set_binds}
use Rattle.weak_laws.proofs.OfMaps.WalkLemmas.{ends_step, same_number, set_else, set_same}
use Rattle.weak_laws.specs.Lists.Lists.{gathered, block_label, leaf_label, map_labels, map_leaves, bindings_of, bindings_below, leaf_bindings}
use Rattle.weak_laws.specs.Lists.ListLaws.{SetListed, SetBindsListed, TakenListed, DeepenListed, ClearListed, EmptyListed, UntouchedListed, ThinnedListed, CollectorListed}
use Rattle.weak_laws.proofs.OfLists.ListLemmas.{below_end, below_plain, listed, plain_leafless, walk, Kept, Ends, Holds, FieldKept}
use Rattle.weak_laws.proofs.OfLists.FoundLemmas.{listed_is_found}

-- a leaf that binds no key but one has no list without it
leaf_without : (g : Graph) (k : Label) (v : Value) → ((l : Label) → l ≢ k → bound_by g l v ≡ None) → without k (leaf_bindings g v) ≡ []
leaf_without g k (Int z) mine = refl
leaf_without g k Nothing mine = refl
leaf_without g k (Block l) mine = go (node_at g l) mine
  where
    one : (j : Label) (datum : Value) → ((i : Label) → i ≢ k → cond (same_label j i) (Some datum) None ≡ None) → (b : Bool) → same_label j k ≡ b → cond {A = List Binding} b [] ((j, datum) ∷ []) ≡ []
    one j datum mine true e = refl
    one j datum mine false e = absurd (let none = mine j (λ same. let clash : true ≡ false = sym (same_label_refl j) ∙ (ap (same_label j) same ∙ e) in cc) in
        let clash : ◌≡◌ {A = Option Value} (Some datum) None = ap (λ (b : Bool). cond b (Some datum) None) (sym (same_label_refl j)) ∙ none in cc)

    go : (o : Option Node) → ((i : Label) → i ≢ k → bound_in i o ≡ None) → without k (binding_of o) ≡ []
    go None mine = refl
    go (Some (Plain tag fs)) mine = refl
    go (Some (Raw tag fs)) mine = refl
    go (Some (Ephe [] datum)) mine = refl
    go (Some (Ephe (None ∷ []) datum)) mine = refl
    go (Some (Ephe (Some j ∷ []) datum)) mine = one j datum mine (same_label j k) refl
    go (Some (Ephe (key ∷ key2 ∷ keys) datum)) mine = refl

-- a leaf that binds no key has no list
leaf_none : (g : Graph) (v : Value) → ((l : Label) → bound_by g l v ≡ None) → leaf_bindings g v ≡ []
leaf_none g (Int z) none = refl
leaf_none g Nothing none = refl
leaf_none g (Block l) none = go (node_at g l) none
  where
    go : (o : Option Node) → ((i : Label) → bound_in i o ≡ None) → binding_of o ≡ []
    go None none = refl
    go (Some (Plain tag fs)) none = refl
    go (Some (Raw tag fs)) none = refl
    go (Some (Ephe [] datum)) none = refl
    go (Some (Ephe (None ∷ []) datum)) none = refl
    go (Some (Ephe (Some j ∷ []) datum)) none = absurd (let clash : ◌≡◌ {A = Option Value} (Some datum) None = ap (λ (b : Bool). cond b (Some datum) None) (sym (same_label_refl j)) ∙ none j in cc)
    go (Some (Ephe (key ∷ key2 ∷ keys) datum)) none = refl

-- what holds nothing has no list, however deep it is looked for
flat_none : (f : Value → List Binding) (xs : List Value) → ((j : ℕ) → f (get_or xs j Nothing) ≡ []) → flat_map f xs ≡ []
flat_none f [] each = refl
flat_none f (x ∷ xs) each = ap (λ (bs : List Binding). bs ++ flat_map f xs) (each zero) ∙ flat_none f xs (λ j. each (suc j))

nothing_below : (g : Graph) (d : ℕ) (v : Value) → HoldsNothing g v → bindings_below g d v ≡ []
nothing_below g zero v nothing = leaf_none g v (λ l. nothing l [])
nothing_below g (suc d) v nothing = go (inside g v) refl (λ x empty. nothing_below g d x empty)
  where
    go : (o : Option (List Value)) → inside g v ≡ o → ((x : Value) → HoldsNothing g x → bindings_below g d x ≡ []) → bindings_below g (suc d) v ≡ []
    go None e rec = below_end g (suc d) v e ∙ leaf_none g v (λ l. nothing l [])
    go (Some fields) e rec = below_plain g d v fields e
        ∙ flat_none (bindings_below g d) fields (λ j. rec (get_or fields j Nothing) (λ k q. ap (bound_by g k) (sym (ends_step (inside g) j q v fields e)) ∙ nothing k (j ∷ q)))

-- one field of a block is written
module _ (g h : Graph) (root block : Label) (tag : ℕ) (fields : List Value) (i : ℕ) (new : Value) (node : node_at g block ≡ Some (Plain tag fields)) (below : i < length fields) (now : h ≡ with_node g block (Plain tag (set fields i new))) where
  was_in : inside g (Block block) ≡ Some fields
  was_in = ap fields_of node

  now_in : inside h (Block block) ≡ Some (set fields i new)
  now_in = ap (λ (x : Graph). inside x (Block block)) now ∙ ap fields_of (node_at-with_node_same g block (Plain tag (set fields i new)) (Plain tag fields) node)

  other_node : (l : Label) → (Block l ≡ Block block → ⊥) → node_at h l ≡ node_at g l
  other_node l other = ap (λ (x : Graph). node_at x l) now ∙ node_at-with_node_other g block l (Plain tag (set fields i new)) (λ same. other (ap Block same))

  other_in : (v : Value) → (v ≡ Block block → ⊥) → (inside h v ≡ inside g v) × (leaf_bindings h v ≡ leaf_bindings g v)
  other_in (Int z) other = (refl, refl)
  other_in Nothing other = (refl, refl)
  other_in (Block l) other = (ap fields_of (other_node l other), ap binding_of (other_node l other))

  -- what is no block of the map binds what it bound
  pub end_kept : (d : ℕ) (v : Value) → inside g v ≡ None → bindings_below h d v ≡ leaf_bindings g v
  end_kept d v e = let is = other_in v (λ same. let clash : ◌≡◌ {A = Option (List Value)} None (Some fields) = sym e ∙ (ap (inside g) same ∙ was_in) in cc) in below_end h d v (is.0 ∙ e) ∙ is.1

  pub other_inside : (v : Value) → (v ≡ Block block → ⊥) → inside h v ≡ inside g v
  other_inside v other = (other_in v other).0

  module _ (R : List Binding → List Binding → Type 0) (same : (a : List Binding) → R a a) (join : (a b c d : List Binding) → R a b → R c d → R (a ++ c) (b ++ d))
      (here : List ℕ) (one : (p : List ℕ) → at (inside g) p (Block root) ≡ Some (Block block) → p ≡ here)
      (field : (d : ℕ) → length here + suc d ≡ way_length → R (bindings_below g d (get_or fields i Nothing)) (bindings_below h d new)) where
    kept : (p : List ℕ) (v : Value) → at (inside g) p (Block root) ≡ Some v → Kept Binding R same join g h (leaf_bindings g) (leaf_bindings h) root p v
    kept p v there = go (block_is block v)
      where
        at_field : p ≡ here → (j : ℕ) → (j ≡ i) ⊎ (j ≡ i → ⊥) → FieldKept Binding R same join g h (leaf_bindings g) (leaf_bindings h) root p (get_or fields j Nothing) (get_or (set fields i new) j Nothing)
        at_field place j (inr other) = inl (set_else fields i j new Nothing other)
        at_field place j (inl hit) = inr (λ d deep.
            subst (λ (x : Value). R (bindings_below g d (get_or fields j Nothing)) (bindings_below h d x)) (sym (ap (λ (m : ℕ). get_or (set fields i new) m Nothing) hit ∙ set_same fields i new Nothing below))
            (subst (λ (m : ℕ). R (bindings_below g d (get_or fields m Nothing)) (bindings_below h d new)) (sym hit) (field d (ap (λ (q : List ℕ). length q + suc d) (sym place) ∙ deep))))

        beside : (v ≡ Block block → ⊥) → (o : Option (List Value)) → inside g v ≡ o → Kept Binding R same join g h (leaf_bindings g) (leaf_bindings h) root p v
        beside other None e = Ends e ((other_in v other).0 ∙ e) (subst (R (leaf_bindings g v)) (sym (other_in v other).1) (same (leaf_bindings g v)))
        beside other (Some fs) e = Holds fs fs e ((other_in v other).0 ∙ e) (subst (R (leaf_bindings g v)) (sym (other_in v other).1) (same (leaf_bindings g v))) refl (λ j b. inl refl)

        unbound : (u : Value) → u ≡ Block block → R (leaf_bindings g u) (leaf_bindings h u)
        unbound u is = subst (λ (x : List Binding). R x (leaf_bindings h u)) (sym (plain_leafless g u fields (ap (inside g) is ∙ was_in))) (subst (R []) (sym (plain_leafless h u (set fields i new) (ap (inside h) is ∙ now_in))) (same []))

        go : (v ≡ Block block) ⊎ (v ≡ Block block → ⊥) → Kept Binding R same join g h (leaf_bindings g) (leaf_bindings h) root p v
        go (inl is) = Holds fields (set fields i new) (ap (inside g) is ∙ was_in) (ap (inside h) is ∙ now_in) (unbound v is) (length-set fields i new) (λ j b. at_field (one p (there ∙ ap Some is)) j (same_number j i))
        go (inr other) = beside other (inside g v) refl

    pub written : R (bindings_of g root) (bindings_of h root)
    written = subst (λ (bs : List Binding). R bs (bindings_of h root)) (sym (listed g root)) (subst (R (bindings_below g way_length (Block root))) (sym (listed h root))
        (walk Binding R same join g h (leaf_bindings g) (leaf_bindings h) root kept way_length [] (Block root) refl refl))

-- two lists are one
abbrev Same : List Binding → List Binding → Type 0
Same a b = b ≡ a

same_join : (a b c d : List Binding) → Same a b → Same c d → Same (a ++ c) (b ++ d)
same_join a b c d x y = λ t. x t ++ y t

-- two lists are one without a key
abbrev SameBut : Label → List Binding → List Binding → Type 0
SameBut k a b = without k b ≡ without k a

but_join : (k : Label) (a b c d : List Binding) → SameBut k a b → SameBut k c d → SameBut k (a ++ c) (b ++ d)
but_join k a b c d x y = without_append k b d ∙ ((λ t. x t ++ y t) ∙ sym (without_append k a c))

one_place : (g h : Graph) (root : Label) (p : List ℕ) (i : ℕ) (held new : Value) → IsMap g root → (w : WritesField g h root p i held new) → (q : List ℕ) → at (inside g) q (Block root) ≡ Some (Block w.block) → q ≡ p
one_place g h root p i held new map w q there = map.tree q p (Block w.block) w.fields there w.there (ap fields_of w.node)

pub set_listed : SetListed
set_listed n g h root k new map s =
    let w = s.writes in
    written g h root w.block w.tag w.fields s.i new w.node w.below w.now (SameBut k) (λ a. refl) (but_join k) s.p (one_place g h root s.p s.i s.held new map w)
    (λ d deep.
    let held_end : inside g (get_or w.fields s.i Nothing) ≡ None = ap (inside g) w.was ∙ w.end in
    let after : without k (bindings_below h d new) ≡ [] = ap (without k) (end_kept g h root w.block w.tag w.fields s.i new w.node w.below w.now d new s.leaf) ∙ leaf_without g k new (λ l other. (s.mine l other).1) in
    let before : without k (bindings_below g d (get_or w.fields s.i Nothing)) ≡ [] = ap (without k) (below_end g d (get_or w.fields s.i Nothing) held_end) ∙ leaf_without g k (get_or w.fields s.i Nothing) (λ l other. ap (bound_by g l) w.was ∙ (s.mine l other).0) in
    after ∙ sym before)

pub set_binds_listed : SetBindsListed
set_binds_listed n g h root k new map placed s = listed_is_found n h root placed k ∙ (set_binds n g h root k new map s).0

pub taken_listed : TakenListed
taken_listed n g h root k new map placed s none =
    sym (without_unbound k (bindings_of h root) (set_binds_listed n g h root k new map placed s ∙ none)) ∙ set_listed n g h root k new map s

-- a fresh block that holds one value
flat_one : (f : Value → List Binding) (m j : ℕ) (v : Value) → f (Int (pos 0)) ≡ [] → j < m → flat_map f (set (replicate m (Int (pos 0))) j v) ≡ f v
flat_one f zero j v none below = absurd (omega (arith, below))
flat_one f (suc m) zero v none below = ap (λ (bs : List Binding). f v ++ bs) (zeros m) ∙ append-nil (f v)
  where
    zeros : (m : ℕ) → flat_map f (replicate m (Int (pos 0))) ≡ []
    zeros zero = refl
    zeros (suc m) = (λ t. none t ++ zeros m t)
flat_one f (suc m) (suc j) v none below = (λ t. none t ++ flat_one f m j v none (omega (arith, below)) t)

pub deepen_listed : DeepenListed
deepen_listed n g h root map s = written g h root w.block w.tag w.fields s.i (Block s.block) w.node w.below w.now Same (λ a. refl) same_join s.p (one_place g h root s.p s.i s.held (Block s.block) map w) field
  where
    w : WritesField g h root s.p s.i s.held (Block s.block)
    w = s.writes

    ms : List Value
    ms = set (replicate node_width (Int (pos 0))) s.j s.held

    apart : Block s.block ≡ Block w.block → ⊥
    apart same = s.fresh s.p (w.there ∙ ap Some (sym same))

    inner : inside h (Block s.block) ≡ Some ms
    inner = other_inside g h root w.block w.tag w.fields s.i (Block s.block) w.node w.below w.now (Block s.block) apart ∙ s.inner

    field : (d : ℕ) → length s.p + suc d ≡ way_length → bindings_below h d (Block s.block) ≡ bindings_below g d (get_or w.fields s.i Nothing)
    field zero deep = let low = s.low in absurd (omega (arith, deep, low))
    field (suc d) deep =
        below_plain h d (Block s.block) ms inner
        ∙ (flat_one (bindings_below h d) node_width s.j s.held (below_end h d (Int (pos 0)) refl) s.small
        ∙ (end_kept g h root w.block w.tag w.fields s.i (Block s.block) w.node w.below w.now d s.held w.end
        ∙ sym (below_end g (suc d) (get_or w.fields s.i Nothing) (ap (inside g) w.was ∙ w.end) ∙ ap (leaf_bindings g) w.was)))

pub clear_listed : ClearListed
clear_listed g h root map c =
    let w = c.writes in
    written g h root w.block w.tag w.fields c.i (Int (pos 0)) w.node w.below w.now Same (λ a. refl) same_join c.p (one_place g h root c.p c.i c.held (Int (pos 0)) map w)
    (λ d deep. below_end h d (Int (pos 0)) refl ∙ sym (below_end g d (get_or w.fields c.i Nothing) (ap (inside g) w.was ∙ w.end) ∙ leaf_none g (get_or w.fields c.i Nothing) (λ l. ap (bound_by g l) w.was ∙ c.empty l)))

pub empty_listed : EmptyListed
empty_listed g h root map e =
    written g h root e.block e.tag e.fields e.i (Int (pos 0)) e.node e.below e.now Same (λ a. refl) same_join e.p (λ q there. map.tree q e.p (Block e.block) e.fields there e.there (ap fields_of e.node))
    (λ d deep. below_end h d (Int (pos 0)) refl ∙ sym (nothing_below g d (get_or e.fields e.i Nothing) (subst (HoldsNothing g) (sym e.was) e.nothing)))

-- leaves lose their keys
leaf_thinned : (P : Label → Type 0) (key : Option Label) (datum : Value) (o : Option Node) → Thin P (Ephe (key ∷ []) datum) o → ThinnedBy P (bound key datum) (binding_of o)
leaf_thinned P key datum o (inl same) = subst (λ (x : Option Node). ThinnedBy P (bound key datum) (binding_of x)) (sym same) (thinned_same P (bound key datum))
leaf_thinned P key datum o (inr (k, is, gone, empty)) =
    subst (λ (x : Option Node). ThinnedBy P (bound key datum) (binding_of x)) (sym empty) (subst (λ (x : Option Label). ThinnedBy P (bound x datum) []) (sym is) (inr (gone, refl)))

-- what stands in a map that is thinned stands where it stood, so what is gathered from it is related where what leaves have is
abbrev pub Slot : Option Node → Type 0
Slot o = is_leaf o ⊎ ((fields : List Value) × (fields_of o ≡ Some fields))

module _ (P : Label → Type 0) (g h : Graph) (root : Label) (map : IsMap g root) (thin : IsThinned P g h root) where
  module _ (A : Type 0) (R : List A → List A → Type 0) (same : (a : List A) → R a a) (join : (a b c d : List A) → R a b → R c d → R (a ++ c) (b ++ d)) (was now : Value → List A)
      (plain : (v : Value) → ((l : Label) → v ≡ Block l → ⊥) → now v ≡ was v)
      (leaf : (l : Label) (n : Node) → node_at g l ≡ Some n → Slot (Some n) → Thin P n (node_at h l) → R (was (Block l)) (now (Block l))) where
    at_node : (p : List ℕ) (l : Label) (n : Node) → node_at g l ≡ Some n → Slot (Some n) → Thin P n (node_at h l) → Kept A R same join g h was now root p (Block l)
    at_node p l (Plain tag fields) e slot left = Holds fields fields (ap fields_of e) (ap fields_of left) (leaf l (Plain tag fields) e slot left) refl (λ j b. inl refl)
    at_node p l (Raw tag fields) e (inl is) left = absurd is
    at_node p l (Raw tag fields) e (inr (fs, is)) left = cc
    at_node p l (Ephe [] datum) e (inl is) left = absurd is
    at_node p l (Ephe [] datum) e (inr (fs, is)) left = cc
    at_node p l (Ephe (key ∷ []) datum) e slot left = Ends (ap fields_of e) (no_fields left) (leaf l (Ephe (key ∷ []) datum) e slot left)
      where
        no_fields : Thin P (Ephe (key ∷ []) datum) (node_at h l) → inside h (Block l) ≡ None
        no_fields (inl still) = ap fields_of still
        no_fields (inr (k, is, gone, empty)) = ap fields_of empty
    at_node p l (Ephe (key ∷ key2 ∷ keys) datum) e (inl is) left = absurd is
    at_node p l (Ephe (key ∷ key2 ∷ keys) datum) e (inr (fs, is)) left = cc

    at_place : (p : List ℕ) (v : Value) → at (inside g) p (Block root) ≡ Some v → Kept A R same join g h was now root p v
    at_place p (Int z) there = Ends refl refl (subst (R (was (Int z))) (sym (plain (Int z) (λ l e. cc))) (same (was (Int z))))
    at_place p Nothing there = Ends refl refl (subst (R (was Nothing)) (sym (plain Nothing (λ l e. cc))) (same (was Nothing)))
    at_place p (Block l) there = go (node_at g l) refl (map.slots p (Block l) there)
      where
        go : (o : Option Node) → node_at g l ≡ o → Slot o → Kept A R same join g h was now root p (Block l)
        go None e (inl is) = absurd is
        go None e (inr (fs, is)) = cc
        go (Some n) e slot = at_node p l n e slot (thin p l n there e)

    walk_at : (d : ℕ) (p : List ℕ) (v : Value) → length p + d ≡ way_length → at (inside g) p (Block root) ≡ Some v → R (gathered (inside g) was d v) (gathered (inside h) now d v)
    walk_at d p v deep there = walk A R same join g h was now root at_place d p v deep there

    thinned_walk : R (gathered (inside g) was way_length (Block root)) (gathered (inside h) now way_length (Block root))
    thinned_walk = walk_at way_length [] (Block root) refl refl

  -- its blocks and its leaves are as they were
  pub labels_kept : map_labels h root ≡ map_labels g root
  unfolding map_labels
  labels_kept = thinned_walk Label (λ (a b : List Label). b ≡ a) (λ a. refl) (λ a b c d x y. (λ t. x t ++ y t)) block_label block_label (λ v apart. refl) (λ l n e slot left. refl)

  leaf_kept : (l : Label) (n : Node) → node_at g l ≡ Some n → Slot (Some n) → Thin P n (node_at h l) → leaf_label h (Block l) ≡ leaf_label g (Block l)
  leaf_kept l n e slot left = ap (λ (b : Bool). cond b (l ∷ []) []) (go n slot left ∙ sym (ap is_weak e))
    where
      go : (n : Node) → Slot (Some n) → Thin P n (node_at h l) → is_weak (node_at h l) ≡ is_weak (Some n)
      go (Plain tag fields) slot left = ap is_weak left
      go (Raw tag fields) slot left = ap is_weak left
      go (Ephe [] datum) (inl is) left = absurd is
      go (Ephe [] datum) (inr (fs, is)) left = cc
      go (Ephe (key ∷ []) datum) slot (inl still) = ap is_weak still
      go (Ephe (key ∷ []) datum) slot (inr (k, is, gone, empty)) = ap is_weak empty
      go (Ephe (key ∷ key2 ∷ keys) datum) (inl is) left = absurd is
      go (Ephe (key ∷ key2 ∷ keys) datum) (inr (fs, is)) left = cc

  pub leaves_kept : map_leaves h root ≡ map_leaves g root
  unfolding map_leaves
  leaves_kept = thinned_walk Label (λ (a b : List Label). b ≡ a) (λ a. refl) (λ a b c d x y. (λ t. x t ++ y t)) (leaf_label g) (leaf_label h) other leaf_kept
    where
      other : (v : Value) → ((l : Label) → v ≡ Block l → ⊥) → leaf_label h v ≡ leaf_label g v
      other (Int z) apart = refl
      other Nothing apart = refl
      other (Block l) apart = absurd (apart l refl)

  binding_thinned : (l : Label) (n : Node) → node_at g l ≡ Some n → Slot (Some n) → Thin P n (node_at h l) → ThinnedBy P (leaf_bindings g (Block l)) (leaf_bindings h (Block l))
  binding_thinned l n e slot left = subst (λ (x : Option Node). ThinnedBy P (binding_of x) (binding_of (node_at h l))) (sym e) (go n slot left)
    where
      go : (n : Node) → Slot (Some n) → Thin P n (node_at h l) → ThinnedBy P (binding_of (Some n)) (binding_of (node_at h l))
      go (Plain tag fields) slot left = ap binding_of left
      go (Raw tag fields) slot left = ap binding_of left
      go (Ephe [] datum) (inl is) left = absurd is
      go (Ephe [] datum) (inr (fs, is)) left = cc
      go (Ephe (key ∷ []) datum) slot left = leaf_thinned P key datum (node_at h l) left
      go (Ephe (key ∷ key2 ∷ keys) datum) (inl is) left = absurd is
      go (Ephe (key ∷ key2 ∷ keys) datum) (inr (fs, is)) left = cc

  other_leaf : (v : Value) → ((l : Label) → v ≡ Block l → ⊥) → leaf_bindings h v ≡ leaf_bindings g v
  other_leaf (Int z) apart = refl
  other_leaf Nothing apart = refl
  other_leaf (Block l) apart = absurd (apart l refl)

  -- what is bound from a place on
  pub thinned_below : (d : ℕ) (p : List ℕ) (v : Value) → length p + d ≡ way_length → at (inside g) p (Block root) ≡ Some v → ThinnedBy P (bindings_below g d v) (bindings_below h d v)
  thinned_below d p v deep there = walk_at Binding (ThinnedBy P) (thinned_same P) (thinned_append P) (leaf_bindings g) (leaf_bindings h) other_leaf binding_thinned d p v deep there

  pub leaves_thinned : ThinnedBy P (bindings_of g root) (bindings_of h root)
  leaves_thinned = subst (λ (bs : List Binding). ThinnedBy P bs (bindings_of h root)) (sym (listed g root)) (subst (ThinnedBy P (bindings_below g way_length (Block root))) (sym (listed h root))
      (thinned_below way_length [] (Block root) refl refl))

pub thinned_listed : ThinnedListed
thinned_listed s h root map thin = leaves_thinned (IsOutside s) s.graph h root map thin

-- nothing is taken where nothing may be
none_taken : (a b : List Binding) → ThinnedBy NoLabel a b → b ≡ a
none_taken [] b t = t
none_taken (x ∷ a) b (inl (rest, is, t)) = is ∙ ap (λ (l : List Binding). x ∷ l) (none_taken a rest t)
none_taken (x ∷ a) b (inr (none, t)) = absurd none

pub untouched_listed : UntouchedListed
untouched_listed g h root map same = none_taken (bindings_of g root) (bindings_of h root) (leaves_thinned NoLabel g h root map (untouched_thinned NoLabel g h root same))

pub collector_listed : CollectorListed
collector_listed z old new root goes map = leaves_thinned (WasOutside z old new) (graph_of z old) (graph_of z new) root map (λ p l n there node. goes.changes l n node refl)
