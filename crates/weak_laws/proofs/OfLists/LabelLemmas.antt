-- Which labels are those of a map's blocks, and which of its leaves.
use Rattle.std.proofs.Common.{◌≡◌, ◌⊎◌, inl, inr, ⊎_elim, ℕ, zero, suc, ◌+◌, Bool, true, false, cond, IsTrue, List, [], ◌∷◌, ◌++◌, length, get_or, flat_map, Option, Some, None, refl, ap, sym, ◌∙◌, subst, arith}
use Rattle.std.specs.List.{list_all}
use Rattle.std.proofs.lemmas.List.{length-append}
use Rattle.model_core.specs.declared.label.Label.{Label}
use Rattle.model_core.specs.declared.graph.Value.{Value}
use Rattle.model_core.specs.declared.graph.Value.TheVariants.{Int, Block, Nothing}
use Rattle.model_core.specs.declared.graph.Node.{Node}
use Rattle.model_core.specs.declared.graph.Node.TheVariants.{Plain, Raw, Ephe}
use Rattle.model_core.specs.Graph.{Graph, same_label, has_label, node_at}
use Rattle.model_core.proofs.Graphs.GraphLemmas.{same_label-true, same_label_refl}
use Rattle.model_core.proofs.Reach.ReachLemmas.{or_cases, or_left, or_right, and_both, has-append_cases, has-append_left, has-append_right}
use Rattle.weak_laws.specs.Tables.Structures.{Apart, is_weak}
use Rattle.weak_laws.specs.Tables.Thinning.{Changes}
use Rattle.weak_laws.proofs.OfTables.OnceLemmas.{lacks}
use Rattle.weak_laws.specs.Maps.Tries.{inside, fields_of, at, is_leaf, way_length, width_at, IsMap}
use Rattle.weak_laws.specs.Maps.Steps.{IsThinned}
use Rattle.weak_laws.proofs.OfMaps.WalkLemmas.{at_step, at_stop}
use Rattle.weak_laws.specs.Lists.Lists.{gathered, block_label, leaf_label, map_labels, map_leaves}
use Rattle.weak_laws.specs.Lists.ListLaws.{LabelsStand, LeavesStand, ApartThinned}
use Rattle.weak_laws.proofs.OfLists.ListLemmas.{at_more, gathered_end, gathered_plain}

pub one_label : (k l : Label) → IsTrue (has_label (k ∷ []) l) → k ≡ l
one_label k l there = ⊎_elim (λ here. same_label-true k l here) (λ none. let clash : false ≡ true = none in cc) (or_cases (same_label k l) false there)

-- a label among those that fields give is given by one of them, and the other way round
module _ (f : Value → List Label) where
  given_by : (l : Label) (xs : List Value) → IsTrue (has_label (flat_map f xs) l) → (j : ℕ) × IsTrue (has_label (f (get_or xs j Nothing)) l)
  given_by l [] there = cc
  given_by l (x ∷ xs) there = go (has-append_cases (f x) (flat_map f xs) l there) (given_by l xs)
    where
      go : IsTrue (has_label (f x) l) ⊎ IsTrue (has_label (flat_map f xs) l) → (IsTrue (has_label (flat_map f xs) l) → (j : ℕ) × IsTrue (has_label (f (get_or xs j Nothing)) l)) → (j : ℕ) × IsTrue (has_label (f (get_or (x ∷ xs) j Nothing)) l)
      go (inl first) rec = (zero, first)
      go (inr later) rec = let r = rec later in (suc r.0, r.1)

  given : (l : Label) (xs : List Value) (j : ℕ) → f Nothing ≡ [] → IsTrue (has_label (f (get_or xs j Nothing)) l) → IsTrue (has_label (flat_map f xs) l)
  given l [] j none there = subst (λ (ls : List Label). IsTrue (has_label ls l)) none there
  given l (x ∷ xs) zero none there = has-append_left (f x) (flat_map f xs) l there
  given l (x ∷ xs) (suc j) none there = has-append_right (f x) (flat_map f xs) l (given l xs j none there)

module _ (g : Graph) (own : Value → List Label) where
  -- what is gathered is some value's to which a way leads
  gathered_from : (l : Label) (d : ℕ) (v : Value) → IsTrue (has_label (gathered (inside g) own d v) l) → (p : List ℕ) × (u : Value) × (at (inside g) p v ≡ Some u) × IsTrue (has_label (own u) l)
  gathered_from l zero v there = ([], v, refl, there)
  gathered_from l (suc d) v there = go (inside g v) refl (λ x h. gathered_from l d x h)
    where
      From : Type 0
      From = (p : List ℕ) × (u : Value) × (at (inside g) p v ≡ Some u) × IsTrue (has_label (own u) l)

      Rec : Type 0
      Rec = (x : Value) → IsTrue (has_label (gathered (inside g) own d x) l) → (p : List ℕ) × (u : Value) × (at (inside g) p x ≡ Some u) × IsTrue (has_label (own u) l)

      below : (fields : List Value) → inside g v ≡ Some fields → Rec → IsTrue (has_label (flat_map (gathered (inside g) own d) fields) l) → From
      below fields e rec h =
          let j = given_by (gathered (inside g) own d) l fields h in
          let r = rec (get_or fields j.0 Nothing) j.1 in
          (j.0 ∷ r.0, r.1, at_step (inside g) j.0 r.0 v fields e ∙ r.2, r.3)

      go : (o : Option (List Value)) → inside g v ≡ o → Rec → From
      go None e rec = ([], v, refl, subst (λ (ls : List Label). IsTrue (has_label ls l)) (gathered_end (inside g) own (suc d) v e) there)
      go (Some fields) e rec = ⊎_elim (λ here. ([], v, refl, here)) (λ later. below fields e rec later)
          (has-append_cases (own v) (flat_map (gathered (inside g) own d) fields) l (subst (λ (ls : List Label). IsTrue (has_label ls l)) (gathered_plain (inside g) own d v fields e) there))

  -- and what a value has to which a way leads is gathered
  module _ (root : Label) (map : IsMap g root) (none : own Nothing ≡ []) (l : Label) where
    gathered_in : (d : ℕ) (r p : List ℕ) (v u : Value) → length r + d ≡ way_length → at (inside g) r (Block root) ≡ Some v → at (inside g) p v ≡ Some u → IsTrue (has_label (own u) l) → IsTrue (has_label (gathered (inside g) own d v) l)
    gathered_in zero r [] v u deep here there has = let same : v ≡ u = cc in subst (λ (x : Value). IsTrue (has_label (own x) l)) (sym same) has
    gathered_in zero r (i ∷ p) v u deep here there has = go (inside g v) refl
      where
        go : (o : Option (List Value)) → inside g v ≡ o → IsTrue (has_label (own v) l)
        go None e = let clash : None ≡ Some u = sym (at_stop (inside g) i p v e) ∙ there in cc
        go (Some fields) e = let low = map.low r v fields here e in absurd (omega (arith, low, deep))
    gathered_in (suc d) r [] v u deep here there has =
        let same : v ≡ u = cc in
        let first : IsTrue (has_label (own v) l) = subst (λ (x : Value). IsTrue (has_label (own x) l)) (sym same) has in
        has-append_left (own v) _ l first
    gathered_in (suc d) r (i ∷ p) v u deep here there has = go (inside g v) refl (λ x at_x to_u. gathered_in d (r ++ i ∷ []) p x u (let longer = length-append r (i ∷ []) in omega (arith, longer, deep)) at_x to_u has)
      where
        go : (o : Option (List Value)) → inside g v ≡ o → ((x : Value) → at (inside g) (r ++ i ∷ []) (Block root) ≡ Some x → at (inside g) p x ≡ Some u → IsTrue (has_label (gathered (inside g) own d x) l)) → IsTrue (has_label (gathered (inside g) own (suc d) v) l)
        go None e rec = let clash : None ≡ Some u = sym (at_stop (inside g) i p v e) ∙ there in cc
        go (Some fields) e rec = subst (λ (ls : List Label). IsTrue (has_label ls l)) (sym (gathered_plain (inside g) own d v fields e))
            (has-append_right (own v) (flat_map (gathered (inside g) own d) fields) l
            (given (gathered (inside g) own d) l fields i (gathered_end (inside g) own d Nothing refl ∙ none)
            (rec (get_or fields i Nothing) (at_more g r v root fields i here e) (sym (at_step (inside g) i p v fields e) ∙ there))))

-- the labels of a map's blocks are those that stand in it
pub stands_label : (g : Graph) (root : Label) → IsMap g root → (p : List ℕ) (l : Label) → at (inside g) p (Block root) ≡ Some (Block l) → IsTrue (has_label (map_labels g root) l)
unfolding map_labels
stands_label g root map p l there = gathered_in g block_label root map refl l way_length [] p (Block root) (Block l) refl refl there (or_left (same_label l l) false (same_label_refl l))

pub label_stands : (g : Graph) (root l : Label) → IsTrue (has_label (map_labels g root) l) → (p : List ℕ) × (at (inside g) p (Block root) ≡ Some (Block l))
unfolding map_labels
label_stands g root l there = let r = gathered_from g block_label l way_length (Block root) there in (r.0, go r.1 r.2 r.3)
  where
    go : (u : Value) → at (inside g) ((gathered_from g block_label l way_length (Block root) there).0) (Block root) ≡ Some u → IsTrue (has_label (block_label u) l) → at (inside g) ((gathered_from g block_label l way_length (Block root) there).0) (Block root) ≡ Some (Block l)
    go (Int z) e has = cc
    go Nothing e has = cc
    go (Block k) e has = let same : k ≡ l = one_label k l has in e ∙ ap (λ (x : Label). Some (Block x)) same

-- those of its leaves are those at which leaves stand
leaf_weak : (o : Option Node) → is_leaf o → IsTrue (is_weak o)
leaf_weak None leaf = absurd leaf
leaf_weak (Some (Plain tag fields)) leaf = absurd leaf
leaf_weak (Some (Raw tag fields)) leaf = absurd leaf
leaf_weak (Some (Ephe [] datum)) leaf = absurd leaf
leaf_weak (Some (Ephe (key ∷ []) datum)) leaf = refl
leaf_weak (Some (Ephe (key ∷ key2 ∷ keys) datum)) leaf = absurd leaf

pub weak_leaf : (o : Option Node) → IsTrue (is_weak o) → is_leaf o
weak_leaf None weak = cc
weak_leaf (Some (Plain tag fields)) weak = cc
weak_leaf (Some (Raw tag fields)) weak = cc
weak_leaf (Some (Ephe [] datum)) weak = cc
weak_leaf (Some (Ephe (key ∷ []) datum)) weak = tt
weak_leaf (Some (Ephe (key ∷ key2 ∷ keys) datum)) weak = cc

pub stands_leaf : (g : Graph) (root : Label) → IsMap g root → (p : List ℕ) (l : Label) → at (inside g) p (Block root) ≡ Some (Block l) → is_leaf (node_at g l) → IsTrue (has_label (map_leaves g root) l)
unfolding map_leaves
stands_leaf g root map p l there leaf = gathered_in g (leaf_label g) root map refl l way_length [] p (Block root) (Block l) refl refl there
    (subst (λ (b : Bool). IsTrue (has_label (cond b (l ∷ []) []) l)) (sym (leaf_weak (node_at g l) leaf)) (or_left (same_label l l) false (same_label_refl l)))

pub leaf_stands : (g : Graph) (root l : Label) → IsTrue (has_label (map_leaves g root) l) → (p : List ℕ) × (at (inside g) p (Block root) ≡ Some (Block l)) × is_leaf (node_at g l)
unfolding map_leaves
leaf_stands g root l there = let r = gathered_from g (leaf_label g) l way_length (Block root) there in go r.0 r.1 r.2 r.3
  where
    go : (p : List ℕ) (u : Value) → at (inside g) p (Block root) ≡ Some u → IsTrue (has_label (leaf_label g u) l) → (q : List ℕ) × (at (inside g) q (Block root) ≡ Some (Block l)) × is_leaf (node_at g l)
    go p (Int z) e has = cc
    go p Nothing e has = cc
    go p (Block k) e has = pick (is_weak (node_at g k)) refl has
      where
        pick : (b : Bool) → is_weak (node_at g k) ≡ b → IsTrue (has_label (cond b (k ∷ []) []) l) → (q : List ℕ) × (at (inside g) q (Block root) ≡ Some (Block l)) × is_leaf (node_at g l)
        pick true weak here =
            let same : k ≡ l = one_label k l here in
            (p, e ∙ ap (λ (x : Label). Some (Block x)) same, subst (λ (x : Label). is_leaf (node_at g x)) same (weak_leaf (node_at g k) weak))
        pick false weak here = cc

pub labels_stand : LabelsStand
labels_stand g root map l = ((λ there. label_stands g root l there), (λ stands. stands_label g root map stands.0 l stands.1))

pub leaves_stand : LeavesStand
leaves_stand g root map l = ((λ there. leaf_stands g root l there), (λ stands. stands_leaf g root map stands.0 l stands.1 stands.2))

-- what writes none of them thins the map
pub apart_thins : (P : Label → Type 0) (written : List Label) (g h : Graph) (root : Label) → IsMap g root → Changes P written g h → Apart (map_labels g root) written → IsThinned P g h root
apart_thins P written g h root map changes apart p l n there node = changes l n node (apart l (stands_label g root map p l there))

pub apart_thinned : ApartThinned
apart_thinned written g h root map changes apart = apart_thins (λ l. Unit {0}) written g h root map changes apart

-- each of them has a node
pub label_node : (g : Graph) (root l : Label) → IsMap g root → IsTrue (has_label (map_labels g root) l) → (n : Node) × (node_at g l ≡ Some n)
label_node g root l map there = let s = label_stands g root l there in go (node_at g l) refl (map.slots s.0 (Block l) s.1)
  where
    go : (o : Option Node) → node_at g l ≡ o → is_leaf o ⊎ ((fields : List Value) × (fields_of o ≡ Some fields)) → (n : Node) × (node_at g l ≡ Some n)
    go None e (inl leaf) = absurd leaf
    go None e (inr (fs, is)) = cc
    go (Some n) e slot = (n, e)

pub root_label : (g : Graph) (root : Label) → IsMap g root → IsTrue (has_label (map_labels g root) root)
root_label g root map = stands_label g root map [] root refl

-- each leaf is one of the map's blocks, and is weak
pub leaf_label_in : (g : Graph) (root l : Label) → IsMap g root → IsTrue (has_label (map_leaves g root) l) → IsTrue (has_label (map_labels g root) l)
leaf_label_in g root l map there = let s = leaf_stands g root l there in stands_label g root map s.0 l s.1

all_weak : (g : Graph) (ls : List Label) → ((l : Label) → IsTrue (has_label ls l) → IsTrue (is_weak (node_at g l))) → IsTrue (list_all (λ e. is_weak (node_at g e)) ls)
all_weak g [] each = refl
all_weak g (l ∷ ls) each = and_both (is_weak (node_at g l)) _ (each l (or_left (same_label l l) (has_label ls l) (same_label_refl l))) (all_weak g ls (λ k there. each k (or_right (same_label l k) (has_label ls k) there)))

pub leaves_weak : (g : Graph) (root : Label) → IsTrue (list_all (λ e. is_weak (node_at g e)) (map_leaves g root))
leaves_weak g root = all_weak g (map_leaves g root) (λ l there. let s = leaf_stands g root l there in leaf_weak (node_at g l) s.2)

-- a block of one field is none of them
wide : (p : List ℕ) → 1 ≡ width_at p → ⊥
wide [] same = omega (arith, same)
wide (i ∷ p) same = omega (arith, same)

pub narrow_label : (g : Graph) (root l : Label) (tag : ℕ) (v : Value) → IsMap g root → node_at g l ≡ Some (Plain tag (v ∷ [])) → has_label (map_labels g root) l ≡ false
narrow_label g root l tag v map node = lacks (map_labels g root) l (λ there. let s = label_stands g root l there in wide s.0 (map.wide s.0 (Block l) (v ∷ []) s.1 (ap fields_of node)))
