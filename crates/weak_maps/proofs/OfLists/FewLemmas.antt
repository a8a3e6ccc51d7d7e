-- A map binds fewer keys than labels were given out: each has a leaf of its own, and the root is none.
use Rattle.std.proofs.Common.{◌≡◌, ⊎_elim, ◌+◌, ◌≤◌, Bool, true, false, cond, not, IsTrue, List, [], ◌∷◌, ◌++◌, length, flat_map, Option, Some, None, refl, ap, sym, ◌∙◌, subst, arith}
use Rattle.std.proofs.lemmas.List.{length-append, length-map, map-append}
use Rattle.model_core.specs.declared.label.Label.{Label}
use Rattle.model_core.specs.declared.entry.Entry.{Entry}
use Rattle.model_core.specs.declared.graph.Value.{Value}
use Rattle.model_core.specs.declared.graph.Node.{Node}
use Rattle.model_core.specs.declared.graph.Node.TheVariants.{Plain, Raw, Ephe}
use Rattle.model_core.specs.declared.state.Sizes.{Sizes}
use Rattle.model_core.specs.Graph.{Graph, has_label, has_no_repeats, labels, node_at, same_label}
use Rattle.model_core.specs.Domains.{domain_at}
use Rattle.model_core.specs.History.{Legal}
use Rattle.model_core.proofs.Graphs.GraphLemmas.{same_label_refl, same_label-true}
use Rattle.model_core.proofs.Reach.LabelListLemmas.{length_within}
use Rattle.model_core.proofs.Reach.ReachLemmas.{and_both, not_false, or_cases, or_left, or_right, has-append_left, has-append_right, true_or_false}
use Rattle.weak_laws.specs.Tables.Structures.{Binding, binding_of, keys_of}
use Rattle.weak_laws.specs.Tables.Thinning.{state_of}
use Rattle.weak_laws.specs.Tables.Stages.{graph_of}
use Rattle.weak_laws.proofs.OfTables.OnceLemmas.{lacks, once_parts}
use Rattle.weak_laws.proofs.OfTables.SizeLemmas.{blocks_counted}
use Rattle.weak_laws.specs.Maps.Tries.{fields_of, is_leaf}
use Rattle.weak_laws.specs.Lists.Lists.{map_labels, map_leaves}
use Rattle.weak_laws.proofs.OfLists.FoundLemmas.{listed_once}
use Rattle.weak_laws.proofs.OfLists.LabelLemmas.{label_node, leaf_label_in, leaf_stands, root_label}
use Rattle.weak_maps.specs.Lists.Stretches.{bound_in, IsListed}

has_node : (g : Graph) (l : Label) (n : Node) → node_at g l ≡ Some n → IsTrue (has_label (labels g) l)
has_node [] l n at = cc
has_node (e ∷ g) l n at = ⊎_elim
    (λ (here : IsTrue (same_label e.0 l)). or_left (same_label e.0 l) (has_label (labels g) l) here)
    (λ (other : same_label e.0 l ≡ false). or_right (same_label e.0 l) (has_label (labels g) l) (has_node g l n (subst (λ (b : Bool). cond b (Some e.1) (node_at g l) ≡ Some n) other at)))
    (true_or_false (same_label e.0 l))

module _ (g : Graph) where
  abbrev all_of : List Label → List Binding
  all_of ls = flat_map (λ e. binding_of (node_at g e)) ls

  -- those of these leaves that bind a key
  data Keyed (e : Label) : Type 0 where
    Bare : binding_of (node_at g e) ≡ [] → Keyed e
    Full : (k : Label) (v : Value) → binding_of (node_at g e) ≡ (k, v) ∷ [] → Keyed e

  keyed : (e : Label) → Keyed e
  keyed e = go (node_at g e) refl
    where
      go : (o : Option Node) → node_at g e ≡ o → Keyed e
      go None is = Bare (ap binding_of is)
      go (Some (Plain tag fs)) is = Bare (ap binding_of is)
      go (Some (Raw tag fs)) is = Bare (ap binding_of is)
      go (Some (Ephe [] datum)) is = Bare (ap binding_of is)
      go (Some (Ephe (None ∷ []) datum)) is = Bare (ap binding_of is)
      go (Some (Ephe (Some k ∷ []) datum)) is = Full k datum (ap binding_of is)
      go (Some (Ephe (key ∷ key2 ∷ keys) datum)) is = Bare (ap binding_of is)

  record Leaves (ls : List Label) : Type 0 where
    of : List Label
    many : length of ≡ length (all_of ls)
    within : (l : Label) → IsTrue (has_label of l) → IsTrue (has_label ls l)
    once : IsTrue (has_no_repeats of)
    key : (l k : Label) (v : Value) → IsTrue (has_label of l) → binding_of (node_at g l) ≡ (k, v) ∷ [] → IsTrue (has_label (keys_of (all_of ls)) k)

  leaves : (ls : List Label) → IsTrue (has_no_repeats (keys_of (all_of ls))) → Leaves ls
  leaves [] once = record { of = []; many = refl; within = λ l h. h; once = refl; key = λ l k v h is. h }
  leaves (e ∷ ls) once = go (keyed e) (leaves ls parts.1)
    where
      split : keys_of (all_of (e ∷ ls)) ≡ keys_of (binding_of (node_at g e)) ++ keys_of (all_of ls)
      split = map-append (λ (b : Binding). b.0) (binding_of (node_at g e)) (all_of ls)

      parts : IsTrue (has_no_repeats (keys_of (binding_of (node_at g e)))) × IsTrue (has_no_repeats (keys_of (all_of ls))) × ((x : Label) → IsTrue (has_label (keys_of (binding_of (node_at g e))) x) → has_label (keys_of (all_of ls)) x ≡ false)
      parts = once_parts (keys_of (binding_of (node_at g e))) (keys_of (all_of ls)) (subst (λ (ks : List Label). IsTrue (has_no_repeats ks)) split once)

      later : (k : Label) → IsTrue (has_label (keys_of (all_of ls)) k) → IsTrue (has_label (keys_of (all_of (e ∷ ls))) k)
      later k h = subst (λ (ks : List Label). IsTrue (has_label ks k)) (sym split) (has-append_right (keys_of (binding_of (node_at g e))) (keys_of (all_of ls)) k h)

      here : (k : Label) (v : Value) → binding_of (node_at g e) ≡ (k, v) ∷ [] → IsTrue (has_label (keys_of (binding_of (node_at g e))) k)
      here k v one = subst (λ (bs : List Binding). IsTrue (has_label (keys_of bs) k)) (sym one) (or_left (same_label k k) false (same_label_refl k))

      sum : length (all_of (e ∷ ls)) ≡ length (binding_of (node_at g e)) + length (all_of ls)
      sum = length-append (binding_of (node_at g e)) (all_of ls)

      go : Keyed e → Leaves ls → Leaves (e ∷ ls)
      go (Bare none) x =
          let zero_here : length (binding_of (node_at g e)) ≡ 0 = ap length none in
          let m = x.many in
          let s = sum in record {
            of = x.of;
            many = omega (arith, zero_here, m, s);
            within = λ l h. or_right (same_label e l) (has_label ls l) (x.within l h);
            once = x.once;
            key = λ l k v h is. later k (x.key l k v h is);
          }
      go (Full k v one) x =
          let one_here : length (binding_of (node_at g e)) ≡ 1 = ap length one in
          let m = x.many in
          let s = sum in
          let new : has_label x.of e ≡ false = lacks x.of e (λ there. let again = x.key e k v there one in let clash : true ≡ false = sym again ∙ parts.2 k (here k v one) in cc) in record {
            of = e ∷ x.of;
            many = omega (arith, one_here, m, s);
            within = λ l h. ⊎_elim (λ first. or_left (same_label e l) (has_label ls l) first) (λ rest. or_right (same_label e l) (has_label ls l) (x.within l rest)) (or_cases (same_label e l) (has_label x.of l) h);
            once = and_both (not (has_label x.of e)) (has_no_repeats x.of) (not_false (has_label x.of e) new) x.once;
            key = λ l j u h is. ⊎_elim
                (λ first.
                let same : e ≡ l = same_label-true e l first in
                subst (λ (ks : List Label). IsTrue (has_label ks j)) (sym split)
                (has-append_left (keys_of (binding_of (node_at g e))) (keys_of (all_of ls)) j (here j u (ap (λ (y : Label). binding_of (node_at g y)) same ∙ is))))
                (λ rest. later j (x.key l j u rest is)) (or_cases (same_label e l) (has_label x.of l) h);
          }

-- so many at most
pub few_bound : (z : Sizes) (h : List Entry) (root : Label) → z.domains ≡ 1 → Legal z h → IsListed z h root → length (bound_in z h root) ≤ (domain_at (state_of z h) 0).serial
few_bound z h root one legal listed =
    let g : Graph = graph_of z h in
    let x = leaves (graph_of z h) (map_leaves (graph_of z h) root) (listed_once z.domains (graph_of z h) root listed.placed) in
    let apart : has_label x.of root ≡ false = lacks x.of root (λ there.
    let s = leaf_stands (graph_of z h) root root (x.within root there) in
    not_leaf (node_at (graph_of z h) root) listed.map.own.0 listed.map.own.1 s.2) in
    let all : length (root ∷ x.of) ≤ length (labels (graph_of z h)) = length_within (root ∷ x.of) (labels (graph_of z h)) (and_both (not (has_label x.of root)) (has_no_repeats x.of) (not_false (has_label x.of root) apart) x.once) within in
    let count : length (labels (graph_of z h)) ≡ length (graph_of z h) = length-map (graph_of z h) _ in
    let most = blocks_counted z h one legal in
    let many = x.many in
    omega (arith, all, count, most, many)
  where
    not_leaf : (o : Option Node) (fields : List Value) → fields_of o ≡ Some fields → is_leaf o → ⊥
    not_leaf None fields plain leaf = absurd leaf
    not_leaf (Some (Plain tag fs)) fields plain leaf = absurd leaf
    not_leaf (Some (Raw tag fs)) fields plain leaf = absurd leaf
    not_leaf (Some (Ephe keys datum)) fields plain leaf = let clash : ◌≡◌ {A = Option (List Value)} None (Some fields) = plain in cc

    within : (l : Label) → IsTrue (has_label (root ∷ (leaves (graph_of z h) (map_leaves (graph_of z h) root) (listed_once z.domains (graph_of z h) root listed.placed)).of) l) → IsTrue (has_label (labels (graph_of z h)) l)
    within l there =
        let x = leaves (graph_of z h) (map_leaves (graph_of z h) root) (listed_once z.domains (graph_of z h) root listed.placed) in
        let in_map = ⊎_elim
        (λ (first : IsTrue (same_label root l)). subst (λ (y : Label). IsTrue (has_label (map_labels (graph_of z h) root) y)) (same_label-true root l first) (root_label (graph_of z h) root listed.map))
        (λ (rest : IsTrue (has_label x.of l)). leaf_label_in (graph_of z h) root l listed.map (x.within l rest)) (or_cases (same_label root l) (has_label x.of l) there) in
        let n = label_node (graph_of z h) root l listed.map in_map in
        has_node (graph_of z h) l n.0 n.1
