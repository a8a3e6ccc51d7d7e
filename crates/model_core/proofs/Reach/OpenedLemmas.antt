-- The opened graph, in which an ephemeron keeps its keys alive too: marks that hold the keys of what they hold are closed over it.
use Rattle.std.proofs.Common.{◌≡◌, Bool, true, false, cond, IsTrue, List, [], ◌∷◌, map, filter_map, option_map, option_to_list, Option, Some, None, refl, ap, sym, subst, ⊎_elim}
use Rattle.std.specs.List.{cons_option}
use Rattle.std.specs.Option.{option_map_or}
use Rattle.model_core.specs.declared.label.Label.{Label}
use Rattle.model_core.specs.declared.graph.Node.{Node}
use Rattle.model_core.specs.declared.graph.Node.TheVariants.{Plain, Raw, Ephe}
use Rattle.model_core.specs.Graph.{Graph, same_label, has_label, label_of, node_at}
use Rattle.model_core.specs.Commands.{key_value}
use Rattle.model_core.specs.Reach.{edges_of, edges_at, HoldsRoots, IsClosedUnder}
use Rattle.model_core.specs.Entries.{full_keys, opened_node, opened}
use Rattle.model_core.proofs.Reach.ReachLemmas.{or_cases, or_left, keys_all}

pub node_opened : (g : Graph) (l : Label) → node_at (opened g) l ≡ option_map opened_node (node_at g l)
node_opened [] l = refl
node_opened (e ∷ g) l = go (same_label e.0 l) (node_opened g l)
  where
    go : (b : Bool) → node_at (opened g) l ≡ option_map opened_node (node_at g l) → cond b (Some (opened_node e.1)) (node_at (opened g) l) ≡ option_map opened_node (cond b (Some e.1) (node_at g l))
    go true rest = refl
    go false rest = rest

pub keys_labels : (keys : List (Option Label)) → filter_map label_of (map key_value keys) ≡ filter_map (λ k. k) keys
keys_labels [] = refl
keys_labels (None ∷ keys) = keys_labels keys
keys_labels (Some k ∷ keys) = ap (λ t. k ∷ t) (keys_labels keys)

pub edges_opened : (g : Graph) (alive : Label → Bool) (x : Label) → edges_at (opened g) alive x ≡ option_map_or (edges_of alive) (option_map opened_node (node_at g x)) []
edges_opened g alive x = ap (λ (o : Option Node). option_map_or (edges_of alive) o []) (node_opened g x)

-- a closed set with the keys of each ephemeron in it
module _ (g : Graph) (marked : Label → Bool) (closed : IsClosedUnder g marked)
    (keys : (x k : Label) → IsTrue (marked x) → IsTrue (has_label (full_keys (node_at g x)) k) → IsTrue (marked k)) where
  marked_node : (x y : Label) (o : Option Node) → IsTrue (marked x) → node_at g x ≡ o → IsTrue (has_label (option_map_or (edges_of marked) (option_map opened_node o) []) y) → IsTrue (marked y)
  marked_node x y None there at h = cc
  marked_node x y (Some (Plain tag fields)) there at h = closed x y there (subst (λ (o : Option Node). IsTrue (has_label (option_map_or (edges_of marked) o []) y)) (sym at) h)
  marked_node x y (Some (Raw tag fields)) there at h = cc
  marked_node x y (Some (Ephe ks datum)) there at h =
      let mine : HoldsRoots (filter_map (λ k. k) ks) marked = λ k a. keys x k there (subst (λ o. IsTrue (has_label (full_keys o) k)) (sym at) a) in
      let split : cons_option (label_of datum) (filter_map label_of (map key_value ks)) ≡ cons_option (label_of datum) (filter_map (λ k. k) ks) = ap (cons_option (label_of datum)) (keys_labels ks) in
      go (label_of datum) refl mine (subst (λ z. IsTrue (has_label z y)) split h)
    where
      go : (o : Option Label) → label_of datum ≡ o → HoldsRoots (filter_map (λ k. k) ks) marked → IsTrue (has_label (cons_option o (filter_map (λ k. k) ks)) y) → IsTrue (marked y)
      go None e mine h = mine y h
      go (Some k) e mine h = ⊎_elim
          (λ here.
          let kept : IsTrue (has_label (edges_of marked (Ephe ks datum)) y) =
          subst (λ b. IsTrue (has_label (cond b (option_to_list (label_of datum)) []) y)) (sym (keys_all marked ks mine))
          (subst (λ (o : Option Label). IsTrue (has_label (option_to_list o) y)) (sym e) (or_left (same_label k y) false here)) in
          closed x y there (subst (λ (o : Option Node). IsTrue (has_label (option_map_or (edges_of marked) o []) y)) (sym at) kept))
          (λ later. mine y later)
          (or_cases (same_label k y) (has_label (filter_map (λ k. k) ks) y) h)

  pub opened_closed : IsClosedUnder (opened g) marked
  opened_closed x y there h = marked_node x y (node_at g x) there refl (subst (λ z. IsTrue (has_label z y)) (edges_opened g marked x) h)
