-- What a set that is closed holds of a map that it holds, and what a map's blocks keep alive.
use Rattle.std.proofs.Common.{◌≡◌, ◌≢◌, ◌⊎◌, inl, inr, ⊎_elim, ℕ, zero, suc, Bool, true, false, cond, IsTrue, List, [], ◌∷◌, ◌++◌, get_or, filter_map, option_to_list, Option, Some, None, refl, ap, sym, ◌∙◌, subst}
use Rattle.std.specs.List.{list_all}
use Rattle.std.specs.Option.{option_map_or}
use Rattle.model_core.specs.declared.label.Label.{Label}
use Rattle.model_core.specs.declared.graph.Value.{Value}
use Rattle.model_core.specs.declared.graph.Value.TheVariants.{Int, Block, Nothing}
use Rattle.model_core.specs.declared.graph.Node.{Node}
use Rattle.model_core.specs.declared.graph.Node.TheVariants.{Plain, Raw, Ephe}
use Rattle.model_core.specs.Graph.{has_label, label_of, node_at, same_label}
use Rattle.model_core.specs.Reach.{edges_of, key_holds}
use Rattle.model_core.proofs.Graphs.GraphLemmas.{same_label-true, same_label_refl}
use Rattle.model_core.proofs.Reach.ReachLemmas.{or_cases}
use Rattle.weak_laws.proofs.OfTables.LookupLemmas.{unbound_key}
use Rattle.weak_laws.specs.Maps.Tries.{at, bound_by, bound_in, ends, fields_of, found, inside, is_leaf, way_to}
use Rattle.weak_laws.proofs.OfMaps.ReachLemmas.{map_key_lives}
use Rattle.weak_laws.proofs.OfMaps.SetLemmas.{stays}
use Rattle.weak_laws.proofs.OfMaps.WalkLemmas.{ends_at}
use Rattle.weak_laws.specs.Lists.Lists.{bindings_of, map_labels, map_leaves}
use Rattle.weak_laws.specs.Lists.ListLaws.{HeldKeysLive, LeafIsListed, MapHoldsItself}
use Rattle.weak_laws.proofs.OfLists.FoundLemmas.{listed_is_found}
use Rattle.weak_laws.proofs.OfLists.LabelLemmas.{label_stands, leaf_stands, stands_label, stands_leaf}
use Rattle.weak_laws.proofs.OfLists.ListLemmas.{at_more}

-- each key that is bound
pub held_keys_live : HeldKeysLive
held_keys_live n g alive root closed keys placed lives k there = map_key_lives g alive closed keys (way_to n k) root k lives bound
  where
    bound : found n g root k ≢ None
    bound none =
        let unbound = unbound_key k (bindings_of g root) (listed_is_found n g root placed k ∙ none) in
        let clash : true ≡ false = sym there ∙ unbound in
        cc

-- what a leaf binds is in the list
pub leaf_is_listed : LeafIsListed
leaf_is_listed n g root placed l k datum there node = listed_is_found n g root placed k ∙ go (placed s.0 l k s.1 (λ none. let clash : ◌≡◌ {A = Option Value} None (Some datum) = sym none ∙ binds in cc))
  where
    s : (p : List ℕ) × (at (inside g) p (Block root) ≡ Some (Block l)) × is_leaf (node_at g l)
    s = leaf_stands g root l there

    binds : bound_by g k (Block l) ≡ Some datum
    binds = ap (bound_in k) node ∙ ap (λ (b : Bool). cond b (Some datum) None) (same_label_refl k)

    go : (q : List ℕ) × (way_to n k ≡ s.0 ++ q) → found n g root k ≡ Some datum
    go (q, way) = ap (λ (w : List ℕ). bound_by g k (ends (inside g) w (Block root))) way
        ∙ (ap (bound_by g k) (ends_at (inside g) s.0 q (Block root) (Block l) s.1 ∙ stays (inside g) q (Block l) (ap fields_of node)) ∙ binds)

-- a label that fields hold is that of one of them
field_of : (fields : List Value) (m : Label) → IsTrue (has_label (filter_map label_of fields) m) → (j : ℕ) × (get_or fields j Nothing ≡ Block m)
field_of [] m there = cc
field_of (Int z ∷ fields) m there = let r = field_of fields m there in (suc r.0, r.1)
field_of (Nothing ∷ fields) m there = let r = field_of fields m there in (suc r.0, r.1)
field_of (Block l ∷ fields) m there = go (or_cases (same_label l m) (has_label (filter_map label_of fields) m) there) (field_of fields m)
  where
    go : IsTrue (same_label l m) ⊎ IsTrue (has_label (filter_map label_of fields) m) → (IsTrue (has_label (filter_map label_of fields) m) → (j : ℕ) × (get_or fields j Nothing ≡ Block m)) → (j : ℕ) × (get_or (Block l ∷ fields) j Nothing ≡ Block m)
    go (inl here) rec = (zero, ap Block (same_label-true l m here))
    go (inr later) rec = let r = rec later in (suc r.0, r.1)

-- where no datum is a block, and none is left without its key, the map's blocks keep no others alive
pub map_holds_itself : MapHoldsItself
map_holds_itself n g alive root map placed ints left l m there named = go (node_at g l) refl named
  where
    place : (p : List ℕ) × (at (inside g) p (Block root) ≡ Some (Block l))
    place = label_stands g root l there

    datum_named : (b : Bool) (datum : Value) → IsTrue (has_label (cond b (option_to_list (label_of datum)) []) m) → datum ≡ Block m
    datum_named true (Int z) h = cc
    datum_named true Nothing h = cc
    datum_named true (Block k) h = ⊎_elim (λ here. ap Block (same_label-true k m here)) (λ none. let clash : false ≡ true = none in cc) (or_cases (same_label k m) false h)
    datum_named false datum h = cc

    is_listed : (key : Option Label) (datum : Value) → node_at g l ≡ Some (Ephe (key ∷ []) datum) → IsTrue (has_label (map_leaves g root) l)
    is_listed key datum e = stands_leaf g root map place.0 l place.1 (subst is_leaf (sym e) tt)

    go : (o : Option Node) → node_at g l ≡ o → IsTrue (has_label (option_map_or (edges_of alive) o []) m) → IsTrue (has_label (map_labels g root) m)
    go None e h = cc
    go (Some (Plain tag fields)) e h =
        let j = field_of fields m h in
        stands_label g root map (place.0 ++ j.0 ∷ []) m (at_more g place.0 (Block l) root fields j.0 place.1 (ap fields_of e) ∙ ap Some j.1)
    go (Some (Raw tag fields)) e h = cc
    go (Some (Ephe [] datum)) e h = slot (map.slots place.0 (Block l) place.1)
      where
        slot : is_leaf (node_at g l) ⊎ ((fields : List Value) × (fields_of (node_at g l) ≡ Some fields)) → IsTrue (has_label (map_labels g root) m)
        slot (inl leaf) = absurd (subst is_leaf e leaf)
        slot (inr (fields, plain)) = let clash : ◌≡◌ {A = Option (List Value)} None (Some fields) = sym (ap fields_of e) ∙ plain in cc
    go (Some (Ephe (None ∷ []) datum)) e h =
        let gone : datum ≡ Nothing = left l datum (is_listed None datum e) e in
        let is : datum ≡ Block m = datum_named (list_all (key_holds alive) (None ∷ [])) datum h in
        let clash : Nothing ≡ Block m = sym gone ∙ is in
        cc
    go (Some (Ephe (Some k ∷ []) datum)) e h = absurd (ints k datum m (leaf_is_listed n g root placed l k datum (is_listed (Some k) datum e) e) (datum_named (list_all (key_holds alive) (Some k ∷ [])) datum h))
    go (Some (Ephe (key ∷ key2 ∷ keys) datum)) e h = slot (map.slots place.0 (Block l) place.1)
      where
        slot : is_leaf (node_at g l) ⊎ ((fields : List Value) × (fields_of (node_at g l) ≡ Some fields)) → IsTrue (has_label (map_labels g root) m)
        slot (inl leaf) = absurd (subst is_leaf e leaf)
        slot (inr (fields, plain)) = let clash : ◌≡◌ {A = Option (List Value)} None (Some fields) = sym (ap fields_of e) ∙ plain in cc
