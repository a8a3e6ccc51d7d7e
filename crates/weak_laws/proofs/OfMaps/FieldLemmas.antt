-- What a call finds in a field of a map's block: 0, a leaf, or a block of the map.
use Rattle.std.proofs.Common.{◌≡◌, ◌≢◌, ◌⊎◌, inl, inr, ℕ, zero, suc, ◌<◌, true, false, IsTrue, List, [], ◌∷◌, ◌++◌, length, get_or, slice_get, pos, Option, Some, None, refl, ap, sym, ◌∙◌, subst, arith}
use Rattle.std.specs.List.{list_all}
use Rattle.std.proofs.lemmas.Option.{slice_get-get_or}
use Rattle.model_core.specs.declared.label.Label.{Label}
use Rattle.model_core.specs.declared.entry.Entry.{Entry}
use Rattle.model_core.specs.declared.graph.Value.{Value}
use Rattle.model_core.specs.declared.graph.Value.TheVariants.{Int, Block, Nothing}
use Rattle.model_core.specs.declared.graph.Node.{Node}
use Rattle.model_core.specs.declared.graph.Node.TheVariants.{Plain, Raw, Ephe}
use Rattle.model_core.specs.declared.state.Sizes.{Sizes}
use Rattle.model_core.specs.Graph.{Graph, node_at}
use Rattle.model_core.specs.Commands.{is_full_value}
use Rattle.model_core.proofs.Histories.FieldLemmas.{fields_law}
use Rattle.model_core.proofs.Reach.ReachLemmas.{and_left, and_right}
use Rattle.weak_laws.specs.Tables.Stages.{graph_of}
use Rattle.weak_laws.specs.Maps.Tries.{inside, fields_of, at, is_leaf, width_at, IsSlot, IsMap}
use Rattle.weak_laws.proofs.OfMaps.WalkLemmas.{at_step, at_stop}

-- what a field of a map holds
pub data FieldHolds (g : Graph) (v : Value) : Type 0 where
  Zero : v ≡ Int (pos 0) → FieldHolds g v
  Leaf : (l : Label) (key : Option Label) (datum : Value) → v ≡ Block l → node_at g l ≡ Some (Ephe (key ∷ []) datum) → FieldHolds g v
  Deeper : (l : Label) (tag : ℕ) (fields : List Value) → v ≡ Block l → node_at g l ≡ Some (Plain tag fields) → FieldHolds g v

-- a value to whose fields a way leads is a plain block
pub plain_is : (g : Graph) (l : Label) (fields : List Value) → inside g (Block l) ≡ Some fields → (tag : ℕ) × (node_at g l ≡ Some (Plain tag fields))
plain_is g l fields e = go (node_at g l) refl e
  where
    go : (o : Option Node) → node_at g l ≡ o → fields_of o ≡ Some fields → (tag : ℕ) × (node_at g l ≡ Some (Plain tag fields))
    go None at is = cc
    go (Some (Raw tag fs)) at is = cc
    go (Some (Ephe keys datum)) at is = cc
    go (Some (Plain tag fs)) at is = let same : fs ≡ fields = cc in (tag, at ∙ ap (λ (xs : List Value). Some (Plain tag xs)) same)

-- a way with one step more
pub at_field : (g : Graph) (p : List ℕ) (v : Value) (b : Label) (fields : List Value) (i : ℕ) → at (inside g) p v ≡ Some (Block b) → inside g (Block b) ≡ Some fields → at (inside g) (p ++ i ∷ []) v ≡ Some (get_or fields i Nothing)
at_field g [] v b fields i there plain = let same : v ≡ Block b = cc in at_step (inside g) i [] v fields (ap (inside g) same ∙ plain)
at_field g (a ∷ p) v b fields i there plain = go (inside g v) refl (λ x e. at_field g p x b fields i e plain)
  where
    go : (o : Option (List Value)) → inside g v ≡ o → ((x : Value) → at (inside g) p x ≡ Some (Block b) → at (inside g) (p ++ i ∷ []) x ≡ Some (get_or fields i Nothing)) → at (inside g) (a ∷ (p ++ i ∷ [])) v ≡ Some (get_or fields i Nothing)
    go None e rec = let clash : None ≡ Some (Block b) = sym (at_stop (inside g) a p v e) ∙ there in cc
    go (Some fs) e rec = at_step (inside g) a (p ++ i ∷ []) v fs e ∙ rec (get_or fs a Nothing) (sym (at_step (inside g) a p v fs e) ∙ there)

full_at : (fields : List Value) (i : ℕ) → IsTrue (list_all is_full_value fields) → i < length fields → get_or fields i Nothing ≢ Nothing
full_at [] i all below none = absurd (omega (arith, below))
full_at (v ∷ fields) zero all below none = let full = and_left (is_full_value v) _ all in let clash : false ≡ true = subst (λ (x : Value). IsTrue (is_full_value x)) none full in cc
full_at (v ∷ fields) (suc i) all below none = full_at fields i (and_right (is_full_value v) _ all) (omega (arith, below)) none

-- the field of a digit is there, and what it holds
pub field_holds : (z : Sizes) (h : List Entry) (root : Label) → IsMap (graph_of z h) root → (p : List ℕ) (b : Label) (tag : ℕ) (fields : List Value) (i : ℕ) → at (inside (graph_of z h)) p (Block root) ≡ Some (Block b)
    → node_at (graph_of z h) b ≡ Some (Plain tag fields) → i < width_at p
    → (i < length fields) × (slice_get fields i ≡ Some (get_or fields i Nothing)) × (get_or fields i Nothing ≢ Nothing) × FieldHolds (graph_of z h) (get_or fields i Nothing)
field_holds z h root map p b tag fields i there node below =
    let plain : inside (graph_of z h) (Block b) ≡ Some fields = ap fields_of node in
    let inside_it : i < length fields = subst (λ m. i < m) (sym (map.wide p (Block b) fields there plain)) below in
    let full : get_or fields i Nothing ≢ Nothing = full_at fields i (fields_law z h b (Plain tag fields) node) inside_it in
    (inside_it, slice_get-get_or fields i Nothing inside_it, full, of_slot (get_or fields i Nothing) full (map.slots (p ++ i ∷ []) (get_or fields i Nothing) (at_field (graph_of z h) p (Block root) b fields i there plain)))
  where
    g : Graph
    g = graph_of z h

    of_block : (l : Label) (o : Option Node) → node_at (graph_of z h) l ≡ o → (is_leaf o ⊎ ((fs : List Value) × (fields_of o ≡ Some fs))) → FieldHolds (graph_of z h) (Block l)
    of_block l None e (inl leaf) = absurd leaf
    of_block l None e (inr (fs, is)) = cc
    of_block l (Some (Plain t fs)) e slot = Deeper l t fs refl e
    of_block l (Some (Raw t fs)) e (inl leaf) = absurd leaf
    of_block l (Some (Raw t fs)) e (inr (gs, is)) = cc
    of_block l (Some (Ephe [] datum)) e (inl leaf) = absurd leaf
    of_block l (Some (Ephe [] datum)) e (inr (gs, is)) = cc
    of_block l (Some (Ephe (key ∷ []) datum)) e slot = Leaf l key datum refl e
    of_block l (Some (Ephe (key ∷ key2 ∷ keys) datum)) e (inl leaf) = absurd leaf
    of_block l (Some (Ephe (key ∷ key2 ∷ keys) datum)) e (inr (gs, is)) = cc

    of_slot : (v : Value) → v ≢ Nothing → IsSlot (graph_of z h) v → FieldHolds (graph_of z h) v
    of_slot (Int n) full slot = Zero (ap Int slot)
    of_slot Nothing full slot = absurd (full refl)
    of_slot (Block l) full slot = of_block l (node_at (graph_of z h) l) refl slot
