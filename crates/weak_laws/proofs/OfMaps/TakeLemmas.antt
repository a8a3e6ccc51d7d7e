-- What the collector takes from a map.
use Rattle.std.proofs.Common.{◌≡◌, ◌⊎◌, inl, inr, ℕ, Bool, true, false, cond, List, [], ◌∷◌, get_or, Option, Some, None, refl, ap, sym, ◌∙◌, subst}
use Rattle.model_core.specs.declared.label.Label.{Label}
use Rattle.model_core.specs.declared.graph.Value.{Value}
use Rattle.model_core.specs.declared.graph.Value.TheVariants.{Int, Block, Nothing}
use Rattle.model_core.specs.declared.graph.Node.{Node}
use Rattle.model_core.specs.declared.graph.Node.TheVariants.{Plain, Raw, Ephe}
use Rattle.model_core.specs.Graph.{Graph, same_label, node_at}
use Rattle.model_core.proofs.Graphs.GraphLemmas.{same_label-true}
use Rattle.weak_laws.specs.Tables.Thinning.{Thin, WasOutside}
use Rattle.weak_laws.specs.Tables.Stages.{graph_of}
use Rattle.weak_laws.specs.Maps.Tries.{inside, fields_of, is_leaf, IsSlot, ends, at, bound_by, bound_in, way_to}
use Rattle.weak_laws.specs.Maps.MapLaws.{CollectorTakes}
use Rattle.weak_laws.proofs.OfMaps.WalkLemmas.{ends_step, ends_stop, at_step}

-- a key's binding is as it was, or it was taken
abbrev pub Left : (Label → Type 0) → Label → Option Value → Option Value → Type 0
Left P k was now = (now ≡ was) ⊎ (P k × (now ≡ None))

-- of a node what is left leads where it led, and binds what it bound or was taken
node_left : (P : Label → Type 0) (k : Label) (n : Node) (o : Option Node) → (is_leaf (Some n) ⊎ ((fields : List Value) × (fields_of (Some n) ≡ Some fields))) → Thin P n o
    → (fields_of o ≡ fields_of (Some n)) × Left P k (bound_in k (Some n)) (bound_in k o)
node_left P k (Plain tag fields) o slot thin = (ap fields_of thin, inl (ap (bound_in k) thin))
node_left P k (Raw tag fields) o slot thin = (ap fields_of thin, inl (ap (bound_in k) thin))
node_left P k (Ephe [] datum) o (inl leaf) thin = absurd leaf
node_left P k (Ephe [] datum) o (inr (fs, e)) thin = cc
node_left P k (Ephe (key ∷ []) datum) o slot (inl same) = (ap fields_of same, inl (ap (bound_in k) same))
node_left P k (Ephe (key ∷ []) datum) o slot (inr (l, is, gone, now)) = (ap fields_of now, go (same_label l k) refl)
  where
    was : bound_in k (Some (Ephe (key ∷ []) datum)) ≡ cond (same_label l k) (Some datum) None
    was = ap (λ (x : Option Label). bound_in k (Some (Ephe (x ∷ []) datum))) is

    empty : bound_in k o ≡ None
    empty = ap (bound_in k) now

    go : (b : Bool) → same_label l k ≡ b → Left P k (bound_in k (Some (Ephe (key ∷ []) datum))) (bound_in k o)
    go true e = inr (subst P (same_label-true l k e) gone, empty)
    go false e = inl (empty ∙ sym (was ∙ ap (λ (b : Bool). cond b (Some datum) None) e))
node_left P k (Ephe (key ∷ key2 ∷ keys) datum) o (inl leaf) thin = absurd leaf
node_left P k (Ephe (key ∷ key2 ∷ keys) datum) o (inr (fs, e)) thin = cc

absent : (A : Type 0) → (is_leaf None ⊎ ((fields : List Value) × (fields_of None ≡ Some fields))) → A
absent A (inl leaf) = absurd leaf
absent A (inr (fs, e)) = cc

pub slot_left : (P : Label → Type 0) (g h : Graph) (k : Label) (v : Value) → ((l : Label) (n : Node) → v ≡ Block l → node_at g l ≡ Some n → Thin P n (node_at h l)) → IsSlot g v → (inside h v ≡ inside g v) × Left P k (bound_by g k v) (bound_by h k v)
slot_left P g h k (Int z) thin slot = (refl, inl refl)
slot_left P g h k Nothing thin slot = (refl, inl refl)
slot_left P g h k (Block l) thin slot = go (node_at g l) refl slot
  where
    go : (o : Option Node) → node_at g l ≡ o → (is_leaf o ⊎ ((fields : List Value) × (fields_of o ≡ Some fields))) → (inside h (Block l) ≡ inside g (Block l)) × Left P k (bound_by g k (Block l)) (bound_by h k (Block l))
    go None e s = absent _ s
    go (Some n) e s =
        let left = node_left P k n (node_at h l) s (thin l n refl e) in
        (left.0 ∙ sym (ap fields_of e), subst (λ x. Left P k (bound_in k x) (bound_in k (node_at h l))) (sym e) left.1)

-- what is left of the blocks to which ways lead from a value
abbrev pub ThinnedFrom : (Label → Type 0) → Graph → Graph → Value → Type 0
ThinnedFrom P g h v = (p : List ℕ) (l : Label) (n : Node) → at (inside g) p v ≡ Some (Block l) → node_at g l ≡ Some n → Thin P n (node_at h l)

pub walk_left : (P : Label → Type 0) (g h : Graph) (k : Label) (is : List ℕ) (v : Value) → ThinnedFrom P g h v → ((p : List ℕ) (u : Value) → at (inside g) p v ≡ Some u → IsSlot g u)
    → Left P k (bound_by g k (ends (inside g) is v)) (bound_by h k (ends (inside h) is v))
walk_left P g h k [] v thin slots = (slot_left P g h k v (λ l n is e. thin [] l n (ap Some is) e) (slots [] v refl)).1
walk_left P g h k (i ∷ is) v thin slots = go (inside g v) refl (λ x t s. walk_left P g h k is x t s)
  where
    here : (inside h v ≡ inside g v) × Left P k (bound_by g k v) (bound_by h k v)
    here = slot_left P g h k v (λ l n is e. thin [] l n (ap Some is) e) (slots [] v refl)

    go : (o : Option (List Value)) → inside g v ≡ o → ((x : Value) → ThinnedFrom P g h x → ((p : List ℕ) (u : Value) → at (inside g) p x ≡ Some u → IsSlot g u) → Left P k (bound_by g k (ends (inside g) is x)) (bound_by h k (ends (inside h) is x)))
        → Left P k (bound_by g k (ends (inside g) (i ∷ is) v)) (bound_by h k (ends (inside h) (i ∷ is) v))
    go None e rec =
        subst (λ x. Left P k (bound_by g k x) (bound_by h k (ends (inside h) (i ∷ is) v))) (sym (ends_stop (inside g) i is v e))
        (subst (λ x. Left P k (bound_by g k v) (bound_by h k x)) (sym (ends_stop (inside h) i is v (here.0 ∙ e))) here.1)
    go (Some fields) e rec =
        subst (λ x. Left P k (bound_by g k x) (bound_by h k (ends (inside h) (i ∷ is) v))) (sym (ends_step (inside g) i is v fields e))
        (subst (λ x. Left P k (bound_by g k (ends (inside g) is (get_or fields i Nothing))) (bound_by h k x)) (sym (ends_step (inside h) i is v fields (here.0 ∙ e)))
        (rec (get_or fields i Nothing) (λ p l n there at. thin (i ∷ p) l n (at_step (inside g) i p v fields e ∙ there) at) (λ p u there. slots (i ∷ p) u (at_step (inside g) i p v fields e ∙ there))))

pub collector_takes : CollectorTakes
collector_takes z old new root goes map k =
    walk_left (WasOutside z old new) (graph_of z old) (graph_of z new) k (way_to z.domains k) (Block root) (λ p l n there at. goes.changes l n at refl) map.slots
