-- Where a way leads is reachable.
use Rattle.std.proofs.Common.{◌≡◌, ◌∙◌, ℕ, zero, suc, Bool, true, false, IsTrue, List, [], ◌∷◌, get_or, slice_get, option_and_then, filter_map, flat_map, refl, ap, sym, subst, Option, Some, None}
use Rattle.std.specs.Option.{option_map_or}
use Rattle.std.proofs.lemmas.Option.{same_Some}
use Rattle.model_core.specs.declared.entry.Entry.{Entry}
use Rattle.model_core.specs.declared.graph.Node.{Node}
use Rattle.model_core.specs.declared.graph.Node.TheVariants.{Plain, Raw, Ephe}
use Rattle.model_core.specs.declared.graph.Value.{Value}
use Rattle.model_core.specs.declared.graph.Value.TheVariants.{Int, Block, Nothing}
use Rattle.model_core.specs.declared.label.Label.{Label}
use Rattle.model_core.specs.declared.state.DomainState.{DomainState}
use Rattle.model_core.specs.declared.state.Sizes.{Sizes}
use Rattle.model_core.specs.declared.state.State.{State}
use Rattle.model_core.specs.Commands.{is_int_value}
use Rattle.model_core.specs.Domains.{no_domain, pending_label, queues, reach}
use Rattle.model_core.specs.Graph.{Graph, has_label, label_of, node_at, same_label}
use Rattle.model_core.specs.Reach.{edges_of}
use Rattle.model_core.proofs.Graphs.GraphLemmas.{same_label_refl}
use Rattle.model_core.proofs.Graphs.ListLemmas.{all_at}
use Rattle.model_core.proofs.Histories.FieldLemmas.{fields_law}
use Rattle.model_core.proofs.Histories.WellFormedLemmas.{reach_after}
use Rattle.model_core.proofs.Reach.ReachLemmas.{has-append_left, has-append_right, or_left, or_right}
use Rattle.model_laws.specs.Reach.Exploring.{graph_of, roots_of}
use Rattle.model_laws.specs.Reach.Ways.{fields_of, follow, refers}
use Rattle.model_laws.specs.Reach.Walks.{state_of}
use Rattle.model_laws.proofs.OfReach.Going.{follow_none, follow_step}
use Rattle.model_laws.specs.Ways.Reached.{LedIsReached}

-- a block among values is one of their labels
pub in_values : (vs : List Value) (i : ℕ) (m : Label) → option_and_then label_of (slice_get vs i) ≡ Some m → IsTrue (has_label (filter_map label_of vs) m)
in_values [] i m at = cc
in_values (Block l ∷ vs) zero m at = or_left (same_label l m) (has_label (filter_map label_of vs) m) (ap (λ (k : Label). same_label k m) (same_Some l m at) ∙ same_label_refl m)
in_values (Int n ∷ vs) zero m at = cc
in_values (Nothing ∷ vs) zero m at = cc
in_values (Block l ∷ vs) (suc i) m at = or_right (same_label l m) (has_label (filter_map label_of vs) m) (in_values vs i m at)
in_values (Int n ∷ vs) (suc i) m at = in_values vs i m at
in_values (Nothing ∷ vs) (suc i) m at = in_values vs i m at

-- and so is one in a register
in_registers : (vs : List Value) (r : ℕ) (m : Label) → label_of (get_or vs r Nothing) ≡ Some m → IsTrue (has_label (filter_map label_of vs) m)
in_registers [] r m at = cc
in_registers (v ∷ vs) zero m at = in_values (v ∷ vs) zero m at
in_registers (Block l ∷ vs) (suc r) m at = or_right (same_label l m) (has_label (filter_map label_of vs) m) (in_registers vs r m at)
in_registers (Int n ∷ vs) (suc r) m at = in_registers vs r m at
in_registers (Nothing ∷ vs) (suc r) m at = in_registers vs r m at

in_domains : (xs : List DomainState) (d r : ℕ) (m : Label) → label_of (get_or (get_or xs d no_domain).registers r Nothing) ≡ Some m → IsTrue (has_label (flat_map (λ (x : DomainState). filter_map label_of x.registers) xs) m)
in_domains [] d r m at = cc
in_domains (x ∷ xs) zero r m at = has-append_left (filter_map label_of x.registers) (flat_map (λ (y : DomainState). filter_map label_of y.registers) xs) m (in_registers x.registers r m at)
in_domains (x ∷ xs) (suc d) r m at = has-append_right (filter_map label_of x.registers) (flat_map (λ (y : DomainState). filter_map label_of y.registers) xs) m (in_domains xs d r m at)

module _ (z : Sizes) (h : List Entry) where
  abbrev s : State
  s = state_of z h

  abbrev g : Graph
  g = graph_of z h

  -- a field that refers to a block keeps it alive
  field_edge : (alive : Label → Bool) (k m : Label) (i : ℕ) (o : Option Node) → node_at g k ≡ o → option_and_then label_of (option_and_then (λ (n : Node). slice_get (fields_of n) i) o) ≡ Some m → IsTrue (has_label (option_map_or (edges_of alive) o []) m)
  field_edge alive k m i None at refer = cc
  field_edge alive k m i (Some (Plain tag fields)) at refer = in_values fields i m refer
  field_edge alive k m i (Some (Raw tag fields)) at refer = absurd (no_block (slice_get fields i) refl refer)
    where
      int_only : (v : Value) → IsTrue (is_int_value v) → label_of v ≡ Some m → ⊥
      int_only (Int n) full is = cc
      int_only (Block l) full is = let clash : false ≡ true = full in cc
      int_only Nothing full is = cc

      no_block : (o : Option Value) → slice_get fields i ≡ o → option_and_then label_of o ≡ Some m → ⊥
      no_block None here is = cc
      no_block (Some v) here is = int_only v (all_at is_int_value fields (fields_law z h k (Raw tag fields) at) i v here) is
  field_edge alive k m i (Some (Ephe keys datum)) at refer = cc

  -- so all along a way
  along : (k : Label) → IsTrue (has_label (reach s) k) → (is : List ℕ) (l : Label) → follow (refers g) (Some k) is ≡ Some l → IsTrue (has_label (reach s) l)
  along k has [] l way = subst (λ (x : Label). IsTrue (has_label (reach s) x)) (same_Some k l way) has
  along k has (i ∷ is) l way =
      let t = follow_step (refers g) (Some k) i is l way in
      let refer : refers g k i ≡ Some t.1 = ap (λ (x : Label). refers g x i) (same_Some k t.0 t.2) ∙ t.3 in
      along t.1 ((reach_after z h).closed k t.1 has (field_edge (has_label (reach s)) k t.1 i (node_at g k) refl refer)) is l t.4

pub led_is_reached : LedIsReached
led_is_reached z h d l led = from_root (roots_of z d h led.register) refl
  where
    from_root : (o : Option Label) → roots_of z d h led.register ≡ o → IsTrue (has_label (reach (state_of z h)) l)
    from_root None none = let clash : None ≡ Some l = sym (follow_none (refers (graph_of z h)) led.fields) ∙ (ap (λ (o : Option Label). follow (refers (graph_of z h)) o led.fields) (sym none) ∙ led.leads_there) in cc
    from_root (Some k) root = along z h k
        ((reach_after z h).holds_roots k (has-append_left (flat_map (λ (x : DomainState). filter_map label_of x.registers) (state_of z h).domains) (flat_map (filter_map pending_label) (queues (state_of z h))) k (in_domains (state_of z h).domains d led.register k root)))
        led.fields l (ap (λ (o : Option Label). follow (refers (graph_of z h)) o led.fields) (sym root) ∙ led.leads_there)
