-- Each leaf of a map that binds a key stands on the key's way, whatever steps are made.
use Rattle.std.proofs.Common.{◌≡◌, ◌≢◌, ◌⊎◌, inl, inr, ⊎_elim, ℕ, zero, suc, ◌<◌, List, [], ◌∷◌, ◌++◌, length, get_or, set, replicate, pos, Option, Some, None, refl, ap, sym, ◌∙◌, subst, append_assoc}
use Rattle.model_core.specs.declared.label.Label.{Label}
use Rattle.model_core.specs.declared.entry.Entry.{Entry}
use Rattle.model_core.specs.declared.graph.Value.{Value}
use Rattle.model_core.specs.declared.graph.Value.TheVariants.{Int, Block, Nothing}
use Rattle.model_core.specs.declared.graph.Node.TheVariants.{Plain, Ephe}
use Rattle.model_core.specs.declared.state.Sizes.{Sizes}
use Rattle.model_core.specs.declared.state.State.{State}
use Rattle.model_core.specs.Graph.{Graph, node_at}
use Rattle.model_core.specs.Entries.{next}
use Rattle.model_core.specs.History.{IsPrefix}
use Rattle.weak_laws.specs.Tables.Thinning.{IsOutside, state_of}
use Rattle.weak_laws.specs.Tables.Stages.{graph_of}
use Rattle.weak_laws.specs.Maps.Tries.{at, inside, fields_of, bound_by, bound_in, is_leaf, node_width, way_to, IsMap, IsInPlace}
use Rattle.weak_laws.specs.Maps.Steps.{WritesField, Sets, Deepens, Clears, MapStep, Untouched, SetsKey, GoesDeeper, ClearsField, TakesKeys, IsThinned, AllRespect}
use Rattle.weak_laws.proofs.OfMaps.WalkLemmas.{Walk, set_same, set_else, same_number, at_step, at_stop}
use Rattle.weak_laws.proofs.OfMaps.SetLemmas.{block_is, binds_same, now_inside, others_inside, still_end, was_inside}
use Rattle.weak_laws.proofs.OfMaps.MapLemmas.{NoLabel, at_same, untouched_thinned}
use Rattle.weak_laws.proofs.OfMaps.RespectLemmas.{graph_push, map_between}
use Rattle.weak_laws.proofs.OfMaps.FrontLemmas.{prefix_before, walk_along}
use Rattle.weak_laws.proofs.OfMaps.TreeLemmas.{leads_nowhere}
use Rattle.weak_maps.proofs.DescendLemmas.{leaf_node, plain_node}

-- field i of the block n is written and holds w: each way leads to what it led to, or through the field
module _ (f h : Walk) (n : Value) (i : ℕ) (w : Value) (fields : List Value) (was : f n ≡ Some fields) (now : h n ≡ Some (set fields i w)) (others : (v : Value) → (v ≡ n → ⊥) → h v ≡ f v)
    (decide : (v : Value) → (v ≡ n) ⊎ (v ≡ n → ⊥)) (below : i < length fields) where
  abbrev pub Through : List ℕ → Value → Value → Type 0
  Through is v u = (at f is v ≡ Some u) ⊎ ((p : List ℕ) × (q : List ℕ) × (is ≡ p ++ i ∷ q) × (at f p v ≡ Some n) × (at h q w ≡ Some u))

  pub goes_through : (is : List ℕ) (v u : Value) → at h is v ≡ Some u → Through is v u
  goes_through [] v u here = inl here
  goes_through (j ∷ is) v u here = go (λ x a. goes_through is x u a) (decide v)
    where
      further : (fs : List Value) → f v ≡ Some fs → Through is (get_or fs j Nothing) u → Through (j ∷ is) v u
      further fs e (inl old) = inl (at_step f j is v fs e ∙ old)
      further fs e (inr (p, q, split, there, rest)) = inr (j ∷ p, q, ap (λ (l : List ℕ). j ∷ l) split, at_step f j p v fs e ∙ there, rest)

      stays : ((x : Value) → at h is x ≡ Some u → Through is x u) → (o : Option (List Value)) → f v ≡ o → h v ≡ o → Through (j ∷ is) v u
      stays rec None e eh = let clash : None ≡ Some u = sym (at_stop h j is v eh) ∙ here in cc
      stays rec (Some fs) e eh = further fs e (rec (get_or fs j Nothing) (sym (at_step h j is v fs eh) ∙ here))

      at_n : ((x : Value) → at h is x ≡ Some u → Through is x u) → v ≡ n → (j ≡ i) ⊎ (j ≡ i → ⊥) → Through (j ∷ is) v u
      at_n rec same (inr other) = further fields (ap f same ∙ was) (rec (get_or fields j Nothing)
          (ap (at h is) (sym (set_else fields i j w Nothing other)) ∙ (sym (at_step h j is v (set fields i w) (ap h same ∙ now)) ∙ here)))
      at_n rec same (inl hit) = inr (
        [],
        is,
        ap (λ (k : ℕ). k ∷ is) hit,
        ap Some same,
        ap (at h is) (sym (ap (λ (k : ℕ). get_or (set fields i w) k Nothing) hit ∙ set_same fields i w Nothing below)) ∙ (sym (at_step h j is v (set fields i w) (ap h same ∙ now)) ∙ here),
      )

      go : ((x : Value) → at h is x ≡ Some u → Through is x u) → (v ≡ n) ⊎ (v ≡ n → ⊥) → Through (j ∷ is) v u
      go rec (inl same) = at_n rec same (same_number j i)
      go rec (inr other) = stays rec (f v) refl (others v other)

-- a field of a fresh block is 0, or none
zero_no_block : (m j : ℕ) (l : Label) → get_or (replicate m (Int (pos 0))) j Nothing ≡ Block l → ⊥
zero_no_block zero j l is = cc
zero_no_block (suc m) zero l is = cc
zero_no_block (suc m) (suc j) l is = zero_no_block m j l is

-- a plain block binds nothing
pub plain_unbound : (g : Graph) (l k : Label) (fields : List Value) → inside g (Block l) ≡ Some fields → bound_by g k (Block l) ≡ None
plain_unbound g l k fields plain = let n = plain_node (node_at g l) fields plain in ap (bound_in k) n.1

module _ (n : ℕ) (g h : Graph) (root : Label) (p : List ℕ) (i : ℕ) (held new : Value) (w : WritesField g h root p i held new) (map : IsMap g root) (placed : IsInPlace n g root) where
  abbrev pub Leads : List ℕ → Label → Type 0
  Leads is l = (at (inside g) is (Block root) ≡ Some (Block l)) ⊎ ((q : List ℕ) × (is ≡ p ++ i ∷ q) × (at (inside h) q new ≡ Some (Block l)))

  leads : (is : List ℕ) (l : Label) → at (inside h) is (Block root) ≡ Some (Block l) → Leads is l
  leads is l there = go (goes_through (inside g) (inside h) (Block w.block) i new w.fields (was_inside g h root p i held new w map.tree) (now_inside g h root p i held new w map.tree)
      (others_inside g h root p i held new w map.tree) (block_is w.block) w.below is (Block root) (Block l) there)
    where
      go : (at (inside g) is (Block root) ≡ Some (Block l)) ⊎ ((p2 : List ℕ) × (q : List ℕ) × (is ≡ p2 ++ i ∷ q) × (at (inside g) p2 (Block root) ≡ Some (Block w.block)) × (at (inside h) q new ≡ Some (Block l))) → Leads is l
      go (inl old) = inl old
      go (inr (p2, q, split, at_block, rest)) =
          let same : p2 ≡ p = map.tree p2 p (Block w.block) w.fields at_block w.there (was_inside g h root p i held new w map.tree) in
          inr (q, split ∙ ap (λ (x : List ℕ). x ++ i ∷ q) same, rest)

  -- where what stood before stands on its way, and what comes through the field too
  pub written_place : ((q : List ℕ) (l k : Label) → at (inside h) q new ≡ Some (Block l) → bound_by g k (Block l) ≢ None → (x : List ℕ) × (way_to n k ≡ (p ++ i ∷ q) ++ x)) → IsInPlace n h root
  written_place through is l k there binds =
      let old_binds : bound_by g k (Block l) ≢ None = λ none. binds (binds_same g h root p i held new w map.tree k (Block l) ∙ none) in
      ⊎_elim (λ old. placed is l k old old_binds) (λ new_there. let x = through new_there.0 l k new_there.2 old_binds in (x.0, x.1 ∙ ap (λ (y : List ℕ). y ++ x.0) (sym new_there.1))) (leads is l there)

-- a leaf is all that stands behind its field
pub only_there : (h : Graph) (q : List ℕ) (new : Value) (l : Label) → inside h new ≡ None → at (inside h) q new ≡ Some (Block l) → (q ≡ []) × (new ≡ Block l)
only_there h [] new l end there = (refl, cc)
only_there h (j ∷ q) new l end there = let clash : None ≡ Some (Block l) = sym (at_stop (inside h) j q new end) ∙ there in cc

set_place : (n : ℕ) (g h : Graph) (root k : Label) (new : Value) → IsMap g root → Sets n g h root k new → IsInPlace n g root → IsInPlace n h root
set_place n g h root k new map s placed = written_place n g h root s.p s.i s.held new s.writes map placed
    (λ q l j there binds.
    let only = only_there h q new l (still_end g h root s.p s.i s.held new new s.writes map.tree s.leaf) there in
    let same : j ≡ k = ⊎_elim (λ e. e) (λ other. absurd (binds (ap (bound_by g j) (sym only.1) ∙ (s.mine j other).1))) (label_is j k) in
    (s.q, ap (way_to n) same ∙ (s.way ∙ (sym (append_assoc s.p (s.i ∷ []) s.q) ∙ ap (λ (x : List ℕ). (s.p ++ s.i ∷ x) ++ s.q) (sym only.0)))))
  where
    label_is : (a b : Label) → (a ≡ b) ⊎ (a ≢ b)
    label_is a b = ⊎_elim (λ e. let same : a ≡ b = cc in inl same) (λ other. inr (λ e. other (ap Block e))) (block_is b (Block a))

deepen_place : (n : ℕ) (g h : Graph) (root : Label) → IsMap g root → Deepens n g h root → IsInPlace n g root → IsInPlace n h root
deepen_place n g h root map s placed = written_place n g h root s.p s.i s.held (Block s.block) s.writes map placed through
  where
    ms : List Value
    ms = set (replicate node_width (Int (pos 0))) s.j s.held

    apart : Block s.block ≡ Block s.writes.block → ⊥
    apart same = s.fresh s.p (s.writes.there ∙ ap Some (sym same))

    inner : inside h (Block s.block) ≡ Some ms
    inner = others_inside g h root s.p s.i s.held (Block s.block) s.writes map.tree (Block s.block) apart ∙ s.inner

    ends_there : (j : ℕ) → inside h (get_or ms j Nothing) ≡ None
    ends_there j = leads_nowhere h s.j j node_width s.held s.small (still_end g h root s.p s.i s.held (Block s.block) s.held s.writes map.tree s.writes.end)

    at_digit : (j : ℕ) (q : List ℕ) (l k : Label) → (q ≡ []) × (get_or ms j Nothing ≡ Block l) → bound_by g k (Block l) ≢ None → (j ≡ s.j) ⊎ (j ≡ s.j → ⊥) → (x : List ℕ) × (way_to n k ≡ (s.p ++ s.i ∷ j ∷ q) ++ x)
    at_digit j q l k only binds (inr other) = absurd (zero_no_block node_width j l (sym (set_else (replicate node_width (Int (pos 0))) s.j j s.held Nothing other) ∙ only.1))
    at_digit j q l k only binds (inl hit) =
        let field : s.held ≡ Block l = sym (set_same (replicate node_width (Int (pos 0))) s.j s.held Nothing s.small) ∙ (ap (λ (x : ℕ). get_or ms x Nothing) (sym hit) ∙ only.1) in
        let t = s.next k (λ none. binds (ap (bound_by g k) (sym field) ∙ none)) in
        (t.0, t.1 ∙ (sym (append_assoc s.p (s.i ∷ s.j ∷ []) t.0) ∙ (λ a. (s.p ++ s.i ∷ sym hit a ∷ sym only.0 a) ++ t.0)))

    through : (q : List ℕ) (l k : Label) → at (inside h) q (Block s.block) ≡ Some (Block l) → bound_by g k (Block l) ≢ None → (x : List ℕ) × (way_to n k ≡ (s.p ++ s.i ∷ q) ++ x)
    through [] l k there binds =
        let same : s.block ≡ l = cc in
        absurd (binds (plain_unbound g l k ms (ap (λ (x : Label). inside g (Block x)) (sym same) ∙ s.inner)))
    through (j ∷ q) l k there binds =
        at_digit j q l k (only_there h q (get_or ms j Nothing) l (ends_there j) (sym (at_step (inside h) j q (Block s.block) ms inner) ∙ there)) binds (same_number j s.j)

clear_place : (n : ℕ) (g h : Graph) (root : Label) → IsMap g root → Clears g h root → IsInPlace n g root → IsInPlace n h root
clear_place n g h root map s placed = written_place n g h root s.p s.i s.held (Int (pos 0)) s.writes map placed
    (λ q l k there binds. let only = only_there h q (Int (pos 0)) l refl there in let clash : Int (pos 0) ≡ Block l = only.1 in cc)

-- what is left of a block binds what it bound, or nothing
pub thin_place : (n : ℕ) (P : Label → Type 0) (g h : Graph) (root : Label) → IsMap g root → IsThinned P g h root → IsInPlace n g root → IsInPlace n h root
thin_place n P g h root map thin placed p l k there binds = placed p l k at_g (λ none. binds (left none (map.slots p (Block l) at_g)))
  where
    at_g : at (inside g) p (Block root) ≡ Some (Block l)
    at_g = sym (at_same P g h root map thin p) ∙ there

    left : bound_by g k (Block l) ≡ None → (is_leaf (node_at g l) ⊎ ((fields : List Value) × (fields_of (node_at g l) ≡ Some fields))) → bound_by h k (Block l) ≡ None
    left none (inr (fields, plain)) =
        let m = plain_node (node_at g l) fields plain in
        ap (bound_in k) (thin p l (Plain m.0 fields) at_g m.1)
    left none (inl leaf) =
        let m = leaf_node (node_at g l) leaf in
        ⊎_elim (λ same. ap (bound_in k) (same ∙ sym m.2) ∙ none) (λ gone. ap (bound_in k) gone.3) (thin p l (Ephe (m.0 ∷ []) m.1) at_g m.2)

place_step : (n : ℕ) (root : Label) (s : State) (e : Entry) → IsMap s.graph root → MapStep n root s e → IsInPlace n s.graph root → IsInPlace n (next s e).graph root
place_step n root s e map (Untouched same) placed = thin_place n NoLabel s.graph (next s e).graph root map (untouched_thinned NoLabel s.graph (next s e).graph root same) placed
place_step n root s e map (SetsKey k new sets) placed = set_place n s.graph (next s e).graph root k new map sets placed
place_step n root s e map (GoesDeeper deeper) placed = deepen_place n s.graph (next s e).graph root map deeper placed
place_step n root s e map (ClearsField cleared) placed = clear_place n s.graph (next s e).graph root map cleared placed
place_step n root s e map (TakesKeys thin) placed = thin_place n (IsOutside s) s.graph (next s e).graph root map thin placed

-- over a history whose entries respect a map
pub place_after : (z : Sizes) (root : Label) (old new : List Entry) → IsPrefix old new → AllRespect z root old new → IsMap (graph_of z old) root → IsInPlace z.domains (graph_of z old) root → IsInPlace z.domains (graph_of z new) root
place_after z root old new grows all map placed = walk_along (λ h. IsInPlace z.domains (graph_of z h) root) old new grows
    (λ f e a b here. subst (λ (g : Graph). IsInPlace z.domains g root) (sym (graph_push z f e))
    (place_step z.domains root (state_of z f) e (map_between z root old new grows all map f a (prefix_before f e new b)) (all f e a b).step here)) placed
