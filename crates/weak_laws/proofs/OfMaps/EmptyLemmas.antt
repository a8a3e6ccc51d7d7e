-- A field of a map that holds nothing is emptied: no binding changes, and but for what stood below it each block stands where it stood.
use Rattle.std.proofs.Common.{◌≡◌, ◌⊎◌, inl, inr, ℕ, List, [], ◌∷◌, ◌++◌, length, get_or, set, pos, Option, Some, None, refl, ap, sym, ◌∙◌, subst}
use Rattle.std.proofs.lemmas.List.{length-set}
use Rattle.model_core.specs.declared.label.Label.{Label}
use Rattle.model_core.specs.declared.graph.Value.{Value}
use Rattle.model_core.specs.declared.graph.Value.TheVariants.{Int, Block, Nothing}
use Rattle.model_core.specs.declared.graph.Node.{Node}
use Rattle.model_core.specs.declared.graph.Node.TheVariants.{Plain}
use Rattle.model_core.specs.Graph.{Graph, node_at}
use Rattle.model_core.proofs.Commands.FrameLemmas.{label_cases}
use Rattle.model_core.proofs.Graphs.GraphLemmas.{node_at-with_node_other, node_at-with_node_same}
use Rattle.weak_laws.specs.Maps.Tries.{inside, fields_of, ends, at, found, bound_by, bound_in, is_leaf, way_to, IsMap, IsSlot}
use Rattle.weak_laws.specs.Maps.Steps.{Empties, HoldsNothing}
use Rattle.weak_laws.specs.Maps.MapLaws.{EmptyKeeps}
use Rattle.weak_laws.proofs.OfMaps.WalkLemmas.{Walk, at_any, at_back, at_step, at_stop, at_through, ends_at, ends_beside, set_else}
use Rattle.weak_laws.proofs.OfMaps.SetLemmas.{append_one, block_is, no_longer, prefixed, stays}
use Rattle.weak_laws.proofs.OfMaps.FieldLemmas.{at_field}

-- a way that doesn't go through a field that is written leads where it led
module _ (f h : Walk) (n : Value) (i : ℕ) (w : Value) (fields : List Value) (was : f n ≡ Some fields) (now : h n ≡ Some (set fields i w)) (others : (v : Value) → (v ≡ n → ⊥) → h v ≡ f v) (decide : (v : Value) → (v ≡ n) ⊎ (v ≡ n → ⊥)) where
  abbrev Apart : List ℕ → Value → Type 0
  Apart is v = (p : List ℕ) (j : ℕ) (q : List ℕ) → is ≡ p ++ j ∷ q → at f p v ≡ Some n → j ≡ i → ⊥

  at_beside : (is : List ℕ) (v : Value) → Apart is v → at h is v ≡ at f is v
  at_beside [] v apart = refl
  at_beside (j ∷ is) v apart = go (decide v) (λ x a. at_beside is x a)
    where
      later : (fs : List Value) → f v ≡ Some fs → Apart is (get_or fs j Nothing)
      later fs e p j2 q split here = apart (j ∷ p) j2 q (ap (λ (l : List ℕ). j ∷ l) split) (at_step f j p v fs e ∙ here)

      same_block : ((x : Value) → Apart is x → at h is x ≡ at f is x) → (o : Option (List Value)) → f v ≡ o → h v ≡ o → at h (j ∷ is) v ≡ at f (j ∷ is) v
      same_block rec None e eh = at_stop h j is v eh ∙ sym (at_stop f j is v e)
      same_block rec (Some fs) e eh = at_step h j is v fs eh ∙ (rec (get_or fs j Nothing) (later fs e) ∙ sym (at_step f j is v fs e))

      go : (v ≡ n) ⊎ (v ≡ n → ⊥) → ((x : Value) → Apart is x → at h is x ≡ at f is x) → at h (j ∷ is) v ≡ at f (j ∷ is) v
      go (inl same) rec =
          let e : f v ≡ Some fields = ap f same ∙ was in
          let eh : h v ≡ Some (set fields i w) = ap h same ∙ now in
          let other : j ≡ i → ⊥ = apart [] j is refl (ap Some same) in
          at_step h j is v (set fields i w) eh ∙ (ap (at h is) (set_else fields i j w Nothing other) ∙ (rec (get_or fields j Nothing) (later fields e) ∙ sym (at_step f j is v fields e)))
      go (inr other) rec = same_block rec (f v) refl (others v other)

module _ (g h : Graph) (root : Label) (map : IsMap g root) (e : Empties g h root) where
  abbrev b : Value
  b = Block e.block

  abbrev blank : Value
  blank = Int (pos 0)

  abbrev left : List Value
  left = set e.fields e.i blank

  was_in : inside g b ≡ Some e.fields
  was_in = ap fields_of e.node

  pub now_in : inside h b ≡ Some left
  now_in = ap (λ (x : Graph). inside x b) e.now ∙ ap fields_of (node_at-with_node_same g e.block (Plain e.tag left) (Plain e.tag e.fields) e.node)

  others_in : (v : Value) → (v ≡ b → ⊥) → inside h v ≡ inside g v
  others_in (Int z) other = refl
  others_in Nothing other = refl
  others_in (Block l) other = ap (λ (x : Graph). inside x (Block l)) e.now ∙ ap fields_of (node_at-with_node_other g e.block l (Plain e.tag left) (λ same. other (ap Block same)))

  -- a way to the block is the one that it has
  one_way : (p : List ℕ) → at (inside g) p (Block root) ≡ Some b → p ≡ e.p
  one_way p there = map.tree p e.p b e.fields there e.there was_in

  -- what is bound by a leaf is bound by it still
  pub emptied_binds : (k : Label) (v : Value) → bound_by h k v ≡ bound_by g k v
  emptied_binds k (Int z) = refl
  emptied_binds k Nothing = refl
  emptied_binds k (Block l) = go (block_is e.block (Block l))
    where
      go : (Block l ≡ b) ⊎ (Block l ≡ b → ⊥) → bound_by h k (Block l) ≡ bound_by g k (Block l)
      go (inl same) =
          let is : l ≡ e.block = cc in
          let before : node_at g l ≡ Some (Plain e.tag e.fields) = ap (node_at g) is ∙ e.node in
          let after : node_at h l ≡ Some (Plain e.tag left) = ap (λ (x : Graph). node_at x l) e.now ∙ (ap (node_at (_)) is ∙ node_at-with_node_same g e.block (Plain e.tag left) (Plain e.tag e.fields) e.node) in
          ap (bound_in k) after ∙ sym (ap (bound_in k) before)
      go (inr other) = ap (λ (x : Graph). bound_in k (node_at x l)) e.now ∙ ap (bound_in k) (node_at-with_node_other g e.block l (Plain e.tag left) (λ same. other (ap Block same)))

  -- any way leads to what it led to, or to 0
  pub emptied_any : (x : List ℕ) (v : Value) → at (inside h) x (Block root) ≡ Some v → (at (inside g) x (Block root) ≡ Some v) ⊎ (v ≡ blank)
  emptied_any x v there = at_any (inside g) (inside h) b e.i blank e.fields was_in now_in others_in (block_is e.block) e.below refl x (Block root) v there

  back : (x : List ℕ) (u : Value) (gs : List Value) → at (inside h) x (Block root) ≡ Some u → inside h u ≡ Some gs → at (inside g) x (Block root) ≡ Some u
  back x u gs = at_back (inside g) (inside h) b e.i blank e.fields was_in now_in others_in (block_is e.block) e.below refl x (Block root) u gs

  -- a block of the map was one before, with as many fields
  block_was : (v : Value) (gs : List Value) → inside h v ≡ Some gs → (fs : List Value) × (inside g v ≡ Some fs) × (length gs ≡ length fs)
  block_was v gs plain = go (block_is e.block v)
    where
      go : (v ≡ b) ⊎ (v ≡ b → ⊥) → (fs : List Value) × (inside g v ≡ Some fs) × (length gs ≡ length fs)
      go (inl same) =
          let is : Some gs ≡ Some left = sym plain ∙ (ap (inside h) same ∙ now_in) in
          let fields : gs ≡ left = cc in
          (e.fields, ap (inside g) same ∙ was_in, ap length fields ∙ length-set e.fields e.i blank)
      go (inr other) = (gs, sym (others_in v other) ∙ plain, refl)

  slot_kept : (v : Value) → IsSlot g v → IsSlot h v
  slot_kept (Int z) slot = slot
  slot_kept Nothing slot = tt
  slot_kept (Block l) slot = label_cases (IsSlot h (Block l)) l e.block
      (λ same. inr (left, ap (λ (x : Label). inside h (Block x)) same ∙ now_in))
      (λ other. subst (λ (o : Option Node). is_leaf o ⊎ ((fields : List Value) × (fields_of o ≡ Some fields))) (sym (ap (λ (x : Graph). node_at x l) e.now ∙ node_at-with_node_other g e.block l (Plain e.tag left) other)) slot)

  pub emptied_map : IsMap h root
  emptied_map = record {
    tree = λ x y u gs at_x at_y plain. let old = block_was u gs plain in map.tree x y u old.0 (back x u gs at_x plain) (back y u gs at_y plain) old.1;
    slots = λ x v there. slot x v (emptied_any x v there);
    wide = λ x v gs there plain. let old = block_was v gs plain in old.2 ∙ map.wide x v old.0 (back x v gs there plain) old.1;
    low = λ x v gs there plain. let old = block_was v gs plain in map.low x v old.0 (back x v gs there plain) old.1;
    own = label_cases ((fields : List Value) × (inside h (Block root) ≡ Some fields)) root e.block
        (λ same. (left, ap (λ (x : Label). inside h (Block x)) same ∙ now_in))
        (λ other. (map.own.0, others_in (Block root) (λ is. other (let same : root ≡ e.block = cc in same)) ∙ map.own.1));
  }
    where
      slot : (x : List ℕ) (v : Value) → (at (inside g) x (Block root) ≡ Some v) ⊎ (v ≡ blank) → IsSlot h v
      slot x v (inl old) = slot_kept v (map.slots x v old)
      slot x v (inr same) = subst (IsSlot h) (sym same) refl

  -- what isn't at the field or below it stands where it stood
  pub emptied_places : (q : List ℕ) → ((r : List ℕ) → q ≡ (e.p ++ e.i ∷ []) ++ r → ⊥) → at (inside h) q (Block root) ≡ at (inside g) q (Block root)
  emptied_places q apart = at_beside (inside g) (inside h) b e.i blank e.fields was_in now_in others_in (block_is e.block) q (Block root)
      (λ p j r split there hit. apart r (split ∙ (ap (λ (l : List ℕ). l ++ j ∷ r) (one_way p there) ∙ (ap (λ (n : ℕ). e.p ++ n ∷ r) hit ∙ append_one e.p e.i r))))

  -- and each block but that of the field has the fields that it had
  pub emptied_blocks : (q : List ℕ) (u : Value) → (q ≡ e.p → ⊥) → at (inside g) q (Block root) ≡ Some u → inside h u ≡ inside g u
  emptied_blocks q u apart there = others_in u (λ same. apart (one_way q (there ∙ ap Some same)))

  emptied_found : (n : ℕ) (k : Label) → found n h root k ≡ found n g root k
  emptied_found n k = go (prefixed (e.p ++ e.i ∷ []) (way_to n k))
    where
      beside : ((q : List ℕ) → way_to n k ≡ (e.p ++ e.i ∷ []) ++ q → ⊥) → ends (inside h) (way_to n k) (Block root) ≡ ends (inside g) (way_to n k) (Block root)
      beside apart = ends_beside (inside g) (inside h) b e.i blank e.fields was_in now_in others_in (block_is e.block) e.below (way_to n k) (Block root)
          (λ p j r split there hit. apart r (split ∙ (ap (λ (l : List ℕ). l ++ j ∷ r) (one_way p there) ∙ (ap (λ (m : ℕ). e.p ++ m ∷ r) hit ∙ append_one e.p e.i r))))

      at_new : at (inside h) (e.p ++ e.i ∷ []) (Block root) ≡ Some blank
      at_new = at_through (inside g) (inside h) b e.i blank e.fields was_in now_in others_in (block_is e.block) e.below e.p (Block root) e.there
          (λ p j r split there. no_longer p j r (one_way p there ∙ split))

      at_old : at (inside g) (e.p ++ e.i ∷ []) (Block root) ≡ Some e.held
      at_old = at_field g e.p (Block root) e.block e.fields e.i e.there was_in ∙ ap Some e.was

      go : ((q : List ℕ) × (way_to n k ≡ (e.p ++ e.i ∷ []) ++ q)) ⊎ ((q : List ℕ) → way_to n k ≡ (e.p ++ e.i ∷ []) ++ q → ⊥) → found n h root k ≡ found n g root k
      go (inl (q, way)) =
          let new_end : ends (inside h) (way_to n k) (Block root) ≡ blank = ap (λ (l : List ℕ). ends (inside h) l (Block root)) way ∙ (ends_at (inside h) (e.p ++ e.i ∷ []) q (Block root) blank at_new ∙ stays (inside h) q blank refl) in
          let old_end : ends (inside g) (way_to n k) (Block root) ≡ ends (inside g) q e.held = ap (λ (l : List ℕ). ends (inside g) l (Block root)) way ∙ ends_at (inside g) (e.p ++ e.i ∷ []) q (Block root) e.held at_old in
          ap (bound_by h k) new_end ∙ sym (ap (bound_by g k) old_end ∙ e.nothing k q)
      go (inr apart) = ap (bound_by h k) (beside apart) ∙ emptied_binds k (ends (inside g) (way_to n k) (Block root))

pub empty_keeps : EmptyKeeps
empty_keeps n g h root map e = (emptied_map g h root map e, emptied_found g h root map e n)

-- a leaf without a key holds nothing, nor does a block of the map whose fields are 0
pub leaf_nothing : (g : Graph) (v : Value) → inside g v ≡ None → ((k : Label) → bound_by g k v ≡ None) → HoldsNothing g v
leaf_nothing g v end none k q = ap (bound_by g k) (stays (inside g) q v end) ∙ none k

pub spent_nothing : (g : Graph) (l : Label) (fields : List Value) → inside g (Block l) ≡ Some fields → ((j : ℕ) → (inside g (get_or fields j Nothing) ≡ None) × ((k : Label) → bound_by g k (get_or fields j Nothing) ≡ None)) → ((k : Label) → bound_by g k (Block l) ≡ None) → HoldsNothing g (Block l)
spent_nothing g l fields plain zeros none k [] = none k
spent_nothing g l fields plain zeros none k (j ∷ q) = ap (bound_by g k) (step ∙ stays (inside g) q (get_or fields j Nothing) (zeros j).0) ∙ (zeros j).1 k
  where
    step : ends (inside g) (j ∷ q) (Block l) ≡ ends (inside g) q (get_or fields j Nothing)
    step = rw plain refl
