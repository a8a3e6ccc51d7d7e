-- A map stays a map at each step, and its blocks stay where they are.
use Rattle.std.proofs.Common.{◌≡◌, ◌⊎◌, inl, inr, ℕ, zero, suc, ◌+◌, ◌<◌, List, [], ◌∷◌, ◌++◌, length, get_or, set, replicate, pos, Option, Some, None, refl, ap, sym, ◌∙◌, subst, arith}
use Rattle.std.proofs.lemmas.List.{length-set}
use Rattle.model_core.specs.declared.label.Label.{Label}
use Rattle.model_core.specs.declared.entry.Entry.{Entry}
use Rattle.model_core.specs.declared.graph.Value.{Value}
use Rattle.model_core.specs.declared.graph.Value.TheVariants.{Int, Block, Nothing}
use Rattle.model_core.specs.declared.graph.Node.{Node}
use Rattle.model_core.specs.declared.graph.Node.TheVariants.{Plain, Raw, Ephe}
use Rattle.model_core.specs.declared.state.State.{State}
use Rattle.model_core.specs.Graph.{Graph, node_at}
use Rattle.model_core.specs.Entries.{next}
use Rattle.model_core.proofs.Commands.FrameLemmas.{label_cases}
use Rattle.model_core.proofs.Graphs.GraphLemmas.{node_at-with_node_other}
use Rattle.weak_laws.specs.Tables.Thinning.{IsOutside, Thin}
use Rattle.weak_laws.proofs.OfTables.ChangeLemmas.{thin_is}
use Rattle.weak_laws.specs.Maps.Tries.{inside, fields_of, at, found, bound_by, way_to, way_length, width_at, node_width, is_leaf, IsSlot, IsMap}
use Rattle.weak_laws.specs.Maps.Steps.{WritesField, Deepens, IsUntouched, IsThinned, MapStep, Untouched, SetsKey, GoesDeeper, ClearsField, TakesKeys, LeavesBinding}
use Rattle.weak_laws.specs.Maps.MapLaws.{MapStays, PlacesStay, StepTells, ClearKeeps}
use Rattle.weak_laws.proofs.OfMaps.WalkLemmas.{at_any, at_back, at_step, at_stop}
use Rattle.weak_laws.proofs.OfMaps.SetLemmas.{block_is, was_inside, now_inside, others_inside, still_end, stays, written_tree, set_binds, each_way, found_through, found_came, found_beside}
use Rattle.weak_laws.proofs.OfMaps.StayLemmas.{blocks_stay}
use Rattle.weak_laws.proofs.OfMaps.DeepenLemmas.{deepen_keeps}
use Rattle.weak_laws.proofs.OfMaps.TreeLemmas.{deepen_keeps_tree, came, came_any, leads_nowhere}
use Rattle.weak_laws.proofs.OfMaps.TakeLemmas.{slot_left, walk_left, Left}

abbrev Slot : Option Node → Type 0
Slot o = is_leaf o ⊎ ((fields : List Value) × (fields_of o ≡ Some fields))

-- a field of a block is written
module _ (g h : Graph) (root : Label) (p : List ℕ) (i : ℕ) (held new : Value) (w : WritesField g h root p i held new) (map : IsMap g root) where
  was : inside g (Block w.block) ≡ Some w.fields
  was = was_inside g h root p i held new w map.tree

  now : inside h (Block w.block) ≡ Some (set w.fields i new)
  now = now_inside g h root p i held new w map.tree

  others : (v : Value) → (v ≡ Block w.block → ⊥) → inside h v ≡ inside g v
  others = others_inside g h root p i held new w map.tree

  pub slot_kept : (v : Value) → IsSlot g v → IsSlot h v
  slot_kept (Int z) slot = slot
  slot_kept Nothing slot = tt
  slot_kept (Block l) slot = label_cases (IsSlot h (Block l)) l w.block
      (λ same. inr (set w.fields i new, ap (λ (x : Label). inside h (Block x)) same ∙ now))
      (λ other. subst Slot (sym (ap (λ (x : Graph). node_at x l) w.now ∙ node_at-with_node_other g w.block l _ other)) slot)

  -- a block of the map was one before, with as many fields
  pub block_was : (v : Value) (gs : List Value) → inside h v ≡ Some gs → (fs : List Value) × (inside g v ≡ Some fs) × (length gs ≡ length fs)
  block_was v gs plain = go (block_is w.block v)
    where
      go : (v ≡ Block w.block) ⊎ (v ≡ Block w.block → ⊥) → (fs : List Value) × (inside g v ≡ Some fs) × (length gs ≡ length fs)
      go (inl same) =
          let is : Some gs ≡ Some (set w.fields i new) = sym plain ∙ (ap (inside h) same ∙ now) in
          let fields : gs ≡ set w.fields i new = cc in
          (w.fields, ap (inside g) same ∙ was, ap length fields ∙ length-set w.fields i new)
      go (inr other) = (gs, sym (others v other) ∙ plain, refl)

  root_stays : (fields : List Value) × (inside h (Block root) ≡ Some fields)
  root_stays = label_cases ((fields : List Value) × (inside h (Block root) ≡ Some fields)) root w.block
      (λ same. (set w.fields i new, ap (λ (x : Label). inside h (Block x)) same ∙ now))
      (λ other. (map.own.0, others (Block root) (λ e. other (let same : root ≡ w.block = cc in same)) ∙ map.own.1))

  -- by what is no block of the map
  module _ (leaf : inside g new ≡ None) where
    end : inside h new ≡ None
    end = still_end g h root p i held new new w map.tree leaf

    back : (x : List ℕ) (u : Value) (gs : List Value) → at (inside h) x (Block root) ≡ Some u → inside h u ≡ Some gs → at (inside g) x (Block root) ≡ Some u
    back x u gs = at_back (inside g) (inside h) (Block w.block) i new w.fields was now others (block_is w.block) w.below end x (Block root) u gs

    pub written_map : IsSlot g new → IsMap h root
    written_map slot = record {
      tree = written_tree g h root p i held new w leaf map.tree;
      slots = λ x v there. go x v (at_any (inside g) (inside h) (Block w.block) i new w.fields was now others (block_is w.block) w.below end x (Block root) v there);
      wide = λ x v gs there plain. let old = block_was v gs plain in old.2 ∙ map.wide x v old.0 (back x v gs there plain) old.1;
      low = λ x v gs there plain. let old = block_was v gs plain in map.low x v old.0 (back x v gs there plain) old.1;
      own = root_stays;
    }
      where
        go : (x : List ℕ) (v : Value) → (at (inside g) x (Block root) ≡ Some v) ⊎ (v ≡ new) → IsSlot h v
        go x v (inl old) = slot_kept v (map.slots x v old)
        go x v (inr same) = slot_kept v (subst (IsSlot g) (sym same) slot)

-- a leaf that binds nothing is taken out
pub clear_keeps : ClearKeeps
clear_keeps n g h root map c l = go (each_way g h root c.p c.i c.held zeroed c.writes map.tree n l)
  where
    zeroed : Value
    zeroed = Int (pos 0)

    go : ((q : List ℕ) × (way_to n l ≡ c.p ++ c.i ∷ q)) ⊎ ((q : List ℕ) → way_to n l ≡ c.p ++ c.i ∷ q → ⊥) → found n h root l ≡ found n g root l
    go (inl (q, way)) =
        found_through g h root c.p c.i c.held zeroed c.writes map.tree n l q way
        ∙ (ap (bound_by g l) (stays (inside h) q zeroed refl) ∙ sym (found_came g h root c.p c.i c.held zeroed c.writes map.tree n l q way ∙ c.empty l))
    go (inr apart) = found_beside g h root c.p c.i c.held zeroed c.writes map.tree n l apart

length_replicate : (n : ℕ) (v : Value) → length (replicate n v) ≡ n
length_replicate zero v = refl
length_replicate (suc n) v = ap suc (length_replicate n v)

longer : (p : List ℕ) (i : ℕ) → length (p ++ i ∷ []) ≡ length p + 1
longer [] i = refl
longer (a ∷ p) i = let rest = longer p i in omega (arith, rest)

narrow : (p : List ℕ) (i : ℕ) → width_at (p ++ i ∷ []) ≡ node_width
narrow [] i = refl
narrow (a ∷ p) i = refl

-- a leaf goes one block deeper
module _ (n : ℕ) (g h : Graph) (root : Label) (map : IsMap g root) (s : Deepens n g h root) where
  abbrev ms : List Value
  ms = set (replicate node_width (Int (pos 0))) s.j s.held

  held_slot : IsSlot g s.held
  held_slot = map.slots (s.p ++ s.i ∷ []) s.held (step s.p (Block root) s.writes.there)
    where
      step : (p : List ℕ) (v : Value) → at (inside g) p v ≡ Some (Block s.writes.block) → at (inside g) (p ++ s.i ∷ []) v ≡ Some s.held
      step [] v there =
          let same : v ≡ Block s.writes.block = cc in
          at_step (inside g) s.i [] v s.writes.fields (ap (inside g) same ∙ was g h root s.p s.i s.held (Block s.block) s.writes map) ∙ ap Some s.writes.was
      step (a ∷ p) v there = go (inside g v) refl (λ x e. step p x e)
        where
          go : (o : Option (List Value)) → inside g v ≡ o → ((x : Value) → at (inside g) p x ≡ Some (Block s.writes.block) → at (inside g) (p ++ s.i ∷ []) x ≡ Some s.held) → at (inside g) (a ∷ (p ++ s.i ∷ [])) v ≡ Some s.held
          go None e rec = let clash : None ≡ Some (Block s.writes.block) = sym (at_stop (inside g) a p v e) ∙ there in cc
          go (Some fs) e rec = at_step (inside g) a (p ++ s.i ∷ []) v fs e ∙ rec (get_or fs a Nothing) (sym (at_step (inside g) a p v fs e) ∙ there)

  apart : Block s.block ≡ Block s.writes.block → ⊥
  apart same = s.fresh s.p (s.writes.there ∙ ap Some (sym same))

  inner : inside h (Block s.block) ≡ Some ms
  inner = others g h root s.p s.i s.held (Block s.block) s.writes map (Block s.block) apart ∙ s.inner

  leads : (j : ℕ) → inside h (get_or ms j Nothing) ≡ None
  leads j = leads_nowhere h s.j j node_width s.held s.small (still_end g h root s.p s.i s.held (Block s.block) s.held s.writes map.tree s.writes.end)

  -- a field of the fresh block holds what a field may
  field_slot : (m k j : ℕ) → IsSlot g (get_or (set (replicate m (Int (pos 0))) k s.held) j Nothing)
  field_slot zero k j = tt
  field_slot (suc m) zero zero = held_slot
  field_slot (suc m) zero (suc j) = zero_slot m j
    where
      zero_slot : (m j : ℕ) → IsSlot g (get_or (replicate m (Int (pos 0))) j Nothing)
      zero_slot zero j = tt
      zero_slot (suc m) zero = refl
      zero_slot (suc m) (suc j) = zero_slot m j
  field_slot (suc m) (suc k) zero = refl
  field_slot (suc m) (suc k) (suc j) = field_slot m k j

  abbrev Came : List ℕ → Value → Type 0
  Came is u = (at (inside g) is (Block root) ≡ Some u) ⊎ ((u ≡ Block s.block) × ((p : List ℕ) × (is ≡ p ++ s.i ∷ []) × (at (inside g) p (Block root) ≡ Some (Block s.writes.block))))

  each : (is : List ℕ) (u : Value) (gs : List Value) → at (inside h) is (Block root) ≡ Some u → inside h u ≡ Some gs → Came is u
  each is u gs = came (inside g) (inside h) (Block s.writes.block) s.i (Block s.block) s.writes.fields ms
      (was g h root s.p s.i s.held (Block s.block) s.writes map) (now g h root s.p s.i s.held (Block s.block) s.writes map)
      (others g h root s.p s.i s.held (Block s.block) s.writes map) (block_is s.writes.block) s.writes.below inner leads is (Block root) u gs

  kept : (v : Value) → IsSlot g v → IsSlot h v
  kept = slot_kept g h root s.p s.i s.held (Block s.block) s.writes map

  old_block : (v : Value) (gs : List Value) → inside h v ≡ Some gs → (fs : List Value) × (inside g v ≡ Some fs) × (length gs ≡ length fs)
  old_block = block_was g h root s.p s.i s.held (Block s.block) s.writes map

  pub deeper_map : IsMap h root
  deeper_map = record {
    tree = deepen_keeps_tree n g h root map s;
    slots = λ x v there. slot x v (came_any (inside g) (inside h) (Block s.writes.block) s.i (Block s.block) s.writes.fields ms
        (was g h root s.p s.i s.held (Block s.block) s.writes map) (now g h root s.p s.i s.held (Block s.block) s.writes map)
        (others g h root s.p s.i s.held (Block s.block) s.writes map) (block_is s.writes.block) s.writes.below inner leads x (Block root) v there);
    wide = λ x v gs there plain. width x v gs plain (each x v gs there plain);
    low = λ x v gs there plain. depth x v gs plain (each x v gs there plain);
    own = root_stays g h root s.p s.i s.held (Block s.block) s.writes map;
  }
    where
      slot : (x : List ℕ) (v : Value) → (at (inside g) x (Block root) ≡ Some v) ⊎ ((v ≡ Block s.block) ⊎ ((j : ℕ) × (v ≡ get_or ms j Nothing))) → IsSlot h v
      slot x v (inl old) = kept v (map.slots x v old)
      slot x v (inr (inl fresh)) = subst (IsSlot h) (sym fresh) (inr (ms, inner))
      slot x v (inr (inr (j, field))) = subst (IsSlot h) (sym field) (kept (get_or ms j Nothing) (field_slot node_width s.j j))

      width : (x : List ℕ) (v : Value) (gs : List Value) → inside h v ≡ Some gs → Came x v → length gs ≡ width_at x
      width x v gs plain (inl old) = let o = old_block v gs plain in o.2 ∙ map.wide x v o.0 old o.1
      width x v gs plain (inr (is, (p, split, there))) =
          let same : Some gs ≡ Some ms = sym plain ∙ (ap (inside h) is ∙ inner) in
          let fields : gs ≡ ms = cc in
          ap length fields ∙ (length-set (replicate node_width (Int (pos 0))) s.j s.held ∙ (length_replicate node_width (Int (pos 0)) ∙ (sym (narrow p s.i) ∙ ap width_at (sym split))))

      depth : (x : List ℕ) (v : Value) (gs : List Value) → inside h v ≡ Some gs → Came x v → length x < way_length
      depth x v gs plain (inl old) = let o = old_block v gs plain in map.low x v o.0 old o.1
      depth x v gs plain (inr (is, (p, split, there))) =
          let same : p ≡ s.p = map.tree p s.p (Block s.writes.block) s.writes.fields there s.writes.there (was g h root s.p s.i s.held (Block s.block) s.writes map) in
          let here : length x ≡ length s.p + 1 = ap length split ∙ (longer p s.i ∙ ap (λ (y : List ℕ). length y + 1) same) in
          let low = s.low in
          omega (arith, here, low)

-- nothing is changed but leaves that lose their key
module _ (P : Label → Type 0) (g h : Graph) (root : Label) (map : IsMap g root) (thin : IsThinned P g h root) where
  node_slot : (m : Node) (o : Option Node) → Slot (Some m) → Thin P m o → Slot o
  node_slot (Plain tag fields) o slot thin = inr (fields, ap fields_of thin)
  node_slot (Raw tag fields) o (inl leaf) thin = absurd leaf
  node_slot (Raw tag fields) o (inr (fs, e)) thin = cc
  node_slot (Ephe [] datum) o (inl leaf) thin = absurd leaf
  node_slot (Ephe [] datum) o (inr (fs, e)) thin = cc
  node_slot (Ephe (key ∷ []) datum) o slot (inl same) = inl (subst is_leaf (sym same) tt)
  node_slot (Ephe (key ∷ []) datum) o slot (inr (l, is, gone, empty)) = inl (subst is_leaf (sym empty) tt)
  node_slot (Ephe (key ∷ key2 ∷ keys) datum) o (inl leaf) thin = absurd leaf
  node_slot (Ephe (key ∷ key2 ∷ keys) datum) o (inr (fs, e)) thin = cc

  at_there : (v : Value) (q : List ℕ) → at (inside g) q (Block root) ≡ Some v → (l : Label) (m : Node) → v ≡ Block l → node_at g l ≡ Some m → Thin P m (node_at h l)
  at_there v q there l m is node = thin q l m (there ∙ ap Some is) node

  pub inside_same : (q : List ℕ) (v : Value) → at (inside g) q (Block root) ≡ Some v → inside h v ≡ inside g v
  inside_same q v there = (slot_left P g h root v (at_there v q there) (map.slots q v there)).0

  slot_same : (q : List ℕ) (v : Value) → at (inside g) q (Block root) ≡ Some v → IsSlot h v
  slot_same q (Int z) there = map.slots q (Int z) there
  slot_same q Nothing there = tt
  slot_same q (Block l) there = go (node_at g l) refl (map.slots q (Block l) there)
    where
      go : (o : Option Node) → node_at g l ≡ o → Slot o → IsSlot h (Block l)
      go None e (inl leaf) = absurd leaf
      go None e (inr (fs, is)) = cc
      go (Some m) e slot = node_slot m (node_at h l) slot (thin q l m there e)

  -- what a way leads to, it leads to
  walk_same : (is : List ℕ) (v : Value) → ((p : List ℕ) (u : Value) → at (inside g) p v ≡ Some u → inside h u ≡ inside g u) → at (inside h) is v ≡ at (inside g) is v
  walk_same [] v same = refl
  walk_same (i ∷ is) v same = go (inside g v) refl (λ x s. walk_same is x s)
    where
      go : (o : Option (List Value)) → inside g v ≡ o → ((x : Value) → ((p : List ℕ) (u : Value) → at (inside g) p x ≡ Some u → inside h u ≡ inside g u) → at (inside h) is x ≡ at (inside g) is x) → at (inside h) (i ∷ is) v ≡ at (inside g) (i ∷ is) v
      go None e rec = at_stop (inside h) i is v (same [] v refl ∙ e) ∙ sym (at_stop (inside g) i is v e)
      go (Some fs) e rec = at_step (inside h) i is v fs (same [] v refl ∙ e)
          ∙ (rec (get_or fs i Nothing) (λ p u there. same (i ∷ p) u (at_step (inside g) i p v fs e ∙ there)) ∙ sym (at_step (inside g) i is v fs e))

  pub at_same : (is : List ℕ) → at (inside h) is (Block root) ≡ at (inside g) is (Block root)
  at_same is = walk_same is (Block root) (λ p u there. inside_same p u there)

  pub thinned_map : IsMap h root
  thinned_map = record {
    tree = λ p q u gs at_p at_q plain. map.tree p q u gs (sym (at_same p) ∙ at_p) (sym (at_same q) ∙ at_q) (sym (inside_same p u (sym (at_same p) ∙ at_p)) ∙ plain);
    slots = λ p v there. slot_same p v (sym (at_same p) ∙ there);
    wide = λ p v gs there plain. let old = sym (at_same p) ∙ there in map.wide p v gs old (sym (inside_same p v old) ∙ plain);
    low = λ p v gs there plain. let old = sym (at_same p) ∙ there in map.low p v gs old (sym (inside_same p v old) ∙ plain);
    own = (map.own.0, inside_same [] (Block root) refl ∙ map.own.1);
  }

  pub thinned_binds : (n : ℕ) (k : Label) → Left P k (found n g root k) (found n h root k)
  thinned_binds n k = walk_left P g h k (way_to n k) (Block root) thin map.slots

-- what is untouched is thinned by nothing
abbrev pub NoLabel : Label → Type 0
NoLabel l = ⊥

pub untouched_thinned : (P : Label → Type 0) (g h : Graph) (root : Label) → IsUntouched g h root → IsThinned P g h root
untouched_thinned P g h root same p l m there node = thin_is P m (node_at h l) (same p l there ∙ node)

pub untouched_binds : (n : ℕ) (g h : Graph) (root : Label) → IsMap g root → IsUntouched g h root → (k : Label) → found n h root k ≡ found n g root k
untouched_binds n g h root map same k = go (thinned_binds NoLabel g h root map (untouched_thinned NoLabel g h root same) n k)
  where
    go : Left NoLabel k (found n g root k) (found n h root k) → found n h root k ≡ found n g root k
    go (inl kept) = kept
    go (inr (none, gone)) = absurd none

pub map_stays : MapStays
map_stays n root s e map (Untouched same) = thinned_map NoLabel s.graph (next s e).graph root map (untouched_thinned NoLabel s.graph (next s e).graph root same)
map_stays n root s e map (SetsKey k new set) = written_map s.graph (next s e).graph root set.p set.i set.held new set.writes map set.leaf set.slot
map_stays n root s e map (GoesDeeper deeper) = deeper_map n s.graph (next s e).graph root map deeper
map_stays n root s e map (ClearsField cleared) = written_map s.graph (next s e).graph root cleared.p cleared.i cleared.held (Int (pos 0)) cleared.writes map refl refl
map_stays n root s e map (TakesKeys thin) = thinned_map (IsOutside s) s.graph (next s e).graph root map thin

pub places_stay : PlacesStay
places_stay n root s e map (Untouched same) q u fields there plain = at_same NoLabel s.graph (next s e).graph root map (untouched_thinned NoLabel s.graph (next s e).graph root same) q ∙ there
places_stay n root s e map (SetsKey k new set) q u fields there plain = blocks_stay s.graph (next s e).graph root set.p set.i set.held new map.tree set.writes q u fields there plain
places_stay n root s e map (GoesDeeper deeper) q u fields there plain = blocks_stay s.graph (next s e).graph root deeper.p deeper.i deeper.held (Block deeper.block) map.tree deeper.writes q u fields there plain
places_stay n root s e map (ClearsField cleared) q u fields there plain = blocks_stay s.graph (next s e).graph root cleared.p cleared.i cleared.held (Int (pos 0)) map.tree cleared.writes q u fields there plain
places_stay n root s e map (TakesKeys thin) q u fields there plain = at_same (IsOutside s) s.graph (next s e).graph root map thin q ∙ there

pub step_tells : StepTells
step_tells n root s e map (Untouched same) l = untouched_binds n s.graph (next s e).graph root map same l
step_tells n root s e map (SetsKey k new set) l =
    let law = set_binds n s.graph (next s e).graph root k new map set in
    label_cases (LeavesBinding n root s e (SetsKey k new set) l) l k (λ same. inl (same, ap (found n (next s e).graph root) same ∙ law.0)) (λ other. inr (other, law.1 l other))
step_tells n root s e map (GoesDeeper deeper) l = deepen_keeps n s.graph (next s e).graph root map deeper l
step_tells n root s e map (ClearsField cleared) l = clear_keeps n s.graph (next s e).graph root map cleared l
step_tells n root s e map (TakesKeys thin) l = thinned_binds (IsOutside s) s.graph (next s e).graph root map thin n l

-- and is a block of the map still
module _ (g h : Graph) (root : Label) (p : List ℕ) (i : ℕ) (held new : Value) (w : WritesField g h root p i held new) (map : IsMap g root) where
  written_plain : (u : Value) (fields : List Value) → inside g u ≡ Some fields → (now : List Value) × (inside h u ≡ Some now)
  written_plain u fields plain = go (block_is w.block u)
    where
      go : (u ≡ Block w.block) ⊎ (u ≡ Block w.block → ⊥) → (now : List Value) × (inside h u ≡ Some now)
      go (inl same) = (set w.fields i new, ap (inside h) same ∙ now_inside g h root p i held new w map.tree)
      go (inr other) = (fields, others_inside g h root p i held new w map.tree u other ∙ plain)

pub plain_stays : (n : ℕ) (root : Label) (s : State) (e : Entry) → IsMap s.graph root → MapStep n root s e
    → (q : List ℕ) (u : Value) (fields : List Value) → at (inside s.graph) q (Block root) ≡ Some u → inside s.graph u ≡ Some fields → (now : List Value) × (inside (next s e).graph u ≡ Some now)
plain_stays n root s e map (Untouched same) q u fields there plain =
    (fields, inside_same NoLabel s.graph (next s e).graph root map (untouched_thinned NoLabel s.graph (next s e).graph root same) q u there ∙ plain)
plain_stays n root s e map (SetsKey k new set) q u fields there plain = written_plain s.graph (next s e).graph root set.p set.i set.held new set.writes map u fields plain
plain_stays n root s e map (GoesDeeper deeper) q u fields there plain = written_plain s.graph (next s e).graph root deeper.p deeper.i deeper.held (Block deeper.block) deeper.writes map u fields plain
plain_stays n root s e map (ClearsField cleared) q u fields there plain = written_plain s.graph (next s e).graph root cleared.p cleared.i cleared.held (Int (pos 0)) cleared.writes map u fields plain
plain_stays n root s e map (TakesKeys thin) q u fields there plain = (fields, inside_same (IsOutside s) s.graph (next s e).graph root map thin q u there ∙ plain)
