-- A leaf goes one block deeper: no block stands at two places then.
use Rattle.std.proofs.Common.{◌≡◌, ◌⊎◌, inl, inr, ℕ, zero, suc, ◌<◌, List, [], ◌∷◌, ◌++◌, length, get_or, set, replicate, pos, Option, Some, None, refl, ap, sym, ◌∙◌, arith}
use Rattle.model_core.specs.declared.label.Label.{Label}
use Rattle.model_core.specs.declared.graph.Value.{Value}
use Rattle.model_core.specs.declared.graph.Value.TheVariants.{Int, Block, Nothing}
use Rattle.model_core.specs.Graph.{Graph}
use Rattle.weak_laws.specs.Maps.Tries.{inside, at, node_width, IsMap, IsTree}
use Rattle.weak_laws.specs.Maps.Steps.{Deepens}
use Rattle.weak_laws.proofs.OfMaps.WalkLemmas.{Walk, set_same, set_else, same_number, at_step, at_stop}
use Rattle.weak_laws.proofs.OfMaps.SetLemmas.{block_is, was_inside, now_inside, others_inside, still_end}
use Rattle.weak_laws.proofs.OfMaps.DeepenLemmas.{zero_inside}

-- field i of the block n is written and holds w, a block whose fields lead to no block. Each way to a block leads to what it led to, or to w through the field
module _ (f h : Walk) (n : Value) (i : ℕ) (w : Value) (fields ms : List Value) (was : f n ≡ Some fields) (now : h n ≡ Some (set fields i w)) (others : (v : Value) → (v ≡ n → ⊥) → h v ≡ f v)
    (decide : (v : Value) → (v ≡ n) ⊎ (v ≡ n → ⊥)) (below : i < length fields) (inner : h w ≡ Some ms) (leads : (j : ℕ) → h (get_or ms j Nothing) ≡ None) where
  abbrev Came : List ℕ → Value → Value → Type 0
  Came is v u = (at f is v ≡ Some u) ⊎ ((u ≡ w) × ((p : List ℕ) × (is ≡ p ++ i ∷ []) × (at f p v ≡ Some n)))

  -- from w a way to a block is no step long
  from_w : (is : List ℕ) (u : Value) (gs : List Value) → at h is w ≡ Some u → h u ≡ Some gs → (is ≡ []) × (u ≡ w)
  from_w [] u gs here plain = (refl, cc)
  from_w (j ∷ []) u gs here plain =
      let same : get_or ms j Nothing ≡ u = cc_some (get_or ms j Nothing) u (sym (at_step h j [] w ms inner) ∙ here) in
      let clash : None ≡ Some gs = sym (leads j) ∙ (ap h same ∙ plain) in cc
    where
      cc_some : (a b : Value) → Some a ≡ Some b → a ≡ b
      cc_some a b e = cc
  from_w (j ∷ k ∷ is) u gs here plain =
      let clash : None ≡ Some u = sym (at_stop h k is (get_or ms j Nothing) (leads j)) ∙ (sym (at_step h j (k ∷ is) w ms inner) ∙ here) in cc

  pub came : (is : List ℕ) (v u : Value) (gs : List Value) → at h is v ≡ Some u → h u ≡ Some gs → Came is v u
  came [] v u gs here plain = inl here
  came (j ∷ is) v u gs here plain = go (λ x a. came is x u gs a plain) (decide v)
    where
      further : (fs : List Value) → f v ≡ Some fs → Came is (get_or fs j Nothing) u → Came (j ∷ is) v u
      further fs e (inl old) = inl (at_step f j is v fs e ∙ old)
      further fs e (inr (is_w, (p, split, there))) = inr (is_w, (j ∷ p, ap (λ (l : List ℕ). j ∷ l) split, at_step f j p v fs e ∙ there))

      stays : ((x : Value) → at h is x ≡ Some u → Came is x u) → (o : Option (List Value)) → f v ≡ o → h v ≡ o → Came (j ∷ is) v u
      stays rec None e eh = let clash : None ≡ Some u = sym (at_stop h j is v eh) ∙ here in cc
      stays rec (Some fs) e eh = further fs e (rec (get_or fs j Nothing) (sym (at_step h j is v fs eh) ∙ here))

      at_n : ((x : Value) → at h is x ≡ Some u → Came is x u) → v ≡ n → (j ≡ i) ⊎ (j ≡ i → ⊥) → Came (j ∷ is) v u
      at_n rec same (inr other) = further fields (ap f same ∙ was) (rec (get_or fields j Nothing)
          (ap (at h is) (sym (set_else fields i j w Nothing other)) ∙ (sym (at_step h j is v (set fields i w) (ap h same ∙ now)) ∙ here)))
      at_n rec same (inl hit) =
          let end = from_w is u gs (ap (at h is) (sym (ap (λ (k : ℕ). get_or (set fields i w) k Nothing) hit ∙ set_same fields i w Nothing below)) ∙ (sym (at_step h j is v (set fields i w) (ap h same ∙ now)) ∙ here)) plain in
          inr (end.1, ([], ap (λ (l : List ℕ). j ∷ l) end.0 ∙ ap (λ (k : ℕ). k ∷ []) hit, ap Some same))

      go : ((x : Value) → at h is x ≡ Some u → Came is x u) → (v ≡ n) ⊎ (v ≡ n → ⊥) → Came (j ∷ is) v u
      go rec (inl same) = at_n rec same (same_number j i)
      go rec (inr other) = stays rec (f v) refl (others v other)

  -- any way leads to what it led to, to w, or to one of its fields
  abbrev CameAny : List ℕ → Value → Value → Type 0
  CameAny is v u = (at f is v ≡ Some u) ⊎ ((u ≡ w) ⊎ ((j : ℕ) × (u ≡ get_or ms j Nothing)))

  any_from_w : (is : List ℕ) (u : Value) → at h is w ≡ Some u → (u ≡ w) ⊎ ((j : ℕ) × (u ≡ get_or ms j Nothing))
  any_from_w [] u here = let same : w ≡ u = cc in inl (sym same)
  any_from_w (j ∷ []) u here =
      let same : Some (get_or ms j Nothing) ≡ Some u = sym (at_step h j [] w ms inner) ∙ here in
      inr (j, (let field : get_or ms j Nothing ≡ u = cc in sym field))
  any_from_w (j ∷ k ∷ is) u here =
      let clash : None ≡ Some u = sym (at_stop h k is (get_or ms j Nothing) (leads j)) ∙ (sym (at_step h j (k ∷ is) w ms inner) ∙ here) in cc

  pub came_any : (is : List ℕ) (v u : Value) → at h is v ≡ Some u → CameAny is v u
  came_any [] v u here = inl here
  came_any (j ∷ is) v u here = go (λ x a. came_any is x u a) (decide v)
    where
      further : (fs : List Value) → f v ≡ Some fs → CameAny is (get_or fs j Nothing) u → CameAny (j ∷ is) v u
      further fs e (inl old) = inl (at_step f j is v fs e ∙ old)
      further fs e (inr new) = inr new

      stays : ((x : Value) → at h is x ≡ Some u → CameAny is x u) → (o : Option (List Value)) → f v ≡ o → h v ≡ o → CameAny (j ∷ is) v u
      stays rec None e eh = let clash : None ≡ Some u = sym (at_stop h j is v eh) ∙ here in cc
      stays rec (Some fs) e eh = further fs e (rec (get_or fs j Nothing) (sym (at_step h j is v fs eh) ∙ here))

      at_n : ((x : Value) → at h is x ≡ Some u → CameAny is x u) → v ≡ n → (j ≡ i) ⊎ (j ≡ i → ⊥) → CameAny (j ∷ is) v u
      at_n rec same (inr other) = further fields (ap f same ∙ was) (rec (get_or fields j Nothing)
          (ap (at h is) (sym (set_else fields i j w Nothing other)) ∙ (sym (at_step h j is v (set fields i w) (ap h same ∙ now)) ∙ here)))
      at_n rec same (inl hit) =
          inr (any_from_w is u (ap (at h is) (sym (ap (λ (k : ℕ). get_or (set fields i w) k Nothing) hit ∙ set_same fields i w Nothing below)) ∙ (sym (at_step h j is v (set fields i w) (ap h same ∙ now)) ∙ here)))

      go : ((x : Value) → at h is x ≡ Some u → CameAny is x u) → (v ≡ n) ⊎ (v ≡ n → ⊥) → CameAny (j ∷ is) v u
      go rec (inl same) = at_n rec same (same_number j i)
      go rec (inr other) = stays rec (f v) refl (others v other)

pub leads_nowhere : (h : Graph) (j k n : ℕ) (held : Value) → j < n → inside h held ≡ None → inside h (get_or (set (replicate n (Int (pos 0))) j held) k Nothing) ≡ None
leads_nowhere h j k n held small end = go (same_number k j)
  where
    go : (k ≡ j) ⊎ (k ≡ j → ⊥) → inside h (get_or (set (replicate n (Int (pos 0))) j held) k Nothing) ≡ None
    go (inl same) = at_hit n j k small same
      where
        at_hit : (n j k : ℕ) → j < n → k ≡ j → inside h (get_or (set (replicate n (Int (pos 0))) j held) k Nothing) ≡ None
        at_hit zero j k small same = absurd (omega (arith, small))
        at_hit (suc n) zero zero small same = end
        at_hit (suc n) zero (suc k) small same = cc
        at_hit (suc n) (suc j) zero small same = cc
        at_hit (suc n) (suc j) (suc k) small same = at_hit n j k (omega (arith, small)) (omega (arith, same))
    go (inr other) = ap (inside h) (set_else (replicate n (Int (pos 0))) j k held Nothing other) ∙ zero_inside h n k

pub deepen_keeps_tree : (n : ℕ) (g h : Graph) (root : Label) → IsMap g root → Deepens n g h root → IsTree (inside h) (Block root)
deepen_keeps_tree n g h root map s = λ a b u gs at_a at_b plain. both a b u gs plain (each a u gs at_a plain) (each b u gs at_b plain)
  where
    apart : Block s.block ≡ Block s.writes.block → ⊥
    apart same = s.fresh s.p (s.writes.there ∙ ap Some (sym same))

    inner : inside h (Block s.block) ≡ Some (set (replicate node_width (Int (pos 0))) s.j s.held)
    inner = others_inside g h root s.p s.i s.held (Block s.block) s.writes map.tree (Block s.block) apart ∙ s.inner

    leads : (j : ℕ) → inside h (get_or (set (replicate node_width (Int (pos 0))) s.j s.held) j Nothing) ≡ None
    leads j = leads_nowhere h s.j j node_width s.held s.small (still_end g h root s.p s.i s.held (Block s.block) s.held s.writes map.tree s.writes.end)

    Either : List ℕ → Value → Type 0
    Either is u = (at (inside g) is (Block root) ≡ Some u) ⊎ ((u ≡ Block s.block) × ((p : List ℕ) × (is ≡ p ++ s.i ∷ []) × (at (inside g) p (Block root) ≡ Some (Block s.writes.block))))

    each : (is : List ℕ) (u : Value) (gs : List Value) → at (inside h) is (Block root) ≡ Some u → inside h u ≡ Some gs → Either is u
    each is u gs = came (inside g) (inside h) (Block s.writes.block) s.i (Block s.block) s.writes.fields (set (replicate node_width (Int (pos 0))) s.j s.held)
        (was_inside g h root s.p s.i s.held (Block s.block) s.writes map.tree) (now_inside g h root s.p s.i s.held (Block s.block) s.writes map.tree)
        (others_inside g h root s.p s.i s.held (Block s.block) s.writes map.tree) (block_is s.writes.block) s.writes.below inner leads is (Block root) u gs

    in_g : (u : Value) (gs : List Value) → inside h u ≡ Some gs → (u ≡ Block s.writes.block) ⊎ (u ≡ Block s.writes.block → ⊥) → (fs : List Value) × (inside g u ≡ Some fs)
    in_g u gs plain (inl same) = (s.writes.fields, ap (inside g) same ∙ was_inside g h root s.p s.i s.held (Block s.block) s.writes map.tree)
    in_g u gs plain (inr other) = (gs, sym (others_inside g h root s.p s.i s.held (Block s.block) s.writes map.tree u other) ∙ plain)

    both : (a b : List ℕ) (u : Value) (gs : List Value) → inside h u ≡ Some gs → Either a u → Either b u → a ≡ b
    both a b u gs plain (inl old_a) (inl old_b) = let fs = in_g u gs plain (block_is s.writes.block u) in map.tree a b u fs.0 old_a old_b fs.1
    both a b u gs plain (inl old_a) (inr (new, rest)) = absurd (s.fresh a (old_a ∙ ap Some new))
    both a b u gs plain (inr (new, rest)) (inl old_b) = absurd (s.fresh b (old_b ∙ ap Some new))
    both a b u gs plain (inr (new_a, (p, split_a, there_a))) (inr (new_b, (q, split_b, there_b))) =
        let same : p ≡ q = map.tree p q (Block s.writes.block) s.writes.fields there_a there_b (was_inside g h root s.p s.i s.held (Block s.block) s.writes map.tree) in
        split_a ∙ (ap (λ (l : List ℕ). l ++ s.i ∷ []) same ∙ sym split_b)
