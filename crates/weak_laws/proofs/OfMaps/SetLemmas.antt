-- One field of a map is written: what its keys are bound to then.
use Rattle.std.proofs.Common.{◌≡◌, ◌≢◌, ◌⊎◌, inl, inr, ℕ, Bool, true, false, eqb, eqb-true, eq-eqb, List, [], ◌∷◌, ◌++◌, set, Option, Some, None, refl, ap, sym, ◌∙◌}
use Rattle.model_core.specs.declared.label.Label.{Label}
use Rattle.model_core.specs.declared.graph.Value.{Value}
use Rattle.model_core.specs.declared.graph.Value.TheVariants.{Int, Block, Nothing}
use Rattle.model_core.specs.declared.graph.Node.TheVariants.{Plain}
use Rattle.model_core.specs.Graph.{Graph, same_label, node_at, with_node}
use Rattle.model_core.proofs.Graphs.GraphLemmas.{same_label-true, same_label_refl, node_at-with_node_same, node_at-with_node_other}
use Rattle.weak_laws.specs.Maps.Tries.{inside, fields_of, ends, at, found, bound_by, bound_in, way_to, IsTree}
use Rattle.weak_laws.specs.Maps.Steps.{WritesField}
use Rattle.weak_laws.specs.Maps.MapLaws.{SetBinds}
use Rattle.weak_laws.proofs.OfMaps.WalkLemmas.{ends_beside, at_through, at_back, ends_at, ends_step, ends_stop}

-- whether a list begins with another
pub prefixed : (x is : List ℕ) → ((q : List ℕ) × (is ≡ x ++ q)) ⊎ ((q : List ℕ) → is ≡ x ++ q → ⊥)
prefixed [] is = inl (is, refl)
prefixed (a ∷ x) [] = inr (λ q e. cc)
prefixed (a ∷ x) (b ∷ is) = go (eqb b a) refl (prefixed x is)
  where
    go : (c : Bool) → eqb b a ≡ c → ((q : List ℕ) × (is ≡ x ++ q)) ⊎ ((q : List ℕ) → is ≡ x ++ q → ⊥) → ((q : List ℕ) × (b ∷ is ≡ (a ∷ x) ++ q)) ⊎ ((q : List ℕ) → b ∷ is ≡ (a ∷ x) ++ q → ⊥)
    go true e (inl (q, split)) = let same : b ≡ a = eqb-true b a e in inl (q, ap (λ (n : ℕ). n ∷ is) same ∙ ap (λ (l : List ℕ). a ∷ l) split)
    go true e (inr none) = inr (λ q split. none q cc)
    go false e rest = inr (λ q split. let same : b ≡ a = cc in let clash : true ≡ false = sym (eq-eqb b a same) ∙ e in cc)

-- a list with one more in its midst is no part of itself
pub no_longer : (p : List ℕ) (j : ℕ) (q : List ℕ) → p ≡ p ++ j ∷ q → ⊥
no_longer [] j q e = cc
no_longer (a ∷ p) j q e = no_longer p j q cc

pub block_is : (l : Label) (v : Value) → (v ≡ Block l) ⊎ (v ≡ Block l → ⊥)
block_is l (Int z) = inr (λ e. cc)
block_is l Nothing = inr (λ e. cc)
block_is l (Block k) = go (same_label k l) refl
  where
    go : (b : Bool) → same_label k l ≡ b → (Block k ≡ Block l) ⊎ (Block k ≡ Block l → ⊥)
    go true e = inl (ap Block (same_label-true k l e))
    go false e = inr (λ same. let at : k ≡ l = cc in let clash : true ≡ false = sym (same_label_refl l) ∙ (ap (λ (x : Label). same_label x l) (sym at) ∙ e) in cc)

-- what stands behind a prefix
pub tail_is : (p : List ℕ) (a b : ℕ) (x y : List ℕ) → p ++ a ∷ x ≡ p ++ b ∷ y → a ≡ b
tail_is [] a b x y e = cc
tail_is (c ∷ p) a b x y e = tail_is p a b x y cc

pub append_one : (p : List ℕ) (i : ℕ) (q : List ℕ) → p ++ i ∷ q ≡ (p ++ i ∷ []) ++ q
append_one [] i q = refl
append_one (a ∷ p) i q = ap (λ (l : List ℕ). a ∷ l) (append_one p i q)

module _ (g h : Graph) (root : Label) (p : List ℕ) (i : ℕ) (held new : Value) (writes : WritesField g h root p i held new) (tree : IsTree (inside g) (Block root)) where
  here : Value
  here = Block writes.block

  pub was_inside : inside g (Block writes.block) ≡ Some writes.fields
  was_inside = rw writes.node refl

  pub now_inside : inside h (Block writes.block) ≡ Some (set writes.fields i new)
  now_inside = ap (λ (x : Graph). inside x (Block writes.block)) writes.now
      ∙ ap fields_of (node_at-with_node_same g writes.block (Plain writes.tag (set writes.fields i new)) (Plain writes.tag writes.fields) writes.node)

  pub others_inside : (v : Value) → (v ≡ Block writes.block → ⊥) → inside h v ≡ inside g v
  others_inside (Int z) other = refl
  others_inside Nothing other = refl
  others_inside (Block l) other = ap (λ (x : Graph). inside x (Block l)) writes.now
      ∙ ap fields_of (node_at-with_node_other g writes.block l (Plain writes.tag (set writes.fields i new)) (λ e. other (ap Block e)))

  -- a way that goes through the field comes to what was written, and goes on from there
  pub through : (q : List ℕ) → ends (inside h) (p ++ i ∷ q) (Block root) ≡ ends (inside h) q new
  through q = ap (λ (l : List ℕ). ends (inside h) l (Block root)) (append_one p i q)
      ∙ ends_at (inside h) (p ++ i ∷ []) q (Block root) new
      (at_through (inside g) (inside h) (Block writes.block) i new writes.fields was_inside now_inside others_inside (block_is writes.block) writes.below p (Block root) writes.there
      (λ p2 j x split there. let same : p2 ≡ p = tree p2 p (Block writes.block) writes.fields there writes.there was_inside in
      no_longer p2 j x (same ∙ split)))

  -- it came to what was held
  pub came : (q : List ℕ) → ends (inside g) (p ++ i ∷ q) (Block root) ≡ held
  came q = ends_at (inside g) p (i ∷ q) (Block root) (Block writes.block) writes.there
      ∙ (ends_step (inside g) i q (Block writes.block) writes.fields was_inside
      ∙ (ap (ends (inside g) q) writes.was ∙ stop q))
    where
      stop : (x : List ℕ) → ends (inside g) x held ≡ held
      stop [] = refl
      stop (j ∷ x) = ends_stop (inside g) j x held writes.end

  -- any other way leads where it led
  pub beside : (is : List ℕ) → ((q : List ℕ) → is ≡ p ++ i ∷ q → ⊥) → ends (inside h) is (Block root) ≡ ends (inside g) is (Block root)
  beside is apart = ends_beside (inside g) (inside h) (Block writes.block) i new writes.fields was_inside now_inside others_inside (block_is writes.block) writes.below is (Block root)
      (λ p2 j q split there hit. let same : p2 ≡ p = tree p2 p (Block writes.block) writes.fields there writes.there was_inside in
      apart q (split ∙ (ap (λ (l : List ℕ). l ++ j ∷ q) same ∙ ap (λ (n : ℕ). p ++ n ∷ q) hit)))

  -- a leaf binds what it bound: the block that was written is none
  pub binds_same : (k : Label) (v : Value) → bound_by h k v ≡ bound_by g k v
  binds_same k (Int z) = refl
  binds_same k Nothing = refl
  binds_same k (Block l) = go (block_is writes.block (Block l))
    where
      go : (Block l ≡ Block writes.block) ⊎ (Block l ≡ Block writes.block → ⊥) → bound_by h k (Block l) ≡ bound_by g k (Block l)
      go (inl same) =
          let at : l ≡ writes.block = cc in
          let before : node_at g l ≡ Some (Plain writes.tag writes.fields) = ap (node_at g) at ∙ writes.node in
          let after : node_at h l ≡ Some (Plain writes.tag (set writes.fields i new)) = ap (λ (x : Graph). node_at x l) writes.now ∙ (ap (node_at (with_node g writes.block (Plain writes.tag (set writes.fields i new)))) at ∙ node_at-with_node_same g writes.block (Plain writes.tag (set writes.fields i new)) (Plain writes.tag writes.fields) writes.node) in
          ap (bound_in k) after ∙ sym (ap (bound_in k) before)
      go (inr other) = ap (λ (x : Graph). bound_in k (node_at x l)) writes.now
          ∙ ap (bound_in k) (node_at-with_node_other g writes.block l (Plain writes.tag (set writes.fields i new)) (λ e. other (ap Block e)))

  -- what a key is bound to afterwards: by its way, from what was written if it goes through the field
  pub found_through : (n : ℕ) (k : Label) (q : List ℕ) → way_to n k ≡ p ++ i ∷ q → found n h root k ≡ bound_by g k (ends (inside h) q new)
  found_through n k q way = ap (λ (l : List ℕ). bound_by h k (ends (inside h) l (Block root))) way ∙ (ap (bound_by h k) (through q) ∙ binds_same k (ends (inside h) q new))

  pub found_came : (n : ℕ) (k : Label) (q : List ℕ) → way_to n k ≡ p ++ i ∷ q → found n g root k ≡ bound_by g k held
  found_came n k q way = ap (λ (l : List ℕ). bound_by g k (ends (inside g) l (Block root))) way ∙ ap (bound_by g k) (came q)

  pub found_beside : (n : ℕ) (k : Label) → ((q : List ℕ) → way_to n k ≡ p ++ i ∷ q → ⊥) → found n h root k ≡ found n g root k
  found_beside n k apart = ap (bound_by h k) (beside (way_to n k) apart) ∙ binds_same k (ends (inside g) (way_to n k) (Block root))

  -- every key's way goes through the field or doesn't
  pub each_way : (n : ℕ) (k : Label) → ((q : List ℕ) × (way_to n k ≡ p ++ i ∷ q)) ⊎ ((q : List ℕ) → way_to n k ≡ p ++ i ∷ q → ⊥)
  each_way n k = go (prefixed (p ++ i ∷ []) (way_to n k))
    where
      go : ((q : List ℕ) × (way_to n k ≡ (p ++ i ∷ []) ++ q)) ⊎ ((q : List ℕ) → way_to n k ≡ (p ++ i ∷ []) ++ q → ⊥) → ((q : List ℕ) × (way_to n k ≡ p ++ i ∷ q)) ⊎ ((q : List ℕ) → way_to n k ≡ p ++ i ∷ q → ⊥)
      go (inl (q, e)) = inl (q, e ∙ sym (append_one p i q))
      go (inr none) = inr (λ q e. none q (e ∙ append_one p i q))

-- nothing goes on from a value that is no plain block
pub stays : (f : Value → Option (List Value)) (q : List ℕ) (v : Value) → f v ≡ None → ends f q v ≡ v
stays f [] v e = refl
stays f (j ∷ q) v e = ends_stop f j q v e

-- a leaf that isn't the written block is none afterwards either
pub still_end : (g h : Graph) (root : Label) (p : List ℕ) (i : ℕ) (held new v : Value) (writes : WritesField g h root p i held new) (tree : IsTree (inside g) (Block root)) → inside g v ≡ None → inside h v ≡ None
still_end g h root p i held new v writes tree e =
    others_inside g h root p i held new writes tree v (λ same. let clash : None ≡ Some writes.fields = sym e ∙ (ap (inside g) same ∙ was_inside g h root p i held new writes tree) in cc) ∙ e

pub set_binds : SetBinds
set_binds n g h root k new map s =
    let goes : ends (inside h) s.q new ≡ new = stays (inside h) s.q new (still_end g h root s.p s.i s.held new new s.writes map.tree s.leaf) in
    (found_through g h root s.p s.i s.held new s.writes map.tree n k s.q s.way ∙ ap (bound_by g k) goes, other)
  where
    other : (l : Label) → l ≢ k → found n h root l ≡ found n g root l
    other l differ = go (each_way g h root s.p s.i s.held new s.writes map.tree n l)
      where
        go : ((q : List ℕ) × (way_to n l ≡ s.p ++ s.i ∷ q)) ⊎ ((q : List ℕ) → way_to n l ≡ s.p ++ s.i ∷ q → ⊥) → found n h root l ≡ found n g root l
        go (inl (q, way)) =
            let ended : ends (inside h) q new ≡ new = stays (inside h) q new (still_end g h root s.p s.i s.held new new s.writes map.tree s.leaf) in
            found_through g h root s.p s.i s.held new s.writes map.tree n l q way ∙ (ap (bound_by g l) ended ∙ ((s.mine l differ).1 ∙ sym (found_came g h root s.p s.i s.held new s.writes map.tree n l q way ∙ (s.mine l differ).0)))
        go (inr apart) = found_beside g h root s.p s.i s.held new s.writes map.tree n l apart

-- where what was written is no plain block, no block stands at two places
pub written_tree : (g h : Graph) (root : Label) (p : List ℕ) (i : ℕ) (held new : Value) → WritesField g h root p i held new → inside g new ≡ None → IsTree (inside g) (Block root) → IsTree (inside h) (Block root)
written_tree g h root p i held new w leaf tree = λ a b u gs at_a at_b plain. go a b u gs at_a at_b plain (block_is w.block u)
  where
    end : inside h new ≡ None
    end = still_end g h root p i held new new w tree leaf

    back : (x : List ℕ) (u : Value) (gs : List Value) → at (inside h) x (Block root) ≡ Some u → inside h u ≡ Some gs → at (inside g) x (Block root) ≡ Some u
    back x u gs = at_back (inside g) (inside h) (Block w.block) i new w.fields (was_inside g h root p i held new w tree) (now_inside g h root p i held new w tree)
        (others_inside g h root p i held new w tree) (block_is w.block) w.below end x (Block root) u gs

    go : (a b : List ℕ) (u : Value) (gs : List Value) → at (inside h) a (Block root) ≡ Some u → at (inside h) b (Block root) ≡ Some u → inside h u ≡ Some gs → (u ≡ Block w.block) ⊎ (u ≡ Block w.block → ⊥) → a ≡ b
    go a b u gs at_a at_b plain (inl same) = tree a b u w.fields (back a u gs at_a plain) (back b u gs at_b plain) (ap (inside g) same ∙ was_inside g h root p i held new w tree)
    go a b u gs at_a at_b plain (inr other) = tree a b u gs (back a u gs at_a plain) (back b u gs at_b plain) (sym (others_inside g h root p i held new w tree u other) ∙ plain)
