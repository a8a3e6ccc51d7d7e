-- A leaf goes one block deeper: no binding changes.
use Rattle.std.proofs.Common.{◌≡◌, ◌≢◌, ◌⊎◌, inl, inr, ℕ, zero, suc, ◌<◌, List, [], ◌∷◌, ◌++◌, length, get_or, set, replicate, pos, Option, Some, None, refl, ap, sym, ◌∙◌}
use Rattle.model_core.specs.declared.label.Label.{Label}
use Rattle.model_core.specs.declared.graph.Value.{Value}
use Rattle.model_core.specs.declared.graph.Value.TheVariants.{Int, Block, Nothing}
use Rattle.model_core.specs.declared.graph.Node.{Node}
use Rattle.model_core.specs.declared.graph.Node.TheVariants.{Plain, Raw, Ephe}
use Rattle.model_core.specs.Graph.{Graph, node_at}
use Rattle.weak_laws.specs.Maps.Tries.{inside, fields_of, ends, found, bound_by, bound_in, way_to, node_width, IsMap}
use Rattle.weak_laws.specs.Maps.Steps.{Deepens}
use Rattle.weak_laws.specs.Maps.MapLaws.{DeepenKeeps}
use Rattle.weak_laws.proofs.OfMaps.WalkLemmas.{ends_step, set_same, set_else, same_number}
use Rattle.weak_laws.proofs.OfMaps.SetLemmas.{each_way, found_through, found_came, found_beside, others_inside, stays, still_end}

-- a field of a fresh block leads nowhere and binds nothing
pub zero_inside : (g : Graph) (n j : ℕ) → inside g (get_or (replicate n (Int (pos 0))) j Nothing) ≡ None
zero_inside g zero j = refl
zero_inside g (suc n) zero = refl
zero_inside g (suc n) (suc j) = zero_inside g n j

zero_binds : (g : Graph) (k : Label) (n j : ℕ) → bound_by g k (get_or (replicate n (Int (pos 0))) j Nothing) ≡ None
zero_binds g k zero j = refl
zero_binds g k (suc n) zero = refl
zero_binds g k (suc n) (suc j) = zero_binds g k n j

-- a plain block binds nothing
plain_binds : (k : Label) (o : Option Node) (fields : List Value) → fields_of o ≡ Some fields → bound_in k o ≡ None
plain_binds k None fields e = cc
plain_binds k (Some (Plain tag fs)) fields e = refl
plain_binds k (Some (Raw tag fs)) fields e = cc
plain_binds k (Some (Ephe keys datum)) fields e = cc

-- what isn't anything is nothing
none_of : (o : Option Value) → (o ≢ None → ⊥) → o ≡ None
none_of None h = refl
none_of (Some v) h = absurd (h (λ e. cc))

no_tail : (p : List ℕ) (i j : ℕ) (q : List ℕ) → p ++ i ∷ [] ≡ p ++ i ∷ j ∷ q → ⊥
no_tail [] i j q e = cc
no_tail (a ∷ p) i j q e = no_tail p i j q cc

second_is : (p : List ℕ) (i a b : ℕ) (x y : List ℕ) → p ++ i ∷ a ∷ x ≡ p ++ i ∷ b ∷ y → a ≡ b
second_is [] i a b x y e = cc
second_is (c ∷ p) i a b x y e = second_is p i a b x y cc

deepen_at : (n : ℕ) (g h : Graph) (root : Label) (map : IsMap g root) (s : Deepens n g h root) (l : Label) (q : List ℕ) → way_to n l ≡ s.p ++ s.i ∷ q → bound_by g l (ends (inside h) q (Block s.block)) ≡ bound_by g l s.held
deepen_at n g h root map s l [] way =
    let none : bound_by g l s.held ≡ None = none_of (bound_by g l s.held) (λ some. let t = s.next l some in no_tail s.p s.i s.j t.0 (sym way ∙ t.1)) in
    plain_binds l (node_at g s.block) (set (replicate node_width (Int (pos 0))) s.j s.held) s.inner ∙ sym none
deepen_at n g h root map s l (j2 ∷ q) way = go (same_number j2 s.j)
  where
    apart : Block s.block ≡ Block s.writes.block → ⊥
    apart same = s.fresh s.p (s.writes.there ∙ ap Some (sym same))

    inner : inside h (Block s.block) ≡ Some (set (replicate node_width (Int (pos 0))) s.j s.held)
    inner = others_inside g h root s.p s.i s.held (Block s.block) s.writes map.tree (Block s.block) apart ∙ s.inner

    step : ends (inside h) (j2 ∷ q) (Block s.block) ≡ ends (inside h) q (get_or (set (replicate node_width (Int (pos 0))) s.j s.held) j2 Nothing)
    step = ends_step (inside h) j2 q (Block s.block) (set (replicate node_width (Int (pos 0))) s.j s.held) inner

    wide : s.j < length (replicate node_width (Int (pos 0)))
    wide = s.small

    go : (j2 ≡ s.j) ⊎ (j2 ≡ s.j → ⊥) → bound_by g l (ends (inside h) (j2 ∷ q) (Block s.block)) ≡ bound_by g l s.held
    go (inl same) =
        let field : get_or (set (replicate node_width (Int (pos 0))) s.j s.held) j2 Nothing ≡ s.held = ap (λ (x : ℕ). get_or (set (replicate node_width (Int (pos 0))) s.j s.held) x Nothing) same ∙ set_same (replicate node_width (Int (pos 0))) s.j s.held Nothing wide in
        let ended : ends (inside h) q s.held ≡ s.held = stays (inside h) q s.held (still_end g h root s.p s.i s.held (Block s.block) s.held s.writes map.tree s.writes.end) in
        ap (bound_by g l) (step ∙ (ap (ends (inside h) q) field ∙ ended))
    go (inr other) =
        let field : get_or (set (replicate node_width (Int (pos 0))) s.j s.held) j2 Nothing ≡ get_or (replicate node_width (Int (pos 0))) j2 Nothing = set_else (replicate node_width (Int (pos 0))) s.j j2 s.held Nothing other in
        let ended : ends (inside h) q (get_or (replicate node_width (Int (pos 0))) j2 Nothing) ≡ get_or (replicate node_width (Int (pos 0))) j2 Nothing = stays (inside h) q (get_or (replicate node_width (Int (pos 0))) j2 Nothing) (zero_inside h node_width j2) in
        let none : bound_by g l s.held ≡ None = none_of (bound_by g l s.held) (λ some. let t = s.next l some in other (second_is s.p s.i j2 s.j q t.0 (sym way ∙ t.1))) in
        ap (bound_by g l) (step ∙ (ap (ends (inside h) q) field ∙ ended)) ∙ (zero_binds g l node_width j2 ∙ sym none)

pub deepen_keeps : DeepenKeeps
deepen_keeps n g h root map s l = go (each_way g h root s.p s.i s.held (Block s.block) s.writes map.tree n l)
  where
    go : ((q : List ℕ) × (way_to n l ≡ s.p ++ s.i ∷ q)) ⊎ ((q : List ℕ) → way_to n l ≡ s.p ++ s.i ∷ q → ⊥) → found n h root l ≡ found n g root l
    go (inl (q, way)) = found_through g h root s.p s.i s.held (Block s.block) s.writes map.tree n l q way
        ∙ (deepen_at n g h root map s l q way ∙ sym (found_came g h root s.p s.i s.held (Block s.block) s.writes map.tree n l q way))
    go (inr apart) = found_beside g h root s.p s.i s.held (Block s.block) s.writes map.tree n l apart
