-- A table has one layout: what its fields lead to is determined.
use Rattle.std.proofs.Common.{◌≡◌, ℕ, zero, suc, ◌<◌, List, [], ◌∷◌, length, get_or, Some, refl, ap, sym, ◌∙◌, subst, arith, pos}
use Rattle.model_core.specs.declared.graph.Value.{Value}
use Rattle.model_core.specs.declared.graph.Value.TheVariants.{Int, Block, Nothing}
use Rattle.model_core.specs.declared.graph.Node.TheVariants.{Plain}
use Rattle.model_core.specs.Graph.{Graph, node_at}
use Rattle.weak_laws.specs.Tables.Structures.{Cell, bucket_count, Links}
use Rattle.weak_laws.specs.Tables.TableLaws.{OneLayout}

links_once : (g : Graph) (v : Value) (a b : List Cell) → Links g v a → Links g v b → a ≡ b
links_once g v [] [] x y = refl
links_once g v [] (c ∷ b) x (here, (rest, cell, later)) = let clash : Int (pos 0) ≡ Block c.node = sym x ∙ here in cc
links_once g v (c ∷ a) [] (here, (rest, cell, later)) y = let clash : Block c.node ≡ Int (pos 0) = sym here ∙ y in cc
links_once g v (c ∷ a) (d ∷ b) (here, (rest, cell, later)) (there, (next, other, more)) =
    let both : Block c.node ≡ Block d.node = sym here ∙ there in
    let nodes : c.node ≡ d.node = cc in
    let same : Some (Plain cell.tag (Block c.ephe ∷ rest ∷ [])) ≡ Some (Plain other.tag (Block d.ephe ∷ next ∷ [])) = sym cell.node ∙ (ap (node_at g) nodes ∙ other.node) in
    let ephes : c.ephe ≡ d.ephe = cc in
    let rests : rest ≡ next = cc in
    let behind : a ≡ b = links_once g next a b (subst (λ w. Links g w a) rests later) more in
    λ i. record { node = nodes i; ephe = ephes i } ∷ behind i

same_lists : (xs ys : List (List Cell)) → length xs ≡ length ys → ((i : ℕ) → i < length xs → get_or xs i [] ≡ get_or ys i []) → xs ≡ ys
same_lists [] [] same each = refl
same_lists [] (y ∷ ys) same each = absurd (omega arith)
same_lists (x ∷ xs) [] same each = absurd (omega arith)
same_lists (x ∷ xs) (y ∷ ys) same each =
    let first : x ≡ y = each zero (omega arith) in
    let rest : xs ≡ ys = same_lists xs ys (omega arith) (λ i below. each (suc i) (omega arith)) in
    λ i. first i ∷ rest i

pub layout_law : OneLayout
layout_law g root a b x y =
    let same : Some (Plain x.tag x.fields) ≡ Some (Plain y.tag y.fields) = sym x.node ∙ y.node in
    let fields : x.fields ≡ y.fields = cc in
    same_lists a b (x.count ∙ sym y.count) (λ i below.
    let few : i < bucket_count = subst (λ n. i < n) x.count below in
    links_once g (get_or y.fields i Nothing) (get_or a i []) (get_or b i []) (subst (λ (fs : List Value). Links g (get_or fs i Nothing) (get_or a i [])) fields (x.linked i few)) (y.linked i few))
