-- The histories of specs/Examples.antt, computed.
use Rattle.std.proofs.Common.{◌≡◌, ◌≢◌, inl, ℕ, get_or, Option, unwrap_or, is_some, Bool, true, false, cond, ap, sym, ◌∙◌, List, [], ◌∷◌, pos, Some, None, refl, rules, arith}
use Rattle.model_core.specs.declared.label.Label.{Label}
use Rattle.model_core.specs.declared.graph.Value.{Value}
use Rattle.model_core.specs.declared.graph.Value.TheVariants.{Int, Block, Nothing}
use Rattle.model_core.proofs.Graphs.GraphLemmas.{same_label-false}
use Rattle.model_core.specs.Reach.{reachable}
use Rattle.weak_laws.specs.Maps.Examples.{block, leaf_made, small_sizes, IsBoundWhileHeld, IsUnboundAfterwards, IsLegalExample, NoneLeavesIt, StoredNumberBreaksMap, PutIsAStep, root_fields, room_graph, DeepenIsAStep, IsBoundDeeper, IsEmptyOnceCleaned}
use Rattle.model_core.specs.Graph.{node_at, same_label}
use Rattle.model_core.specs.declared.graph.Node.TheVariants.{Ephe}
use Rattle.weak_laws.specs.Tables.Stages.{graph_of}
use Rattle.model_core.proofs.Graphs.GraphLemmas.{same_label-true}
use Rattle.weak_laws.specs.Maps.Tries.{low_digits, way_to, inside, at, bound_by}
use Rattle.weak_laws.proofs.OfMaps.WalkLemmas.{at_step, at_stop}
use Rattle.weak_laws.proofs.OfMaps.TreeLemmas.{leads_nowhere}

pub bound_while_held : IsBoundWhileHeld
bound_while_held = refl

pub unbound_afterwards : IsUnboundAfterwards
unbound_afterwards = refl

pub legal_example : IsLegalExample
unfolding reachable
legal_example = search rules

pub none_leaves_it : NoneLeavesIt
unfolding reachable
none_leaves_it h = let left : false ≡ true = h.1.1.1.1.1.1.1.1.1.1.1.1.1.1.0.keys in cc

pub stored_number_breaks_map : StoredNumberBreaksMap
stored_number_breaks_map = (search rules, λ map. let none : pos 7 ≡ pos 0 = map.slots (0 ∷ []) (Int (pos 7)) refl in cc)

pub put_is_a_step : PutIsAStep
put_is_a_step = record {
  p = [];
  i = 2;
  q = low_digits 6 0;
  way = refl;
  held = Int (pos 0);
  writes = record { block = block 1; tag = 0; fields = _; there = refl; node = refl; below = omega arith; was = refl; end = refl; now = refl };
  leaf = refl;
  slot = inl tt;
  alive = λ l datum it dead. (let is : block 4 ≡ l = cc in let none : Some (Ephe (Some (block 2) ∷ []) (Block (block 3))) ≡ Some (Ephe (None ∷ []) datum) = ap (node_at (graph_of small_sizes leaf_made)) is ∙ dead in cc);
  mine = λ l other. (refl, ap (λ (b : Bool). cond b (Some (Block (block 3))) None) (same_label-false (block 2) l (λ same. other (sym same))));
}

-- false is not true
clash : false ≡ true → ⊥
clash e = cc

field_ends : (i : ℕ) → inside room_graph (get_or root_fields i Nothing) ≡ None
field_ends i = leads_nowhere room_graph 2 i 512 (Block (block 4)) (omega arith) refl

-- the serial of a label that a way leads to
abbrev serial_at : Option Value → ℕ
serial_at (Some (Block l)) = l.serial
serial_at _ = 0

abbrev is_there : Option Value → Bool
is_there o = is_some o

fresh_block : (x : List ℕ) → at (inside room_graph) x (Block (block 1)) ≢ Some (Block (block 5))
fresh_block [] there = let serials : 1 ≡ 5 = ap serial_at there in absurd (omega (arith, serials))
fresh_block (i ∷ []) there =
    let field : Some (get_or root_fields i Nothing) ≡ Some (Block (block 5)) = sym (at_step (inside room_graph) i [] (Block (block 1)) root_fields refl) ∙ there in
    let is : get_or root_fields i Nothing ≡ Block (block 5) = ap (λ (o : Option Value). unwrap_or o Nothing) field in
    let none : false ≡ true = ap is_some (sym (field_ends i) ∙ ap (inside room_graph) is) in
    clash none
fresh_block (i ∷ j ∷ q) there =
    let none : false ≡ true = ap is_there (sym (at_stop (inside room_graph) j q (get_or root_fields i Nothing) (field_ends i)) ∙ (sym (at_step (inside room_graph) i (j ∷ q) (Block (block 1)) root_fields refl) ∙ there)) in
    clash none

leaf_way : (l : Label) → bound_by room_graph l (Block (block 4)) ≢ None → (q : List ℕ) × (way_to 1 l ≡ 2 ∷ 0 ∷ q)
leaf_way l some = go (same_label (block 2) l) refl
  where
    go : (b : Bool) → same_label (block 2) l ≡ b → (q : List ℕ) × (way_to 1 l ≡ 2 ∷ 0 ∷ q)
    go true e = (low_digits 5 0, ap (way_to 1) (sym (same_label-true (block 2) l e)))
    go false e = absurd (some (ap (λ (b : Bool). cond b (Some (Block (block 3))) None) e))

pub deepen_is_a_step : DeepenIsAStep
deepen_is_a_step = record {
  p = [];
  i = 2;
  j = 0;
  held = Block (block 4);
  block = block 5;
  writes = record { block = block 1; tag = 0; fields = root_fields; there = refl; node = refl; below = omega arith; was = refl; end = refl; now = refl };
  inner = refl;
  small = omega arith;
  low = omega arith;
  fresh = fresh_block;
  next = leaf_way;
}

pub bound_deeper : IsBoundDeeper
bound_deeper = (search rules, refl)

pub empty_once_cleaned : IsEmptyOnceCleaned
unfolding reachable
empty_once_cleaned = (search rules, refl)
