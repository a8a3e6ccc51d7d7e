-- A bucket has fewer cells than labels were given out: each cell has two blocks.
use Rattle.std.proofs.Common.{◌≡◌, ℕ, zero, suc, ◌+◌, ◌≤◌, Bool, false, cond, IsTrue, Some, subst, ⊎_elim, List, [], ◌∷◌, ◌++◌, length, get_or, flat_map, ap, ◌∙◌, arith, length-append}
use Rattle.std.proofs.lemmas.List.{length-map}
use Rattle.model_core.specs.declared.label.Label.{Label}
use Rattle.model_core.specs.declared.entry.Entry.{Entry}
use Rattle.model_core.specs.declared.state.Sizes.{Sizes}
use Rattle.model_core.specs.Domains.{domain_at}
use Rattle.model_core.specs.declared.graph.Node.{Node}
use Rattle.model_core.specs.Graph.{Graph, has_label, labels, node_at, same_label}
use Rattle.model_core.specs.History.{Legal}
use Rattle.model_core.proofs.Reach.LabelListLemmas.{length_within}
use Rattle.model_core.proofs.Reach.ReachLemmas.{or_left, or_right, true_or_false}
use Rattle.weak_laws.specs.Tables.Structures.{Cell, IsTable, cell_labels, table_labels}
use Rattle.weak_laws.specs.Tables.Thinning.{state_of}
use Rattle.weak_laws.proofs.OfTables.GrowLemmas.{table_there}
use Rattle.weak_laws.proofs.OfTables.SizeLemmas.{blocks_counted, label_there}

-- each cell has two blocks
two_each : (cells : List Cell) → length cells + length cells ≤ length (cell_labels cells)
two_each [] = omega arith
two_each (c ∷ cells) = let rest = two_each cells in omega (arith, rest)

in_chain : (css : List (List Cell)) (i : ℕ) → length (get_or css i []) + length (get_or css i []) ≤ length (flat_map cell_labels css)
in_chain [] i = omega arith
in_chain (cells ∷ css) zero =
    let here = two_each cells in
    let both : length (flat_map cell_labels (cells ∷ css)) ≡ length (cell_labels cells) + length (flat_map cell_labels css) = length-append (cell_labels cells) (flat_map cell_labels css) in
    omega (arith, here, both)
in_chain (cells ∷ css) (suc i) =
    let rest = in_chain css i in
    let both : length (flat_map cell_labels (cells ∷ css)) ≡ length (cell_labels cells) + length (flat_map cell_labels css) = length-append (cell_labels cells) (flat_map cell_labels css) in
    omega (arith, rest, both)

-- those of a bucket that were passed
passed_few : (z : Sizes) (h : List Entry) (root : Label) (chains : List (List Cell)) (i : ℕ) (done rest : List Cell) → z.domains ≡ 1 → Legal z h → IsTable (state_of z h).graph root chains → get_or chains i [] ≡ done ++ rest
    → length done + length done ≤ (domain_at (state_of z h) 0).serial
passed_few z h root chains i done rest one legal table split =
    let g = (state_of z h).graph in
    let two = in_chain chains i in
    let within : length (table_labels root chains) ≤ length (labels g) =
    length_within (table_labels root chains) (labels g) table.once (λ l here. let there = table_there g root chains l table here in label_there g l there.0 there.1) in
    let count : length (labels g) ≡ length g = length-map g _ in
    let most = blocks_counted z h one legal in
    let parts : length (get_or chains i []) ≡ length done + length rest = ap length split ∙ length-append done rest in
    omega (arith, two, within, count, most, parts)

-- so a walk that may pass so many cells as there are labels passes all
pub never_all : (z : Sizes) (h : List Entry) (root : Label) (chains : List (List Cell)) (i : ℕ) (done rest : List Cell) → z.domains ≡ 1 → Legal z h → IsTable (state_of z h).graph root chains → get_or chains i [] ≡ done ++ rest
    → (n left : ℕ) → length done ≡ n → n ≡ 4294967295 → (domain_at (state_of z h) 0).serial + left ≡ 4294967295 → ⊥
never_all z h root chains i done rest one legal table split n left passed all labels = let few = passed_few z h root chains i done rest one legal table split in omega (arith, few, passed, all, labels)
