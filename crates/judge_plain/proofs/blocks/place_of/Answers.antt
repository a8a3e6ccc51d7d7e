use Rattle.std.proofs.Common.{◌≡◌, ◌<◌, ◌≤◌, true, length, get_or, arith, sym, ap, ◌∙◌}
use Rattle.model_core.specs.Graph.{same_label}
use Rattle.model_core.proofs.Graphs.GraphLemmas.{first_place, node_at_none, same_label-true}
use Rattle.judge_plain.proofs.blocks.place_of.Goals as goal

pub returns-then-eq : goal.returns-then-eq
returns-then-eq c =
    let list : c.deref-block-items.result.now ≡ c.args.graph.now = c.deref-block-items.ensures.value ∙ c.graph.view_is in
    let block = c.block-item.result in
    let same : same_label block.0 c.args.l ≡ true = sym c.if-eq.ensures in
    let here : block ≡ get_or c.args.graph.now c.loop-i.i block = rw list at c.block-item.is in
    let within : c.loop-i.i < length c.args.graph.now = rw list at c.loop-i-test.true in
    first_place c.args.graph.now c.args.l c.loop-i.i block within
    (ap (λ e. e.0) (sym here) ∙ same_label-true block.0 c.args.l same) c.loop-i.invariant

pub returns : goal.returns
returns c =
    let list : c.deref-block-items.result.now ≡ c.args.graph.now = c.deref-block-items.ensures.value ∙ c.graph.view_is in
    let past : length c.args.graph.now ≤ c.loop-i.i = rw list at c.loop-i-test.false in
    node_at_none c.args.graph.now c.args.l (λ k d h. c.loop-i.invariant k d (omega arith))
