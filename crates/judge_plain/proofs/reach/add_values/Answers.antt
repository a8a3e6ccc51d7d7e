use Rattle.std.proofs.Common.{◌≡◌, ◌<◌, length, get_or, filter_map, take, option_to_list, pos, ◌∙◌, append_assoc}
use Rattle.model_core.specs.declared.graph.Value.TheVariants.{Int}
use Rattle.model_core.specs.Graph.{label_of}
use Rattle.model_core.proofs.Graphs.ListLemmas.{filter_map_more}
use Rattle.judge_plain.proofs.reach.add_values.Goals as goal

pub loop-value-preserved : goal.loop-value-preserved
loop-value-preserved c =
    let values = c.args.values.now in
    let i = c.loop-value.value-index in
    let list : c.deref-value-items.result.now ≡ values = c.deref-value-items.ensures.value ∙ c.values.view_is in
    let within : i < length values = rw list at c.loop-value-test.true in
    let step = filter_map_more label_of values i (Int (pos 0)) within in
    let regroup = append_assoc c.args.labels.now.items (filter_map label_of (take i values)) (option_to_list (label_of (get_or values i (Int (pos 0))))) in
    let pushed = c.in_ok-push_label.ensures in
    let shown = c.label.ensures in
    cc
