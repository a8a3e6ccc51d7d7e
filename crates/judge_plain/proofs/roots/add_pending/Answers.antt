use Rattle.std.proofs.Common.{◌<◌, length, get_or, filter_map, option_to_list, take, append_assoc}
use Rattle.model_core.specs.declared.state.Pending.{Pending}
use Rattle.model_core.specs.declared.state.Pending.TheVariants.{Fin}
use Rattle.model_core.specs.Domains.{pending_label}
use Rattle.model_core.proofs.Graphs.ListLemmas.{filter_map_more}
use Rattle.judge_plain.proofs.roots.add_pending.Goals as goal

pub loop-pending-preserved : goal.loop-pending-preserved
loop-pending-preserved c =
    let queue = c.args.queue.now in
    let i = c.loop-pending.pending-index in
    let first : Pending = Fin 0 (record { domain = 0; serial = 0 }) 0 in
    let within : i < length queue = c.loop-pending-test.true in
    let step = filter_map_more pending_label queue i first within in
    let regroup = append_assoc c.args.labels.now.items (filter_map pending_label (take i queue)) (option_to_list (pending_label (get_or queue i first))) in
    let pushed = c.in_ok-push_label.ensures in
    let shown = c.kept_by.ensures in
    cc
