use Rattle.std.proofs.Common.{◌&&◌, List, not, ap, ◌∙◌}
use Rattle.std.specs.List.{list_all}
use Rattle.model_core.specs.declared.state.LastFinaliser.{LastFinaliser}
use Rattle.model_core.specs.Entries.{ephe_holds}
use Rattle.model_core.specs.Graph.{has_label, node_at}
use Rattle.model_traces.specs.Schedules.Scheduled.{places_where}
use Rattle.judge_plain.proofs.OfScheduled.TakeLemmas.{gone_is}
use Rattle.judge_plain.proofs.scheduled.lasts.gone_lasts.Goals as goal

pub returns : goal.returns
returns c =
    let settled = c.args.settled.now.items in
    c.in_ok-places.ensures
    ∙ ap (λ (l : List LastFinaliser). places_where (λ f. not (has_label settled f.label) && list_all (λ x. not (ephe_holds f.label (node_at c.args.state.now.graph x))) settled) l) c.lasts_of-lasts.ensures
    ∙ gone_is c.args.state.now c.args.d settled c.requires.settled
