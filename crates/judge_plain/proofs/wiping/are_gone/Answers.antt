use Rattle.std.proofs.Common.{◌≡◌, get_or}
use Rattle.model_core.proofs.Graphs.GraphLemmas.{place_node}
use Rattle.judge_plain.proofs.wiping.are_gone.Goals as goal

pub returns-in-Some : goal.returns-in-Some
returns-in-Some c =
    let g = c.args.state.now.graph in
    let x = c.index.result.now in
    let here : x ≡ get_or g c.in-Some.i x = rw c.graph.view_is at c.index.ensures in
    rw (place_node g c.args.l c.in-Some.i x c.in-Some.ensures here) c.has_gone_keys.ensures
