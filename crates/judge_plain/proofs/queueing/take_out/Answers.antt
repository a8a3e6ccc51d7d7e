use Rattle.std.proofs.Common.{◌≡◌, ◌∷◌, ◌-◌, ◌≤◌, List, length, get_or, drop, ap, sym, ◌∙◌, arith}
use Rattle.model_core.specs.declared.state.Finaliser.{Finaliser}
use Rattle.model_core.specs.Entries.{without_places}
use Rattle.judge_plain.proofs.PlaceLemmas.{one_more, remove_past}
use Rattle.judge_plain.proofs.queueing.take_out.Goals as goal

pub loop-left-preserved : goal.loop-left-preserved
loop-left-preserved c =
    let ps = c.args.places.now in
    let left = c.loop-left.left in
    let place = c.index.result.now in
    let rest : List Finaliser = without_places (drop left ps) c.args.finals.now in
    let here : place ≡ get_or ps (left - 1) place = rw c.places.view_is at c.index.ensures in
    let more : drop (left - 1) ps ≡ place ∷ drop left ps = one_more ps left place (omega arith) (omega arith) here in
    let same = ap length c.loop-left.invariant.0 in
    let past : length rest ≤ place = omega (arith, same) in
    (rw more (c.loop-left.invariant.0 ∙ sym (remove_past rest place past)), omega arith)
