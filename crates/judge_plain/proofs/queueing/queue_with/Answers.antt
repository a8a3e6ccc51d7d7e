use Rattle.std.proofs.Common.{◌≡◌, ◌∷◌, ◌++◌, [], ◌-◌, map, reverse, get_or, drop, ap, sym, ◌∙◌, arith}
use Rattle.model_core.specs.Entries.{at_places, queued_final}
use Rattle.judge_plain.proofs.PlaceLemmas.{one_more, queued_one_more}
use Rattle.judge_plain.proofs.queueing.queue_with.Goals as goal

pub loop-left-preserved : goal.loop-left-preserved
loop-left-preserved c =
    let x = c.args.domain.now in
    let ps = c.args.places.now in
    let left = c.loop-left.left in
    let place = c.index.result.now in
    let here : place ≡ get_or ps (left - 1) place = rw c.places.view_is at c.index.ensures in
    let more : drop (left - 1) ps ≡ place ∷ drop left ps = one_more ps left place (omega arith) (omega arith) here in (
      c.in_ok-push_final.ensures ∙ ap (λ t. t ++ map queued_final (at_places (place ∷ []) x.finals)) c.loop-left.invariant.0
          ∙ queued_one_more x.queue x.finals place (drop left ps)
          ∙ ap (λ z. x.queue ++ map queued_final (at_places (reverse z) x.finals)) (sym more),
      omega arith,
    )
