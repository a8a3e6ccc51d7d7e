use Rattle.std.proofs.Common.{refl}
use Rattle.std.specs.Prelude.{◌++◌, codes, decimal}
use Rattle.judge_outputs.specs.Show.{line_feed, places_text}
use Rattle.judge_outputs.proofs.TextLemmas.{put_both, put_then}
use Rattle.judge_outputs.proofs.show.push_queue.Goals as goal

pub returns : goal.returns
returns c =
    let front = (codes "  it queues the finalise of domain " ++ decimal c.args.domain) ++ codes " at" in
    let p = places_text c.args.places.now in
    put_both c.push.result c.args.text.now.items c.push_places.new.text.items c.push.new.text.items (front ++ p) line_feed ((front ++ p) ++ line_feed)
    (put_then c.args.text.now.items c.push_between.new.text.items c.push_places.new.text.items front p c.in_ok-push_between.ensures c.in_ok-push_places.ensures) refl c.push.ensures
