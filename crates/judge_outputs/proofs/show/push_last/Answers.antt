use Rattle.std.specs.Prelude.{◌++◌, codes, decimal}
use Rattle.judge_outputs.specs.Show.{line_feed}
use Rattle.judge_outputs.proofs.TextLemmas.{last_parts, put_both}
use Rattle.judge_outputs.proofs.show.push_last.Goals as goal

pub returns : goal.returns
returns c =
    let front = (codes "  it queues the finalise_last of domain " ++ decimal c.args.domain) ++ codes " at " in
    put_both c.push_between-2.result c.args.text.now.items c.push_between.new.text.items c.push_between-2.new.text.items front (decimal c.args.place ++ line_feed) ((front ++ decimal c.args.place) ++ line_feed)
    c.in_ok-push_between.ensures (last_parts front (decimal c.args.place) line_feed) c.push_between-2.ensures
