use Rattle.std.proofs.Common.{ap}
use Rattle.std.specs.Prelude.{◌++◌, codes, decimal}
use Rattle.model_core.specs.Output.{line}
use Rattle.judge_outputs.specs.Show.{near_text}
use Rattle.judge_outputs.proofs.TextLemmas.{put_both}
use Rattle.judge_outputs.proofs.show.push_near.Goals as goal

pub returns : goal.returns
returns c =
    let front = codes "line " ++ decimal c.args.near.now.line ++ line (codes " is the first that isn't as in this output, which is legal:") in
    put_both c.push.result c.args.text.now.items c.push_count.new.text.items c.push.new.text.items front c.deref.result.now (near_text c.args.near.now.line c.args.near.now.text.items)
    c.in_ok-push_count.ensures (ap (λ t. front ++ t) c.deref.ensures.value) c.push.ensures
