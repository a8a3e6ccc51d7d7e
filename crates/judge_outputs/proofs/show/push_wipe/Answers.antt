use Rattle.std.specs.Prelude.{◌++◌, codes, decimal}
use Rattle.model_core.specs.Output.{line}
use Rattle.judge_outputs.specs.Show.{places_text}
use Rattle.judge_outputs.proofs.TextLemmas.{put_both, put_then, wipe_parts}
use Rattle.judge_outputs.proofs.show.push_wipe.Goals as goal

pub returns : goal.returns
returns c =
    let a = codes "  it empties the keys" in
    let p = places_text c.args.keys.now in
    let d = decimal c.args.label.domain in
    let n = decimal c.args.label.serial in
    let end = line (codes ", and its data") in
    put_both c.push_between-2.result c.args.text.now.items c.push_between.new.text.items c.push_between-2.new.text.items
    ((a ++ p) ++ ((codes " of " ++ d) ++ codes ":")) (n ++ end) ((((((a ++ p) ++ codes " of ") ++ d) ++ codes ":") ++ n) ++ end)
    (put_then c.args.text.now.items c.push_places.new.text.items c.push_between.new.text.items (a ++ p) ((codes " of " ++ d) ++ codes ":")
    (put_then c.args.text.now.items c.push.new.text.items c.push_places.new.text.items a p c.in_ok-push.ensures c.in_ok-push_places.ensures) c.in_ok-push_between.ensures)
    (wipe_parts (a ++ p) (codes " of ") d (codes ":") n end) c.push_between-2.ensures
