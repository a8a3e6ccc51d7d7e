use Rattle.std.proofs.Common.{ap₂}
use Rattle.std.specs.Prelude.{ℕ, ◌+◌, ◌++◌, codes, decimal}
use Rattle.judge_outputs.specs.Show.{line_feed}
use Rattle.judge_outputs.specs.Tables.{gone_text}
use Rattle.judge_outputs.proofs.TextLemmas.{put_both}
use Rattle.judge_outputs.proofs.tables.push_gone.Goals as goal

pub returns : goal.returns
returns c =
    let front = (codes "the key of line " ++ decimal (c.from-key.result + 2)) ++ codes " goes before line " in
    put_both c.push_count-2.result c.args.text.now.items c.push_count.new.text.items c.push_count-2.new.text.items front (decimal (c.from-before.result + 2) ++ line_feed) (gone_text c.args.gone)
    c.in_ok-push_count.ensures
    (ap₂ (λ (m n : ℕ). ((codes "the key of line " ++ decimal (m + 2)) ++ codes " goes before line ") ++ (decimal (n + 2) ++ line_feed)) c.from-key.ensures c.from-before.ensures)
    c.push_count-2.ensures
