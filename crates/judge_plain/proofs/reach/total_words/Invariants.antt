use Rattle.std.proofs.Common.{◌≡◌, take}
use Rattle.std.specs.Prelude.{sum_by}
use Rattle.model_core.specs.Graph.{words_at}
use Rattle.judge_plain.proofs.reach.total_words.Given as goal

-- the words so far
abbrev pub invariant-loop-l : goal.invariant-loop-l
invariant-loop-l l = l.total ≡ sum_by (words_at l.graph) (take l.l-index l.live.items)
