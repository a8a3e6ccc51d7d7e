use Rattle.std.proofs.lemmas.Slice.Eq.{strip_prefix_is}
use Rattle.std.proofs.lemmas.Bool.Decides.{Decides-eqb}
use Rattle.judge_plain.proofs.OfHistory.ExactLemmas.{if_none}
use Rattle.judge_plain.proofs.OfHistory.TextLemmas.{if_some}
use Rattle.judge_plain.proofs.history.lines.behind.Goals as goal

pub returns-clause-some : goal.returns-clause-some
returns-clause-some c = if_some _ _ c.strip_prefix.result (strip_prefix_is Decides-eqb c.args.bytes.now c.args.front.now c.strip_prefix.result c.strip_prefix.ensures.cases)

pub returns-clause-none : goal.returns-clause-none
returns-clause-none c = if_none _ _ c.strip_prefix.result (strip_prefix_is Decides-eqb c.args.bytes.now c.args.front.now c.strip_prefix.result c.strip_prefix.ensures.cases)
