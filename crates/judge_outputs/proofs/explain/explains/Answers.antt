use Rattle.std.proofs.Common.{sym, ◌∙◌}
use Rattle.judge_outputs.proofs.VersionLemmas.{by_older, by_third}
use Rattle.judge_outputs.proofs.explain.explains.Goals as goal

pub returns-then-version-eq3 : goal.returns-then-version-eq3
returns-then-version-eq3 c = by_third c.gives_spawning.result c.args.sizes.now c.args.script.now c.args.output.now c.args.history.now (sym c.version.ensures ∙ c.if-version-eq3.true) c.gives_spawning.ensures

pub returns-else-version-eq3 : goal.returns-else-version-eq3
returns-else-version-eq3 c = by_older c.gives.result c.args.sizes.now c.args.script.now c.args.output.now c.args.history.now (λ is. c.if-version-eq3.false (c.version.ensures ∙ is)) c.gives.ensures.sound
