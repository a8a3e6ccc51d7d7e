use Rattle.text_script.proofs.GeneratedLemmas.{command_added}
use Rattle.text_script.proofs.generator.section.Goals as goal

pub loop-place-preserved : goal.loop-place-preserved
loop-place-preserved c = command_added c.args.base c.args.domain c.loop-place.place c.loop-place.section.items c.command_at.result c.loop-place.invariant c.command_at.ensures c.in_ok-push.ensures.items
