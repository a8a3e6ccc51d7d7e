use Rattle.judge_outputs.proofs.OfTexts.GoneLemmas.{stays}
use Rattle.judge_outputs.proofs.sections.goes.lose_unheld.Goals as goal

pub loop-key-init : goal.loop-key-init
loop-key-init c = stays c.args.machine.now
