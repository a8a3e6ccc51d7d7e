use Rattle.judge_outputs.proofs.OfTexts.GoneLemmas.{stays}
use Rattle.judge_outputs.proofs.sections.goes.lose_slot.Goals as goal

pub returns-in_default : goal.returns-in_default
returns-in_default c = stays c.args.machine.now

pub returns-in_default-2 : goal.returns-in_default-2
returns-in_default-2 c = stays c.args.machine.now

pub returns-in-Some-Some : goal.returns-in-Some-Some
returns-in-Some-Some c = c.lose.ensures c.args.machine.now (stays c.args.machine.now)
